-- What a backup is, by its label and its manifest.
use Rattle.std.specs.Prelude.{ℕ, ◌+◌, ◌-◌, ◌^◌, min, Bool, List, [], ◌∷◌, length, map, codes, not, ◌&&◌, if◌then◌else◌}
use Rattle.std.specs.Str.{bytes_eq}
use Rattle.std.specs.Option.{option_map, unwrap_or, is_none, is_some}
use Rattle.backup_label.specs.declared.label.Label.{Label}
use Rattle.manifest.specs.Listing.{Listing}
use Rattle.manifest.specs.declared.listing.FileRow.{FileRow}
use Rattle.chain_listing.specs.Words.{is_name, plain_byte}
use Rattle.chain_listing.specs.declared.backup.Kind.{Kind}
use Rattle.chain_listing.specs.declared.backup.Kind.TheVariants.{Full, Incremental, Combined}
use Rattle.chain_listing.specs.declared.backup.Backup.{Backup}

-- the words for the kinds
abbrev pub kind_name : Kind → List ℕ
kind_name Full = codes "full"
kind_name Incremental = codes "incremental"
kind_name Combined = codes "combined"

-- an incremental backup's label tells where its prior starts. A full one is combined where its
-- label has the name of another backup than its folder (profile): a chain that is combined keeps
-- the label of its last member
abbrev pub kind_of : List ℕ → Label → Kind
kind_of folder label =
    if is_some label.prior then Incremental
    else if is_name label.label && not (bytes_eq label.label folder) then Combined
    else Full

-- the bytes of the files of rows, behind so many of earlier ones. The number stays at 2^64 - 1
abbrev pub sent : ℕ → List FileRow → ℕ
sent bytes [] = bytes
sent bytes (row ∷ rows) = sent (min (bytes + row.size) (2 ^ 64 - 1)) rows

abbrev pub bytes_in : List FileRow → ℕ
bytes_in rows = sent 0 rows

-- what is told of the backup in a folder
abbrev pub backup_of : List ℕ → Listing → Label → Backup
backup_of folder m label = record {
  name = map plain_byte folder;
  kind = kind_of folder label;
  system = unwrap_or m.system 0;
  start = record { 0 = m.start };
  end = record { 0 = m.end };
  prior = option_map (λ prior. prior.0) label.prior;
  files = length m.files;
  bytes = bytes_in m.files;
}

-- it stands on no other one
abbrev pub is_full : Backup → Bool
is_full backup = is_none backup.prior
