-- The backup that a series of consecutive incremental backups is merged to, as a member of chains.
use Rattle.std.specs.Prelude.{ℕ, List, [], ◌∷◌}
use Rattle.lsn_core.specs.Files.{Files}
use Rattle.manifest.specs.declared.listing.FileRow.{FileRow}
use Rattle.chain_check.specs.Directory.{IsAsListed}
use Rattle.chain_check.specs.declared.member.Member.{Member}
use Rattle.series_check.specs.Priors.{label_with_prior}
use Rattle.directory_files.specs.Relisted.{relisted}

-- the last of some members, of which this is the first
abbrev pub last_member : Member → List Member → Member
last_member first [] = first
last_member first (next ∷ later) = last_member next later

-- the backup that a series with this first member and these later ones is merged to, under a name,
-- with these rows
abbrev pub merged_member : List ℕ → Member → List Member → List FileRow → Member
merged_member name first later rows = record {
  name = name;
  label = label_with_prior (last_member first later).label first.label.prior;
  manifest = relisted (last_member first later).manifest rows;
}

-- directories are as members list them
abbrev pub AreAsListed : List Files → List Member → Type 0
AreAsListed [] [] = Unit {0}
AreAsListed [] (member ∷ members) = ⊥
AreAsListed (files ∷ chain) [] = ⊥
AreAsListed (files ∷ chain) (member ∷ members) =
    IsAsListed files member × AreAsListed chain members
