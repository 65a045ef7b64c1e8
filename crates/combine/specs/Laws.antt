-- What holds of the directory that a chain is combined to.
use Rattle.std.specs.Prelude.{◌≡◌, ℕ, List, [], ◌∷◌, ◌++◌, None}
use Rattle.lsn_core.specs.Files.{Files}
use Rattle.backup_label.specs.declared.label.Label.{Label}
use Rattle.manifest.specs.declared.listing.FileRow.{FileRow}
use Rattle.chain_files.specs.Segments.{chain_pages}
use Rattle.chain_files.specs.Paths.{IsRelationFile}
use Rattle.chain_check.specs.Directory.{IsAsListed}
use Rattle.chain_check.specs.Chain.{IsAccepted}
use Rattle.chain_check.specs.declared.member.Member.{Member}
use Rattle.combine.specs.Combined.{EndsWith, IsCombined, relisted}

-- alone it stands for the same files of pages as the whole chain
abbrev pub CombinedHoldsTheSame : Type 0
CombinedHoldsTheSame =
    (chain : List Files) (newest : Files) (member : Member) (when count : ℕ) (out : Files)
    → EndsWith chain newest → IsAsListed newest member
    → IsCombined chain newest member.manifest when count out
    → (folder name : List ℕ) → IsRelationFile folder name
    → chain_pages (out ∷ []) folder name ≡ chain_pages chain folder name

-- a label without what only an incremental backup tells
abbrev pub full_label : Label → Label
full_label l = record {
  start = l.start;
  checkpoint = l.checkpoint;
  time = l.time;
  label = l.label;
  timeline = l.timeline;
  prior = None;
}

-- the full backup that a chain with this newest member is combined to, under a name, with these
-- rows
abbrev pub full_member : List ℕ → Member → List FileRow → Member
full_member name member rows = record {
  name = name;
  label = full_label member.label;
  manifest = relisted member.manifest rows;
}

-- it is as its manifest lists it
abbrev pub CombinedIsAsListed : Type 0
CombinedIsAsListed =
    (chain : List Files) (newest : Files) (member : Member) (when count : ℕ) (out : Files)
    (name : List ℕ) → IsAsListed newest member
    → (is : IsCombined chain newest member.manifest when count out)
    → IsAsListed out (full_member name member is.rows)

-- and is a chain of one, where the chain that it was combined of was accepted
abbrev pub FullMembersAreChains : Type 0
FullMembersAreChains =
    (older : List Member) (member : Member) (name : List ℕ) (rows : List FileRow)
    → IsAccepted (older ++ (member ∷ [])) → IsAccepted (full_member name member rows ∷ [])
