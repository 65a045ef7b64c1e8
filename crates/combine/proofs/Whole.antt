-- The whole of combining.
use Rattle.std.proofs.Common.{◌≡◌, ◌≢◌, ℕ, Bool, true, false, cond, not, List, [], ◌∷◌, Option, Some, None, IfSome, Result, Ok, Err, OnOk, sym, subst, ◌∙◌}
use Rattle.std.specs.Str.{bytes_eq}
use Rattle.std.specs.List.{AllByRecursion}
use Rattle.std.specs.FinMap.{get}
use Rattle.lsn_core.specs.byte_words.Told.{when_told}
use Rattle.lsn_core.specs.Files.{Files}
use Rattle.vault.specs.declared.area.Vault.{Ghosts}
use Rattle.vault.specs.declared.lending.Held.{Held}
use Rattle.manifest.specs.Listing.{Listing}
use Rattle.manifest.specs.declared.listing.FileRow.{FileRow}
use Rattle.backup_files.specs.Directory.{manifest_name}
use Rattle.chain_check.specs.Directory.{IsAsListed, IsRowAsListed}
use Rattle.chain_check.specs.declared.member.Member.{Member}
use Rattle.chain_files.specs.Segments.{AllHaveForms}
use Rattle.chain_files.specs.Told.{chain_told}
use Rattle.combine.specs.Combined.{EndsWith, IsCombined, other_rows}
use Rattle.directory_files.specs.Written.{CanList}
use Rattle.directory_files.specs.declared.targets.Target.{Target}
use Rattle.combine.specs.Calls.{CannotList, Combines}
use Rattle.combine.specs.Inside.{CanPut, HasFiles, PutsAll}
use Rattle.combine.proofs.PathsFor.{paths_known}

-- ---- the rows of a directory

there : (o : Option (List ℕ)) (bytes : List ℕ) → o ≡ Some bytes → o ≢ None
there o bytes e none = let never : Some bytes ≡ None = sym e ∙ none in cc

kept_row : (newest : Files) (b : Bool) (row : FileRow) (rows : List FileRow) → get newest row.path ≢ None → HasFiles newest rows → HasFiles newest (cond b (row ∷ rows) rows)
kept_row newest true row rows here rest = (here, rest)
kept_row newest false row rows here rest = rest

-- the files of its rows are there
pub has_files : (newest : Files) (rows : List FileRow) → AllByRecursion (IsRowAsListed newest) rows → HasFiles newest (other_rows rows)
has_files newest [] all = tt
has_files newest (row ∷ rows) all = kept_row newest (not (bytes_eq row.path manifest_name)) row (other_rows rows) (there (get newest row.path) all.0.bytes all.0.there) (has_files newest rows all.1)

pub combines : {V : Type 0} (g : Ghosts V) (places : List ℕ) (member : Member) (when : ℕ) (areas : List (Held V)) (out : V) (count : ℕ) → PutsAll g places member.manifest when areas out count → Combines g places member when areas out count
combines g places member when areas out count puts =
    when_told (chain_told g areas places)
    (λ chain. AllHaveForms chain → (newest : Files) → EndsWith chain newest → HasFiles newest (other_rows member.manifest.files) → IfSome (g.files out) (IsCombined chain newest member.manifest when count))
    (λ chain. AllHaveForms chain → (newest : Files) → EndsWith chain newest → IsAsListed newest member → IfSome (g.files out) (IsCombined chain newest member.manifest when count))
    (λ chain holds forms newest ends listed. holds forms newest ends (has_files newest member.manifest.files listed.rows)) puts

-- ---- what can be listed

pub on_ok : {T E : Type 0} (r : Result T E) (P : Type 0) → P → OnOk r P
on_ok (Ok x) P holds = holds
on_ok (Err x) P holds = tt

pub never_unlisted : (m : Listing) (out : Option Files) (targets : List Target) → CanPut m out targets → CannotList m → ⊥
never_unlisted m out targets can cannot = cannot.2 (subst (CanList m) (sym (paths_known (other_rows m.files) targets cannot.0 can.rows cannot.1)) can.listable)
