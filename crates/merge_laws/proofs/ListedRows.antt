-- The rows of a directory that is as listed.
use Rattle.std.proofs.Common.{◌≡◌, ℕ, Bool, true, false, ◌||◌, inl, inr, List, [], ◌∷◌, Option, Some, None, bytes_eq, refl, ◌∙◌}
use Rattle.std.specs.FinMap.{get}
use Rattle.std.specs.List.{AllByRecursion}
use Rattle.std.proofs.lemmas.Slice.Eq.{bytes_eq-Decides}
use Rattle.lsn_core.specs.Files.{Files}
use Rattle.chain_files.specs.Paths.{file_path, IsRelationFile}
use Rattle.chain_check.proofs.ListedForms.{stands_listed}
use Rattle.manifest.specs.declared.listing.FileRow.{FileRow}
use Rattle.chain_check.specs.Directory.{is_listed, may_stand, HasNoOther, IsAsListed}
use Rattle.chain_check.specs.declared.member.Member.{Member}
use Rattle.directory_files.proofs.Among.{Among}
use Rattle.directory_files.proofs.Standing.{never_both}

-- the row of a path
abbrev pub HasRow : List FileRow → List ℕ → Type 0
HasRow rows path = (row : FileRow) × Among row rows × (row.path ≡ path)

behind : (first : FileRow) (rows : List FileRow) (path : List ℕ) → HasRow rows path → HasRow (first ∷ rows) path
behind first rows path is = (is.0, inr is.1, is.2)

pub row_at : (rows : List FileRow) (path : List ℕ) → is_listed rows path ≡ true → HasRow rows path
row_at [] path e = absurd cc
row_at (row ∷ rows) path e =
    elim (bytes_eq row.path path) as (λ b. bytes_eq row.path path ≡ b → (b || is_listed rows path) ≡ true → HasRow (row ∷ rows) path) [
      | true ↦ λ same there. (row, inl refl, (bytes_eq-Decides row.path path).0 same)
      | false ↦ λ other there. behind row rows path (row_at rows path there)
    ] refl e

pub none_listed : (rows : List FileRow) (path : List ℕ) → is_listed rows path ≡ false → AllByRecursion (λ row. bytes_eq row.path path ≡ false) rows
none_listed [] path e = tt
none_listed (row ∷ rows) path e =
    elim (bytes_eq row.path path) as (λ b. (b || is_listed rows path) ≡ false → (b ≡ false) × AllByRecursion (λ r. bytes_eq r.path path ≡ false) rows) [
      | true ↦ λ no. absurd cc
      | false ↦ λ no. (refl, none_listed rows path no)
    ] e

there_listed : (files : Files) (rows : List FileRow) (path bytes : List ℕ) → HasNoOther files rows → may_stand rows path ≡ is_listed rows path → get files path ≡ Some bytes → is_listed rows path ≡ true
there_listed files rows path bytes none stands e =
    elim (is_listed rows path) as (λ b. is_listed rows path ≡ b → b ≡ true) [
      | true ↦ λ t. refl
      | false ↦ λ t. absurd (never_both (get files path) bytes (none path (stands ∙ t)) e)
    ] refl

pub file_row : (newest : Files) (member : Member) (folder name : List ℕ) (incr : Bool) (bytes : List ℕ) → IsRelationFile folder name → IsAsListed newest member → get newest (file_path folder name incr) ≡ Some bytes → HasRow member.manifest.files (file_path folder name incr)
file_row newest member folder name incr bytes placed listed e =
    let rows = member.manifest.files in
    let path = file_path folder name incr in
    row_at rows path (there_listed newest rows path bytes listed.others (stands_listed rows folder name incr placed) e)
