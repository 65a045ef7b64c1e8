-- Which files stand for which rows in what a chain is combined to.
use Rattle.std.proofs.Common.{◌≡◌, ℕ, Bool, true, false, ◌||◌, inl, inr, List, [], ◌∷◌, Some, None, bytes_eq, refl, sym, ap, ◌∙◌}
use Rattle.std.specs.FinMap.{get}
use Rattle.std.specs.List.{AllByRecursion}
use Rattle.std.proofs.lemmas.Slice.Eq.{bytes_eq-Decides}
use Rattle.lsn_core.specs.Files.{Files}
use Rattle.chain_files.specs.Paths.{file_path, IsRelationFile, IsIncrementalPath}
use Rattle.chain_files.proofs.Placed.{one_file}
use Rattle.chain_check.proofs.ForkFiles.{placed_path}
use Rattle.chain_check.proofs.ListedForms.{stands_listed}
use Rattle.manifest.specs.declared.listing.FileRow.{FileRow}
use Rattle.chain_check.specs.Directory.{is_listed, may_stand, HasNoOther, IsAsListed}
use Rattle.chain_check.specs.declared.member.Member.{Member}
use Rattle.directory_files.specs.Relisted.{File, Rule}
use Rattle.directory_files.proofs.Among.{Among, name_of}
use Rattle.directory_files.proofs.Standing.{NamesOthers, never_manifest, none_if, never_both, put_in as relisted_put_in, stands_in as relisted_stands_in, found_in as relisted_found_in}
use Rattle.combine.specs.Combined.{IsCombined, IsCombinedFile}

-- ---- rows

-- the row of a path
abbrev pub HasRow : List FileRow → List ℕ → Type 0
HasRow rows path = (row : FileRow) × Among row rows × (row.path ≡ path)

behind : (first : FileRow) (rows : List FileRow) (path : List ℕ) → HasRow rows path → HasRow (first ∷ rows) path
behind first rows path is = (is.0, inr is.1, is.2)

pub row_at : (rows : List FileRow) (path : List ℕ) → is_listed rows path ≡ true → HasRow rows path
row_at [] path e = absurd cc
row_at (row ∷ rows) path e =
    elim (bytes_eq row.path path) as (λ b. bytes_eq row.path path ≡ b → (b || is_listed rows path) ≡ true → HasRow (row ∷ rows) path) [
      | true ↦ λ same there. (row, inl refl, (bytes_eq-Decides row.path path).0 same)
      | false ↦ λ other there. behind row rows path (row_at rows path there)
    ] refl e

pub none_listed : (rows : List FileRow) (path : List ℕ) → is_listed rows path ≡ false → AllByRecursion (λ row. bytes_eq row.path path ≡ false) rows
none_listed [] path e = tt
none_listed (row ∷ rows) path e =
    elim (bytes_eq row.path path) as (λ b. (b || is_listed rows path) ≡ false → (b ≡ false) × AllByRecursion (λ r. bytes_eq r.path path ≡ false) rows) [
      | true ↦ λ no. absurd cc
      | false ↦ λ no. (refl, none_listed rows path no)
    ] e

-- ---- the directory

-- a file that stands for another one has another name than the manifest
spares : (chain : List Files) (newest : Files) → NamesOthers (IsCombinedFile chain newest)
spares chain newest path file apart is e =
    let plain : IsIncrementalPath path → ⊥ = λ f. never_manifest f.folder f.name false (sym (ap name_of (is.rebuilt f).2) ∙ e) in
    apart (sym (ap name_of (is.kept plain)) ∙ e)

module _ (chain : List Files) (newest : Files) (member : Member) (when count : ℕ) (out : Files) (is : IsCombined chain newest member.manifest when count out) where
  abbrev rule : Rule
  rule = IsCombinedFile chain newest

  pub found_in : (file : File) → Among file is.files → get out file.0 ≡ Some file.1
  found_in file among = relisted_found_in rule member.manifest when count out is (spares chain newest) file among

  -- none of them has the name of an incremental file
  pub no_part : (folder name : List ℕ) (file : File) → IsRelationFile folder name → file.0 ≡ file_path folder name true → Among file is.files → ⊥
  no_part folder name file named e among =
      let row = relisted_stands_in rule member.manifest when count out is file among in
      let plain : IsIncrementalPath row.0.path → ⊥ = λ f.
      (let same = one_file f.folder folder f.name name false true f.placed named (sym (ap name_of (row.2.rebuilt f).2) ∙ e) in
      let never : false ≡ true = same.1.1 in cc) in
      plain (placed_path folder name named (sym (ap name_of (row.2.kept plain)) ∙ e))

  pub no_part_in : (folder name : List ℕ) → IsRelationFile folder name → get out (file_path folder name true) ≡ None
  no_part_in folder name named =
      let path = file_path folder name true in
      none_if (get out path) (λ bytes e. no_part folder name (path, bytes) named refl (relisted_put_in rule member.manifest when count out is path bytes (never_manifest folder name true) e))

-- ---- what the newest directory has

there_listed : (files : Files) (rows : List FileRow) (path bytes : List ℕ) → HasNoOther files rows → may_stand rows path ≡ is_listed rows path → get files path ≡ Some bytes → is_listed rows path ≡ true
there_listed files rows path bytes none stands e =
    elim (is_listed rows path) as (λ b. is_listed rows path ≡ b → b ≡ true) [
      | true ↦ λ t. refl
      | false ↦ λ t. absurd (never_both (get files path) bytes (none path (stands ∙ t)) e)
    ] refl

pub file_row : (newest : Files) (member : Member) (folder name : List ℕ) (incr : Bool) (bytes : List ℕ) → IsRelationFile folder name → IsAsListed newest member → get newest (file_path folder name incr) ≡ Some bytes → HasRow member.manifest.files (file_path folder name incr)
file_row newest member folder name incr bytes placed listed e =
    let rows = member.manifest.files in
    let path = file_path folder name incr in
    row_at rows path (there_listed newest rows path bytes listed.others (stands_listed rows folder name incr placed) e)
