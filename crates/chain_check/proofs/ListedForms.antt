-- The incremental files of forks have their form in a directory that is as listed.
use Rattle.std.proofs.Common.{◌≡◌, ℕ, Bool, true, false, ◌||◌, List, [], ◌∷◌, length, Option, Some, None, bytes_eq, codes, nat_eq, refl, sym, ap, ap₂, subst, ◌∙◌}
use Rattle.std.specs.FinMap.{get}
use Rattle.std.specs.List.{AllByRecursion, starts_with}
use Rattle.std.specs.Option.{unwrap_or}
use Rattle.std.proofs.lemmas.Slice.Eq.{bytes_eq-Decides}
use Rattle.lsn_core.specs.Files.{Files}
use Rattle.manifest.specs.declared.listing.FileRow.{FileRow}
use Rattle.vault.specs.Area.{bytes_of}
use Rattle.chain_files.specs.Segments.{IsIncrFile}
use Rattle.chain_files.specs.Paths.{file_path, IsRelationFile, IsIncrementalPath}
use Rattle.chain_check.specs.Directory.{IsRowAsListed, is_listed, may_stand, HasNoOther, HasForm, IsAsListed}
use Rattle.chain_check.specs.Laws.{ListedHaveForms}
use Rattle.chain_check.specs.declared.member.Member.{Member}
use Rattle.chain_files.proofs.Placed.{folder_apart, outside_wal}
use Rattle.chain_check.proofs.ForkFiles.{placed_path}
use Rattle.backup_files.specs.Directory.{manifest_name}
use Rattle.std.proofs.lemmas.Bool.{false_from_ne_true}
use Rattle.chain_check.proofs.OneText.{one_value}

-- the row of a path, whose file is as listed and has its form
record HasRow (files : Files) (path : List ℕ) : Type 0 where
  row : FileRow
  spelled : row.path ≡ path
  listed : IsRowAsListed files row
  form : HasForm files row

row_at : (files : Files) (rows : List FileRow) (path : List ℕ) → is_listed rows path ≡ true → AllByRecursion (IsRowAsListed files) rows → AllByRecursion (HasForm files) rows → HasRow files path
row_at files [] path e listed forms = absurd cc
row_at files (row ∷ rows) path e listed forms =
    elim (bytes_eq row.path path) as (λ b. bytes_eq row.path path ≡ b → (b || is_listed rows path) ≡ true → HasRow files path) [
      | true ↦ λ same found. record { row = row; spelled = (bytes_eq-Decides row.path path).0 same; listed = listed.0; form = forms.0 }
      | false ↦ λ other found. row_at files rows path found listed.1 forms.1
    ] refl e

-- a file of relations is no manifest, and isn't in the folder of the WAL
stands_by : (rows : List FileRow) (path : List ℕ) (a b : Bool) → bytes_eq path manifest_name ≡ a → starts_with nat_eq path (codes "pg_wal/") ≡ b → a ≡ false → b ≡ false → may_stand rows path ≡ is_listed rows path
stands_by rows path a b x y e f = ap₂ (λ (m w : Bool). m || (w || is_listed rows path)) (x ∙ e) (y ∙ f)

pub stands_listed : (rows : List FileRow) (folder name : List ℕ) (incr : Bool) → IsRelationFile folder name → may_stand rows (file_path folder name incr) ≡ is_listed rows (file_path folder name incr)
stands_listed rows folder name incr placed =
    let path = file_path folder name incr in
    stands_by rows path _ _ refl refl (false_from_ne_true (bytes_eq path manifest_name) (λ e. folder_apart folder name incr manifest_name refl ((bytes_eq-Decides path manifest_name).0 e))) (outside_wal folder name incr placed)

there_listed : (files : Files) (rows : List FileRow) (path bytes : List ℕ) → HasNoOther files rows → may_stand rows path ≡ is_listed rows path → get files path ≡ Some bytes → is_listed rows path ≡ true
there_listed files rows path bytes none stands there =
    elim (is_listed rows path) as (λ b. is_listed rows path ≡ b → b ≡ true) [
      | true ↦ λ e. refl
      | false ↦ λ e. absurd (let never : None ≡ Some bytes = sym (none path (stands ∙ e)) ∙ there in cc)
    ] refl

abbrev HasFileForm : Files → List ℕ → List ℕ → List ℕ → Type 0
HasFileForm files folder name bytes =
    IsIncrFile bytes (length bytes) × (get files (file_path folder name false) ≡ None)

row_form : (files : Files) (folder name : List ℕ) (bytes : List ℕ) → IsRelationFile folder name → get files (file_path folder name true) ≡ Some bytes → HasRow files (file_path folder name true) → HasFileForm files folder name bytes
row_form files folder name bytes named there is =
    let incr : IsIncrementalPath is.row.path = placed_path folder name named is.spelled in
    let at : get files is.row.path ≡ Some bytes = ap (λ (p : List ℕ). get files p) is.spelled ∙ there in
    let same = one_value (get files is.row.path) is.listed.bytes bytes is.listed.there at in
    let size : is.row.size ≡ length bytes = sym is.listed.size ∙ ap (λ (b : List ℕ). length b) same in
    let held : bytes_of files is.row.path ≡ bytes = ap (λ (o : Option (List ℕ)). unwrap_or o []) at in
    (subst (λ (n : ℕ). IsIncrFile bytes n) size (subst (λ (b : List ℕ). IsIncrFile b is.row.size) held (is.form.incremental incr)), is.form.alone incr)

file_form : (files : Files) (member : Member) → IsAsListed files member → (folder name : List ℕ) (bytes : List ℕ) → IsRelationFile folder name → get files (file_path folder name true) ≡ Some bytes → HasFileForm files folder name bytes
file_form files member is folder name bytes named there =
    let path = file_path folder name true in
    let rows = member.manifest.files in
    row_form files folder name bytes named there
    (row_at files rows path (there_listed files rows path bytes is.others (stands_listed rows folder name true named) there) is.rows is.forms)

pub listed_forms : ListedHaveForms
listed_forms files member is = record {
  incremental = λ folder name bytes named there. (file_form files member is folder name bytes named there).0;
  alone = λ folder name bytes named there. (file_form files member is folder name bytes named there).1;
}
