-- Which files stand for which rows in a directory that was written for another one.
use Rattle.std.proofs.Common.{◌≡◌, ◌≢◌, ℕ, Bool, true, false, cond, not, ◌||◌, ◌⊎◌, inl, inr, List, [], ◌∷◌, map, get_or, Option, Some, None, bytes_eq, refl, sym, ap, subst, ◌∙◌, arith}
use Rattle.std.specs.FinMap.{get, empty, get-insert, get-empty}
use Rattle.std.specs.List.{AllByRecursion, IsDistinct}
use Rattle.std.specs.Ordering.{nat_cmp}
use Rattle.std.specs.Cmp.Lexicographic.{slice_cmp, nat_list_cmp_total}
use Rattle.std.proofs.lemmas.Bool.{false_from_ne_true}
use Rattle.std.proofs.lemmas.Cmp.{eq_by_cmp_equiv}
use Rattle.std.proofs.lemmas.List.Elements.{recursion_from_All, All-from_recursion}
use Rattle.std.proofs.lemmas.List.Sorted.{All-permutation, IsPermutation-map, IsPermutation-sym}
use Rattle.std.proofs.lemmas.Map.Keys.{IsDistinct-from_sorted, IsDistinct-IsPermutation}
use Rattle.std.proofs.lemmas.Slice.Eq.{bytes_eq-Decides}
use Rattle.lsn_core.specs.Files.{Files}
use Rattle.chain_files.specs.Paths.{file_path}
use Rattle.chain_files.proofs.Placed.{folder_apart}
use Rattle.lsn_core.specs.Store.{with_files}
use Rattle.lsn_core.specs.declared.ids.ForkId.{ForkId}
use Rattle.lsn_core.proofs.StoreFiles.{same_name, names_tie}
use Rattle.manifest.specs.Listing.{Listing}
use Rattle.manifest.specs.Text.{manifest_text}
use Rattle.manifest.specs.declared.listing.FileRow.{FileRow}
use Rattle.backup_files.specs.Directory.{manifest_name, label_name, row_of}
use Rattle.backup_files.specs.Rows.{path_of}
use Rattle.directory_files.specs.Relisted.{File, Rule, IsRelisted, AreFilesBy, other_rows, relisted}
use Rattle.directory_files.proofs.Among.{Among, name_of, AreApart, found, there}

-- ---- paths

pub never_manifest : (folder name : List ℕ) (incr : Bool) → file_path folder name incr ≢ manifest_name
never_manifest folder name incr = folder_apart folder name incr manifest_name refl

pub never_label : (folder name : List ℕ) (incr : Bool) → file_path folder name incr ≢ label_name
never_label folder name incr = folder_apart folder name incr label_name refl

pub label_apart : label_name ≢ manifest_name
label_apart e = let differ : 108 ≡ 109 = ap (λ (x : List ℕ). get_or x 7 0) e in omega (arith, differ)

pub same_path : (a b : List ℕ) → a ≡ b → bytes_eq a b ≡ true
same_path a b e = (bytes_eq-Decides a b).1 e

pub other_path : (a b : List ℕ) → a ≢ b → bytes_eq a b ≡ false
other_path a b apart = false_from_ne_true (bytes_eq a b) (λ e. apart ((bytes_eq-Decides a b).0 e))

pub none_if : {A : Type 0} (o : Option A) → ((x : A) → o ≡ Some x → ⊥) → o ≡ None
none_if None never = refl
none_if (Some x) never = absurd (never x refl)

pub never_both : {A : Type 0} (o : Option A) (x : A) → o ≡ None → o ≡ Some x → ⊥
never_both o x none some = let never : None ≡ Some x = sym none ∙ some in cc

pub neither : (a b : Bool) → (a || b) ≡ false → (a ≡ false) × (b ≡ false)
neither true b e = absurd cc
neither false b e = (refl, e)

-- ---- rows

kept_behind : (b : Bool) (first row : FileRow) (rows : List FileRow) → Among row rows → Among row (cond b (first ∷ rows) rows)
kept_behind true first row rows is = inr is
kept_behind false first row rows is = is

pub other_row : (rows : List FileRow) (row : FileRow) → Among row rows → row.path ≢ manifest_name → Among row (other_rows rows)
other_row [] row is apart = absurd is
other_row (first ∷ rows) row (inl e) apart =
    let other : bytes_eq first.path manifest_name ≡ false = other_path first.path manifest_name (λ m. apart (ap path_of e ∙ m)) in
    subst (λ (b : Bool). Among row (cond (not b) (first ∷ other_rows rows) (other_rows rows))) (sym other) (inl e)
other_row (first ∷ rows) row (inr is) apart = kept_behind (not (bytes_eq first.path manifest_name)) first row (other_rows rows) (other_row rows row is apart)

abbrev IsOther : FileRow → List FileRow → Type 0
IsOther row rows = Among row rows × (row.path ≢ manifest_name)

is_behind : (first row : FileRow) (rows : List FileRow) → IsOther row rows → IsOther row (first ∷ rows)
is_behind first row rows is = (inr is.0, is.1)

differs : (first row : FileRow) → bytes_eq first.path manifest_name ≡ false → row ≡ first → row.path ≢ manifest_name
differs first row other e m =
    let same : bytes_eq first.path manifest_name ≡ true = same_path first.path manifest_name (ap path_of (sym e) ∙ m) in
    let never : true ≡ false = sym same ∙ other in cc

by_manifest : (b : Bool) (first row : FileRow) (rows : List FileRow) → bytes_eq first.path manifest_name ≡ b → (Among row (other_rows rows) → IsOther row rows) → Among row (cond (not b) (first ∷ other_rows rows) (other_rows rows)) → IsOther row (first ∷ rows)
by_manifest true first row rows test next is = is_behind first row rows (next is)
by_manifest false first row rows test next (inl e) = (inl e, differs first row test e)
by_manifest false first row rows test next (inr is) = is_behind first row rows (next is)

pub is_other : (rows : List FileRow) (row : FileRow) → Among row (other_rows rows) → IsOther row rows
is_other [] row is = absurd is
is_other (first ∷ rows) row is = by_manifest (bytes_eq first.path manifest_name) first row rows refl (is_other rows row) is

-- ---- files for rows

module _ (rule : Rule) where
  -- one of files stands for that of a path
  abbrev pub HasFile : List ℕ → List File → Type 0
  HasFile path files = (file : File) × Among file files × rule path file

  -- a file stands for that of a row
  abbrev pub StandsFor : List FileRow → File → Type 0
  StandsFor rows file = (row : FileRow) × Among row rows × rule row.path file

  one_behind : (first : File) (more files : List File) (path : List ℕ) → files ≡ first ∷ more → HasFile path more → HasFile path files
  one_behind first more files path e is = (is.0, subst (Among is.0) (sym e) (inr is.1), is.2)

  pub file_for : (rows : List FileRow) (files : List File) (row : FileRow) → AreFilesBy rule rows files → Among row rows → HasFile row.path files
  file_for [] files row are is = absurd is
  file_for (first ∷ rows) files row are (inl e) =
      (are.0, subst (Among are.0) (sym are.2) (inl refl), subst (λ (r : FileRow). rule r.path are.0) (sym e) are.3)
  file_for (first ∷ rows) files row are (inr is) = one_behind are.0 are.1 files row.path are.2 (file_for rows are.1 row are.4 is)

  row_behind : (first : FileRow) (rows : List FileRow) (file : File) → StandsFor rows file → StandsFor (first ∷ rows) file
  row_behind first rows file is = (is.0, inr is.1, is.2)

  either_row : (first : FileRow) (rows : List FileRow) (one : File) (more : List File) (file : File) → rule first.path one → (Among file more → StandsFor rows file) → Among file (one ∷ more) → StandsFor (first ∷ rows) file
  either_row first rows one more file stands next (inl e) = (first, inl refl, subst (rule first.path) (sym e) stands)
  either_row first rows one more file stands next (inr is) = row_behind first rows file (next is)

  pub row_for : (rows : List FileRow) (files : List File) (file : File) → AreFilesBy rule rows files → Among file files → StandsFor rows file
  row_for [] files file are is = absurd (subst (Among file) are is)
  row_for (first ∷ rows) files file are is = either_row first rows are.0 are.1 file are.3 (row_for rows are.1 file are.4) (subst (Among file) are.2 is)

-- ---- the directory

names_again : (modified : List ℕ) (files : List File) → map path_of (map (row_of modified) files) ≡ map name_of files
names_again modified [] = refl
names_again modified (f ∷ files) = ap (λ (l : List (List ℕ)). f.0 ∷ l) (names_again modified files)

flips : (a b : List ℕ) → same_name a b ≡ same_name b a
flips a b = (eq_by_cmp_equiv nat_list_cmp_total).symm a b

-- an empty directory has nothing
was_put : (path bytes : List ℕ) (files : List File) → (get {R = slice_cmp nat_cmp} empty path ≡ Some bytes) ⊎ Among (path, bytes) files → Among (path, bytes) files
was_put path bytes files (inl e) = absurd (never_both (get {R = slice_cmp nat_cmp} empty path) bytes (get-empty (slice_cmp nat_cmp) path) e)
was_put path bytes files (inr among) = among

-- no file that a rule gives has the manifest's name
abbrev pub NamesOthers : Rule → Type 0
NamesOthers rule = (path : List ℕ) (file : File) → path ≢ manifest_name → rule path file → file.0 ≢ manifest_name

module _ (rule : Rule) (m : Listing) (when count : ℕ) (out : Files) (is : IsRelisted rule m when count out) where
  pub files_apart : AreApart is.files
  files_apart =
      let listed = map (row_of is.modified) is.files in
      subst (λ (names : List (List ℕ)). IsDistinct same_name names) (names_again is.modified is.files)
      (IsDistinct-IsPermutation same_name flips (map path_of is.rows) (map path_of listed)
      (IsPermutation-sym (map path_of listed) (map path_of is.rows) (IsPermutation-map path_of listed is.rows is.listed.same))
      (IsDistinct-from_sorted (slice_cmp nat_cmp) (map path_of is.rows) is.listed.order))

  -- beside the manifest the files are those that stand for others
  pub beside : (path : List ℕ) → path ≢ manifest_name → get out path ≡ get (with_files empty is.files) path
  beside path apart =
      let text = manifest_text (relisted m is.rows) in
      let files : Files = with_files empty is.files in
      ap (λ (x : Files). get x path) is.files_are
      ∙ (get-insert nat_list_cmp_total files manifest_name text path
      ∙ ap (λ (b : Bool). cond b (Some text) (get files path)) (false_from_ne_true (same_name path manifest_name) (λ e. apart (names_tie path manifest_name e))))

  pub put_in : (path bytes : List ℕ) → path ≢ manifest_name → get out path ≡ Some bytes → Among (path, bytes) is.files
  put_in path bytes apart e = was_put path bytes is.files (there empty path bytes is.files (sym (beside path apart) ∙ e))

  pub stands_in : (file : File) → Among file is.files → StandsFor rule (other_rows m.files) file
  stands_in file among = row_for rule (other_rows m.files) is.files file is.stand among

  pub file_apart : NamesOthers rule → (file : File) → Among file is.files → file.0 ≢ manifest_name
  file_apart spares file among =
      let row = stands_in file among in
      spares row.0.path file (is_other m.files row.0 row.1).1 row.2

  pub found_in : NamesOthers rule → (file : File) → Among file is.files → get out file.0 ≡ Some file.1
  found_in spares file among = beside file.0 (file_apart spares file among) ∙ found empty file is.files files_apart among

  -- what holds of the rows of files holds of the listed ones
  pub all_listed : (P : FileRow → Type 0) → AllByRecursion P (map (row_of is.modified) is.files) → AllByRecursion P is.rows
  all_listed P all =
      let made = map (row_of is.modified) is.files in
      recursion_from_All P is.rows (All-permutation P made is.rows is.listed.same (All-from_recursion P made all))

  pub all_made : (P : FileRow → Type 0) → AllByRecursion P is.rows → AllByRecursion P (map (row_of is.modified) is.files)
  all_made P all =
      let made = map (row_of is.modified) is.files in
      recursion_from_All P made (All-permutation P is.rows made (IsPermutation-sym made is.rows is.listed.same) (All-from_recursion P is.rows all))
