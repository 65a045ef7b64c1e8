-- Files that stand for others, one after the other.
use Rattle.std.proofs.Common.{◌≡◌, ℕ, ◌^◌, ◌<◌, false, List, [], ◌∷◌, ◌++◌, map, length, Option, Some, None, IfSome, refl, sym, ap, subst, ◌∙◌, append_assoc}
use Rattle.std.specs.List.{AllByRecursion, IsDistinct}
use Rattle.std.specs.Ordering.{nat_cmp}
use Rattle.std.specs.Cmp.Lexicographic.{slice_cmp, nat_list_cmp_total}
use Rattle.std.specs.FinMap.{empty, get, insert, get-empty}
use Rattle.std.proofs.lemmas.Cmp.{eq_by_cmp_equiv}
use Rattle.std.proofs.lemmas.List.{append-nil}
use Rattle.lsn_core.specs.Files.{Files}
use Rattle.lsn_core.specs.Store.{with_files}
use Rattle.lsn_core.proofs.StoreFiles.{same_name}
use Rattle.manifest.specs.declared.listing.FileRow.{FileRow}
use Rattle.backup_files.specs.Directory.{row_of}
use Rattle.backup_files.specs.Area.{HoldsNothing, Lacks, with_file}
use Rattle.backup_files.proofs.Appended.{absent}
use Rattle.backup_files.proofs.Passed.{no_items}
use Rattle.directory_files.specs.Relisted.{File}
use Rattle.directory_files.specs.Written.{Content, AreFilesFor, Holds, IsMade, PutsFile, PutsFiles, to_of}
use Rattle.directory_files.specs.declared.growing.Growing.{Growing}
use Rattle.directory_files.specs.declared.targets.Target.{Target}

path_of : File → List ℕ
path_of file = file.0

-- ---- lists

map_append : {A B : Type 0} (f : A → B) (xs ys : List A) → map f (xs ++ ys) ≡ map f xs ++ map f ys
map_append f [] ys = refl
map_append {B = B} f (x ∷ xs) ys = ap (λ (l : List B). f x ∷ l) (map_append f xs ys)

put_one : (m : Files) (files : List File) (file : File) → with_files m (files ++ (file ∷ [])) ≡ insert (with_files m files) file.0 file.1
put_one m [] file = refl
put_one m (f ∷ files) file = put_one (insert m f.0 f.1) files file

all_one : {A : Type 0} (P : A → Type 0) (xs : List A) (x : A) → AllByRecursion P xs → P x → AllByRecursion P (xs ++ (x ∷ []))
all_one P [] x all here = (here, tt)
all_one P (y ∷ xs) x all here = (all.0, all_one P xs x all.1 here)

-- a path is apart from those before it
apart_before : (files : List File) (path : List ℕ) (paths : List (List ℕ)) → IsDistinct same_name (map (λ f. f.0) files ++ (path ∷ paths)) → AllByRecursion (λ f. same_name path f.0 ≡ false) files
unfolding IsDistinct
apart_before [] path paths distinct = tt
apart_before (f ∷ files) path paths distinct = ((eq_by_cmp_equiv nat_list_cmp_total).symm path f.0 ∙ first (map (λ f. f.0) files) distinct.0, apart_before files path paths distinct.1)
  where
    first : (front : List (List ℕ)) → AllByRecursion (λ y. same_name f.0 y ≡ false) (front ++ (path ∷ paths)) → same_name f.0 path ≡ false
    first [] all = all.0
    first (p ∷ front) all = first front all.1

-- ---- one file

-- a file that was made is put where it is listed
pub made_listed : (P : List ℕ → Type 0) (to modified : List ℕ) (old new : Option Files) (before rows : List FileRow) (file : Growing) → IsMade P to old new file → ((bytes : List ℕ) → Holds file bytes → length bytes < 2 ^ 64)
    → ((bytes : List ℕ) → Holds file bytes → rows ≡ before ++ (row_of modified (to, bytes) ∷ [])) → PutsFile P to modified old new before rows
made_listed P to modified old new before rows file made fits listed = record {
  bytes = made.bytes;
  fits = fits made.bytes made.holds;
  content = made.content;
  stands = made.stands;
  listed = listed made.bytes made.holds;
}

-- ---- so far

abbrev AllFiles : Content → List Target → List Target → List File → Type 0
AllFiles content targets left files = (more : List File) → AreFilesFor content left more → AreFilesFor content targets (files ++ more)

pub record PutSoFar (content : Content) (targets left : List Target) (modified : List ℕ) (now : Option Files) (rows : List FileRow) : Type 0 where
  pub files : List File
  pub stand_for : AllFiles content targets left files
  pub apart : IsDistinct same_name (map (λ f. f.0) files ++ map to_of left)
  pub stand : IfSome now (λ m. m ≡ with_files empty files)
  pub listed : rows ≡ map (row_of modified) files
  pub fit : AllByRecursion (λ f. length f.1 < 2 ^ 64) files

pub put_begun : (content : Content) (targets : List Target) (modified : List ℕ) (now : Option Files) (rows : List FileRow) → IsDistinct same_name (map to_of targets) → HoldsNothing now → rows ≡ [] → PutSoFar content targets targets modified now rows
put_begun content targets modified now rows distinct nothing none = record {
  files = [];
  stand_for = λ more are. are;
  apart = distinct;
  stand = nothing;
  listed = none;
  fit = tt;
}

lacks_in : (now : Option Files) (files : List File) (path : List ℕ) → IfSome now (λ m. m ≡ with_files empty files) → AllByRecursion (λ f. same_name path f.0 ≡ false) files → Lacks now path
lacks_in None files path is apart = tt
lacks_in (Some m) files path is apart = ap (λ (x : Files). get x path) is ∙ (absent empty path files apart ∙ get-empty (slice_cmp nat_cmp) path)

-- the next one isn't there
pub next_lacks : (content : Content) (targets left behind : List Target) (target : Target) (modified : List ℕ) (now : Option Files) (rows : List FileRow) → left ≡ target ∷ behind → PutSoFar content targets left modified now rows → Lacks now target.to
next_lacks content targets left behind target modified now rows left_is far =
    lacks_in now far.files target.to far.stand (apart_before far.files target.to (map to_of behind) (subst (λ (l : List Target). IsDistinct same_name (map (λ f. f.0) far.files ++ map to_of l)) left_is far.apart))

stand_more : (old new : Option Files) (files : List File) (file : File) → IfSome old (λ m. m ≡ with_files empty files) → new ≡ with_file file.0 file.1 old → IfSome new (λ m. m ≡ with_files empty (files ++ (file ∷ [])))
stand_more None new files file is put = subst (λ (o : Option Files). IfSome o (λ m. m ≡ with_files empty (files ++ (file ∷ [])))) (sym put) tt
stand_more (Some m) new files file is put =
    subst (λ (o : Option Files). IfSome o (λ m. m ≡ with_files empty (files ++ (file ∷ [])))) (sym put) (ap (λ (x : Files). insert x file.0 file.1) is ∙ sym (put_one empty files file))

pub put_further : (content : Content) (targets left behind : List Target) (target : Target) (modified : List ℕ) (old new : Option Files) (rows more : List FileRow) → left ≡ target ∷ behind → PutSoFar content targets left modified old rows → PutsFile (content target) target.to modified old new rows more
    → PutSoFar content targets behind modified new more
put_further content targets left behind target modified old new rows more left_is far puts =
    let file : File = (target.to, puts.bytes) in
    record {
      files = far.files ++ (file ∷ []);
      stand_for = λ rest are.
          subst (AreFilesFor content targets) (sym (append_assoc far.files (file ∷ []) rest))
          (far.stand_for (file ∷ rest) (subst (λ (l : List Target). AreFilesFor content l (file ∷ rest)) (sym left_is) (puts.bytes, rest, refl, puts.content, are)));
      apart =
          subst (IsDistinct same_name) (sym (ap (λ (l : List (List ℕ)). l ++ map to_of behind) (map_append (λ (f : File). f.0) far.files (file ∷ [])) ∙ append_assoc (map (λ (f : File). f.0) far.files) (target.to ∷ []) (map to_of behind)))
          (subst (λ (l : List Target). IsDistinct same_name (map (λ f. f.0) far.files ++ map to_of l)) left_is far.apart);
      stand = stand_more old new far.files file far.stand puts.stands;
      listed = puts.listed ∙ (ap (λ (l : List FileRow). l ++ (row_of modified file ∷ [])) far.listed ∙ sym (map_append (row_of modified) far.files (file ∷ [])));
      fit = all_one (λ (f : File). length f.1 < 2 ^ 64) far.files file far.fit puts.fits;
    }

pub put_whole : (content : Content) (targets left : List Target) (modified : List ℕ) (now : Option Files) (rows : List FileRow) → length left ≡ 0 → PutSoFar content targets left modified now rows → PutsFiles content targets modified now rows
put_whole content targets left modified now rows none far = record {
  files = far.files;
  stand_for = subst (AreFilesFor content targets) (append-nil far.files) (far.stand_for [] (subst (λ (l : List Target). AreFilesFor content l []) (sym (no_items left none)) refl));
  stand = far.stand;
  listed = far.listed;
  fit = far.fit;
}
