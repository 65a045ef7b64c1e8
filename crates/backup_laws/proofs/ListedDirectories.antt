-- A directory of forks' files, a label, and a manifest that lists them, is as listed.
use Rattle.std.proofs.Common.{◌≡◌, ◌≢◌, ℕ, ◌%◌, ◌||◌, Bool, true, false, List, [], ◌∷◌, ◌++◌, map, length, Option, Some, None, unwrap_or, bytes_eq, refl, sym, ap, subst, ◌∙◌, arith}
use Rattle.std.specs.Prelude.{codes, nat_eq}
use Rattle.std.specs.FinMap.{empty, get, insert, get-empty}
use Rattle.std.specs.List.{AllByRecursion, IsDistinct, starts_with}
use Rattle.std.specs.Ordering.{nat_cmp}
use Rattle.std.specs.Cmp.Lexicographic.{slice_cmp, nat_list_cmp_total}
use Rattle.std.proofs.lemmas.Bool.{false_from_ne_true, or_left, or_right}
use Rattle.std.proofs.lemmas.Cmp.{eq_by_cmp_equiv}
use Rattle.std.proofs.lemmas.List.Elements.{All-from_recursion, recursion_from_All}
use Rattle.std.proofs.lemmas.List.Sorted.{All-permutation, IsPermutation-map, IsPermutation-sym, list_any-IsPermutation}
use Rattle.std.proofs.lemmas.Map.Keys.{IsDistinct-from_sorted, IsDistinct-IsPermutation}
use Rattle.std.proofs.lemmas.Slice.Eq.{bytes_eq-Decides}
use Rattle.lsn_core.specs.Files.{Files}
use Rattle.lsn_core.specs.Names.{fork_path_bytes, IsNamed, NamesNoFork}
use Rattle.lsn_core.specs.Segment.{StoreSettings}
use Rattle.lsn_core.specs.Store.{with_files}
use Rattle.lsn_core.specs.declared.ids.ForkId.{ForkId}
use Rattle.lsn_core.specs.declared.lsn.Lsn.{Lsn}
use Rattle.lsn_core.proofs.AnyAll.{all_append, all_more}
use Rattle.lsn_core.proofs.StoreFiles.{same_name, names_tie, with_files-append}
use Rattle.vault.specs.Area.{bytes_of}
use Rattle.backup_label.specs.Label.{IsLabel}
use Rattle.backup_label.specs.declared.label.Label.{Label}
use Rattle.manifest.specs.Text.{manifest_text}
use Rattle.manifest.specs.declared.listing.FileRow.{FileRow}
use Rattle.backup_files.specs.Directory.{AreRowsOf, label_name, manifest_name, listing_with, row_of}
use Rattle.backup_files.specs.Rows.{path_of}
use Rattle.backup_files.proofs.Appended.{absent, get_here}
use Rattle.backup_files.proofs.Digests.{spelled}
use Rattle.backup_files.proofs.Listable.{all_map}
use Rattle.backup_sending.specs.Directory.{IsDirectory}
use Rattle.backup_sending.proofs.Labels.{label_apart}
use Rattle.backup_sending.proofs.Texts.{never_named}
use Rattle.chain_files.specs.Segments.{IsIncrFile}
use Rattle.chain_check.specs.Directory.{IsRowAsListed, is_listed, HasNoOther, HasForm, IsAsListed}
use Rattle.chain_files.specs.Paths.{fork_folder, fork_name}
use Rattle.chain_files.proofs.Placed.{folder_apart, fork_placed, no_forks}
use Rattle.chain_check.proofs.ForkFiles.{no_fork, whole_head, whole_pages}
use Rattle.chain_laws.proofs.Files.{get_other}
use Rattle.chain_laws.proofs.Plans.{all_both}

-- a file with its path
abbrev pub File : Type 0
File = List ℕ × List ℕ

abbrev name_of : File → List ℕ
name_of file = file.0

pub all_of_map : {A B : Type 0} (f : A → B) (P : B → Type 0) (xs : List A) → AllByRecursion P (map f xs) → AllByRecursion (λ x. P (f x)) xs
all_of_map f P [] all = tt
all_of_map f P (x ∷ xs) all = (all.0, all_of_map f P xs all.1)

-- ---- files with names of their own

flips : (a b : List ℕ) → same_name a b ≡ same_name b a
flips a b = (eq_by_cmp_equiv nat_list_cmp_total).symm a b

names_again : (modified : List ℕ) (files : List File) → map path_of (map (row_of modified) files) ≡ map name_of files
names_again modified [] = refl
names_again modified (f ∷ files) = ap (λ (l : List (List ℕ)). f.0 ∷ l) (names_again modified files)

-- files that rows list have them
rows_apart : (modified : List ℕ) (files : List File) (rows : List FileRow) → AreRowsOf modified files rows → IsDistinct same_name (map name_of files)
rows_apart modified files rows are =
    let made = map (row_of modified) files in
    subst (λ (names : List (List ℕ)). IsDistinct same_name names) (names_again modified files)
    (IsDistinct-IsPermutation same_name flips (map path_of rows) (map path_of made)
    (IsPermutation-sym (map path_of made) (map path_of rows) (IsPermutation-map path_of made rows are.same))
    (IsDistinct-from_sorted (slice_cmp nat_cmp) (map path_of rows) are.order))

-- each is there
each_there : (m : Files) (files : List File) → IsDistinct same_name (map name_of files) → AllByRecursion (λ f. get (with_files m files) f.0 ≡ Some f.1) files
unfolding IsDistinct
each_there m [] apart = tt
each_there m (f ∷ files) apart =
    (absent (insert m f.0 f.1) f.0 files (all_of_map name_of (λ name. same_name f.0 name ≡ false) files apart.0) ∙ get_here m f.0 f.1, each_there (insert m f.0 f.1) files apart.1)

other_name : (a b : List ℕ) → b ≢ a → same_name a b ≡ false
other_name a b apart = false_from_ne_true (same_name a b) (λ e. apart (sym (names_tie a b e)))

-- ---- listed paths

same_path : (a : List ℕ) → bytes_eq a a ≡ true
same_path a = (bytes_eq-Decides a a).1 refl

never_both : (b : Bool) → b ≡ true → b ≡ false → ⊥
never_both b is isnt = let never : true ≡ false = sym is ∙ isnt in cc

neither : (a b : Bool) → (a || b) ≡ false → (a ≡ false) × (b ≡ false)
neither true b e = absurd cc
neither false b e = (refl, e)

last_listed : (modified : List ℕ) (files : List File) (last : File) → is_listed (map (row_of modified) (files ++ (last ∷ []))) last.0 ≡ true
last_listed modified [] last = or_left (bytes_eq last.0 last.0) false (same_path last.0)
last_listed modified (f ∷ files) last = or_right (bytes_eq f.0 last.0) (is_listed (map (row_of modified) (files ++ (last ∷ []))) last.0) (last_listed modified files last)

-- a path that isn't listed is another one than those of all files
none_named : (modified path : List ℕ) (files : List File) → is_listed (map (row_of modified) files) path ≡ false → AllByRecursion (λ f. same_name path f.0 ≡ false) files
none_named modified path [] none = tt
none_named modified path (f ∷ files) none =
    let both = neither (bytes_eq f.0 path) (is_listed (map (row_of modified) files) path) none in
    (other_name path f.0 (λ e. never_both (bytes_eq f.0 path) ((bytes_eq-Decides f.0 path).1 e) both.0), none_named modified path files both.1)

never_fork : NamesNoFork label_name
never_fork fork seg incr named e = never_named fork seg incr label_name (λ x. omega (arith, x)) (sym e)

-- ---- the files of forks

-- of files that are put into a directory one is a segment file of a fork: a plain one of whole
-- pages, or an incremental one by its head, beside which the plain one isn't put
pub record IsForkFileIn (put : List File) (file : File) : Type 0 where
  pub fork : ForkId
  pub seg : ℕ
  pub incr : Bool
  pub named : IsNamed fork seg
  pub path : file.0 ≡ fork_path_bytes fork seg incr
  pub plain : incr ≡ false → length file.1 % 8192 ≡ 0
  pub head : incr ≡ true → IsIncrFile file.1 (length file.1)
  pub alone : incr ≡ true → AllByRecursion (λ f. f.0 ≢ fork_path_bytes fork seg false) put

module _ (s : StoreSettings) (label_of : List ℕ → Label) (when : ℕ) (put : List File) (start end : Lsn) (count : ℕ) (files : Files) (is : IsDirectory s label_of when put start end count (Some files)) (each : AllByRecursion (IsForkFileIn put) put) where
  abbrev label : File
  label = (label_name, is.label)

  abbrev all : List File
  all = put ++ (label ∷ [])

  abbrev text : List ℕ
  text = manifest_text (listing_with s.system is.rows start end)

  -- ---- what is there

  beside : (path : List ℕ) → path ≢ manifest_name → get files path ≡ get (with_files empty all) path
  beside path other =
      ap (λ (m : Files). get m path) is.files_are
      ∙ (get_other (insert (with_files empty put) label_name is.label) manifest_name text path other
      ∙ ap (λ (m : Files). get m path) (sym (with_files-append empty put (label ∷ []))))

  none_at : (path : List ℕ) → path ≢ manifest_name → AllByRecursion (λ f. same_name path f.0 ≡ false) all → get files path ≡ None
  none_at path other none = beside path other ∙ (absent empty path all none ∙ get-empty (slice_cmp nat_cmp) path)

  abbrev IsOther : File → Type 0
  IsOther file = file.0 ≢ manifest_name

  all_other : AllByRecursion IsOther all
  all_other =
      all_append IsOther put (label ∷ [])
      (all_more (IsForkFileIn put) IsOther put (λ file f e. never_named f.fork f.seg f.incr manifest_name (λ x. omega (arith, x)) (sym f.path ∙ e)) each) (label_apart, tt)

  abbrev IsThere : File → Type 0
  IsThere file = get files file.0 ≡ Some file.1

  all_there : AllByRecursion IsThere all
  all_there =
      all_more (λ (f : File). IsOther f × (get (with_files empty all) f.0 ≡ Some f.1)) IsThere all (λ file both. beside file.0 both.0 ∙ both.1)
      (all_both IsOther (λ (f : File). get (with_files empty all) f.0 ≡ Some f.1) all all_other (each_there empty all (rows_apart is.modified all is.rows is.listed)))

  label_there : get files label_name ≡ Some is.label
  label_there = last_of put all_there
    where
      last_of : (xs : List File) → AllByRecursion IsThere (xs ++ (label ∷ [])) → get files label_name ≡ Some is.label
      last_of [] are = are.0
      last_of (x ∷ xs) are = last_of xs are.1

  put_there : AllByRecursion IsThere put
  put_there = front_of put all_there
    where
      front_of : (xs : List File) → AllByRecursion IsThere (xs ++ (label ∷ [])) → AllByRecursion IsThere xs
      front_of [] are = tt
      front_of (x ∷ xs) are = (are.0, front_of xs are.1)

  -- ---- the rows

  all_rows : (P : FileRow → Type 0) → AllByRecursion (λ (f : File). P (row_of is.modified f)) all → AllByRecursion P is.rows
  all_rows P each_file =
      let made = map (row_of is.modified) all in
      recursion_from_All P is.rows (All-permutation P made is.rows is.listed.same (All-from_recursion P made (all_map (row_of is.modified) P all each_file)))

  row_there : (file : File) → IsThere file → IsRowAsListed files (row_of is.modified file)
  row_there file there = record { bytes = file.1; there = there; size = refl; summed = spelled file.1 }

  no_plain : (fork : ForkId) (seg : ℕ) → AllByRecursion (λ (f : File). f.0 ≢ fork_path_bytes fork seg false) put → get files (fork_path_bytes fork seg false) ≡ None
  no_plain fork seg none =
      let path = fork_path_bytes fork seg false in
      none_at path (never_named fork seg false manifest_name (λ x. omega (arith, x)))
      (all_append (λ (f : File). same_name path f.0 ≡ false) put (label ∷ [])
      (all_more (λ (f : File). f.0 ≢ path) (λ (f : File). same_name path f.0 ≡ false) put (λ f apart. other_name path f.0 apart) none)
      (other_name path label_name (λ e. never_named fork seg false label_name (λ x. omega (arith, x)) (sym e)), tt))

  fork_form : (file : File) → IsForkFileIn put file × IsThere file → HasForm files (row_of is.modified file)
  fork_form file both = by_kind f.incr refl
    where
      f : IsForkFileIn put file
      f = both.0

      spelled_as : (incr : Bool) → f.incr ≡ incr → file.0 ≡ fork_path_bytes f.fork f.seg incr
      spelled_as incr e = f.path ∙ ap (λ (b : Bool). fork_path_bytes f.fork f.seg b) e

      bytes : bytes_of files file.0 ≡ file.1
      bytes = ap (λ (o : Option (List ℕ)). unwrap_or o []) both.1

      by_kind : (incr : Bool) → f.incr ≡ incr → HasForm files (row_of is.modified file)
      by_kind false e = whole_pages files (row_of is.modified file) f.fork f.seg f.named (spelled_as false e) (f.plain e)
      by_kind true e =
          whole_head files (row_of is.modified file) (fork_folder f.fork) (fork_name f.fork f.seg) (fork_placed f.fork f.seg f.named) (spelled_as true e) (no_plain f.fork f.seg (f.alone e))
          (subst (λ (b : List ℕ). IsIncrFile b (length file.1)) (sym bytes) (f.head e))

  alike : (path : List ℕ) → is_listed is.rows path ≡ is_listed (map (row_of is.modified) all) path
  alike path = sym (list_any-IsPermutation (λ (row : FileRow). bytes_eq row.path path) (map (row_of is.modified) all) is.rows is.listed.same)

  none_other : HasNoOther files is.rows
  none_other path e =
      let first = neither (bytes_eq path manifest_name) (starts_with nat_eq path (codes "pg_wal/") || is_listed is.rows path) e in
      let rest = neither (starts_with nat_eq path (codes "pg_wal/")) (is_listed is.rows path) first.1 in
      none_at path (λ m. never_both (bytes_eq path manifest_name) ((bytes_eq-Decides path manifest_name).1 m) first.0) (none_named is.modified path all (sym (alike path) ∙ rest.1))

  -- ---- the whole

  pub directory_listed : (name : List ℕ) → IsLabel is.label (label_of is.begun) → (label_of is.begun).start.0 ≡ start.0 → IsAsListed files (record { name = name; label = label_of is.begun; manifest = listing_with s.system is.rows start end })
  directory_listed name read starts = record {
    manifest = (text, ap (λ (m : Files). get m manifest_name) is.files_are ∙ get_here _ manifest_name text, is.manifest_read);
    rows = all_rows (IsRowAsListed files) (all_more IsThere (λ (f : File). IsRowAsListed files (row_of is.modified f)) all row_there all_there);
    label_row = alike label_name ∙ last_listed is.modified put label;
    others = none_other;
    label = (subst (λ (b : List ℕ). IsLabel b (label_of is.begun)) (sym (ap (λ (o : Option (List ℕ)). unwrap_or o []) label_there)) read, starts);
    forms =
        all_rows (HasForm files)
        (all_append (λ (f : File). HasForm files (row_of is.modified f)) put (label ∷ [])
        (all_more (λ (f : File). IsForkFileIn put f × IsThere f) (λ (f : File). HasForm files (row_of is.modified f)) put fork_form (all_both (IsForkFileIn put) IsThere put each put_there))
        (no_fork files (row_of is.modified label) (λ f. folder_apart f.folder f.name true label_name refl (sym f.spelled)) (no_forks label_name never_fork), tt));
  }
