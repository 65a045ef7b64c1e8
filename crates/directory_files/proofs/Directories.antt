-- The whole directory whose files stand for listed ones.
use Rattle.std.proofs.Common.{◌≡◌, ◌≢◌, ℕ, ◌^◌, ◌<◌, false, List, [], ◌∷◌, map, length, codes, Option, Some, None, IfSome, Ok, refl, sym, ap, subst, ◌∙◌, arith}
use Rattle.std.specs.Str.{IsUtf8}
use Rattle.std.specs.List.{AllByRecursion, IsDistinct}
use Rattle.std.specs.List.Sorted.{IsPermutation}
use Rattle.std.specs.Ordering.{nat_cmp}
use Rattle.std.specs.Cmp.Lexicographic.{slice_cmp}
use Rattle.std.specs.FinMap.{empty, get, insert, get-empty}
use Rattle.std.proofs.lemmas.Bool.{false_from_ne_true}
use Rattle.std.proofs.lemmas.List.{length-map}
use Rattle.std.proofs.lemmas.List.Sorted.{length_permutation}
use Rattle.json.proofs.Printed.Utf8.{IsUtf8-are_ascii}
use Rattle.lsn_core.specs.Files.{Files}
use Rattle.lsn_core.specs.Store.{with_files}
use Rattle.lsn_core.proofs.StoreFiles.{same_name, names_tie}
use Rattle.backup_label.specs.Time.{IsTimeText}
use Rattle.manifest.specs.Listing.{Listing}
use Rattle.manifest.specs.Reading.{ReadAnswers}
use Rattle.manifest.specs.Text.{IsWritableRow, manifest_text}
use Rattle.manifest.specs.declared.listing.FileRow.{FileRow}
use Rattle.backup_files.specs.Directory.{listing_with, manifest_name, row_of}
use Rattle.backup_files.specs.Area.{Lacks, with_file}
use Rattle.backup_files.specs.Rows.{AreListable, path_of}
use Rattle.backup_files.proofs.Appended.{absent}
use Rattle.backup_files.proofs.Listable.{all_from, all_map, row_good}
use Rattle.backup_files.proofs.TimeTexts.{time_is_text}
use Rattle.directory_files.specs.Relisted.{File, Rule, AreFilesBy, IsRelisted, other_rows, relisted}
use Rattle.directory_files.specs.Written.{AreFilesFor, CanList, Content, IsTextPath, PutsFiles, Relists, to_of}
use Rattle.directory_files.specs.declared.targets.Target.{Target}

-- ---- paths

paths_are : (content : Content) (targets : List Target) (files : List File) → AreFilesFor content targets files → map (λ f. f.0) files ≡ map to_of targets
paths_are content [] files are = ap (map (λ (f : File). f.0)) are
paths_are content (target ∷ targets) files are = ap (map (λ (f : File). f.0)) are.2 ∙ ap (λ (l : List (List ℕ)). target.to ∷ l) (paths_are content targets are.1 are.4)

all_paths : (P : List ℕ → Type 0) (files : List File) → AllByRecursion P (map (λ f. f.0) files) → AllByRecursion (λ f. P f.0) files
all_paths P [] all = tt
all_paths P (f ∷ files) all = (all.0, all_paths P files all.1)

rows_paths : (modified : List ℕ) (files : List File) → map path_of (map (row_of modified) files) ≡ map (λ f. f.0) files
rows_paths modified [] = refl
rows_paths modified (f ∷ files) = ap (λ (l : List (List ℕ)). f.0 ∷ l) (rows_paths modified files)

-- none of them is the manifest's
abbrev pub AreOthers : List Target → Type 0
AreOthers targets = AllByRecursion (λ target. target.to ≢ manifest_name) targets

no_manifest : (targets : List Target) → AreOthers targets → AllByRecursion (λ path. same_name manifest_name path ≡ false) (map to_of targets)
no_manifest [] all = tt
no_manifest (target ∷ targets) all = (false_from_ne_true (same_name manifest_name target.to) (λ e. all.0 (sym (names_tie manifest_name target.to e))), no_manifest targets all.1)

lacks_of : (files : Option Files) (all : Files) → IfSome files (λ m. m ≡ all) → get all manifest_name ≡ None → Lacks files manifest_name
lacks_of None all is none = tt
lacks_of (Some m) all is none = ap (λ (x : Files). get x manifest_name) is ∙ none

-- the manifest isn't there
pub manifest_missing : (content : Content) (targets : List Target) (modified : List ℕ) (now : Option Files) (rows : List FileRow) → AreOthers targets → PutsFiles content targets modified now rows → Lacks now manifest_name
manifest_missing content targets modified now rows others puts =
    lacks_of now (with_files empty puts.files) puts.stand
    (absent empty manifest_name puts.files (all_paths (λ path. same_name manifest_name path ≡ false) puts.files (subst (AllByRecursion (λ path. same_name manifest_name path ≡ false)) (sym (paths_are content targets puts.files puts.stand_for)) (no_manifest targets others)))
    ∙ get-empty (slice_cmp nat_cmp) manifest_name)

-- ---- rows

each_writable : (modified : List ℕ) (files : List File) → IsUtf8 modified → AllByRecursion IsTextPath (map (λ f. f.0) files) → AllByRecursion (λ f. IsWritableRow (row_of modified f)) files
each_writable modified [] plain all = tt
each_writable modified (f ∷ files) plain all = (row_good modified f.0 f.1 plain all.0.0 all.0.1, each_writable modified files plain all.1)

-- they can be listed
pub rows_listable : (content : Content) (m : Listing) (targets : List Target) (when : ℕ) (modified : List ℕ) (now : Option Files) (rows : List FileRow) → CanList m (map to_of targets) → IsTimeText when (codes "GMT") modified → PutsFiles content targets modified now rows → AreListable rows
rows_listable content m targets when modified now rows can moment puts =
    let plain : IsUtf8 modified = time_is_text when (codes "GMT") modified (IsUtf8-are_ascii (codes "GMT") refl) moment in
    let paths : map (λ (f : File). f.0) puts.files ≡ map to_of targets = paths_are content targets puts.files puts.stand_for in
    let made = map (row_of modified) puts.files in
    subst AreListable (sym puts.listed) (record {
      writable = all_from IsWritableRow made (all_map (row_of modified) IsWritableRow puts.files (each_writable modified puts.files plain (subst (AllByRecursion IsTextPath) (sym paths) can.texts)));
      distinct = subst (IsDistinct same_name) (sym (rows_paths modified puts.files ∙ paths)) can.distinct;
      small = all_from (λ (row : FileRow). row.size < 2 ^ 64) made (all_map (row_of modified) (λ (row : FileRow). row.size < 2 ^ 64) puts.files puts.fit);
    })

-- ---- the whole

listing_same : (m : Listing) (system : ℕ) (rows : List FileRow) → m.system ≡ Some system → listing_with system rows (record { 0 = m.start }) (record { 0 = m.end }) ≡ relisted m rows
listing_same m system rows e = ap (λ (s : Option ℕ). record { version = 2; system = s; files = rows; start = m.start; end = m.end }) (sym e)

whole_out : (mid new : Option Files) (all : Files) (text : List ℕ) (P : Files → Type 0) → IfSome mid (λ m. m ≡ all) → new ≡ with_file manifest_name text mid → P (insert all manifest_name text) → IfSome new P
whole_out None new all text P is put holds = subst (λ (o : Option Files). IfSome o P) (sym put) tt
whole_out (Some m) new all text P is put holds = subst (λ (o : Option Files). IfSome o P) (sym put) (subst (λ (x : Files). P (insert x manifest_name text)) (sym is) holds)

-- files that stand for listed ones, and behind them the manifest that lists them
pub whole_relisted : (rule : Rule) (content : Content) (m : Listing) (targets : List Target) (when count : ℕ) (modified text : List ℕ) (mid new : Option Files) (rows : List FileRow) → IsTimeText when (codes "GMT") modified → (puts : PutsFiles content targets modified mid rows) → Relists m rows text
    → count ≡ length rows → new ≡ with_file manifest_name text mid → AreFilesBy rule (other_rows m.files) puts.files → IfSome new (IsRelisted rule m when count)
whole_relisted rule content m targets when count modified text mid new rows moment puts lists counted put stand =
    let sorted = lists.lists.sorted in
    let same = listing_same m lists.system sorted lists.told in
    let is : text ≡ manifest_text (relisted m sorted) = lists.lists.text_is ∙ ap manifest_text same in
    whole_out mid new (with_files empty puts.files) text (IsRelisted rule m when count) puts.stand put (record {
      files = puts.files;
      stand = stand;
      modified = modified;
      modified_at = moment;
      rows = sorted;
      listed = record { same = subst (λ (l : List FileRow). IsPermutation l sorted) puts.listed lists.lists.same; order = lists.lists.order };
      counted = counted ∙ sym (length_permutation rows sorted lists.lists.same);
      read = subst (λ (l : Listing). ReadAnswers (manifest_text l) (Ok l)) same (subst (λ (x : List ℕ). ReadAnswers x (Ok (listing_with lists.system sorted (record { 0 = m.start }) (record { 0 = m.end })))) lists.lists.text_is lists.lists.read);
      files_are = ap (λ (x : List ℕ). insert (with_files empty puts.files) manifest_name x) is;
    })

count_files : (content : Content) (targets : List Target) (files : List File) → AreFilesFor content targets files → length files ≡ length targets
count_files content [] files are = ap length are
count_files content (target ∷ targets) files are = let more = count_files content targets are.1 are.4 in ap length are.2 ∙ (let z : length ((target.to, are.0) ∷ are.1) ≡ length (target ∷ targets) = omega (arith, more) in z)

pub counted_rows : (content : Content) (targets : List Target) (modified : List ℕ) (now : Option Files) (rows : List FileRow) → PutsFiles content targets modified now rows → length rows ≡ length targets
counted_rows content targets modified now rows puts = ap length puts.listed ∙ (length-map puts.files (row_of modified) ∙ count_files content targets puts.files puts.stand_for)
