-- Rows of a backup's files, in order, and with distinct paths.
use Rattle.std.proofs.Common.{◌≡◌, ◌≢◌, ℕ, ◌+◌, ◌-◌, ◌/◌, ◌^◌, ◌<◌, ◌≤◌, Bool, true, false, List, [], ◌∷◌, ◌++◌, map, length, get_or, codes, Option, Some, None, IfSome, Ok, zero, suc, refl, sym, ap, subst, ◌∙◌, arith}
use Rattle.std.specs.Str.{IsUtf8}
use Rattle.std.specs.List.{AllByRecursion, IsDistinct}
use Rattle.std.specs.List.Sorted.{IsPermutation}
use Rattle.std.specs.Ordering.{nat_cmp}
use Rattle.std.specs.Cmp.Lexicographic.{slice_cmp, nat_list_cmp_total}
use Rattle.std.specs.FinMap.{entries, get, empty, insert, get-insert, get-empty}
use Rattle.std.proofs.Math.Nat.{div-le_of_le-mul}
use Rattle.std.proofs.lemmas.Bool.{false_from_ne_true}
use Rattle.std.proofs.lemmas.Cmp.{eq_by_cmp_equiv}
use Rattle.std.proofs.lemmas.List.Sorted.{length_permutation}
use Rattle.json.proofs.Printed.Utf8.{IsUtf8-are_ascii}
use Rattle.lsn_core.specs.Files.{Files}
use Rattle.lsn_core.specs.Segment.{IsRelseg, StoreSettings}
use Rattle.lsn_core.specs.Names.{fork_path_bytes, IsNamed}
use Rattle.lsn_core.specs.Store.{Store, fork_files, segment_content, segment_count, store_files, with_files}
use Rattle.lsn_core.specs.declared.ids.ForkId.{ForkId}
use Rattle.lsn_core.specs.declared.lsn.Lsn.{Lsn}
use Rattle.lsn_core.proofs.AnyAll.{all_append, all_more, all_pieces, all_range, distinct_append}
use Rattle.lsn_core.proofs.StoreFiles.{same_name, names_tie, distinct_files}
use Rattle.manifest.specs.Shape.{is_path}
use Rattle.backup_label.specs.Time.{IsTimeText}
use Rattle.manifest.specs.Reading.{ReadAnswers}
use Rattle.manifest.specs.Text.{IsWritableRow, manifest_text}
use Rattle.manifest.specs.declared.listing.FileRow.{FileRow}
use Rattle.store_locks.specs.declared.receipt.Redo.{Redo}
use Rattle.backup_files.specs.Area.{Lacks, with_file}
use Rattle.backup_files.specs.Directory.{directory_with, listing_with, label_name, manifest_name, row_of}
use Rattle.backup_files.specs.Rows.{AreListable, ListsRows, path_of}
use Rattle.backup_files.proofs.Listable.{all_from}
use Rattle.backup_files.proofs.TimeTexts.{time_is_text}
use Rattle.backup_sending.specs.Directory.{IsFullBackup}
use Rattle.backup_sending.specs.Inside.{AddsLabel, CanBeListed, Finishes, HoldsCopy, HoldsFiles, IsGoodPath, IsNamedFork, IsWholeFork}
use Rattle.backup_files.proofs.Appended.{absent}
use Rattle.backup_sending.proofs.Segments.{named_at}
use Rattle.backup_sending.proofs.Stores.{named_copy}
use Rattle.backup_sending.proofs.WholePages.{sizes_fit, whole_copy}
use Rattle.backup_sending.proofs.Texts.{path_text, good_path, never_named}
use Rattle.backup_files.proofs.Listable.{row_good, all_map}

-- ---- rows that can be written

other_name : (fork : ForkId) (seg : ℕ) (incr : Bool) (name : List ℕ) → get_or name 2 0 ≢ 115 → same_name name (fork_path_bytes fork seg incr) ≡ false
other_name fork seg incr name other =
    false_from_ne_true (same_name name (fork_path_bytes fork seg incr)) (λ e. never_named fork seg incr name other (sym (names_tie name (fork_path_bytes fork seg incr) e)))

pub fork_path_good : (fork : ForkId) (seg : ℕ) (incr : Bool) → IsNamed fork seg → IsGoodPath (fork_path_bytes fork seg incr)
fork_path_good fork seg incr named = record {
  plain = path_text fork seg incr named;
  good = good_path fork seg incr named;
  no_label = other_name fork seg incr label_name (λ x. omega (arith, x));
  no_manifest = other_name fork seg incr manifest_name (λ x. omega (arith, x));
}

pub count_fits : (relseg blocks seg : ℕ) → 0 < relseg → seg < segment_count relseg blocks → blocks < 2 ^ 32 → seg < 2 ^ 32
count_fits zero blocks seg some lt fits = absurd (omega (arith, some))
count_fits (suc r) blocks seg some lt fits =
    let most : (blocks + (suc r - 1)) / suc r ≤ blocks + 1 = div-le_of_le-mul (suc r) (omega arith) in
    omega (arith, lt, most, fits)

-- each file of a store has a good path
pub paths_good : (relseg : ℕ) (store : Store) → 0 < relseg → AllByRecursion IsNamedFork (entries store) → AllByRecursion (λ f. IsGoodPath f.0) (store_files relseg store)
paths_good relseg store some named =
    all_pieces IsNamedFork (λ (f : List ℕ × List ℕ). IsGoodPath f.0) (fork_files relseg) (entries store)
    (λ e is.
    all_range (λ (f : List ℕ × List ℕ). IsGoodPath f.0) (λ seg. (fork_path_bytes e.0 seg false, segment_content relseg e.1 seg)) 0 (segment_count relseg (length e.1)) (λ s least most.
    fork_path_good e.0 s false (named_at e.0 (length e.1) s is (count_fits relseg (length e.1) s some (omega (arith, most)) is.seg_fits))))
    named

label_good : IsUtf8 label_name × (is_path label_name ≡ true)
label_good = (IsUtf8-are_ascii label_name refl, refl)

map_rows : (modified : List ℕ) (files : List (List ℕ × List ℕ)) → map path_of (map (row_of modified) files) ≡ map (λ f. f.0) files
map_rows modified [] = refl
map_rows modified (f ∷ files) = ap (λ (l : List (List ℕ)). f.0 ∷ l) (map_rows modified files)

apart_all : (files : List (List ℕ × List ℕ)) → AllByRecursion (λ f. IsGoodPath f.0) files → AllByRecursion (λ x. AllByRecursion (λ y. same_name x y ≡ false) (label_name ∷ [])) (map (λ f. f.0) files)
apart_all [] all = tt
apart_all (f ∷ files) all = (((eq_by_cmp_equiv nat_list_cmp_total).symm f.0 label_name ∙ all.0.no_label, tt), apart_all files all.1)

map-append : {A B : Type 0} (f : A → B) (xs ys : List A) → map f (xs ++ ys) ≡ map f xs ++ map f ys
map-append f [] ys = refl
map-append {B = B} f (x ∷ xs) ys = ap (λ (l : List B). f x ∷ l) (map-append f xs ys)

alone : (name : List ℕ) → IsDistinct same_name (name ∷ [])
unfolding IsDistinct
alone name = (tt, tt)

-- files that can be listed, and a label behind them
pub listable : (put : List (List ℕ × List ℕ)) (modified label : List ℕ) (rows : List FileRow) → CanBeListed put → IsUtf8 modified → length label < 2 ^ 64 → rows ≡ map (row_of modified) (put ++ ((label_name, label) ∷ [])) → AreListable rows
listable put modified label rows can plain fits is =
    let all = put ++ ((label_name, label) ∷ []) in
    subst AreListable (sym is) (record {
      writable =
          all_from IsWritableRow (map (row_of modified) all) (all_map (row_of modified) IsWritableRow all
          (all_append (λ (f : List ℕ × List ℕ). IsWritableRow (row_of modified f)) put ((label_name, label) ∷ [])
          (all_more (λ (f : List ℕ × List ℕ). IsGoodPath f.0) (λ f. IsWritableRow (row_of modified f)) put (λ f g. row_good modified f.0 f.1 plain g.plain g.good) can.paths)
          (row_good modified label_name label plain label_good.0 label_good.1, tt)));
      distinct =
          subst (IsDistinct same_name) (sym (map_rows modified all ∙ map-append (λ (f : List ℕ × List ℕ). f.0) put ((label_name, label) ∷ [])))
          (distinct_append same_name (map (λ f. f.0) put) (label_name ∷ []) can.distinct (alone label_name) (apart_all put can.paths));
      small =
          all_from (λ (row : FileRow). row.size < 2 ^ 64) (map (row_of modified) all) (all_map (row_of modified) (λ (row : FileRow). row.size < 2 ^ 64) all
          (all_append (λ (f : List ℕ × List ℕ). length f.1 < 2 ^ 64) put ((label_name, label) ∷ []) can.sizes (fits, tt)));
    })

-- the files of a copy can be
copy_listable : (relseg : ℕ) (store : Store) → IsRelseg relseg → AllByRecursion IsNamedFork (entries store) → AllByRecursion IsWholeFork (entries store) → CanBeListed (store_files relseg store)
copy_listable relseg store range named whole = record {
  paths = paths_good relseg store range.least named;
  distinct = distinct_files relseg store range.least (named_copy store named);
  sizes = sizes_fit relseg store range whole;
}

pub copy_held : (relseg : ℕ) (copy : Store) (modified : List ℕ) (files : Option Files) (rows : List FileRow) → IsRelseg relseg → HoldsCopy relseg copy modified files rows → HoldsFiles (store_files relseg copy) modified files rows
copy_held relseg copy modified files rows range held = record {
  listable = copy_listable relseg copy range held.named held.whole;
  stand = held.stand;
  listed = held.listed;
}

-- ---- an area of files

not_there : (put : List (List ℕ × List ℕ)) (name : List ℕ) → ((path : List ℕ) → IsGoodPath path → same_name name path ≡ false) → CanBeListed put → get (with_files empty put) name ≡ None
not_there put name other can =
    absent empty name put (all_more (λ (f : List ℕ × List ℕ). IsGoodPath f.0) (λ f. same_name name f.0 ≡ false) put (λ f good. other f.0 good) can.paths) ∙ get-empty (slice_cmp nat_cmp) name

lacks_of : (files : Option Files) (name : List ℕ) (all : Files) → IfSome files (λ m. m ≡ all) → get all name ≡ None → Lacks files name
lacks_of None name all is none = tt
lacks_of (Some m) name all is none = ap (λ (x : Files). get x name) is ∙ none

pub label_missing : (put : List (List ℕ × List ℕ)) (modified : List ℕ) (files : Option Files) (rows : List FileRow) → HoldsFiles put modified files rows → Lacks files label_name
label_missing put modified files rows held = lacks_of files label_name (with_files empty put) held.stand (not_there put label_name (λ path good. good.no_label) held.listable)

with_label : (files : Option Files) (text : List ℕ) → Lacks files manifest_name → Lacks (with_file label_name text files) manifest_name
with_label None text lacks = tt
with_label (Some m) text lacks = get-insert nat_list_cmp_total m label_name text manifest_name ∙ lacks

pub manifest_missing : (put : List (List ℕ × List ℕ)) (modified text : List ℕ) (old new : Option Files) (rows : List FileRow) → HoldsFiles put modified old rows → new ≡ with_file label_name text old → Lacks new manifest_name
manifest_missing put modified text old new rows held stands =
    subst (λ (o : Option Files). Lacks o manifest_name) (sym stands)
    (with_label old text (lacks_of old manifest_name (with_files empty put) held.stand (not_there put manifest_name (λ path good. good.no_manifest) held.listable)))

-- ---- the whole directory

whole_of : (put : List (List ℕ × List ℕ)) (label manifest : List ℕ) (files : Option Files) → IfSome files (λ m. m ≡ with_files empty put) → IfSome (with_file manifest_name manifest (with_file label_name label files)) (λ m. m ≡ directory_with put label manifest)
whole_of put label manifest None is = tt
whole_of put label manifest (Some m) is = ap (λ (x : Files). insert (insert x label_name label) manifest_name manifest) is

all_rows : (modified label : List ℕ) (put : List (List ℕ × List ℕ)) (rows more : List FileRow) → rows ≡ map (row_of modified) put → more ≡ rows ++ (row_of modified (label_name, label) ∷ []) → more ≡ map (row_of modified) (put ++ ((label_name, label) ∷ []))
all_rows modified label put rows more rows_are more_is =
    more_is ∙ (ap (λ (l : List FileRow). l ++ (row_of modified (label_name, label) ∷ [])) rows_are ∙ sym (map-append (row_of modified) put ((label_name, label) ∷ [])))

-- the rows of files and a label can be listed
pub rows_listable : (settings : StoreSettings) (redo : Redo) (prior : Option Lsn) (name : List ℕ) (when : ℕ) (modified : List ℕ) (put : List (List ℕ × List ℕ)) (old mid : Option Files) (rows more : List FileRow) → IsTimeText when (codes "GMT") modified → HoldsFiles put modified old rows
    → AddsLabel settings redo prior name when modified old mid rows more → AreListable more
rows_listable settings redo prior name when modified put old mid rows more moment held adds =
    listable put modified adds.text more held.listable (time_is_text when (codes "GMT") modified (IsUtf8-are_ascii (codes "GMT") refl) moment) adds.fits (all_rows modified adds.text put rows more held.listed adds.listed)

pub finished : (settings : StoreSettings) (redo : Redo) (prior : Option Lsn) (end : Lsn) (name : List ℕ) (when : ℕ) (modified : List ℕ) (old mid new : Option Files) (rows more : List FileRow) (count : ℕ) (text : List ℕ) → IsTimeText when (codes "GMT") modified
    → AddsLabel settings redo prior name when modified old mid rows more → count ≡ length more → ListsRows settings.system more redo.redo end text → new ≡ with_file manifest_name text mid → Finishes settings name when modified old new redo prior end rows count
finished settings redo prior end name when modified old mid new rows more count text moment adds counted lists stands put held = record {
  begun = adds.label.begun;
  begun_at = adds.label.begun_at;
  modified = modified;
  modified_at = moment;
  label = adds.text;
  label_is = adds.label.text_is;
  label_read = adds.label.read;
  rows = lists.sorted;
  listed = record {
    same = subst (λ (l : List FileRow). IsPermutation l lists.sorted) (all_rows modified adds.text put rows more held.listed adds.listed) lists.same;
    order = lists.order;
  };
  counted = counted ∙ sym (length_permutation more lists.sorted lists.same);
  manifest_read = subst (λ (x : List ℕ). ReadAnswers x (Ok (listing_with settings.system lists.sorted redo.redo end))) lists.text_is lists.read;
  files_are =
      subst (λ (o : Option Files). IfSome o (λ m. m ≡ directory_with put adds.text (manifest_text (listing_with settings.system lists.sorted redo.redo end))))
      (sym (stands ∙ (ap (λ (x : List ℕ). with_file manifest_name x mid) lists.text_is ∙ ap (with_file manifest_name (manifest_text (listing_with settings.system lists.sorted redo.redo end))) adds.stands)))
      (whole_of put adds.text (manifest_text (listing_with settings.system lists.sorted redo.redo end)) old held.stand);
}

-- of a copy's files it is that of a full backup
pub full_finished : (settings : StoreSettings) (redo : Redo) (end : Lsn) (name : List ℕ) (when : ℕ) (modified : List ℕ) (old new : Option Files) (rows : List FileRow) (copy : Store) (count : ℕ) → IsRelseg settings.relseg → HoldsCopy settings.relseg copy modified old rows
    → Finishes settings name when modified old new redo None end rows count → IsFullBackup settings name when copy redo.redo redo.at end count new
full_finished settings redo end name when modified old new rows copy count range held finishes =
    let d = finishes (store_files settings.relseg copy) (copy_held settings.relseg copy modified old rows range held) in
    record {
      named = named_copy copy held.named;
      whole = whole_copy copy held.whole;
      begun = d.begun;
      begun_at = d.begun_at;
      modified = d.modified;
      modified_at = d.modified_at;
      label = d.label;
      label_is = d.label_is;
      label_read = d.label_read;
      rows = d.rows;
      listed = d.listed;
      counted = d.counted;
      manifest_read = d.manifest_read;
      files_are = d.files_are;
    }
