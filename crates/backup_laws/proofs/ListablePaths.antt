-- A manifest can list what a chain or a series is joined to, of which this directory is the last and is
-- as listed, where its files' names are text.
use Rattle.std.proofs.Common.{◌≡◌, ◌≢◌, ℕ, Bool, true, false, cond, not, List, [], ◌∷◌, map, Some, None, refl, sym, ap, ap₂, subst, ◌∙◌, ◌⊎◌, inl, inr}
use Rattle.std.specs.Str.{IsUtf8, is_utf8, bytes_eq}
use Rattle.std.specs.List.{AllByRecursion, IsDistinct}
use Rattle.std.specs.FinMap.{get}
use Rattle.std.specs.Cmp.Lexicographic.{nat_list_cmp_total}
use Rattle.std.proofs.lemmas.Bool.{false_from_ne_true}
use Rattle.std.proofs.lemmas.Cmp.{eq_by_cmp_equiv}
use Rattle.std.proofs.lemmas.Str.{IsUtf8-from_is_utf8, is_utf8-from_IsUtf8}
use Rattle.lsn_core.specs.Files.{Files}
use Rattle.lsn_core.proofs.StoreFiles.{same_name, names_tie}
use Rattle.manifest.specs.Shape.{is_path}
use Rattle.manifest.specs.declared.listing.FileRow.{FileRow}
use Rattle.backup_files.specs.Directory.{manifest_name}
use Rattle.backup_laws.proofs.RelationPaths.{placed_text, placed_good}
use Rattle.chain_check.specs.Directory.{IsRowAsListed, HasForm, IsAsListed}
use Rattle.chain_check.specs.declared.member.Member.{Member}
use Rattle.combine.specs.Calls.{ArePathsFor, CannotList}
use Rattle.combine.specs.Combined.{other_rows}
use Rattle.chain_files.specs.Segments.{forms_at}
use Rattle.chain_files.specs.Paths.{file_path, IsIncrementalPath}
use Rattle.chain_files.proofs.Placed.{one_file}
use Rattle.directory_files.specs.Written.{CanList}
use Rattle.merged_forms.specs.Merged.{rests_on_plain}
use Rattle.incr_merge.specs.Calls.{AreMergedPaths}
use Rattle.chain_commands.specs.Joined.{CannotListMerged}
use Rattle.backup_laws.specs.Success.{HaveTextNames}
use Rattle.backup_laws.proofs.ReadPaths.{path_in, system_is_read, manifest_is_read}

-- ---- what is or isn't so

both_ways : (b : Bool) → b ≡ true → b ≡ false → ⊥
both_ways b is isnt = (let never : true ≡ false = sym is ∙ isnt in cc)

-- what can't fail in either case can't fail
either : (A : Type 0) → (A ⊎ (A → ⊥) → ⊥) → ⊥
either A fails = fails (inr (λ a. fails (inl a)))

stays : (b : Bool) → (b ≡ false → ⊥) → b ≡ true
stays true never = refl
stays false never = absurd (never refl)

-- ---- one row

-- the row's file is there under a name that is a path of text, and an incremental one without a plain one
record IsGood (files : Files) (row : FileRow) : Type 0 where
  bytes : List ℕ
  there : get files row.path ≡ Some bytes
  alone : (f : IsIncrementalPath row.path) → get files (file_path f.folder f.name false) ≡ None
  text : IsUtf8 row.path
  good : is_path row.path ≡ true

all_good : (files : Files) (rows : List FileRow) → HaveTextNames files → AllByRecursion (IsRowAsListed files) rows → AllByRecursion (HasForm files) rows → AllByRecursion (λ path. is_path path ≡ true) (map path_in rows) → AllByRecursion (IsGood files) rows
all_good files [] names listed forms paths = tt
all_good files (row ∷ rows) names listed forms paths = (
  record {
    bytes = listed.0.bytes;
    there = listed.0.there;
    alone = forms.0.alone;
    text = names row.path listed.0.bytes listed.0.there;
    good = paths.0;
  },
  all_good files rows names listed.1 forms.1 paths.1,
)

-- the path of what stands for the file of a path: an incremental one keeps folder and plain name, any
-- other keeps its path
record IsSegmentPath (path out : List ℕ) : Type 0 where
  placed : (f : IsIncrementalPath path) → (incr : Bool) × (out ≡ file_path f.folder f.name incr)
  kept : (IsIncrementalPath path → ⊥) → out ≡ path

abbrev ArePaths : List FileRow → List (List ℕ) → Type 0
ArePaths [] paths = paths ≡ []
ArePaths (row ∷ rows) paths = (path : List ℕ) × (more : List (List ℕ)) × (paths ≡ path ∷ more) × IsSegmentPath row.path path × ArePaths rows more

-- what stands for it has a path of text
text_for : (files : Files) (row : FileRow) (path : List ℕ) → IsGood files row → IsSegmentPath row.path path → IsUtf8 path × (is_path path ≡ true)
text_for files row path is for = (
  IsUtf8-from_is_utf8 path (stays (is_utf8 path) (λ no. either (IsIncrementalPath row.path) (λ x. elim x [
    | inl f ↦ (let out = for.placed f in both_ways (is_utf8 path) (is_utf8-from_IsUtf8 path (subst IsUtf8 (sym out.1) (placed_text f.folder f.name out.0 (subst IsUtf8 f.spelled is.text)))) no)
    | inr none ↦ both_ways (is_utf8 path) (is_utf8-from_IsUtf8 path (subst IsUtf8 (sym (for.kept none)) is.text)) no
  ]))),
  stays (is_path path) (λ no. either (IsIncrementalPath row.path) (λ x. elim x [
    | inl f ↦ (let out = for.placed f in both_ways (is_path path) (ap is_path out.1 ∙ placed_good f.folder f.name out.0 f.placed (ap is_path (sym f.spelled) ∙ is.good)) no)
    | inr none ↦ both_ways (is_path path) (ap is_path (for.kept none) ∙ is.good) no
  ])),
)

-- ---- two rows

gone_or_there : (files : Files) (gone there bytes : List ℕ) → gone ≡ there → get files gone ≡ None → get files there ≡ Some bytes → ⊥
gone_or_there files gone there bytes same none some = (let never : None ≡ Some bytes = sym none ∙ (ap (λ (path : List ℕ). get files path) same ∙ some) in cc)

-- what stands for an incremental file has no other file's path
not_kept : (files : Files) (r q : FileRow) (incr : Bool) (f : IsIncrementalPath r.path) → IsGood files r → IsGood files q → r.path ≢ q.path → file_path f.folder f.name incr ≡ q.path → ⊥
not_kept files r q true f a b differ same = differ (f.spelled ∙ same)
not_kept files r q false f a b differ same = gone_or_there files (file_path f.folder f.name false) q.path b.bytes same (a.alone f) b.there

-- what stands for one has another path than what stands for another
apart : (files : Files) (r q : FileRow) (p o : List ℕ) → IsGood files r → IsGood files q → r.path ≢ q.path → IsSegmentPath r.path p → IsSegmentPath q.path o → p ≢ o
apart files r q p o a b differ for to same =
    either (IsIncrementalPath r.path) (λ x.
    either (IsIncrementalPath q.path) (λ y.
    elim x [
      | inl f ↦ elim y [
        | inl g ↦ (let out = for.placed f in let into = to.placed g in let one = one_file f.folder g.folder f.name g.name out.0 into.0 f.placed g.placed (sym out.1 ∙ (same ∙ into.1)) in differ (f.spelled ∙ (ap₂ (λ (k n : List ℕ). file_path k n true) one.0 one.1.0 ∙ sym g.spelled)))
        | inr plain ↦ (let out = for.placed f in not_kept files r q out.0 f a b differ (sym out.1 ∙ (same ∙ to.kept plain)))
      ]
      | inr none ↦ elim y [
        | inl g ↦ (let into = to.placed g in not_kept files q r into.0 g b a (λ e. differ (sym e)) (sym into.1 ∙ (sym same ∙ for.kept none)))
        | inr plain ↦ differ (sym (for.kept none) ∙ (same ∙ to.kept plain))
      ]
    ]))

-- ---- all rows

abbrev Apart : List FileRow → Type 0
Apart [] = Unit {0}
Apart (r ∷ rows) = AllByRecursion (λ q. r.path ≢ q.path) rows × Apart rows

each_apart : (r : FileRow) (rows : List FileRow) → AllByRecursion (λ path. same_name r.path path ≡ false) (map path_in rows) → AllByRecursion (λ q. r.path ≢ q.path) rows
each_apart r [] all = tt
each_apart r (q ∷ rows) all = (
  λ same. both_ways (same_name r.path q.path) (subst (λ (path : List ℕ). same_name r.path path ≡ true) same ((eq_by_cmp_equiv nat_list_cmp_total).refl r.path)) all.0,
  each_apart r rows all.1,
)

are_apart : (rows : List FileRow) → IsDistinct same_name (map path_in rows) → Apart rows
unfolding IsDistinct
are_apart [] distinct = tt
are_apart (r ∷ rows) distinct = (each_apart r rows distinct.0, are_apart rows distinct.1)

keep : (P : FileRow → Type 0) (b : Bool) (r : FileRow) (rows : List FileRow) → P r → AllByRecursion P rows → AllByRecursion P (cond b (r ∷ rows) rows)
keep P true r rows is all = (is, all)
keep P false r rows is all = all

keep_all : (P : FileRow → Type 0) (rows : List FileRow) → AllByRecursion P rows → AllByRecursion P (other_rows rows)
keep_all P [] all = tt
keep_all P (r ∷ rows) all = keep P (not (bytes_eq r.path manifest_name)) r (other_rows rows) all.0 (keep_all P rows all.1)

keep_one : (b : Bool) (r : FileRow) (rows : List FileRow) → AllByRecursion (λ q. r.path ≢ q.path) rows → Apart rows → Apart (cond b (r ∷ rows) rows)
keep_one true r rows all more = (all, more)
keep_one false r rows all more = more

keep_apart : (rows : List FileRow) → Apart rows → Apart (other_rows rows)
keep_apart [] all = tt
keep_apart (r ∷ rows) all = keep_one (not (bytes_eq r.path manifest_name)) r (other_rows rows) (keep_all (λ q. r.path ≢ q.path) rows all.0) (keep_apart rows all.1)

all_texts : (files : Files) (rows : List FileRow) (paths : List (List ℕ)) → AllByRecursion (IsGood files) rows → ArePaths rows paths → AllByRecursion (λ path. IsUtf8 path × (is_path path ≡ true)) paths
all_texts files [] paths good for = subst (AllByRecursion (λ path. IsUtf8 path × (is_path path ≡ true))) (sym for) tt
all_texts files (r ∷ rows) paths good for =
    subst (AllByRecursion (λ path. IsUtf8 path × (is_path path ≡ true))) (sym for.2) (text_for files r for.0 good.0 for.3, all_texts files rows for.1 good.1 for.4)

others_apart : (files : Files) (r : FileRow) (p : List ℕ) (rows : List FileRow) (paths : List (List ℕ)) → IsGood files r → AllByRecursion (IsGood files) rows → AllByRecursion (λ q. r.path ≢ q.path) rows → IsSegmentPath r.path p → ArePaths rows paths → AllByRecursion (λ path. same_name p path ≡ false) paths
others_apart files r p [] paths is good differ for are = subst (AllByRecursion (λ path. same_name p path ≡ false)) (sym are) tt
others_apart files r p (q ∷ rows) paths is good differ for are =
    subst (AllByRecursion (λ path. same_name p path ≡ false)) (sym are.2)
    (false_from_ne_true (same_name p are.0) (λ same. apart files r q p are.0 is good.0 differ.0 for are.3 (names_tie p are.0 same)), others_apart files r p rows are.1 is good.1 differ.1 for are.4)

all_distinct : (files : Files) (rows : List FileRow) (paths : List (List ℕ)) → AllByRecursion (IsGood files) rows → Apart rows → ArePaths rows paths → IsDistinct same_name paths
unfolding IsDistinct
all_distinct files [] paths good differ for = subst (λ (ps : List (List ℕ)). IsDistinct same_name ps) (sym for) tt
all_distinct files (r ∷ rows) paths good differ for =
    subst (λ (ps : List (List ℕ)). IsDistinct same_name ps) (sym for.2) (others_apart files r for.0 rows for.1 good.0 good.1 differ.0 for.3 for.4, all_distinct files rows for.1 good.1 differ.1 for.4)

-- ---- the whole

listable : (files : Files) (m : Member) (paths : List (List ℕ)) → IsAsListed files m → m.manifest.version ≡ 2 → HaveTextNames files → ArePaths (other_rows m.manifest.files) paths → CanList m.manifest paths
listable files m paths is new names are =
    let read = manifest_is_read files m.manifest is.manifest in
    let all : List FileRow = m.manifest.files in
    let good : AllByRecursion (IsGood files) (other_rows all) = keep_all (IsGood files) all (all_good files all names is.rows is.forms read.paths) in
    record {
      system = system_is_read files m.manifest is.manifest new;
      rises = read.rises;
      texts = all_texts files (other_rows all) paths good are;
      distinct = all_distinct files (other_rows all) paths good (keep_apart all (are_apart all read.distinct)) are;
    }

-- so can one list what a chain is combined to
combined_paths : (rows : List FileRow) (paths : List (List ℕ)) → ArePathsFor rows paths → ArePaths rows paths
combined_paths [] paths are = are
combined_paths (row ∷ rows) paths are = (are.0, are.1, are.2, record { placed = λ f. (false, are.3.plain f); kept = are.3.kept }, combined_paths rows are.1 are.4)

pub never_unlisted : (files : Files) (m : Member) → IsAsListed files m → m.manifest.version ≡ 2 → HaveTextNames files → CannotList m.manifest → ⊥
never_unlisted files m is new names cannot = cannot.2 (listable files m cannot.0 is new names (combined_paths (other_rows m.manifest.files) cannot.0 cannot.1))

-- and what a series is merged to
merged_paths : (series : List Files) (rows : List FileRow) (paths : List (List ℕ)) → AreMergedPaths series rows paths → ArePaths rows paths
merged_paths series [] paths are = are
merged_paths series (row ∷ rows) paths are =
    (are.0, are.1, are.2, record { placed = λ f. (not (rests_on_plain (forms_at series f.folder f.name)), are.3.merged f); kept = are.3.kept }, merged_paths series rows are.1 are.4)

pub never_unmerged : (series : List Files) (files : Files) (m : Member) → IsAsListed files m → m.manifest.version ≡ 2 → HaveTextNames files → CannotListMerged series m.manifest → ⊥
never_unmerged series files m is new names cannot = cannot.2 (listable files m cannot.0 is new names (merged_paths series (other_rows m.manifest.files) cannot.0 cannot.1))
