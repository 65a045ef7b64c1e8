-- The paths of a manifest that was read.
use Rattle.std.proofs.Common.{◌≡◌, ℕ, ◌<◌, Bool, true, false, ◌&&◌, List, [], ◌∷◌, map, codes, Option, Some, None, IsSome, inl, inr, refl, sym, ap, subst, ◌∙◌}
use Rattle.std.specs.Prelude.{is_some, if◌then◌else◌}
use Rattle.std.specs.List.{AllByRecursion, IsDistinct}
use Rattle.std.specs.Ordering.{nat_cmp}
use Rattle.std.specs.Cmp.Lexicographic.{slice_cmp}
use Rattle.std.proofs.lemmas.Bool.{and_parts}
use Rattle.std.proofs.lemmas.List.Elements.{All-from_recursion, recursion_from_All}
use Rattle.std.proofs.lemmas.List.Sorted.{All-permutation}
use Rattle.std.proofs.lemmas.Map.Keys.{IsDistinct-from_sorted}
use Rattle.serde_json.specs.Data.{Data, Items, no_items, item}
use Rattle.lsn_core.specs.byte_words.Numbers.{◌>>=◌}
use Rattle.lsn_core.proofs.byte_words.Fields.{bind_some}
use Rattle.lsn_core.specs.Files.{Files}
use Rattle.lsn_core.proofs.StoreFiles.{same_name}
use Rattle.manifest.specs.Kinds.{kind_in, is_sum, file_with, file_in, all_files}
use Rattle.manifest.specs.Listing.{Listing}
use Rattle.manifest.specs.Shape.{text_at, number_at, list_at, has_keys, is_path, row_in, rows_in, files_in, range_at, Top, system_in, top_keys, top_in, path_of}
use Rattle.manifest.specs.declared.listing.FileRow.{FileRow}
use Rattle.manifest.specs.declared.kinds.SumKind.{SumKind}
use Rattle.manifest.specs.declared.shape.RawRow.{RawRow}
use Rattle.manifest.proofs.Versions.{HasSystem, versions_tell}
use Rattle.backup_files.proofs.Listable.{all_map}
use Rattle.chain_check.specs.Directory.{HasManifest}
use Rattle.backup_laws.proofs.Members.{some_is}

-- ---- steps of a reader

bind_then : {A B : Type 0} (o : Option A) (f : A → Option B) (y : B) (P : Type 0) → (o >>= f) ≡ Some y → ((x : A) → o ≡ Some x → f x ≡ Some y → P) → P
bind_then o f y P e step = let b = bind_some o f y e in step b.0 b.1 b.2

kept : {A : Type 0} (t : Bool) (x y : A) → (if t then Some x else None) ≡ Some y → (t ≡ true) × (x ≡ y)
kept true x y e = (refl, some_is x y e)
kept false x y e = absurd cc

-- ---- rows

abbrev pub path_in : FileRow → List ℕ
path_in row = row.path

file_path : (row : RawRow) (file : FileRow) → file_in row ≡ Some file → file.path ≡ row.path
file_path row file e =
    bind_then (kind_in row.kind) (λ (kind : SumKind). if is_sum kind row.sum then Some (file_with row kind) else None) file (file.path ≡ row.path) e (λ kind is taken.
    sym (ap path_in (kept (is_sum kind row.sum) (file_with row kind) file taken).1))

-- files have the paths of the rows that they were made of
files_paths : (rows : List RawRow) (files : List FileRow) → all_files rows ≡ Some files → map path_in files ≡ map path_of rows
files_paths [] files e = ap (map path_in) (sym (some_is [] files e))
files_paths (row ∷ rows) files e =
    bind_then (file_in row) (λ (file : FileRow). all_files rows >>= λ more. Some (file ∷ more)) files (map path_in files ≡ map path_of (row ∷ rows)) e (λ file is e1.
    bind_then (all_files rows) (λ (more : List FileRow). Some (file ∷ more)) files (map path_in files ≡ map path_of (row ∷ rows)) e1 (λ more are e2.
    ap (map path_in) (sym (some_is (file ∷ more) files e2))
    ∙ (ap (λ (p : List ℕ). p ∷ map path_in more) (file_path row file is) ∙ ap (λ (ps : List (List ℕ)). row.path ∷ ps) (files_paths rows more are))))

abbrev IsPath : List ℕ → Type 0
IsPath path = is_path path ≡ true

row_path : (d : Data) (row : RawRow) → row_in d ≡ Some row → IsPath row.path
unfolding row_in
row_path d row e =
    bind_then (text_at (codes "Path") d) _ row (IsPath row.path) e (λ path p e1.
    bind_then (number_at (codes "Size") d) _ row (IsPath row.path) e1 (λ size q e2.
    bind_then (text_at (codes "Last-Modified") d) _ row (IsPath row.path) e2 (λ modified r e3.
    bind_then (text_at (codes "Checksum-Algorithm") d) _ row (IsPath row.path) e3 (λ kind s e4.
    bind_then (text_at (codes "Checksum") d) _ row (IsPath row.path) e4 (λ sum t e5.
    let k = kept (has_keys 5 d && is_path path) (record { path = path; size = size; modified = modified; kind = kind; sum = sum }) row e5 in
    subst IsPath (ap path_of k.1) (and_parts (has_keys 5 d) (is_path path) k.0).1)))))

rows_paths : (items : Items) (rows : List RawRow) → rows_in items ≡ Some rows → AllByRecursion (λ (row : RawRow). IsPath row.path) rows
rows_paths no_items rows e = subst (AllByRecursion (λ (row : RawRow). IsPath row.path)) (some_is [] rows e) tt
rows_paths (item d ds) rows e =
    bind_then (row_in d) (λ (row : RawRow). rows_in ds >>= λ more. Some (row ∷ more)) rows (AllByRecursion (λ (row : RawRow). IsPath row.path) rows) e (λ row is e1.
    bind_then (rows_in ds) (λ (more : List RawRow). Some (row ∷ more)) rows (AllByRecursion (λ (row : RawRow). IsPath row.path) rows) e1 (λ more are e2.
    subst (AllByRecursion (λ (row : RawRow). IsPath row.path)) (some_is (row ∷ more) rows e2) (row_path d row is, rows_paths ds more are)))

top_paths : (version : ℕ) (d : Data) (top : Top) → top_in version d ≡ Some top → AllByRecursion (λ (row : RawRow). IsPath row.path) top.rows
unfolding top_in
top_paths version d top e =
    bind_then (system_in version d) _ top (AllByRecursion (λ (row : RawRow). IsPath row.path) top.rows) e (λ system p e1.
    bind_then (files_in d) _ top (AllByRecursion (λ (row : RawRow). IsPath row.path) top.rows) e1 (λ rows q e2.
    bind_then (range_at d) _ top (AllByRecursion (λ (row : RawRow). IsPath row.path) top.rows) e2 (λ range r e3.
    bind_then (list_at (codes "Files") d) rows_in rows (AllByRecursion (λ (row : RawRow). IsPath row.path) top.rows) q (λ items there e4.
    let k = kept (is_some (text_at (codes "Manifest-Checksum") d) && has_keys (top_keys version) d) (record { system = system; rows = rows; range = range }) top e3 in
    subst (AllByRecursion (λ (row : RawRow). IsPath row.path)) (ap (λ (t : Top). t.rows) k.1) (rows_paths items rows e4)))))

-- ---- the whole

-- one of version 2 tells a system identifier
has_system : (m : Listing) → HasSystem m.version m.system → m.version ≡ 2 → IsSome m.system
has_system m (inl old) new = (let never : 1 ≡ 2 = sym old.0 ∙ new in absurd cc)
has_system m (inr tells) new = tells.1

pub system_is_read : (files : Files) (m : Listing) → HasManifest files m → m.version ≡ 2 → IsSome m.system
system_is_read files m has new = has_system m (versions_tell has.0 m has.2) new

-- what a manifest that was read tells
pub record IsReadManifest (m : Listing) : Type 0 where
  pub rises : m.start < m.end
  pub paths : AllByRecursion (λ path. is_path path ≡ true) (map path_in m.files)
  pub distinct : IsDistinct same_name (map path_in m.files)

pub manifest_is_read : (files : Files) (m : Listing) → HasManifest files m → IsReadManifest m
manifest_is_read files m has =
    let of = has.2.1.2 in
    let parts = of.0 in
    let is = of.2.shape in
    let rows : List FileRow = of.1 in
    let same = of.5 in
    let all : AllByRecursion (λ (row : RawRow). IsPath row.path) parts.rows = recursion_from_All (λ (row : RawRow). IsPath row.path) parts.rows (All-permutation (λ (row : RawRow). IsPath row.path) is.top.rows parts.rows is.rows.0 (All-from_recursion (λ (row : RawRow). IsPath row.path) is.top.rows (top_paths parts.version has.2.1.0 is.top is.read))) in
    let names : map path_in rows ≡ map path_of parts.rows = files_paths parts.rows rows of.3 in
    subst IsReadManifest (sym same) (record {
      rises = is.range.rises;
      paths = subst (AllByRecursion IsPath) (sym names) (all_map path_of IsPath parts.rows all);
      distinct = subst (λ (ps : List (List ℕ)). IsDistinct same_name ps) (sym names) (IsDistinct-from_sorted (slice_cmp nat_cmp) (map path_of parts.rows) is.rows.1);
    })
