-- The JSON value of a written manifest, and what is found in it.
use Rattle.std.proofs.Common.{◌≡◌, ◌<◌, ◌≤◌, ◌^◌, ℕ, List, [], ◌∷◌, Some, codes, map, true, refl, sym, append-nil, arith}
use Rattle.json.specs.Tree as tree
use Rattle.json.proofs.Printed.Trees.{value-json_tokens}
use Rattle.serde_json.specs.Data.{Data, number, string, array, object, unsigned, Items, no_items, item, no_members, member}
use Rattle.serde_json.specs.Read.{read, of_json, of_items, number_of, max_depth}
use Rattle.serde_json.proofs.Numbers.{number_of-decimal}
use Rattle.std.specs.Fmt.{digits}
use Rattle.manifest.specs.Kinds.{kind_name}
use Rattle.manifest.specs.Shape.{is_path, row_in, rows_in, range_in, top_in}
use Rattle.manifest.specs.declared.listing.FileRow.{FileRow}
use Rattle.manifest.specs.declared.shape.RawRow.{RawRow}
use Rattle.manifest.specs.declared.shape.RawRange.{RawRange}
use Rattle.manifest.proofs.Lexed.{rows_tree, top_tree, top_text, Fits64, tokens-top}

abbrev row_data : FileRow → Data
row_data row =
    object (member (codes "Checksum") (string row.sum)
    (member (codes "Checksum-Algorithm") (string (kind_name row.kind))
    (member (codes "Last-Modified") (string row.modified)
    (member (codes "Path") (string row.path)
    (member (codes "Size") (number (unsigned row.size)) no_members)))))

abbrev rows_data : List FileRow → Items
rows_data [] = no_items
rows_data (row ∷ rows) = item (row_data row) (rows_data rows)

abbrev range_data : List ℕ → List ℕ → Data
range_data start end =
    object (member (codes "End-LSN") (string end)
    (member (codes "Start-LSN") (string start)
    (member (codes "Timeline") (number (unsigned 1)) no_members)))

abbrev pub top_data : ℕ → List FileRow → List ℕ → List ℕ → List ℕ → Data
top_data system rows start end sum =
    object (member (codes "Files") (array (rows_data rows))
    (member (codes "Manifest-Checksum") (string sum)
    (member (codes "PostgreSQL-Backup-Manifest-Version") (number (unsigned 2))
    (member (codes "System-Identifier") (number (unsigned system))
    (member (codes "WAL-Ranges") (array (item (range_data start end) no_items)) no_members)))))

rows-depth : (rows : List FileRow) → tree.items_depth (rows_tree rows) ≤ 1
rows-depth [] = omega arith
rows-depth (row ∷ rows) = omega (arith, rows-depth rows)

of-rows : (rows : List FileRow) → Fits64 rows → of_items (rows_tree rows) ≡ Some (rows_data rows)
of-rows [] fits = refl
of-rows (row ∷ rows) fits = rw (number_of-decimal row.size fits.0, of-rows rows fits.1) refl

number-one : number_of (codes "1") ≡ Some (unsigned 1)
unfolding digits
number-one = number_of-decimal 1 (omega arith)

number-two : number_of (codes "2") ≡ Some (unsigned 2)
unfolding digits
number-two = number_of-decimal 2 (omega arith)

of-top : (system : ℕ) (rows : List FileRow) (start end sum : List ℕ) → system < 2 ^ 64 → Fits64 rows → of_json (top_tree system rows start end sum) ≡ Some (top_data system rows start end sum)
of-top system rows start end sum fits fit = rw (number-one, number-two, number_of-decimal system fits, of-rows rows fit) refl

pub read-top : (system : ℕ) (rows : List FileRow) (start end sum : List ℕ) → system < 2 ^ 64 → Fits64 rows → read (top_text system rows start end sum) ≡ Some (top_data system rows start end sum)
read-top system rows start end sum fits fit =
    let j = top_tree system rows start end sum in
    let shallow : tree.depth j ≤ max_depth = omega (arith, rows-depth rows) in
    rw (tokens-top system rows start end sum fits fit, sym (append-nil (tree.json_tokens j)), value-json_tokens j max_depth [] shallow) (of-top system rows start end sum fits fit)

-- a file as a row that was read
abbrev pub raw_of : FileRow → RawRow
raw_of row = record { path = row.path; size = row.size; modified = row.modified; kind = kind_name row.kind; sum = row.sum }

abbrev pub range_with : List ℕ → List ℕ → RawRange
range_with start end = record { timeline = 1; start = start; end = end }

abbrev pub HavePaths : List FileRow → Type 0
HavePaths [] = Unit {0}
HavePaths (row ∷ rows) = (is_path row.path ≡ true) × HavePaths rows

rows-again : (rows : List FileRow) → HavePaths rows → rows_in (rows_data rows) ≡ Some (map raw_of rows)
unfolding row_in
rows-again [] good = refl
rows-again (row ∷ rows) good = rw (good.0, rows-again rows good.1) refl

pub top-again : (system : ℕ) (rows : List FileRow) (start end sum : List ℕ) → HavePaths rows
    → top_in 2 (top_data system rows start end sum) ≡ Some (record { system = Some system; rows = map raw_of rows; range = range_with start end })
unfolding top_in range_in
top-again system rows start end sum good = rw (rows-again rows good) refl
