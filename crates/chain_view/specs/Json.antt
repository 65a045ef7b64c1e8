-- Lines, and the names of a chain, in JSON (RFC 8259).
use Rattle.std.specs.Prelude.{ℕ, ◌+◌, List, [], ◌∷◌, ◌++◌}
use Rattle.serde_json.specs.Data.{Data, null, number, unsigned, string, array, object, Members, no_members, put}
use Rattle.serde_json.specs.View.{items_of}
use Rattle.serde_json.specs.Written.{compact_text}
use Rattle.chain_view.specs.Columns.{key_of}
use Rattle.chain_view.specs.declared.cells.Cell.{Cell}
use Rattle.chain_view.specs.declared.cells.Cell.TheVariants.{Nothing, Word, Number}

-- the value of a cell
abbrev pub cell_json : Cell → Data
cell_json Nothing = null
cell_json (Word word) = string word
cell_json (Number n) = number (unsigned n)

-- a member for each cell, under its column's key, the first cell being that of this column
abbrev pub members_json : ℕ → List Cell → Members → Members
members_json place [] members = members
members_json place (cell ∷ cells) members =
    members_json (place + 1) cells (put (key_of place) (cell_json cell) members)

-- the object of a line
abbrev pub line_json : List Cell → Data
line_json line = object (members_json 0 line no_members)

abbrev pub lines_json : List (List Cell) → List Data
lines_json [] = []
lines_json (line ∷ lines) = line_json line ∷ lines_json lines

abbrev pub names_json : List (List ℕ) → List Data
names_json [] = []
names_json (name ∷ names) = string name ∷ names_json names

-- an array of values, on one line
abbrev pub array_line : List Data → List ℕ
array_line values = compact_text (array (items_of values)) ++ (10 ∷ [])

-- a listing, and the names of a chain
abbrev pub listing_json : List (List Cell) → List ℕ
listing_json lines = array_line (lines_json lines)

abbrev pub members_json_line : List (List ℕ) → List ℕ
members_json_line names = array_line (names_json names)
