-- Lines as text, in columns that stand below one another.
use Rattle.std.specs.Prelude.{ℕ, ◌-◌, max, List, [], ◌∷◌, ◌++◌, codes, length, replicate}
use Rattle.std.specs.Fmt.{decimal}
use Rattle.chain_view.specs.Columns.{header}
use Rattle.chain_view.specs.declared.cells.Cell.{Cell}
use Rattle.chain_view.specs.declared.cells.Cell.TheVariants.{Nothing, Word, Number}

abbrev pub cell_text : Cell → List ℕ
cell_text Nothing = codes "-"
cell_text (Word word) = word
cell_text (Number n) = decimal n

-- widths that are enough for one more line: each the greater of what it was and the length of the
-- cell in its column
abbrev pub wider : List ℕ → List Cell → List ℕ
wider [] cells = []
wider (width ∷ widths) [] = []
wider (width ∷ widths) (cell ∷ cells) =
    max (length (cell_text cell)) width ∷ wider widths cells

-- and for these lines too
abbrev pub widths_in : List ℕ → List (List Cell) → List ℕ
widths_in widths [] = widths
widths_in widths (line ∷ lines) = widths_in (wider widths line) lines

-- behind a cell come as many blanks as its column is wider, and two more; none behind the last one
abbrev pub gap_text : ℕ → ℕ → List Cell → List ℕ
gap_text width size [] = []
gap_text width size (cell ∷ cells) = replicate (width - size) 32 ++ codes "  "

-- a line: its cells, each in its column, and a line end
abbrev pub cells_text : List ℕ → List Cell → List ℕ
cells_text widths [] = 10 ∷ []
cells_text [] (cell ∷ cells) = 10 ∷ []
cells_text (width ∷ widths) (cell ∷ cells) =
    cell_text cell ++ (gap_text width (length (cell_text cell)) cells ++ cells_text widths cells)

abbrev pub lines_text : List ℕ → List (List Cell) → List ℕ
lines_text widths [] = []
lines_text widths (line ∷ lines) = cells_text widths line ++ lines_text widths lines

abbrev pub table_text : List (List Cell) → List ℕ
table_text lines = lines_text (widths_in (replicate 9 0) lines) lines

-- the text of a listing: its titles and its lines
abbrev pub listing_text : List (List Cell) → List ℕ
listing_text lines = table_text (header ∷ lines)
