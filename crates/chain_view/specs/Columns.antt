-- The columns of a listing.
use Rattle.std.specs.Prelude.{ℕ, List, [], ◌∷◌, codes, ◌==◌, if◌then◌else◌}
use Rattle.chain_view.specs.declared.cells.Cell.{Cell}
use Rattle.chain_view.specs.declared.cells.Cell.TheVariants.{Word}

-- the title of the column of a place, in text
abbrev pub title_of : ℕ → List ℕ
title_of place =
    if place == 0 then codes "CHAIN"
    else if place == 1 then codes "NAME"
    else if place == 2 then codes "KIND"
    else if place == 3 then codes "START"
    else if place == 4 then codes "END"
    else if place == 5 then codes "PRIOR"
    else if place == 6 then codes "FILES"
    else if place == 7 then codes "BYTES"
    else codes "FAULT"

-- and its key, in JSON
abbrev pub key_of : ℕ → List ℕ
key_of place =
    if place == 0 then codes "chain"
    else if place == 1 then codes "name"
    else if place == 2 then codes "kind"
    else if place == 3 then codes "start"
    else if place == 4 then codes "end"
    else if place == 5 then codes "prior"
    else if place == 6 then codes "files"
    else if place == 7 then codes "bytes"
    else codes "fault"

-- the line of the titles
abbrev pub header : List Cell
header =
    Word (title_of 0) ∷ (Word (title_of 1) ∷ (Word (title_of 2)
    ∷ (Word (title_of 3) ∷ (Word (title_of 4) ∷ (Word (title_of 5)
    ∷ (Word (title_of 6) ∷ (Word (title_of 7) ∷ (Word (title_of 8) ∷ []))))))))
