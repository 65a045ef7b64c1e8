-- What is printed in JSON has no float.
use Rattle.std.proofs.Common.{◌≡◌, ℕ, ◌+◌, false, List, [], ◌∷◌, refl}
use Rattle.std.proofs.lemmas.Bool.{or_from, or_parts}
use Rattle.std.specs.Ordering.{nat_cmp, match_ordering}
use Rattle.std.specs.declared.cmp.Ordering.{Ordering}
use Rattle.std.specs.declared.cmp.Ordering.TheVariants.{Less, Equal, Greater}
use Rattle.std.specs.Cmp.Lexicographic.{slice_cmp}
use Rattle.serde_json.specs.Data.{Data, Members, no_members, member, put}
use Rattle.serde_json.specs.View.{items_of}
use Rattle.serde_json.specs.Written.{has_float, items_have_float, members_have_float}
use Rattle.chain_view.specs.Columns.{key_of}
use Rattle.chain_view.specs.Json.{cell_json, members_json, lines_json, names_json}
use Rattle.chain_view.specs.declared.cells.Cell.{Cell}
use Rattle.chain_view.specs.declared.cells.Cell.TheVariants.{Nothing, Word, Number}

put_at : (o : Ordering) (k l : List ℕ) (d e : Data) (ms later : Members)
    → has_float d ≡ false → has_float e ≡ false → members_have_float ms ≡ false → members_have_float later ≡ false
    → members_have_float (match_ordering o (member k d (member l e ms)) (member l d ms) (member l e later)) ≡ false
put_at Less k l d e ms later hd he hm hl = or_from (has_float d) _ hd (or_from (has_float e) _ he hm)
put_at Equal k l d e ms later hd he hm hl = or_from (has_float d) _ hd hm
put_at Greater k l d e ms later hd he hm hl = or_from (has_float e) _ he hl

put_none : (k : List ℕ) (d : Data) (ms : Members) → has_float d ≡ false → members_have_float ms ≡ false → members_have_float (put k d ms) ≡ false
put_none k d no_members hd hm = or_from (has_float d) false hd refl
put_none k d (member l e ms) hd hm =
    let both = or_parts (has_float e) (members_have_float ms) hm in
    put_at (slice_cmp nat_cmp k l) k l d e ms (put k d ms) hd both.0 both.1 (put_none k d ms hd both.1)

cell_none : (c : Cell) → has_float (cell_json c) ≡ false
cell_none Nothing = refl
cell_none (Word word) = refl
cell_none (Number n) = refl

cells_none : (place : ℕ) (cells : List Cell) (ms : Members) → members_have_float ms ≡ false → members_have_float (members_json place cells ms) ≡ false
cells_none place [] ms h = h
cells_none place (c ∷ cs) ms h = cells_none (place + 1) cs (put (key_of place) (cell_json c) ms) (put_none (key_of place) (cell_json c) ms (cell_none c) h)

pub no_floats : (lines : List (List Cell)) → items_have_float (items_of (lines_json lines)) ≡ false
no_floats [] = refl
no_floats (line ∷ lines) = or_from (members_have_float (members_json 0 line no_members)) _ (cells_none 0 line no_members refl) (no_floats lines)

pub no_floats_named : (names : List (List ℕ)) → items_have_float (items_of (names_json names)) ≡ false
no_floats_named [] = refl
no_floats_named (name ∷ names) = no_floats_named names
