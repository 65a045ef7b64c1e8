-- What stands in a list of which a part was written over.
use Rattle.std.proofs.Common.{◌≡◌, ℕ, ◌+◌, ◌-◌, ◌<◌, ◌≤◌, List, ◌++◌, length, get_or, take, drop, refl, sym, ap, ◌∙◌, arith}
use Rattle.std.proofs.lemmas.List.{take_at, drop_at, length-append, length-take-le, length-drop, get_or-drop, get_or-take, get_or_append_left, get_or-append_right, drop-drop}
use Rattle.lsn_core.specs.byte_words.Pieces.{overwritten}

pub length-overwritten : (bytes : List ℕ) (at : ℕ) (piece : List ℕ) → at + length piece ≤ length bytes → length (overwritten bytes at piece) ≡ length bytes
length-overwritten bytes at piece fits =
    omega (arith, length-append (take at bytes) (piece ++ drop (at + length piece) bytes), length-append piece (drop (at + length piece) bytes), length-drop (at + length piece) bytes, length-take-le at bytes (omega arith))

pub overwritten_before : (bytes : List ℕ) (at : ℕ) (piece : List ℕ) (i : ℕ) → at ≤ length bytes → i < at → get_or (overwritten bytes at piece) i 0 ≡ get_or bytes i 0
overwritten_before bytes at piece i fits lt =
    get_or_append_left (take at bytes) (piece ++ drop (at + length piece) bytes) 0 i (omega (arith, length-take-le at bytes fits)) ∙ get_or-take at bytes i 0 lt

pub overwritten_behind : (bytes : List ℕ) (at : ℕ) (piece : List ℕ) (i : ℕ) → at ≤ length bytes → at + length piece ≤ i → get_or (overwritten bytes at piece) i 0 ≡ get_or bytes i 0
overwritten_behind bytes at piece i fits le =
    get_or-append_right (take at bytes) (piece ++ drop (at + length piece) bytes) at i 0 (length-take-le at bytes fits) (omega arith)
    ∙ get_or-append_right piece (drop (at + length piece) bytes) (length piece) (i - at) 0 refl (omega arith)
    ∙ get_or-drop (at + length piece) bytes (i - at - length piece) 0
    ∙ ap (λ n. get_or bytes n 0) (let e : at + length piece + (i - at - length piece) ≡ i = omega arith in e)

pub overwritten_within : (bytes : List ℕ) (at : ℕ) (piece : List ℕ) (i : ℕ) → at ≤ length bytes → i < length piece → get_or (overwritten bytes at piece) (at + i) 0 ≡ get_or piece i 0
overwritten_within bytes at piece i fits lt =
    get_or-append_right (take at bytes) (piece ++ drop (at + length piece) bytes) at (at + i) 0 (length-take-le at bytes fits) (omega arith)
    ∙ ap (λ n. get_or (piece ++ drop (at + length piece) bytes) n 0) (let e : at + i - at ≡ i = omega arith in e)
    ∙ get_or_append_left piece (drop (at + length piece) bytes) 0 i lt

-- a piece that is written over one of its length that stands between two parts
pub overwritten_between : (front old back piece : List ℕ) (at : ℕ) → length front ≡ at → length piece ≡ length old → overwritten (front ++ (old ++ back)) at piece ≡ front ++ (piece ++ back)
overwritten_between front old back piece at e same =
    let behind : drop (at + length piece) (front ++ (old ++ back)) ≡ back = sym (drop-drop (length piece) at (front ++ (old ++ back))) ∙ ap (drop (length piece)) (drop_at front (old ++ back) at e) ∙ drop_at old back (length piece) (sym same) in
    rw (take_at front (old ++ back) at e, behind) refl
