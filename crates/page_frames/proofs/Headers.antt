-- The header of a page behind fragments, byte by byte.
use Rattle.std.proofs.Common.{◌≡◌, ℕ, ◌+◌, ◌*◌, ◌-◌, ◌<◌, ◌≤◌, cond, List, [], ◌∷◌, length, get_or, None, inl, inr, refl, sym, ap, ◌∙◌, arith}
use Rattle.std.specs.Prelude.{◌&&◌, nat_lt}
use Rattle.std.specs.List.{All}
use Rattle.std.proofs.lemmas.Bool.{cases_lt, eq-eqb, le-leb, lt-leb, lt-ltb, le-ltb}
use Rattle.lsn_core.specs.byte_words.Numbers.{u16_in}
use Rattle.lsn_core.specs.byte_words.Pieces.{overwritten}
use Rattle.lsn_core.proofs.byte_words.Overwritten.{length-overwritten, overwritten_before, overwritten_behind, overwritten_within}
use Rattle.pg_page.specs.Frags.{Fragment, bad_frag, written_frags, is_good}
use Rattle.pg_page.proofs.PatchLaws.{Fits, frags_fit, length-written_frags}
use Rattle.history.proofs.Pushes.{all_first, all_rest}
use Rattle.page_frames.specs.Inside.{byte_over, byte_over_all, is_header}

in_piece : (p : List ℕ) (at i : ℕ) (bytes : List ℕ) → at + length bytes ≤ length p → at ≤ i → i - at < length bytes → get_or (overwritten p at bytes) i 0 ≡ get_or bytes (i - at) 0
in_piece p at i bytes fits low high =
    let e : i ≡ at + (i - at) = omega (arith, low) in
    ap (λ n. get_or (overwritten p at bytes) n 0) e ∙ overwritten_within p at bytes (i - at) (omega (arith, fits)) high

over_one : (p : List ℕ) (f : Fragment) (i : ℕ) → f.at + length f.bytes ≤ length p → get_or (overwritten p f.at f.bytes) i 0 ≡ byte_over f i (get_or p i 0)
over_one p f i fits =
    let a = get_or f.bytes (i - f.at) 0 in
    let b = get_or p i 0 in
    elim (cases_lt i f.at) [
      | inl below ↦ overwritten_before p f.at f.bytes i (omega (arith, fits)) below ∙ sym (ap (λ t. cond (t && nat_lt (i - f.at) (length f.bytes)) a b) (lt-leb f.at i below))
      | inr from ↦ ◌∙◌ (elim (cases_lt (i - f.at) (length f.bytes)) [
        | inl high ↦ in_piece p f.at i f.bytes fits from high ∙ sym (ap (λ t. cond t a b) (lt-ltb (i - f.at) (length f.bytes) high))
        | inr past ↦ overwritten_behind p f.at f.bytes i (omega (arith, fits)) (omega (arith, past, from)) ∙ sym (ap (λ t. cond t a b) (le-ltb (i - f.at) (length f.bytes) past))
      ]) (sym (ap (λ t. cond (t && nat_lt (i - f.at) (length f.bytes)) a b) (le-leb f.at i from)))
    ]

over_all : (frags : List Fragment) (p : List ℕ) (i : ℕ) → All Fits frags → length p ≡ 8192 → get_or (written_frags frags p) i 0 ≡ byte_over_all frags i (get_or p i 0)
over_all [] p i fits whole = refl
over_all (f ∷ fs) p i fits whole =
    let here : f.at + length f.bytes ≤ 8192 = all_first Fits f fs fits in
    over_all fs (overwritten p f.at f.bytes) i (all_rest Fits f fs fits) (length-overwritten p f.at f.bytes (omega (arith, here, whole)) ∙ whole)
    ∙ ap (byte_over_all fs i) (over_one p f i (omega (arith, here, whole)))

-- the number at a place
pub u16_over : (frags : List Fragment) (p : List ℕ) (i low high : ℕ) → bad_frag frags ≡ None → length p ≡ 8192 → low ≡ byte_over_all frags i (get_or p i 0) → high ≡ byte_over_all frags (i + 1) (get_or p (i + 1) 0) → low + 256 * high ≡ u16_in (written_frags frags p) i
u16_over frags p i low high good whole low_is high_is =
    let fits = frags_fit frags good in
    let a : get_or (written_frags frags p) i 0 ≡ low = over_all frags p i fits whole ∙ sym low_is in
    let b : get_or (written_frags frags p) (i + 1) 0 ≡ high = over_all frags p (i + 1) fits whole ∙ sym high_is in
    sym (ap (λ x. x + 256 * get_or (written_frags frags p) (i + 1) 0) a ∙ ap (λ x. low + 256 * x) b)

good_by : (q : List ℕ) (version lower upper special : ℕ) → length q ≡ 8192 → version ≡ u16_in q 18 → lower ≡ u16_in q 12 → upper ≡ u16_in q 14 → special ≡ u16_in q 16 → is_header version lower upper special ≡ is_good q
unfolding is_good
good_by q version lower upper special whole v l u s = rw (v, l, u, s, eq-eqb (length q) 8192 whole) refl

-- the test of the header that fragments leave
pub header_by : (frags : List Fragment) (p : List ℕ) (version lower upper special : ℕ) → bad_frag frags ≡ None → length p ≡ 8192 → version ≡ u16_in (written_frags frags p) 18 → lower ≡ u16_in (written_frags frags p) 12 → upper ≡ u16_in (written_frags frags p) 14 → special ≡ u16_in (written_frags frags p) 16
    → is_header version lower upper special ≡ is_good (written_frags frags p)
header_by frags p version lower upper special good whole v l u s = good_by (written_frags frags p) version lower upper special (length-written_frags frags p good whole) v l u s
