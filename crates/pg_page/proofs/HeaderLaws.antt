-- A page whose LSN is set, or whose hole is zeroed, keeps its header's other fields.
use Rattle.std.proofs.Common.{◌≡◌, ℕ, ◌+◌, ◌-◌, ◌^◌, ◌<◌, ◌≤◌, List, length, get_or, take, drop, replicate, ◌⊎◌, ◌++◌, inl, inr, refl, sym, ap, subst, ◌∙◌, arith}
use Rattle.std.proofs.lemmas.List.{length-append, get_or-replicate, length-drop, length-replicate, length-take, length-take-le, take-append-drop}
use Rattle.std.proofs.lemmas.Bool.{cases_lt}
use Rattle.lsn_core.specs.byte_words.Pieces.{overwritten}
use Rattle.lsn_core.proofs.byte_words.Overwritten.{length-overwritten, overwritten_before, overwritten_behind, overwritten_within, overwritten_between}
use Rattle.pg_page.specs.Header.{IsGood, lower_of, upper_of, special_of, version_of, lsn_of, lsn_field, hole_of, hole_zeroed, with_lsn}

-- two pages with the same bytes from 12 to 19
record IsSameHeader (p q : List ℕ) : Type 0 where
  size : length q ≡ length p
  lower : lower_of q ≡ lower_of p
  upper : upper_of q ≡ upper_of p
  special : special_of q ≡ special_of p
  version : version_of q ≡ version_of p

same_header : (p q : List ℕ) → length q ≡ length p → ((i : ℕ) → 8 ≤ i → i < 24 → get_or q i 0 ≡ get_or p i 0) → IsSameHeader p q
same_header p q e same = record {
  size = e;
  lower = rw (same 12 (omega arith) (omega arith), same 13 (omega arith) (omega arith)) refl;
  upper = rw (same 14 (omega arith) (omega arith), same 15 (omega arith) (omega arith)) refl;
  special = rw (same 16 (omega arith) (omega arith), same 17 (omega arith) (omega arith)) refl;
  version = rw (same 18 (omega arith) (omega arith), same 19 (omega arith) (omega arith)) refl;
}

good_again : (p q : List ℕ) → IsSameHeader p q → IsGood p → IsGood q
good_again p q s g = record {
  whole = s.size ∙ g.whole;
  version = s.version ∙ g.version;
  lower = omega (arith, s.lower, g.lower);
  upper = omega (arith, s.lower, s.upper, g.upper);
  special = omega (arith, s.upper, s.special, g.special);
  top = omega (arith, s.special, g.top);
}

hole_again : (p q : List ℕ) → IsSameHeader p q → hole_of q ≡ hole_of p
hole_again p q s = rw (s.lower, s.upper) refl

-- with another piece of eight bytes at its front
front_same : (p piece : List ℕ) → length p ≡ 8192 → length piece ≡ 8 → IsSameHeader p (overwritten p 0 piece)
front_same p piece whole eight =
    same_header p (overwritten p 0 piece) (length-overwritten p 0 piece (omega arith)) (λ i least _. overwritten_behind p 0 piece i (omega arith) (omega arith))

-- with another piece behind the header
behind_same : (p : List ℕ) (at : ℕ) (piece : List ℕ) → 24 ≤ at → at + length piece ≤ length p → IsSameHeader p (overwritten p at piece)
behind_same p at piece least fits =
    same_header p (overwritten p at piece) (length-overwritten p at piece fits) (λ i _ lt. overwritten_before p at piece i (omega arith) (omega arith))

pub length-lsn_field : (at : ℕ) → length (lsn_field at) ≡ 8
unfolding lsn_field
length-lsn_field at = refl

lsn_same : (at : ℕ) (p : List ℕ) → IsGood p → IsSameHeader p (overwritten p 0 (lsn_field at))
lsn_same at p g = front_same p (lsn_field at) g.whole (length-lsn_field at)

hole_same : (p : List ℕ) → IsGood p → IsSameHeader p (overwritten p (lower_of p) (replicate (upper_of p - lower_of p) 0))
hole_same p g = behind_same p (lower_of p) (replicate (upper_of p - lower_of p) 0) g.lower (omega (arith, length-replicate {A = ℕ} (upper_of p - lower_of p) 0, g.whole, g.upper, g.special, g.top))

pub lsn_keeps_good : (at : ℕ) (p : List ℕ) → IsGood p → IsGood (overwritten p 0 (lsn_field at))
lsn_keeps_good at p g = good_again p _ (lsn_same at p g) g

pub hole_keeps_good : (p : List ℕ) → IsGood p → IsGood (overwritten p (lower_of p) (replicate (upper_of p - lower_of p) 0))
hole_keeps_good p g = good_again p _ (hole_same p g) g

-- the page with another LSN
pub IsGood-with_lsn : (at : ℕ) (p : List ℕ) → IsGood p → IsGood (with_lsn at p)
unfolding with_lsn
IsGood-with_lsn at p g = lsn_keeps_good at p g

pub hole_of-with_lsn : (at : ℕ) (p : List ℕ) → IsGood p → hole_of (with_lsn at p) ≡ hole_of p
unfolding with_lsn
hole_of-with_lsn at p g = hole_again p _ (lsn_same at p g)

pub lsn_of-with_lsn : (at : ℕ) (p : List ℕ) → at < 2 ^ 64 → lsn_of (with_lsn at p) ≡ at
unfolding with_lsn lsn_field
lsn_of-with_lsn at p fits = omega arith

-- the page with zeros in its hole
pub IsGood-hole_zeroed : (p : List ℕ) → IsGood p → IsGood (hole_zeroed p)
unfolding hole_zeroed
IsGood-hole_zeroed p g = hole_keeps_good p g

pub hole_of-hole_zeroed : (p : List ℕ) → IsGood p → hole_of (hole_zeroed p) ≡ hole_of p
unfolding hole_zeroed
hole_of-hole_zeroed p g = hole_again p _ (hole_same p g)

pub lsn_of-hole_zeroed : (p : List ℕ) → IsGood p → lsn_of (hole_zeroed p) ≡ lsn_of p
unfolding hole_zeroed
lsn_of-hole_zeroed p g =
    let same : (i : ℕ) → i < 8 → get_or (overwritten p (lower_of p) (replicate (upper_of p - lower_of p) 0)) i 0 ≡ get_or p i 0 =
    λ i lt. overwritten_before p (lower_of p) (replicate (upper_of p - lower_of p) 0) i (omega (arith, g.whole, g.upper, g.special, g.top)) (omega (arith, g.lower)) in
    rw (same 0 (omega arith), same 1 (omega arith), same 2 (omega arith), same 3 (omega arith), same 4 (omega arith), same 5 (omega arith), same 6 (omega arith), same 7 (omega arith)) refl

-- a list with zeros written over in one place twice
twice : (p : List ℕ) (at n : ℕ) (piece : List ℕ) → length piece ≡ n → at + n ≤ length p → overwritten (overwritten p at piece) at piece ≡ overwritten p at piece
twice p at n piece e fits = overwritten_between (take at p) piece (drop (at + length piece) p) piece at (omega (arith, length-take-le at p (omega arith))) refl

pub hole_zeroed-hole_zeroed : (p : List ℕ) → IsGood p → hole_zeroed (hole_zeroed p) ≡ hole_zeroed p
unfolding hole_zeroed
hole_zeroed-hole_zeroed p g =
    let s = hole_same p g in
    rw (s.lower, s.upper) (twice p (lower_of p) (upper_of p - lower_of p) (replicate (upper_of p - lower_of p) 0) (length-replicate {A = ℕ} (upper_of p - lower_of p) 0) (omega (arith, g.whole, g.upper, g.special, g.top)))

-- the header below: one with another LSN, or with its hole zeroed, is good only where it was
same_back : (p q : List ℕ) → IsSameHeader p q → IsSameHeader q p
same_back p q s = record { size = sym s.size; lower = sym s.lower; upper = sym s.upper; special = sym s.special; version = sym s.version }

length_under : (p piece : List ℕ) → length piece ≡ 8 → length (overwritten p 0 piece) ≡ 8192 → length p ≡ 8192
length_under p piece eight e = omega (arith, eight, e, length-append piece (drop (0 + length piece) p), length-drop (0 + length piece) p)

pub IsGood-under_lsn : (at : ℕ) (p : List ℕ) → IsGood (with_lsn at p) → IsGood p
unfolding with_lsn
IsGood-under_lsn at p g =
    let eight = length-lsn_field at in
    good_again (overwritten p 0 (lsn_field at)) p (same_back p (overwritten p 0 (lsn_field at)) (front_same p (lsn_field at) (length_under p (lsn_field at) eight g.whole) eight)) g

-- zeros over a hole that the header can't have
none_written : (p : List ℕ) (at n : ℕ) → n ≡ 0 → overwritten p at (replicate n 0) ≡ p
none_written p at n e =
    ap (λ k. overwritten p at (replicate k 0)) e
    ∙ ap (λ k. take at p ++ drop k p) (let same : at + 0 ≡ at = omega arith in same)
    ∙ take-append-drop at p

length_past : (p : List ℕ) (lower upper : ℕ) → length p ≡ 8192 → lower < upper → 8192 < upper → length (overwritten p lower (replicate (upper - lower) 0)) ≡ 8192 → ⊥
length_past p lower upper whole order past e =
    omega (arith, whole, e, length-append (take lower p) (replicate (upper - lower) 0 ++ drop (lower + length (replicate {A = ℕ} (upper - lower) 0)) p), length-append (replicate {A = ℕ} (upper - lower) 0) (drop (lower + length (replicate {A = ℕ} (upper - lower) 0)) p), length-take lower p, length-replicate {A = ℕ} (upper - lower) 0)

-- a byte is as it was, or zero
cell : (p : List ℕ) (at n i : ℕ) → at + n ≤ length p → (get_or (overwritten p at (replicate n 0)) i 0 ≡ get_or p i 0) ⊎ (get_or (overwritten p at (replicate n 0)) i 0 ≡ 0)
cell p at n i fits =
    let size : length (replicate {A = ℕ} n 0) ≡ n = length-replicate {A = ℕ} n 0 in
    elim (cases_lt i at) [
      | inl before ↦ inl (overwritten_before p at (replicate n 0) i (omega arith) before)
      | inr from ↦ elim (cases_lt i (at + n)) [
        | inl in_it ↦
            let e : i ≡ at + (i - at) = omega arith in
            inr (ap (λ k. get_or (overwritten p at (replicate n 0)) k 0) e ∙ overwritten_within p at (replicate n 0) (i - at) (omega arith) (omega (arith, size)) ∙ get_or-replicate {A = ℕ} n (i - at) 0 0 (omega arith))
        | inr behind ↦ inl (overwritten_behind p at (replicate n 0) i (omega arith) (omega (arith, size)))
      ]
    ]

low_again : (p : List ℕ) (at n : ℕ) → at + n ≤ length p → lower_of p < 24 → lower_of (overwritten p at (replicate n 0)) < 24
low_again p at n fits low =
    elim (cell p at n 12 fits) [
      | inl a ↦ elim (cell p at n 13 fits) [ inl b ↦ omega (arith, a, b, low) | inr b ↦ omega (arith, a, b, low) ]
      | inr a ↦ elim (cell p at n 13 fits) [ inl b ↦ omega (arith, a, b, low) | inr b ↦ omega (arith, a, b, low) ]
    ]

pub IsGood-under_zeros : (p : List ℕ) → length p ≡ 8192 → IsGood (hole_zeroed p) → IsGood p
unfolding hole_zeroed
IsGood-under_zeros p whole g =
    let z : List ℕ = replicate (upper_of p - lower_of p) 0 in
    elim (cases_lt (lower_of p) (upper_of p)) [
      | inr none ↦ subst IsGood (none_written p (lower_of p) (upper_of p - lower_of p) (omega arith)) g
      | inl order ↦ elim (cases_lt 8192 (upper_of p)) [
        | inl past ↦ absurd (length_past p (lower_of p) (upper_of p) whole order past g.whole)
        | inr most ↦ elim (cases_lt (lower_of p) 24) [
          | inl low ↦ absurd (omega (arith, low_again p (lower_of p) (upper_of p - lower_of p) (omega (arith, whole)) low, g.lower))
          | inr least ↦ good_again (overwritten p (lower_of p) z) p (same_back p (overwritten p (lower_of p) z) (behind_same p (lower_of p) z least (omega (arith, whole, length-replicate {A = ℕ} (upper_of p - lower_of p) 0)))) g
        ]
      ]
    ]
