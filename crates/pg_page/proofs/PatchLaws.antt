-- A page that fragments are written over.
use Rattle.std.proofs.Common.{◌≡◌, ◌↔◌, ℕ, ◌+◌, ◌-◌, ◌<◌, ◌≤◌, true, false, cond, List, [], ◌∷◌, ◌++◌, length, get_or, drop, replicate, Some, None, inl, inr, refl, sym, ap, ◌∙◌, arith}
use Rattle.std.specs.Prelude.{◌==◌, nat_lt, nat_le}
use Rattle.std.specs.List.{All}
use Rattle.std.proofs.lemmas.List.{length-replicate}
use Rattle.std.proofs.lemmas.List.Elements.{All-nil, All-cons}
use Rattle.std.proofs.lemmas.Grind.{same_number_lists}
use Rattle.std.proofs.lemmas.Bool.{cases_lt, and_parts, or_parts, leb-true, le-leb, eqb-true, eq-eqb, ltb-false}
use Rattle.lsn_core.specs.byte_words.Pieces.{overwritten}
use Rattle.lsn_core.proofs.byte_words.Overwritten.{length-overwritten, overwritten_before, overwritten_behind, overwritten_within, overwritten_between}
use Rattle.pg_page.specs.Header.{IsGood, lower_of, upper_of, special_of, version_of, lsn_field, hole_zeroed, with_lsn}
use Rattle.pg_page.specs.Frags.{Fragment, frag_size, is_bad, bad_frag, bad_frag_from, written_frags, patched, is_good}
use Rattle.pg_page.proofs.HeaderLaws.{length-lsn_field, IsGood-with_lsn, IsGood-hole_zeroed, hole_zeroed-hole_zeroed, IsGood-under_lsn, IsGood-under_zeros}

-- the test of a header and what it tells
pub good_told : (p : List ℕ) → is_good p ≡ true → IsGood p
unfolding is_good
good_told p e =
    let a = and_parts (length p == 8192) _ e in
    let b = and_parts (version_of p == 8196) _ a.1 in
    let c = and_parts (nat_le 24 (lower_of p)) _ b.1 in
    let d = and_parts (nat_le (lower_of p) (upper_of p)) _ c.1 in
    let f = and_parts (nat_le (upper_of p) (special_of p)) _ d.1 in
    record { whole = eqb-true (length p) 8192 a.0; version = eqb-true (version_of p) 8196 b.0; lower = leb-true 24 (lower_of p) c.0; upper = leb-true (lower_of p) (upper_of p) d.0; special = leb-true (upper_of p) (special_of p) f.0; top = leb-true (special_of p) 8192 f.1 }

pub told_good : (p : List ℕ) → IsGood p → is_good p ≡ true
unfolding is_good
told_good p g = rw (eq-eqb (length p) 8192 g.whole, eq-eqb (version_of p) 8196 g.version, le-leb 24 (lower_of p) g.lower, le-leb (lower_of p) (upper_of p) g.upper, le-leb (upper_of p) (special_of p) g.special, le-leb (special_of p) 8192 g.top) refl

pub told_bad : (p : List ℕ) → (IsGood p → false ≡ true) → is_good p ≡ false
told_bad p bad = elim (is_good p) as (λ b. is_good p ≡ b → b ≡ false) [ true ↦ λ e. sym (bad (good_told p e)) | false ↦ λ e. refl ] refl

-- two pages of which each has a good header where the other has
pub tests_agree : (p q : List ℕ) → (IsGood p → IsGood q) → (IsGood q → IsGood p) → is_good p ≡ is_good q
tests_agree p q to from =
    elim (is_good p) as (λ b. is_good p ≡ b → b ≡ is_good q) [
      | true ↦ λ e. sym (told_good q (to (good_told p e)))
      | false ↦ λ e. elim (is_good q) as (λ c. is_good q ≡ c → false ≡ c) [
        | true ↦ λ h. sym e ∙ told_good p (from (good_told q h))
        | false ↦ λ h. refl
      ] refl
    ] refl

-- good fragments end within the page
abbrev pub Fits : Fragment → Type 0
Fits f = f.at + length f.bytes ≤ 8192

fits : (before : ℕ) (f : Fragment) → is_bad before f ≡ false → Fits f
fits before f e =
    let a = or_parts (length f.bytes == 0) _ e in
    ltb-false 8192 (f.at + length f.bytes) (or_parts (nat_lt 8192 (f.at + length f.bytes)) _ a.1).0

fit_from : (number before : ℕ) (frags : List Fragment) → bad_frag_from number before frags ≡ None → All Fits frags
fit_from number before [] e = All-nil Fits
fit_from number before (f ∷ fs) e =
    elim (is_bad before f) as (λ b. is_bad before f ≡ b → cond b (Some number) (bad_frag_from (number + 1) (before + frag_size f) fs) ≡ None → All Fits (f ∷ fs)) [
      | true ↦ λ k h. absurd cc
      | false ↦ λ k h. All-cons Fits f fs (fits before f k) (fit_from (number + 1) (before + frag_size f) fs h)
    ] refl e

pub frags_fit : (frags : List Fragment) → bad_frag frags ≡ None → All Fits frags
frags_fit [] e = absurd cc
frags_fit (f ∷ fs) e = fit_from 0 0 (f ∷ fs) e

-- and leave its length
length-written_from : (number before : ℕ) (frags : List Fragment) (page : List ℕ) → bad_frag_from number before frags ≡ None → length page ≡ 8192 → length (written_frags frags page) ≡ 8192
length-written_from number before [] page e whole = whole
length-written_from number before (f ∷ fs) page e whole =
    elim (is_bad before f) as (λ b. is_bad before f ≡ b → cond b (Some number) (bad_frag_from (number + 1) (before + frag_size f) fs) ≡ None → length (written_frags fs (overwritten page f.at f.bytes)) ≡ 8192) [
      | true ↦ λ k h. absurd cc
      | false ↦ λ k h. length-written_from (number + 1) (before + frag_size f) fs (overwritten page f.at f.bytes) h (length-overwritten page f.at f.bytes (omega (arith, whole, fits before f k)) ∙ whole)
    ] refl e

pub length-written_frags : (frags : List Fragment) (page : List ℕ) → bad_frag frags ≡ None → length page ≡ 8192 → length (written_frags frags page) ≡ 8192
length-written_frags [] page e whole = absurd cc
length-written_frags (f ∷ fs) page e whole = length-written_from 0 0 (f ∷ fs) page e whole

-- a page with two LSNs set in turn
over : (p f g : List ℕ) → length f ≡ length g → overwritten (overwritten p 0 f) 0 g ≡ overwritten p 0 g
over p f g e = overwritten_between [] f (drop (0 + length f) p) g 0 refl (sym e) ∙ ap (λ n. g ++ drop (0 + n) p) e

pub with_lsn-with_lsn : (a b : ℕ) (p : List ℕ) → with_lsn a (with_lsn b p) ≡ with_lsn a p
unfolding with_lsn
with_lsn-with_lsn a b p = over p (lsn_field b) (lsn_field a) (length-lsn_field b ∙ sym (length-lsn_field a))

within : (bytes : List ℕ) (at : ℕ) (piece : List ℕ) (k : ℕ) → at + length piece ≤ length bytes → at ≤ k → k < at + length piece → get_or (overwritten bytes at piece) k 0 ≡ get_or piece (k - at) 0
within bytes at piece k fit low high =
    let e : k ≡ at + (k - at) = omega arith in
    ap (λ n. get_or (overwritten bytes at piece) n 0) e ∙ overwritten_within bytes at piece (k - at) (omega arith) (omega arith)

-- two pieces that don't meet, in either order
apart : (p z f : List ℕ) (lo : ℕ) → length f ≤ lo → lo + length z ≤ length p → overwritten (overwritten p 0 f) lo z ≡ overwritten (overwritten p lo z) 0 f
apart p z f lo low fit =
    let n = length p in
    let left : length (overwritten p 0 f) ≡ n = length-overwritten p 0 f (omega arith) in
    let right : length (overwritten p lo z) ≡ n = length-overwritten p lo z fit in
    let a : length (overwritten (overwritten p 0 f) lo z) ≡ n = length-overwritten (overwritten p 0 f) lo z (omega arith) ∙ left in
    let b : length (overwritten (overwritten p lo z) 0 f) ≡ n = length-overwritten (overwritten p lo z) 0 f (omega arith) ∙ right in
    same_number_lists (overwritten (overwritten p 0 f) lo z) (overwritten (overwritten p lo z) 0 f) (a ∙ sym b) (λ k h.
    elim (cases_lt k lo) [
      | inl below ↦ overwritten_before (overwritten p 0 f) lo z k (omega arith) below
          ∙ elim (cases_lt k (length f)) [
            | inl in_f ↦ within p 0 f k (omega arith) (omega arith) (omega arith) ∙ sym (within (overwritten p lo z) 0 f k (omega arith) (omega arith) (omega arith))
            | inr past_f ↦ overwritten_behind p 0 f k (omega arith) (omega arith) ∙ sym (overwritten_behind (overwritten p lo z) 0 f k (omega arith) (omega arith) ∙ overwritten_before p lo z k (omega arith) below)
          ]
      | inr at_lo ↦ elim (cases_lt k (lo + length z)) [
        | inl in_z ↦ within (overwritten p 0 f) lo z k (omega arith) at_lo in_z ∙ sym (overwritten_behind (overwritten p lo z) 0 f k (omega arith) (omega arith) ∙ within p lo z k fit at_lo in_z)
        | inr past_z ↦ overwritten_behind (overwritten p 0 f) lo z k (omega arith) past_z ∙ overwritten_behind p 0 f k (omega arith) (omega arith)
            ∙ sym (overwritten_behind (overwritten p lo z) 0 f k (omega arith) (omega arith) ∙ overwritten_behind p lo z k (omega arith) past_z)
      ]
    ])

-- the header's places are behind the LSN
field_behind : (p f : List ℕ) (i : ℕ) → length f ≡ 8 → 8 ≤ i → get_or (overwritten p 0 f) i 0 ≡ get_or p i 0
field_behind p f i e h = overwritten_behind p 0 f i (omega arith) (omega arith)

lower_same : (p f : List ℕ) → length f ≡ 8 → lower_of (overwritten p 0 f) ≡ lower_of p
lower_same p f e = rw (field_behind p f 12 e (omega arith), field_behind p f 13 e (omega arith)) refl

upper_same : (p f : List ℕ) → length f ≡ 8 → upper_of (overwritten p 0 f) ≡ upper_of p
upper_same p f e = rw (field_behind p f 14 e (omega arith), field_behind p f 15 e (omega arith)) refl

zeroed_after : (p f : List ℕ) → IsGood p → length f ≡ 8
    → overwritten (overwritten p 0 f) (lower_of (overwritten p 0 f)) (replicate (upper_of (overwritten p 0 f) - lower_of (overwritten p 0 f)) 0) ≡ overwritten (overwritten p (lower_of p) (replicate (upper_of p - lower_of p) 0)) 0 f
zeroed_after p f g e =
    let lo = lower_same p f e in let up = upper_same p f e in
    ap (λ n. overwritten (overwritten p 0 f) n (replicate (upper_of (overwritten p 0 f) - n) 0)) lo ∙ ap (λ n. overwritten (overwritten p 0 f) (lower_of p) (replicate (n - lower_of p) 0)) up
    ∙ apart p (replicate (upper_of p - lower_of p) 0) f (lower_of p) (omega (arith, g.lower)) (omega (arith, g.whole, g.lower, g.upper, g.special, g.top, length-replicate {A = ℕ} (upper_of p - lower_of p) 0))

pub hole_zeroed-with_lsn : (at : ℕ) (p : List ℕ) → IsGood p → hole_zeroed (with_lsn at p) ≡ with_lsn at (hole_zeroed p)
unfolding hole_zeroed with_lsn
hole_zeroed-with_lsn at p g = zeroed_after p (lsn_field at) g (length-lsn_field at)

-- the laws
pub patched_zeroed : (frags : List Fragment) (end : ℕ) (page : List ℕ) → is_good (written_frags frags page) ≡ true → hole_zeroed (patched frags end page) ≡ patched frags end page
unfolding patched
patched_zeroed frags end page e =
    let g = good_told (written_frags frags page) e in
    hole_zeroed-with_lsn end (hole_zeroed (written_frags frags page)) (IsGood-hole_zeroed (written_frags frags page) g) ∙ ap (with_lsn end) (hole_zeroed-hole_zeroed (written_frags frags page) g)

pub patched_again : (frags : List Fragment) (at end : ℕ) (page : List ℕ) → with_lsn end (patched frags at page) ≡ patched frags end page
unfolding patched
patched_again frags at end page = with_lsn-with_lsn end at (hole_zeroed (written_frags frags page))

pub IsGood-patched : (frags : List Fragment) (end : ℕ) (page : List ℕ) → is_good (written_frags frags page) ≡ true → IsGood (patched frags end page)
unfolding patched
IsGood-patched frags end page e = IsGood-with_lsn end (hole_zeroed (written_frags frags page)) (IsGood-hole_zeroed (written_frags frags page) (good_told (written_frags frags page) e))

pub headers_kept : (frags : List Fragment) (end : ℕ) (page : List ℕ) → length page ≡ 8192 → bad_frag frags ≡ None → is_good (patched frags end page) ≡ is_good (written_frags frags page)
unfolding patched
headers_kept frags end page whole fit =
    let q = written_frags frags page in
    tests_agree (with_lsn end (hole_zeroed q)) q
    (λ g. IsGood-under_zeros q (length-written_frags frags page fit whole) (IsGood-under_lsn end (hole_zeroed q) g))
    (λ g. IsGood-with_lsn end (hole_zeroed q) (IsGood-hole_zeroed q g))

pub tells_good : (page : List ℕ) → (is_good page ≡ true) ↔ IsGood page
tells_good page = (good_told page, told_good page)
