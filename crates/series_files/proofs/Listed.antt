-- The blocks of a merged file, one after the other.
use Rattle.std.proofs.Common.{◌≡◌, ℕ, zero, suc, ◌+◌, ◌<◌, ◌≤◌, Bool, true, false, cond, List, [], ◌∷◌, ◌++◌, refl, sym, ap, ap₂, ◌∙◌, arith}
use Rattle.std.specs.List.{filter, range_with_len, All}
use Rattle.std.specs.List.Sorted.{IsStrictlyIncreasing}
use Rattle.std.proofs.lemmas.List.{append-nil}
use Rattle.std.proofs.lemmas.List.Elements.{All-filter, filter-append}
use Rattle.std.proofs.lemmas.List.Kept.{IsStrictlyIncreasing-filter}
use Rattle.std.proofs.lemmas.List.FromFn.{length-range_with_len, get_or-range_with_len}
use Rattle.incr_file.specs.Head.{IsHead, head_with}

range_more : (a n : ℕ) → range_with_len a (n + 1) ≡ range_with_len a n ++ ((a + n) ∷ [])
range_more a zero = ap (λ (k : ℕ). k ∷ []) (let z : a ≡ a + zero = omega arith in z)
range_more a (suc n) =
    ap (λ (k : ℕ). range_with_len a k) (let z : suc n + 1 ≡ suc (n + 1) = omega arith in z)
    ∙ ap (λ (l : List ℕ). a ∷ l) (range_more (a + 1) n ∙ ap (λ (k : ℕ). range_with_len (a + 1) n ++ (k ∷ [])) (let z : a + 1 + n ≡ a + suc n = omega arith in z))

kept_more : (p : ℕ → Bool) (n : ℕ) (blocks : List ℕ) → p n ≡ true → blocks ≡ filter p (range_with_len 0 n) → blocks ++ (n ∷ []) ≡ filter p (range_with_len 0 (n + 1))
kept_more p n blocks is so_far =
    ap₂ (λ (l r : List ℕ). l ++ r) so_far (sym (ap (λ c. cond c (n ∷ []) []) is))
    ∙ sym (filter-append p (range_with_len 0 n) (n ∷ []))
    ∙ sym (ap (filter p) (range_more 0 n ∙ ap (λ (k : ℕ). range_with_len 0 n ++ (k ∷ [])) (let z : 0 + n ≡ n = omega arith in z)))

kept_less : (p : ℕ → Bool) (n : ℕ) (blocks : List ℕ) → p n ≡ false → blocks ≡ filter p (range_with_len 0 n) → blocks ≡ filter p (range_with_len 0 (n + 1))
kept_less p n blocks is so_far =
    so_far ∙ sym (append-nil (filter p (range_with_len 0 n)))
    ∙ ap (λ (r : List ℕ). filter p (range_with_len 0 n) ++ r) (sym (ap (λ c. cond c (n ∷ []) []) is))
    ∙ sym (filter-append p (range_with_len 0 n) (n ∷ []))
    ∙ sym (ap (filter p) (range_more 0 n ∙ ap (λ (k : ℕ). range_with_len 0 n ++ (k ∷ [])) (let z : 0 + n ≡ n = omega arith in z)))

-- one more block is asked
pub kept_next : (p : ℕ → Bool) (n : ℕ) (blocks now : List ℕ) (listed : Bool) → listed ≡ p n → now ≡ cond listed (blocks ++ (n ∷ [])) blocks → blocks ≡ filter p (range_with_len 0 n) → now ≡ filter p (range_with_len 0 (n + 1))
kept_next p n blocks now true is now_is so_far = now_is ∙ kept_more p n blocks (sym is) so_far
kept_next p n blocks now false is now_is so_far = now_is ∙ kept_less p n blocks (sym is) so_far

pub kept_same : (p q : ℕ → Bool) (a n : ℕ) → ((b : ℕ) → b < a + n → p b ≡ q b) → filter p (range_with_len a n) ≡ filter q (range_with_len a n)
kept_same p q a zero same = refl
kept_same p q a (suc n) same =
    let rest = kept_same p q (a + 1) n (λ b lt. same b (omega (arith, lt))) in
    ap (λ c. cond c (a ∷ filter p (range_with_len (a + 1) n)) (filter p (range_with_len (a + 1) n))) (same a (omega arith))
    ∙ ap (λ (l : List ℕ). cond (q a) (a ∷ l) l) rest

-- ---- they may be written

range_rises : (n : ℕ) → IsStrictlyIncreasing (range_with_len 0 n)
range_rises n k lt =
    let long = length-range_with_len 0 n in
    let one = get_or-range_with_len 0 n k 0 (omega (arith, lt, long)) in
    let two = get_or-range_with_len 0 n (k + 1) 0 (omega (arith, lt, long)) in
    omega (arith, one, two)

range_fits : (n most : ℕ) → n ≤ most → All (λ x. x < most) (range_with_len 0 n)
range_fits n most le k d lt =
    let long = length-range_with_len 0 n in
    let at = get_or-range_with_len 0 n k d (omega (arith, lt, long)) in
    omega (arith, at, le, lt, long)

pub kept_rises : (p : ℕ → Bool) (n : ℕ) → IsStrictlyIncreasing (filter p (range_with_len 0 n))
kept_rises p n = IsStrictlyIncreasing-filter p (range_with_len 0 n) (range_rises n)

pub kept_is_head : (p : ℕ → Bool) (least n : ℕ) → least ≤ 131072 → n ≤ 131072 → IsHead (head_with least (filter p (range_with_len 0 n)))
kept_is_head p least n low few = record {
  length_fits = low;
  blocks_fit = All-filter p (λ x. x < 131072) (range_with_len 0 n) (range_fits n 131072 few);
  rising = kept_rises p n;
}
