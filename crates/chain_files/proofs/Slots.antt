-- Slots that are settled one after the other.
use Rattle.std.proofs.Common.{◌≡◌, ℕ, suc, ◌+◌, ◌-◌, ◌<◌, ◌≤◌, max, List, [], ◌∷◌, length, get_or, set, sym, ap, subst, ◌∙◌, arith, inl, inr}
use Rattle.std.proofs.lemmas.Bool.{cases_lt}
use Rattle.std.proofs.lemmas.List.{get_or-set_same, get_or-set_other, get_or_default, length-set}
use Rattle.std.specs.List.Sorted.{IsStrictlyIncreasing}
use Rattle.incr_file.specs.declared.head.IncrHead.{IncrHead}
use Rattle.incr_file.specs.Form.{past_all, rebuilt_length}
use Rattle.chain_files.specs.declared.form.FileForm.{FileForm}
use Rattle.chain_files.specs.declared.slot.Slot.{Slot}
use Rattle.chain_files.specs.Inside.{settled_slot}

-- the slots up to a block are settled, the others are as they were
pub record SettledTo (form : FileForm) (member : ℕ) (old now : List Slot) (i : ℕ) : Type 0 where
  pub long : length now ≡ length old
  pub done : (k : ℕ) (d : Slot) → k < i → get_or now k d ≡ settled_slot form member k (get_or old k d)
  pub left : (k : ℕ) (d : Slot) → i ≤ k → get_or now k d ≡ get_or old k d

pub settled_more : (form : FileForm) (member : ℕ) (old now : List Slot) (i : ℕ) (d value : Slot) → i < length now → value ≡ settled_slot form member i (get_or now i d) → SettledTo form member old now i → SettledTo form member old (set now i value) (i + 1)
settled_more form member old now i d value within is so_far = record {
  long = length-set now i value ∙ so_far.long;
  done = λ k e lt. elim (cases_lt k i) [
    | inl before ↦ get_or-set_other now i k value e (λ z. omega (arith, z, before)) ∙ so_far.done k e before
    | inr after ↦
        let here : k ≡ i = omega (arith, lt, after) in
        let got : get_or (set now i value) k e ≡ value = ap (λ (n : ℕ). get_or (set now i value) n e) here ∙ get_or-set_same now i value e within in
        let was : get_or now i d ≡ get_or old i e = get_or_default now i d e within ∙ so_far.left i e (omega arith) in
        let here' : i ≡ k = omega (arith, here) in
        got ∙ is ∙ ap (λ (s : Slot). settled_slot form member i s) was ∙ ap (λ (n : ℕ). settled_slot form member n (get_or old n e)) here'
  ];
  left = λ k e le. get_or-set_other now i k value e (λ z. omega (arith, z, le)) ∙ so_far.left k e (omega (arith, le));
}

-- ---- the length of a rebuilt file

rising_rest : (x : ℕ) (xs : List ℕ) → IsStrictlyIncreasing (x ∷ xs) → IsStrictlyIncreasing xs
rising_rest x xs up k lt =
    let step = up (suc k) (let z : suc k + 1 < suc (length xs) = omega (arith, lt) in z) in
    let same : get_or (x ∷ xs) (suc k + 1) 0 ≡ get_or xs (k + 1) 0 = ap (λ (n : ℕ). get_or (x ∷ xs) n 0) (let z : suc k + 1 ≡ suc (k + 1) = omega arith in z) in
    omega (arith, step, same)

past_last : (xs : List ℕ) (d : ℕ) → IsStrictlyIncreasing xs → 0 < length xs → past_all xs ≡ get_or xs (length xs - 1) d + 1
past_last [] d up some = absurd (omega (arith, some))
past_last (x ∷ []) d up some = omega arith
past_last (x ∷ (y ∷ ys)) d up some =
    let less : x < y = up 0 (let z : 0 + 1 < suc (suc (length ys)) = omega arith in z) in
    let rest = past_last (y ∷ ys) d (rising_rest x (y ∷ ys) up) (let z : 0 < suc (length ys) = omega arith in z) in
    let same : get_or (x ∷ (y ∷ ys)) (suc (suc (length ys)) - 1) d ≡ get_or (y ∷ ys) (suc (length ys) - 1) d =
    ap (λ (n : ℕ). get_or (x ∷ (y ∷ ys)) n d) (let z : suc (suc (length ys)) - 1 ≡ suc (suc (length ys) - 1) = omega arith in z) in
    omega (arith, less, rest, same)

pub rebuilt_is : (head : IncrHead) (blocks : List ℕ) (last result : ℕ) → blocks ≡ head.blocks → IsStrictlyIncreasing head.blocks → 0 < length blocks → last ≡ get_or blocks (length blocks - 1) last → result ≡ max head.truncation (last + 1) → result ≡ rebuilt_length head
rebuilt_is head blocks last result same up some is e =
    e ∙ ap (max head.truncation) (ap (λ (n : ℕ). n + 1) is ∙ sym (past_last blocks last (subst IsStrictlyIncreasing (sym same) up) some) ∙ ap past_all same)
