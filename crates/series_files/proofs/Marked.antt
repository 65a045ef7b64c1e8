-- Blocks that are marked one after the other.
use Rattle.std.proofs.Common.{◌≡◌, ℕ, ◌<◌, ◌||◌, ◌&&◌, Bool, true, false, List, [], ◌∷◌, length, get_or, set, refl, sym, ap, subst, ◌∙◌, arith}
use Rattle.std.specs.Prelude.{nat_lt, ◌==◌}
use Rattle.std.proofs.lemmas.Bool.{lt-ltb, eqb-true, eqb-false, ltb-true}
use Rattle.std.proofs.lemmas.List.{get_or-set_same, get_or-set_other, length-set}
use Rattle.incr_file.specs.Plan.{has_block}
use Rattle.series_files.specs.Inside.{AreMarked}

seen : (g l s h : Bool) → l ≡ true → s ≡ true → (g || (l && (s || h))) ≡ true
seen true l s h e f = refl
seen false true true h e f = refl
seen false true false h e f = absurd cc
seen false false s h e f = absurd cc

unseen : (g l s h : Bool) → s ≡ false → (g || (l && (s || h))) ≡ (g || (l && h))
unseen g l false h e = refl
unseen g l true h e = absurd cc

low : (g l s h : Bool) → l ≡ false → (g || (l && s)) ≡ (g || (l && h))
low g false s h e = refl
low g true s h e = absurd cc

-- the first blocks were marked, and these are left
pub record MarkedTo (least : ℕ) (blocks left : List ℕ) (old now : List Bool) : Type 0 where
  pub long : length now ≡ length old
  pub each : (b : ℕ) (d : Bool) → b < length old
      → (get_or now b d || (nat_lt b least && has_block left b))
      ≡ (get_or old b d || (nat_lt b least && has_block blocks b))

pub marked_begun : (least : ℕ) (blocks : List ℕ) (old : List Bool) → MarkedTo least blocks blocks old old
marked_begun least blocks old = record { long = refl; each = λ b d lt. refl }

pub marked_more : (least : ℕ) (blocks left behind : List ℕ) (old now : List Bool) (x : ℕ) → left ≡ x ∷ behind → x < least → x < length now → MarkedTo least blocks left old now → MarkedTo least blocks behind old (set now x true)
marked_more least blocks left behind old now x is below within far = record {
  long = length-set now x true ∙ far.long;
  each = λ b d lt.
      let so_far : (get_or now b d || (nat_lt b least && ((x == b) || has_block behind b))) ≡ (get_or old b d || (nat_lt b least && has_block blocks b)) = subst (λ (l : List ℕ). (get_or now b d || (nat_lt b least && has_block l b)) ≡ (get_or old b d || (nat_lt b least && has_block blocks b))) is (far.each b d lt) in
      elim (x == b) as (λ s. (x == b) ≡ s → (get_or (set now x true) b d || (nat_lt b least && has_block behind b)) ≡ (get_or old b d || (nat_lt b least && has_block blocks b))) [
        | true ↦ λ k.
            let same : x ≡ b = eqb-true x b k in
            let here : get_or (set now x true) b d ≡ true = ap (λ (n : ℕ). get_or (set now x true) n d) (sym same) ∙ get_or-set_same now x true d within in
            ap (λ v. v || (nat_lt b least && has_block behind b)) here
            ∙ sym (seen (get_or now b d) (nat_lt b least) (x == b) (has_block behind b) (lt-ltb b least (omega (arith, below, same))) k)
            ∙ so_far
        | false ↦ λ k.
            let apart = eqb-false x b k in
            ap (λ v. v || (nat_lt b least && has_block behind b)) (get_or-set_other now x b true d (λ z. apart (sym z)))
            ∙ sym (unseen (get_or now b d) (nat_lt b least) (x == b) (has_block behind b) k)
            ∙ so_far
      ] refl;
}

pub marked_past : (least : ℕ) (blocks left behind : List ℕ) (old now : List Bool) (x : ℕ) → left ≡ x ∷ behind → (x < least → x < length now → ⊥) → MarkedTo least blocks left old now → MarkedTo least blocks behind old now
marked_past least blocks left behind old now x is out far = record {
  long = far.long;
  each = λ b d lt.
      let so_far : (get_or now b d || (nat_lt b least && ((x == b) || has_block behind b))) ≡ (get_or old b d || (nat_lt b least && has_block blocks b)) = subst (λ (l : List ℕ). (get_or now b d || (nat_lt b least && has_block l b)) ≡ (get_or old b d || (nat_lt b least && has_block blocks b))) is (far.each b d lt) in
      elim (nat_lt b least) as (λ s. nat_lt b least ≡ s → (get_or now b d || (nat_lt b least && has_block behind b)) ≡ (get_or now b d || (nat_lt b least && ((x == b) || has_block behind b)))) [
        | true ↦ λ k.
            elim (x == b) as (λ s. (x == b) ≡ s → (get_or now b d || (nat_lt b least && has_block behind b)) ≡ (get_or now b d || (nat_lt b least && (s || has_block behind b)))) [
              | true ↦ λ j. let same : x ≡ b = eqb-true x b j in let less = ltb-true b least k in absurd (out (omega (arith, same, less)) (omega (arith, same, lt, far.long)))
              | false ↦ λ j. refl
            ] refl
        | false ↦ λ k. low (get_or now b d) (nat_lt b least) (has_block behind b) ((x == b) || has_block behind b) k
      ] refl
      ∙ so_far;
}

last : (g l : Bool) → (g || (l && false)) ≡ g
last true l = refl
last false true = refl
last false false = refl

no_items : (xs : List ℕ) → length xs ≡ 0 → [] ≡ xs
no_items [] e = refl
no_items (x ∷ xs) e = absurd (omega (arith, e))

pub marked_all : (least : ℕ) (blocks left : List ℕ) (old now : List Bool) → length left ≡ 0 → MarkedTo least blocks left old now → AreMarked least blocks old now
marked_all least blocks left old now none far = record {
  long = far.long;
  each = λ b d lt.
      sym (last (get_or now b d) (nat_lt b least))
      ∙ subst (λ (l : List ℕ). (get_or now b d || (nat_lt b least && has_block l b)) ≡ (get_or old b d || (nat_lt b least && has_block blocks b))) (sym (no_items left none)) (far.each b d lt);
}
