use Rattle.std.proofs.Common.{rules, ◌≡◌, ◌*◌, ℕ, List, [], ◌∷◌, slice_index, refl, inl, inr, ap, ◌∙◌, arith}
use Rattle.std.proofs.lemmas.List.{get_or-set_same, get_or-set_other}
use Rattle.std.proofs.lemmas.Bool.{cases_lt}
use Rattle.sha2.proofs.Schedule256.{IsWindow_first}
use Rattle.sha2.specs.Sha256.{word_at}
use Rattle.sha_lanes.specs.Lanes.{lane, of_four}
use Rattle.sha_lanes.proofs.FourLanes.{below_four, lane_word, length-lane}
use Rattle.sha_lanes.proofs.block.load.Goals as goal

pub load-preserved : goal.load-preserved
load-preserved c = (
  search rules,
  λ k j lt below. elim (cases_lt k c.load.i) [
    | inl a ↦ ap (λ (v : List ℕ). slice_index v j) (get_or-set_other c.load.w c.load.i k c.words_of.result [] (omega arith)) ∙ c.load.invariant.1 k j a below
    | inr b ↦
        let e : c.load.i ≡ k = omega arith in
        let four = ap (λ (v : List ℕ). slice_index v j) (get_or-set_same c.load.w c.load.i c.words_of.result [] (omega arith) ∙ c.words_of.ensures) in
        rw (← e) (four ∙ below_four (λ j. slice_index (word_at c.args.a.now (4 * c.load.i) ∷ word_at c.args.b.now (4 * c.load.i) ∷ word_at c.args.c.now (4 * c.load.i) ∷ word_at c.args.d.now (4 * c.load.i) ∷ []) j ≡ word_at (of_four c.args.a.now c.args.b.now c.args.c.now c.args.d.now j) (4 * c.load.i)) refl refl refl refl j below)
  ],
)

pub returns : goal.returns
returns c j below =
    IsWindow_first (of_four c.args.a.now c.args.b.now c.args.c.now c.args.d.now j) (lane j c.load.w)
    (length-lane c.load.w j ∙ c.load.invariant.0)
    (λ k lt. lane_word c.load.w j k ∙ c.load.invariant.1 k j (omega arith) below)
