-- The mark of a block after marks were set, cut and put.
use Rattle.std.proofs.Common.{◌≡◌, ℕ, zero, suc, ◌+◌, ◌-◌, true, false, cond, ◌&&◌, List, [], ◌∷◌, ◌++◌, length, take, replicate, get_or, Option, Some, None, unwrap_or, refl, ap, sym, ◌∙◌, arith, eqb-true, true≢false, get_or-set_same, get_or-set_other, length-append}
use Rattle.std.specs.Prelude.{◌==◌, nat_le, slice_set}
use Rattle.std.specs.FinMap.{get, insert, get-insert}
use Rattle.std.proofs.Math.ListN.{get_or-eq_default}
use Rattle.std.proofs.lemmas.List.{length-replicate, length-take, get_or-take}
use Rattle.std.proofs.lemmas.Bool.{eq-eqb, leb-true, leb-false}
use Rattle.lsn_core.specs.declared.ids.ForkId.{ForkId}
use Rattle.lsn_core.specs.declared.ids.BlockId.{BlockId}
use Rattle.lsn_core.proofs.ForkOrder.{fork_cmp_total}
use Rattle.history.specs.Apply.{is_same_fork, is_same_block}
use Rattle.history.proofs.Stores.{fork_is}
use Rattle.page_frames.specs.Marks.{DirtyMarks, fork_marks, touch_end, with_mark}

-- the marks of a fork, where those of one were put
got : (marks : DirtyMarks) (put : ForkId) (v : List (Option ℕ)) (fork : ForkId) → get (insert marks put v) fork ≡ cond (is_same_fork fork put) (Some v) (get marks fork)
unfolding is_same_fork
got marks put v fork = get-insert fork_cmp_total marks put v fork

at_fork : (marks : DirtyMarks) (put : ForkId) (v : List (Option ℕ)) (fork : ForkId) → fork_marks (insert marks put v) fork ≡ cond (is_same_fork fork put) v (fork_marks marks fork)
at_fork marks put v fork =
    ap (λ (o : Option (List (Option ℕ))). unwrap_or o []) (got marks put v fork)
    ∙ elim (is_same_fork fork put) as (λ s. unwrap_or (cond s (Some v) (get marks fork)) [] ≡ cond s v (fork_marks marks fork)) [ true ↦ refl | false ↦ refl ]

nones : (k i : ℕ) → get_or {A = Option ℕ} (replicate k None) i None ≡ None
nones zero i = refl
nones (suc k) zero = refl
nones (suc k) (suc i) = nones k i

filled : (ms : List (Option ℕ)) (k i : ℕ) → get_or (ms ++ replicate k None) i None ≡ get_or ms i None
filled [] k i = nones k i
filled (m ∷ ms) k zero = refl
filled (m ∷ ms) k (suc i) = filled ms k i

set_mark : (ms : List (Option ℕ)) (block : ℕ) (mark : Option ℕ) (b : ℕ) → get_or (with_mark ms block mark) b None ≡ cond (b == block) mark (get_or ms b None)
set_mark ms block mark b =
    let k = block + 1 - length ms in
    let nothing : Option ℕ = None in
    let all = ms ++ replicate k nothing in
    elim (b == block) as (λ s. (b == block) ≡ s → get_or (slice_set all block mark) b None ≡ cond s mark (get_or ms b None)) [
      | true ↦ λ e. ap (λ (i : ℕ). get_or (slice_set all block mark) i None) (eqb-true b block e) ∙ get_or-set_same all block mark None (omega (arith, length-append ms (replicate k nothing), length-replicate k nothing))
      | false ↦ λ e. get_or-set_other all block b mark None (λ same. true≢false (sym (eq-eqb b block same) ∙ e)) ∙ filled ms k b
    ] refl

-- where the mark of one block was set
pub mark_set : (marks : DirtyMarks) (at : BlockId) (mark : Option ℕ) (fork : ForkId) (b : ℕ)
    → touch_end (insert marks at.fork (with_mark (fork_marks marks at.fork) at.block mark)) fork b ≡ cond (is_same_block (record { fork = fork; block = b }) at) mark (touch_end marks fork b)
mark_set marks at mark fork b =
    let v = with_mark (fork_marks marks at.fork) at.block mark in
    ap (λ (ms : List (Option ℕ)). get_or ms b None) (at_fork marks at.fork v fork)
    ∙ elim (is_same_fork fork at.fork) as (λ s. is_same_fork fork at.fork ≡ s → get_or (cond s v (fork_marks marks fork)) b None ≡ cond (s && (b == at.block)) mark (touch_end marks fork b)) [
      | true ↦ λ same. set_mark (fork_marks marks at.fork) at.block mark b ∙ ap (λ (f : ForkId). cond (b == at.block) mark (touch_end marks f b)) (sym (fork_is fork at.fork same))
      | false ↦ λ apart. refl
    ] refl

cut_marks : (ms : List (Option ℕ)) (n b : ℕ) → get_or (take n ms) b None ≡ cond (nat_le n b) None (get_or ms b None)
cut_marks ms n b =
    elim (nat_le n b) as (λ s. nat_le n b ≡ s → get_or (take n ms) b None ≡ cond s None (get_or ms b None)) [
      | true ↦ λ e. get_or-eq_default (take n ms) None (let h = leb-true n b e in let k = length-take n ms in omega arith)
      | false ↦ λ e. get_or-take n ms b None (leb-false n b e)
    ] refl

-- where the marks of a fork were cut
pub mark_cut : (marks : DirtyMarks) (cut : ForkId) (n : ℕ) (fork : ForkId) (b : ℕ) → touch_end (insert marks cut (take n (fork_marks marks cut))) fork b ≡ cond (is_same_fork fork cut && nat_le n b) None (touch_end marks fork b)
mark_cut marks cut n fork b =
    ap (λ (ms : List (Option ℕ)). get_or ms b None) (at_fork marks cut (take n (fork_marks marks cut)) fork)
    ∙ elim (is_same_fork fork cut) as (λ s. is_same_fork fork cut ≡ s → get_or (cond s (take n (fork_marks marks cut)) (fork_marks marks fork)) b None ≡ cond (s && nat_le n b) None (touch_end marks fork b)) [
      | true ↦ λ same. cut_marks (fork_marks marks cut) n b ∙ ap (λ (f : ForkId). cond (nat_le n b) None (touch_end marks f b)) (sym (fork_is fork cut same))
      | false ↦ λ apart. refl
    ] refl

-- where a fork was made
pub mark_made : (marks : DirtyMarks) (made fork : ForkId) (b : ℕ) → touch_end (insert marks made (fork_marks marks made)) fork b ≡ touch_end marks fork b
mark_made marks made fork b =
    ap (λ (ms : List (Option ℕ)). get_or ms b None) (at_fork marks made (fork_marks marks made) fork)
    ∙ elim (is_same_fork fork made) as (λ s. is_same_fork fork made ≡ s → get_or (cond s (fork_marks marks made) (fork_marks marks fork)) b None ≡ touch_end marks fork b) [
      | true ↦ λ same. ap (λ (f : ForkId). touch_end marks f b) (sym (fork_is fork made same))
      | false ↦ λ apart. refl
    ] refl
