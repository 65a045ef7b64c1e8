use Rattle.std.proofs.Common.{rules, ◌≡◌, ◌++◌, [], List, take, length, arith, ap, sym, ◌∙◌}
use Rattle.std.specs.declared.ops.Bound.TheVariants.{Excluded, Unbounded}
use Rattle.std.specs.Map.Iter.{deref_pair}
use Rattle.std.proofs.lemmas.Map.Iter.{rest_all}
use Rattle.lsn_core.specs.declared.ids.BlockId.{BlockId}
use Rattle.page_frames.specs.declared.frames.Frame.{Frame}
use Rattle.page_frames.proofs.Sweeping.{goers, picks_all, take_full, take_few}
use Rattle.page_frames.proofs.sweep.pick_behind.Goals as goal

pub returns-then-len-count-clause-picked : goal.returns-then-len-count-clause-picked
returns-then-len-count-clause-picked c =
    let all = picks_all c.args.apart.now c.args.used (Excluded c.args.hand.now) Unbounded c.args.frames.now c.into_iter-at-iterator.result c.range-at-items.ensures.ordered (c.into_iter-at-iterator.ensures.into_iter_gives ∙ c.range-at-items.ensures.between (search rules)) in
    let full : length c.loop-at.few ≡ c.args.count = omega (arith, c.if-len-count.true, c.len.ensures.len, c.loop-at.invariant.few) in
    sym (take_full c.args.count c.loop-at.few (goers c.args.apart.now c.args.used c.loop-at.at-iterator) full) ∙ c.loop-at.invariant.rest
    ∙ ap (λ (xs : List BlockId). take c.args.count (c.args.few.now ++ xs)) all

pub returns-clause-picked : goal.returns-clause-picked
returns-clause-picked c =
    let all = picks_all c.args.apart.now c.args.used (Excluded c.args.hand.now) Unbounded c.args.frames.now c.into_iter-at-iterator.result c.range-at-items.ensures.ordered (c.into_iter-at-iterator.ensures.into_iter_gives ∙ c.range-at-items.ensures.between (search rules)) in
    let none : c.loop-at.at-iterator ≡ [] = rest_all deref_pair c.loop-at.at-iterator c.next.new.self c.next.result c.in-None.is c.next.ensures.steps in
    sym (ap (λ (es : List (BlockId × Frame)). take c.args.count (c.loop-at.few ++ goers c.args.apart.now c.args.used es)) none ∙ take_few c.args.count c.loop-at.few c.loop-at.invariant.few) ∙ c.loop-at.invariant.rest
    ∙ ap (λ (xs : List BlockId). take c.args.count (c.args.few.now ++ xs)) all
