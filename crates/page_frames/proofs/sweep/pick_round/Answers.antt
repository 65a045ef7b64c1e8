use Rattle.std.proofs.Common.{◌++◌, List, take, ap, sym, ◌∙◌}
use Rattle.std.specs.declared.ops.Bound.TheVariants.{Included, Excluded, Unbounded}
use Rattle.std.specs.BTreeMap.Range.{entries_between}
use Rattle.std.specs.FinMap.{entries}
use Rattle.lsn_core.specs.declared.ids.BlockId.{BlockId}
use Rattle.page_frames.specs.Framed.{block_cmp}
use Rattle.page_frames.specs.Inside.{held_in}
use Rattle.page_frames.specs.Sweep.{picked}
use Rattle.page_frames.proofs.Sweeping.{take_again, picked-append}
use Rattle.page_frames.proofs.sweep.pick_round.Goals as goal

pub returns-clause-picked : goal.returns-clause-picked
returns-clause-picked c =
    let es = entries (held_in c.args.frames.now) in
    let behind = entries_between block_cmp (Excluded c.args.hand.now) Unbounded es in
    let before = entries_between block_cmp Unbounded (Included c.args.hand.now) es in
    let p = picked c.args.apart.now c.args.used in
    c.pick_before.ensures.picked
    ∙ ap (λ (xs : List BlockId). take c.args.count (xs ++ p before)) c.pick_behind.ensures.picked
    ∙ take_again c.args.count c.args.few.now (p behind) (p before)
    ∙ ap (λ (xs : List BlockId). take c.args.count (c.args.few.now ++ xs)) (sym (picked-append c.args.apart.now c.args.used behind before))
