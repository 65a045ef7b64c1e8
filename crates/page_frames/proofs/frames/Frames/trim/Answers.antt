use Rattle.std.proofs.Common.{◌≡◌, ◌≤◌, arith, None, sym, ap, subst, ◌∙◌}
use Rattle.std.specs.FinMap.{remove, len}
use Rattle.page_frames.specs.Framed.{Framed, BlockSet, AreFramed}
use Rattle.page_frames.specs.Inside.{framed_in, dirty_end}
use Rattle.page_frames.proofs.Orders.{block_cmp_total}
use Rattle.page_frames.proofs.Keys.{count_no_more}
use Rattle.page_frames.proofs.Holding.{none_is}
use Rattle.page_frames.proofs.Framing.{framed_trimmed}
use Rattle.page_frames.proofs.frames.Frames.trim.Goals as goal

pub invariant_of-self : goal.invariant_of-self
invariant_of-self c =
    let i = c.self-in-loop.inside in
    let next : Framed = framed_in i.lengths i.frames c.leave_queue.new.queue i.hand i.limit in
    let is = c.self-in-loop.view_is in
    let clean : dirty_end c.loop.self.lengths c.loop.self.held c.in-Some.at ≡ None = sym c.dirty_end.ensures ∙ none_is c.dirty_end.result (sym c.is_some.ensures ∙ c.if-is_some.false) in
    framed_trimmed c.loop.self next c.in-Some.at (subst AreFramed is c.self-in-loop.invariant) (ap (λ (f : Framed). f.lengths) is) (ap (λ (f : Framed). f.limit) is) (ap (λ (f : Framed). f.held) is)
    (c.leave_queue.ensures ∙ ap (λ (f : Framed). remove f.queue c.in-Some.at) is) clean

pub loop-preserved : goal.loop-preserved
loop-preserved c =
    let is = c.self-in-loop.view_is in
    let less = subst (λ (q : BlockSet). len q ≤ len c.loop.self.queue) (sym (c.leave_queue.ensures ∙ ap (λ (f : Framed). remove f.queue c.in-Some.at) is)) (count_no_more block_cmp_total c.loop.self.queue c.in-Some.at) in
    let before = c.loop.invariant.shorter in
    record {
      shorter = omega (arith, less, before);
      lengths = ap (λ (f : Framed). f.lengths) is ∙ c.loop.invariant.lengths;
      slots = ap (λ (f : Framed). f.slots) is ∙ c.loop.invariant.slots;
      held = ap (λ (f : Framed). f.held) is ∙ c.loop.invariant.held;
      limit = ap (λ (f : Framed). f.limit) is ∙ c.loop.invariant.limit;
    }
