use Rattle.std.proofs.Common.{sym, ap, subst, ◌∙◌}
use Rattle.std.specs.List.Sorted.{IsStrictlySortedBy}
use Rattle.std.specs.Map.Iter.{deref}
use Rattle.std.proofs.lemmas.Map.Iter.{rest_more, rest_all}
use Rattle.page_frames.specs.Framed.{Framed, AreFramed, block_cmp}
use Rattle.page_frames.proofs.Queue.{HasDirty, queue_dirty, queue_sorted, has_rest, sorted_rest, first_of, none_of}
use Rattle.page_frames.proofs.frames.Frames.first_dirty.Goals as goal

pub loop-at-init : goal.loop-at-init
loop-at-init c =
    let m = c.self.inside.queue in
    let begun = c.into_iter-at-iterator.ensures.into_iter_gives ∙ c.keys-at-items.ensures.rest in
    record {
      dirty = subst (HasDirty c.args.self.now) (sym c.into_iter-at-iterator.ensures.into_iter_gives) (queue_dirty c.args.self.now m c.keys-at-items.result (subst AreFramed c.self.view_is c.self.invariant) (sym (ap (λ (f : Framed). f.queue) c.self.view_is)) (λ q. c.keys-at-items.ensures.has q));
      sorted = subst (IsStrictlySortedBy block_cmp) (sym begun) (queue_sorted m c.keys-at-items.ensures.ordered);
    }

pub returns-in-Some-dirty_end-clause-first : goal.returns-in-Some-dirty_end-clause-first
returns-in-Some-dirty_end-clause-first c =
    let more = rest_more deref c.loop-at.at-iterator c.next.new.self c.next.result c.in-Some.at c.in-Some.is c.next.ensures.steps in
    first_of c.args.self.now c.in-Some.at.now c.next.new.self c.in-Some-dirty_end.end
    (subst (HasDirty c.args.self.now) more c.loop-at.invariant.dirty) (subst (IsStrictlySortedBy block_cmp) more c.loop-at.invariant.sorted)
    (sym c.dirty_end.ensures ∙ c.in-Some-dirty_end.is)

pub loop-at-preserved : goal.loop-at-preserved
loop-at-preserved c =
    let more = rest_more deref c.loop-at.at-iterator c.next.new.self c.next.result c.in-Some.at c.in-Some.is c.next.ensures.steps in
    record {
      dirty = has_rest c.args.self.now c.in-Some.at.now c.next.new.self (subst (HasDirty c.args.self.now) more c.loop-at.invariant.dirty) (sym c.dirty_end.ensures ∙ c.in_default.is);
      sorted = sorted_rest c.in-Some.at.now c.next.new.self (subst (IsStrictlySortedBy block_cmp) more c.loop-at.invariant.sorted);
    }

pub returns-clause-none : goal.returns-clause-none
returns-clause-none c e =
    none_of c.args.self.now (subst (HasDirty c.args.self.now) (rest_all deref c.loop-at.at-iterator c.next.new.self c.next.result c.in-None.is c.next.ensures.steps) c.loop-at.invariant.dirty)
