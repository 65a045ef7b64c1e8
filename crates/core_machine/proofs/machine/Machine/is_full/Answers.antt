use Rattle.std.proofs.Common.{◌≡◌, Some, None, ap, sym, subst, ◌∙◌}
use Rattle.std.specs.Prelude.{length, nat_lt, if◌then◌else◌}
use Rattle.lsn_core.specs.Store.{Store}
use Rattle.history.specs.declared.op.Op.{Op}
use Rattle.store_core.specs.declared.reply.Refusal.TheVariants.{StoreFull}
use Rattle.store_core.specs.Refusals.{part_of_op, frames_for, judged_op, judged_total, most_pages}
use Rattle.store_core.specs.InMemory.{done_items}
use Rattle.core_machine.proofs.Accepting.{total_is}
use Rattle.core_machine.proofs.machine.Machine.is_full.Goals as goal

pub returns-in_ok-total-in-Change : goal.returns-in_ok-total-in-Change
returns-in_ok-total-in-Change c s shown part judged =
    let items = c.in-Change.items in
    subst (λ (o : Op). judged_total s o ≡ (if nat_lt most_pages c.in_ok-total-in-Change.total then Some (StoreFull (length s.history)) else None)) (sym c.in-Change.is)
    (total_is c.args.self.now s c.args.part c.in_ok-total-in-Change.total c.index-self-part.result items c.do_items.new.pages shown (part ∙ ap part_of_op c.in-Change.is) c.requires.below
    (subst (λ (o : Op). judged_op (length s.history) (frames_for s o) o ≡ None) c.in-Change.is judged)
    (c.in_ok-do_items-in-Change.ensures ∙ ap (λ (x : Store). done_items 0 x c.as_slice.result.now) c.in_ok-pages-in-Change.ensures ∙ ap (done_items 0 _) c.as_slice.ensures) (c.in_ok-total-in-Change.ensures s shown))
