use Rattle.std.proofs.Common.{List, ℕ, sym, ap, ◌∙◌, option_map, Option, is_some}
use Rattle.core_machine.specs.Inside.{underway_in}
use Rattle.core_machine.proofs.Showing.{copy_step, found_is_some}
use Rattle.core_machine.proofs.machine.Machine.copy.Goals as goal

pub returns : goal.returns
returns c s shown =
    copy_step c.args.self.now c.set_worker.new.self c.take.new.self s c.args.number c.partition_of-part.result c.args.at.now (underway_in c.in-Some.backup.now) (underway_in c.in-Some-take.backup) c.is_listed.result c.is_within.result c.is_copied.result c.in_ok-is_sent-in-Some.field-0 c.is_some-found.result _ c.page_at-page.result (underway_in c.copy_block.new.self) c.index-self-part.result c.index-self-part-2.result
    c.partition_of-part.ensures.number c.partition_of-part.ensures.below shown (sym c.backup.ensures ∙ ap (option_map (λ b. underway_in b.now)) c.in-Some.is) (sym c.take.ensures.backup ∙ ap (option_map underway_in) c.in-Some-take.is)
    c.is_listed.ensures c.if-not-is_listed.false c.is_within.ensures c.if-not-is_within.false c.is_copied.ensures c.if-is_copied.false (c.in_ok-is_sent-in-Some.ensures s shown) c.if-not-branch.false c.redo-redo.ensures c.take.ensures.others
    (c.is_some-found.ensures ∙ found_is_some _ c.block.result ∙ ap (λ (o : Option (List ℕ)). is_some o) c.block.ensures) c.page_at-page.ensures c.in_ok-copy_block.ensures c.in_ok-set_worker.ensures
