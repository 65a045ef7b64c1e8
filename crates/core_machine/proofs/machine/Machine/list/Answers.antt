use Rattle.std.proofs.Common.{sym, ap, ◌∙◌, option_map}
use Rattle.core_machine.specs.Inside.{underway_in}
use Rattle.core_machine.proofs.Showing.{list_step}
use Rattle.core_machine.proofs.machine.Machine.list.Goals as goal

pub returns : goal.returns
returns c s shown =
    list_step c.args.self.now c.set_worker.new.self c.take.new.self s c.args.number c.args.part (underway_in c.in-Some.backup.now) (underway_in c.in-Some-take.backup) c.is_listed.result _ c.in_ok-lengths.lengths (underway_in c.list.new.self) c.index-self-part.result
    c.requires shown (sym c.backup.ensures ∙ ap (option_map (λ b. underway_in b.now)) c.in-Some.is) (sym c.take.ensures.backup ∙ ap (option_map underway_in) c.in-Some-take.is)
    c.is_listed.ensures c.if-is_listed.false c.redo-redo.ensures c.take.ensures.others c.in_ok-lengths.ensures.0 c.in_ok-lengths.ensures.1 c.in_ok-set_worker.ensures
