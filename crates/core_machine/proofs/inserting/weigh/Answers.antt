use Rattle.std.proofs.Common.{sym, ◌∙◌}
use Rattle.store_core.proofs.Judged.{judged-fit}
use Rattle.core_machine.proofs.inserting.weigh.Goals as goal

pub op_kind-requires : goal.op_kind-requires
op_kind-requires c = judged-fit c.args.entries c.args.frames.now c.args.command.now (sym (sym c.in-None.is ∙ c.in_ok-refusal.ensures))
