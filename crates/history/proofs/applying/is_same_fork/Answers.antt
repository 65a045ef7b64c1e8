use Rattle.std.proofs.Common.{ap, ◌∙◌}
use Rattle.std.specs.declared.cmp.Ordering.{Ordering}
use Rattle.std.specs.Ordering.{is_eq}
use Rattle.lsn_core.specs.declared.ids.ForkId.{ForkId}
use Rattle.lsn_core.proofs.ForkOrder.{derived_is}
use Rattle.history.specs.Apply.{is_same_fork}
use Rattle.history.proofs.applying.is_same_fork.Goals as goal

pub returns : goal.returns
unfolding is_same_fork
returns c = c.is_eq.ensures ∙ ap is_eq (c.cmp.ensures ∙ ap (λ (R : ForkId → ForkId → Ordering). R c.args.one.now c.args.other.now) derived_is)
