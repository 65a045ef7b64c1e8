use Rattle.std.proofs.Common.{ap, ◌∙◌, Ordering}
use Rattle.std.specs.Ordering.{is_lt}
use Rattle.lsn_core.specs.declared.ids.ForkId.{ForkId}
use Rattle.lsn_core.proofs.ForkOrder.{derived_is}
use Rattle.summary_file.proofs.forks.is_below.Goals as goal

pub returns : goal.returns
returns c =
    c.is_lt.ensures ∙ ap is_lt c.cmp.ensures ∙ ap (λ (f : ForkId → ForkId → Ordering). is_lt (f c.args.a.now.fork c.args.b.now.fork)) derived_is
