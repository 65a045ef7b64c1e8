use Rattle.std.proofs.Common.{◌∙◌}
use Rattle.summary_store.proofs.Expiring.{remove_changes}
use Rattle.summary_store.proofs.expiry.remove_summary.Goals as goal

pub returns-clause-changes : goal.returns-clause-changes
returns-clause-changes g c =
    remove_changes g.V.Vault c.as_bytes.result.now c.args.area.now c.remove.new.self c.remove.result (c.args.sum.now.start.0, c.args.sum.now.end.0, c.as_bytes.ensures ∙ c.in_ok-name.ensures)
    c.remove.ensures.removed c.remove.ensures.memory c.remove.ensures.failed c.remove.ensures.noted c.remove.ensures.tried c.remove.ensures.cause.later
