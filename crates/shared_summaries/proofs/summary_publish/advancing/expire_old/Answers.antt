use Rattle.vault.proofs.Changed.{changes_on}
use Rattle.summary_store.specs.Expiry.{IsSummaryName}
use Rattle.shared_summaries.proofs.summary_publish.Frames.{sync_changes}
use Rattle.shared_summaries.proofs.summary_publish.Partly.{still_durable}
use Rattle.shared_summaries.proofs.summary_publish.advancing.expire_old.Goals as goal

pub returns-in-Ok-eq0-clause-durable : goal.returns-in-Ok-eq0-clause-durable
returns-in-Ok-eq0-clause-durable g c = still_durable g.V.Vault c.args.limit c.args.area.now c.expire.new.area c.args.kept.now.items c.expire.new.kept.items c.in-Ok-eq0.field-0 c.in-Ok-eq0.ensures.expired c.in-Ok-eq0.field-0-test

pub returns-in-Ok-sync-clause-changes : goal.returns-in-Ok-sync-clause-changes
returns-in-Ok-sync-clause-changes g c = changes_on g.V.Vault IsSummaryName c.args.area.now c.expire.new.area c.sync.new.self c.in-Ok.ensures.changes
    (sync_changes g.V.Vault c.expire.new.area c.sync.new.self c.sync.result c.sync.ensures.same c.sync.ensures.noted c.sync.ensures.tried c.sync.ensures.cause.later)
