-- The log of a WAL that was found ends with its history, which it tells where its area does.
use Rattle.std.proofs.Common.{sym, subst}
use Rattle.vault.specs.Frame.{IsDurable}
use Rattle.wal_writer.specs.Log.{Log, IsLog, log_at}
use Rattle.journal.specs.Journal.{EndsWith, IsTold}
use Rattle.store_areas.proofs.Readings.{found_ended, found_tells}
use Rattle.store_lifecycle.proofs.beginning.attach.Goals as goal

pub new-journal-requires-clause-ended : goal.new-journal-requires-clause-ended
new-journal-requires-clause-ended g c κs within =
    subst (λ (log : Log). EndsWith log c.args.pen) (sym c.attach-wal.ensures.log)
    (found_ended (g.V.Vault.files c.args.area) c.args.settings c.args.pen c.args.pages c.args.tip c.requires.found)

pub new-journal-requires-clause-kept : goal.new-journal-requires-clause-kept
new-journal-requires-clause-kept g c κs within told =
    subst (λ (log : Log). IsTold log (g.V.Vault.files c.attach-wal.result.area) c.args.pen c.args.pages) (sym c.attach-wal.ensures.log)
    (subst (λ (v : g.row.V.Denot). IsTold (log_at c.args.settings c.args.tip) (g.V.Vault.files v) c.args.pen c.args.pages) (sym c.attach-wal.ensures.area)
    (found_tells (g.V.Vault.files c.args.area) c.args.settings c.args.pen c.args.pages c.args.tip (subst IsLog c.attach-wal.ensures.log c.tip-tip.ensures.known) (c.requires.told told) c.requires.found))

pub new-journal-requires-clause-rest : goal.new-journal-requires-clause-rest
new-journal-requires-clause-rest g c κs within still =
    subst (λ (v : g.row.V.Denot). IsDurable (g.V.Vault.files v) (g.V.Vault.past v)) (sym c.attach-wal.ensures.area) c.requires.durable

pub returns-clause-known : goal.returns-clause-known
returns-clause-known g c = subst IsLog c.attach-wal.ensures.log c.tip-tip.ensures.known
