use Rattle.recovery.proofs.Replays.{recovers}
use Rattle.recovery.proofs.replaying.recover.Goals as goal

pub returns-clause-answer : goal.returns-clause-answer
returns-clause-answer g c =
    recovers g.V.Vault g.P.Pages _ _ _ c.args.settings.now c.args.begin c.args.upto c.args.counted c.args.wal.now c.redo_from.new.wal c.args.target.now c.redo_from.new.target c.redo_from.result c.redo_from.ensures.answer
