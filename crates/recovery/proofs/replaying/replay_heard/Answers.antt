-- Over the empty store a replay of all entries is that of the whole WAL.
use Rattle.recovery.proofs.Replays.{replays}
use Rattle.recovery.proofs.replaying.replay_heard.Goals as goal

pub returns-clause-answer : goal.returns-clause-answer
returns-clause-answer g c =
    replays g.V.Vault g.P.Pages g.L.Listener c.args.settings.now c.args.upto c.none.result c.args.wal.now c.redo_from.new.wal c.args.target.now c.redo_from.new.target c.args.listener.now c.redo_from.new.listener c.redo_from.result c.none.ensures c.redo_from.ensures.answer
