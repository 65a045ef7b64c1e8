use Rattle.std.proofs.Common.{sym, subst}
use Rattle.std.specs.Prelude.{IfSome}
use Rattle.journal.specs.Journal.{IsEndOf}
use Rattle.page_pool.proofs.Ends.{unwritten_of_history}
use Rattle.store_locks.proofs.Goes.{keeps_none}
use Rattle.store_locks.proofs.flush.flush_next.Goals as goal

pub flush_past-requires-clause-place : goal.flush_past-requires-clause-place
flush_past-requires-clause-place g c κs within =
    subst (λ o. IfSome o (IsEndOf c.args.journal.now.pen)) (sym c.in-Some.ensures) (unwritten_of_history g.row.Q c.args.journal.now.pen c.args.part.now c.requires.part.follows).0

pub returns-in-None-clause-wal : goal.returns-in-None-clause-wal
returns-in-None-clause-wal g c = keeps_none g.V.Vault c.args.journal.now c.tip-tip.ensures.known c.tip-tip.ensures.ended
