use Rattle.std.proofs.Common.{sym, subst, arith}
use Rattle.std.specs.Prelude.{IfSome}
use Rattle.std.proofs.lemmas.Result.{on_ok_weaker}
use Rattle.journal.specs.Journal.{IsEndOf}
use Rattle.page_pool.proofs.Ends.{unwritten_of_history}
use Rattle.store_locks.proofs.Kept.{none_past}
use Rattle.store_locks.proofs.Goes.{keeps_none}
use Rattle.store_locks.proofs.Checked.{history_within}
use Rattle.store_locks.proofs.flush.flush_newest.Goals as goal

-- ---- up to the WAL's end

pub returns-then-le-clause-reached : goal.returns-then-le-clause-reached
returns-then-le-clause-reached g c =
    let ended = c.tip-tip.ensures.ended in
    on_ok_weaker c.flush_whole.result
    (λ past. none_past _ c.args.journal.now.pen c.args.journal.now.wal.tail.tip.end c.flush_whole.new.mark.to.0 ended.within (omega (arith, ended.end, past)) (unwritten_of_history g.row.Q c.args.journal.now.pen c.args.part.now c.requires.part.follows).1)
    c.flush_whole.ensures.reached

pub returns-then-le-clause-redo : goal.returns-then-le-clause-redo
returns-then-le-clause-redo g c =
    let within = history_within c.args.journal.now.wal.tail.mib c.args.journal.now.pen in
    on_ok_weaker c.flush_whole.result (λ past. omega (arith, c.requires.late, within, past)) c.flush_whole.ensures.reached

-- ---- past what isn't written

pub flush_past-requires-clause-place : goal.flush_past-requires-clause-place
flush_past-requires-clause-place g c κs within =
    subst (λ o. IfSome o (IsEndOf c.args.journal.now.pen)) (sym c.in-Some.ensures) (unwritten_of_history g.row.Q c.args.journal.now.pen c.args.part.now c.requires.part.follows).1

pub returns-in-None-clause-wal : goal.returns-in-None-clause-wal
returns-in-None-clause-wal g c = keeps_none g.V.Vault c.args.journal.now c.tip-tip.ensures.known c.tip-tip.ensures.ended
