use Rattle.std.proofs.Common.{sym, ap, subst, ◌∙◌, arith}
use Rattle.std.specs.Prelude.{IfSome, Option}
use Rattle.std.specs.Option.{option_map}
use Rattle.std.proofs.lemmas.Result.{on_ok_weaker}
use Rattle.lsn_core.specs.declared.lsn.Lsn.{Lsn}
use Rattle.journal.specs.Journal.{IsEndOf}
use Rattle.page_pool.specs.Room.{blocks_of}
use Rattle.page_pool.proofs.Ends.{room_of_history}
use Rattle.store_locks.proofs.Kept.{none_past}
use Rattle.store_locks.proofs.Goes.{keeps_none}
use Rattle.store_insertion.proofs.room.flush_before.Goals as goal

-- ---- up to the WAL's end

pub returns-then-tip-to-gt-MOST_WAITING-clause-few : goal.returns-then-tip-to-gt-MOST_WAITING-clause-few
returns-then-tip-to-gt-MOST_WAITING-clause-few g c = on_ok_weaker c.flush_whole.result (λ past. omega (arith, past, c.flush_whole.ensures.marked)) c.flush_whole.ensures.reached

pub returns-then-tip-to-gt-MOST_WAITING-clause-reached : goal.returns-then-tip-to-gt-MOST_WAITING-clause-reached
returns-then-tip-to-gt-MOST_WAITING-clause-reached g c =
    let ended = c.tip-tip.ensures.ended in
    on_ok_weaker c.flush_whole.result
    (λ past. none_past _ c.args.journal.now.pen c.args.journal.now.wal.tail.tip.end c.flush_whole.new.mark.to.0 ended.within (omega (arith, ended.end, past)) (room_of_history g.row.Q c.args.journal.now.pen c.args.part.now (blocks_of c.args.op.now) c.room_lsn-newest.ensures.marks c.requires.part.follows))
    c.flush_whole.ensures.reached

-- ---- past what is written

pub flush_past-requires-clause-place : goal.flush_past-requires-clause-place
flush_past-requires-clause-place g c κs within =
    subst (λ o. IfSome o (IsEndOf c.args.journal.now.pen)) (sym (ap (λ (o : Option Lsn). option_map (λ (l : Lsn). l.0) o) (sym c.in-Some.is) ∙ c.room_lsn-newest.ensures.end)) (room_of_history g.row.Q c.args.journal.now.pen c.args.part.now (blocks_of c.args.op.now) c.room_lsn-newest.ensures.marks c.requires.part.follows)

pub returns-in-None-clause-wal : goal.returns-in-None-clause-wal
returns-in-None-clause-wal g c = keeps_none g.V.Vault c.args.journal.now c.tip-tip.ensures.known c.tip-tip.ensures.ended
