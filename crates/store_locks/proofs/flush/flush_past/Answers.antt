use Rattle.std.proofs.Common.{◌≤◌, arith}
use Rattle.std.proofs.lemmas.Result.{on_ok_weaker}
use Rattle.store_locks.specs.Inside.{written_end}
use Rattle.store_locks.proofs.Kept.{end_within}
use Rattle.store_locks.proofs.Goes.{keeps_none}
use Rattle.store_locks.proofs.flush.flush_past.Goals as goal

pub returns-then-le-clause-wal : goal.returns-then-le-clause-wal
returns-then-le-clause-wal g c = keeps_none g.V.Vault c.args.journal.now c.tip-tip.ensures.known c.tip-tip.ensures.ended

pub returns-clause-reached : goal.returns-clause-reached
returns-clause-reached g c =
    let ended = c.tip-tip.ensures.ended in
    let within : c.args.to.0 ≤ written_end c.args.journal.now = (let e = end_within c.args.journal.now.pen c.args.to.0 _ ended.within c.requires.place in omega (arith, e, ended.end)) in
    on_ok_weaker c.flush_whole.result (λ past. omega (arith, within, past)) c.flush_whole.ensures.reached

pub returns-clause-onward : goal.returns-clause-onward
returns-clause-onward g c =
    let wal = c.flush_whole.ensures.wal in
    on_ok_weaker c.flush_whole.result (λ past. omega (arith, c.requires.marked, wal.flushed, wal.within, past)) c.flush_whole.ensures.reached
