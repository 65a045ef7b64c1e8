use Rattle.std.proofs.Common.{ap, ◌∙◌, arith}
use Rattle.lsn_core.specs.Tip.{Tip}
use Rattle.store_locks.proofs.Goes.{keeps_of}
use Rattle.store_locks.proofs.flush.flush_whole.Goals as goal

pub returns-in-Ok-clause-wal : goal.returns-in-Ok-clause-wal
returns-in-Ok-clause-wal g c =
    let end = ap (λ (t : Tip). t.end) (c.tip.view_is ∙ c.tip-tip.ensures.tip) in
    keeps_of g.V.Vault c.tip.inside.end.0 c.args.journal.now c.flush_to-flushed.new.self c.flush_to-flushed.result c.tip-tip.ensures.known c.tip-tip.ensures.ended (omega (arith, end))
    c.flush_to-flushed.ensures.idle c.flush_to-flushed.ensures.flushed c.flush_to-flushed.ensures.stands c.flush_to-flushed.ensures.left c.flush_to-flushed.ensures.frame c.flush_to-flushed.ensures.pen c.flush_to-flushed.ensures.pages

pub returns-in-Err-clause-wal : goal.returns-in-Err-clause-wal
returns-in-Err-clause-wal g c =
    let end = ap (λ (t : Tip). t.end) (c.tip.view_is ∙ c.tip-tip.ensures.tip) in
    keeps_of g.V.Vault c.tip.inside.end.0 c.args.journal.now c.flush_to-flushed.new.self c.flush_to-flushed.result c.tip-tip.ensures.known c.tip-tip.ensures.ended (omega (arith, end))
    c.flush_to-flushed.ensures.idle c.flush_to-flushed.ensures.flushed c.flush_to-flushed.ensures.stands c.flush_to-flushed.ensures.left c.flush_to-flushed.ensures.frame c.flush_to-flushed.ensures.pen c.flush_to-flushed.ensures.pages

pub returns-in-Ok-clause-reached : goal.returns-in-Ok-clause-reached
returns-in-Ok-clause-reached g c =
    let end = ap (λ (t : Tip). t.end) (c.tip.view_is ∙ c.tip-tip.ensures.tip) in
    omega (arith, end, c.tip-tip.ensures.ended.end, c.in-Ok.ensures.reached)
