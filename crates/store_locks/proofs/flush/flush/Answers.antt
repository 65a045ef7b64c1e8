use Rattle.store_locks.proofs.Kept.{end_within}
use Rattle.store_locks.proofs.Goes.{keeps_of}
use Rattle.store_locks.proofs.flush.flush.Goals as goal

pub flush_to-requires-clause-within : goal.flush_to-requires-clause-within
flush_to-requires-clause-within g c κs within = end_within c.args.journal.now.pen c.args.to.0 _ c.tip-tip.ensures.ended.within c.requires.place

pub returns-in-Ok-clause-wal : goal.returns-in-Ok-clause-wal
returns-in-Ok-clause-wal g c =
    keeps_of g.V.Vault c.args.to.0 c.args.journal.now c.flush_to.new.self c.flush_to.result c.tip-tip.ensures.known c.tip-tip.ensures.ended (end_within c.args.journal.now.pen c.args.to.0 _ c.tip-tip.ensures.ended.within c.requires.place)
    c.flush_to.ensures.idle c.flush_to.ensures.flushed c.flush_to.ensures.stands c.flush_to.ensures.left c.flush_to.ensures.frame c.flush_to.ensures.pen c.flush_to.ensures.pages

pub returns-in-Err-clause-wal : goal.returns-in-Err-clause-wal
returns-in-Err-clause-wal g c =
    keeps_of g.V.Vault c.args.to.0 c.args.journal.now c.flush_to.new.self c.flush_to.result c.tip-tip.ensures.known c.tip-tip.ensures.ended (end_within c.args.journal.now.pen c.args.to.0 _ c.tip-tip.ensures.ended.within c.requires.place)
    c.flush_to.ensures.idle c.flush_to.ensures.flushed c.flush_to.ensures.stands c.flush_to.ensures.left c.flush_to.ensures.frame c.flush_to.ensures.pen c.flush_to.ensures.pages
