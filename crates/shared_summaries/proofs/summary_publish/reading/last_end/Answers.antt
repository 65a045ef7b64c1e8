use Rattle.shared_summaries.proofs.summary_publish.Ranges.{last_is}
use Rattle.shared_summaries.proofs.summary_publish.reading.last_end.Goals as goal

pub returns-in-Some : goal.returns-in-Some
returns-in-Some c = last_is c.args.piece.now c.args.at.0 c.in-Some.rec.now c.in-Some.ensures.item.3.0 c.in-Some.ensures.item.1
