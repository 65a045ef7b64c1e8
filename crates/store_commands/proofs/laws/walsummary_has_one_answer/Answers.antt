use Rattle.store_commands.proofs.OneWalsummary.{one_walsummary}
use Rattle.store_commands.proofs.laws.walsummary_has_one_answer.Goals as goal

pub returns : goal.returns
returns c = one_walsummary c.summaries_are_read_again.ensures.read c.summaries_are_one.ensures.one
