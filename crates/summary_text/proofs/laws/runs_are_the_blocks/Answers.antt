use Rattle.summary_text.proofs.Apart.{runs_have_the_blocks, runs_are_apart}
use Rattle.summary_text.proofs.laws.runs_are_the_blocks.Goals as goal

pub returns-clause-same : goal.returns-clause-same
returns-clause-same c = runs_have_the_blocks

pub returns-clause-apart : goal.returns-clause-apart
returns-clause-apart c = runs_are_apart
