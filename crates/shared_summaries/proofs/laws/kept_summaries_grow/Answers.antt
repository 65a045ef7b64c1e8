use Rattle.shared_summaries.proofs.Grown.{runs_begin_grown, publishing_grows, gaps_are_old}
use Rattle.shared_summaries.proofs.laws.kept_summaries_grow.Goals as goal

pub returns-clause-begins : goal.returns-clause-begins
returns-clause-begins c = runs_begin_grown

pub returns-clause-grows : goal.returns-clause-grows
returns-clause-grows c = publishing_grows

pub returns-clause-gaps : goal.returns-clause-gaps
returns-clause-gaps c = gaps_are_old
