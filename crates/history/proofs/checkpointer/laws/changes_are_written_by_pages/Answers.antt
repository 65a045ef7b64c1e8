use Rattle.history.proofs.checkpointer.Pages.{by_pages, have_pages}
use Rattle.history.proofs.checkpointer.laws.changes_are_written_by_pages.Goals as goal

pub returns-clause-written : goal.returns-clause-written
returns-clause-written c = by_pages

pub returns-clause-fit : goal.returns-clause-fit
returns-clause-fit c = have_pages
