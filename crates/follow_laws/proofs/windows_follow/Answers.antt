-- Windows follow.
use Rattle.follow_laws.proofs.Windowed.{shows_found, follows, refuses}
use Rattle.follow_laws.proofs.windows_follow.Goals as goal

pub returns-clause-follow : goal.returns-clause-follow
returns-clause-follow c = follows c.windows_show_the_end.ensures

pub returns-clause-refuse : goal.returns-clause-refuse
returns-clause-refuse c = refuses c.windows_show_the_end.ensures

pub returns-clause-show : goal.returns-clause-show
returns-clause-show c = shows_found c.windows_show_the_end.ensures
