-- A stream is followed, or refused, in one way.
use Rattle.follow_laws.proofs.One.{following_is_one}
use Rattle.follow_laws.proofs.Apart.{followed_or_refused, refused_in_one_way}
use Rattle.follow_laws.proofs.following_is_one.Goals as goal

pub returns-clause-one : goal.returns-clause-one
returns-clause-one c = following_is_one

pub returns-clause-apart : goal.returns-clause-apart
returns-clause-apart c = followed_or_refused

pub returns-clause-refused : goal.returns-clause-refused
returns-clause-refused c = refused_in_one_way
