-- Followers agree.
use Rattle.wal_follow.proofs.Agree.{followers_agree}
use Rattle.wal_follow.proofs.laws.followers_agree.Goals as goal

pub returns : goal.returns
returns c = followers_agree c.following_is_one.ensures.one
