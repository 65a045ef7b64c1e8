use Rattle.store_commands.proofs.FollowedOut.{follows_as_replay}
use Rattle.store_commands.proofs.follow_stream.follow_does_as_replay.Goals as goal

pub returns : goal.returns
returns c = follows_as_replay
