-- The front is filled.
use Rattle.std.proofs.Common.{arith}
use Rattle.wal_follow.specs.Following.{front_size}
use Rattle.wal_follow.proofs.Behind.{front_filled}
use Rattle.wal_follow.proofs.follower.fill_front.Goals as goal

pub returns-clause-filled : goal.returns-clause-filled
returns-clause-filled c =
    front_filled front_size c.min-count.result c.args.front.now.items c.args.piece.now c.extend_from_slice.new.self.items c.requires (omega (arith, c.min-count.ensures, c.len.ensures)) c.in_ok-extend_from_slice.ensures.items
