-- So many entries more are counted.
use Rattle.std.proofs.Common.{◌≡◌, ap, arith}
use Rattle.wal_follow.specs.declared.follower.Follower.TheInside.{Inside}
use Rattle.wal_follow.specs.Following.{Following}
use Rattle.wal_follow.proofs.follower.Follower.feed.Goals as goal

pub returns-in-Ok-clause-fed : goal.returns-in-Ok-clause-fed
returns-in-Ok-clause-fed c fed is =
    let goes = c.in-Ok.ensures.follows fed is in
    let later = goes.later in
    let old = ap (λ (f : Inside). f.tip.count) c.self-inside.view_is in
    let new = ap (λ (f : Inside). f.tip.count) c.self-inside-2.view_is in
    let before : c.self.inside.tip.count ≡ c.args.self.now.tip.count = ap (λ (f : Following). f.tip.count) c.self.view_is in
    let behind : c.self-2.inside.tip.count ≡ c.take_piece.new.self.tip.count = ap (λ (f : Following). f.tip.count) c.self-2.view_is in
    record { goes = goes; counted = omega (arith, later, old, new, before, behind, c.saturating_sub.ensures) }
