-- Those who stand behind the same bytes agree.
use Rattle.std.proofs.Common.{ℕ, sym, subst}
use Rattle.follow_laws.specs.Followed.{IsFollowed, FollowingIsOne}
use Rattle.wal_follow.specs.Laws.{FollowersAgree}

pub followers_agree : FollowingIsOne → FollowersAgree
followers_agree law f g fed two =
    let one = two.one in
    let other = two.other in
    let moved = subst (λ (m : ℕ). IsFollowed m f.relseg fed other.rs g.tip g.store) (sym two.mib)
    (subst (λ (r : ℕ). IsFollowed g.span.mib r fed other.rs g.tip g.store) (sym two.relseg) other.followed) in
    let same = law f.span.mib f.relseg fed one.rs other.rs f.tip g.tip f.store g.store one.followed moved in
    (same.1, same.2)
