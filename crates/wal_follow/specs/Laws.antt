-- Followers of one stream, however its bytes came.
use Rattle.std.specs.Prelude.{◌≡◌, ℕ, List}
use Rattle.wal_follow.specs.Following.{Following, StandsBehind}

-- two followers with the same settings, behind the same bytes
pub record AreBehind (f g : Following) (fed : List ℕ) : Type 0 where
  pub mib : f.span.mib ≡ g.span.mib
  pub relseg : f.relseg ≡ g.relseg
  pub one : StandsBehind f fed
  pub other : StandsBehind g fed

-- have one tip and one store
abbrev pub FollowersAgree : Type 0
FollowersAgree =
    (f g : Following) (fed : List ℕ) → AreBehind f g fed → (f.tip ≡ g.tip) × (f.store ≡ g.store)
