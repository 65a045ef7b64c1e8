use Rattle.std.proofs.Common.{◌≡◌, ◌+◌, length}
use Rattle.chain_check.specs.Chain.{AreLinked, IsFirstUnlinked}
use Rattle.chain_check.specs.declared.chain.ChainRefusal.{ChainRefusal}
use Rattle.chain_check.proofs.chain.check_all_later.Given as goal

-- each member so far is linked to the one before, and so many there are
abbrev pub invariant-loop-member : goal.invariant-loop-member
invariant-loop-member l = record {
  count : l.place + length l.left ≡ length l.later + 1;
  first : (r : ChainRefusal) → IsFirstUnlinked l.place l.prior l.left r → IsFirstUnlinked 1 l.first l.later r;
  all : AreLinked l.prior l.left → AreLinked l.first l.later;
}

abbrev pub decreases-loop-member : goal.decreases-loop-member
decreases-loop-member l = length l.left
