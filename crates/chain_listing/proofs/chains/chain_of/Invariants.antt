use Rattle.std.proofs.Common.{◌≡◌, ◌≤◌}
use Rattle.chain_listing.specs.Chains.{chain_behind, chain_of}
use Rattle.chain_listing.proofs.chains.chain_of.Given as goal

-- the members so far stand behind those that are still to come
abbrev pub invariant-loop-left : goal.invariant-loop-left
invariant-loop-left l = record {
  most : l.left ≤ 64;
  chain : chain_behind l.left l.backups l.names.items l.member ≡ chain_of l.backups l.last;
}

abbrev pub decreases-loop-left : goal.decreases-loop-left
decreases-loop-left l = l.left
