use Rattle.std.proofs.Common.{◌≡◌, None, length}
use Rattle.std.specs.Option.{option_map}
use Rattle.chain_listing.specs.Chains.{newest_in}
use Rattle.chain_listing.proofs.chains.newest_in.Given as goal

-- the newest so far, and the backups that are still to come
abbrev pub invariant-loop-last : goal.invariant-loop-last
invariant-loop-last l = newest_in l.backups l.upto.0 (option_map (λ b. b.now) l.newest) l.left ≡ newest_in l.backups l.upto.0 None l.backups

abbrev pub decreases-loop-last : goal.decreases-loop-last
decreases-loop-last l = length l.left
