use Rattle.std.proofs.Common.{◌≡◌, [], length}
use Rattle.chain_listing.specs.Folders.{folders_in}
use Rattle.chain_listing.proofs.reading.folders_in.Given as goal

-- the folders so far, and those of the names that are still to come
abbrev pub invariant-loop-name : goal.invariant-loop-name
invariant-loop-name l = folders_in l.folders.items l.left ≡ folders_in [] l.names

abbrev pub decreases-loop-name : goal.decreases-loop-name
decreases-loop-name l = length l.left
