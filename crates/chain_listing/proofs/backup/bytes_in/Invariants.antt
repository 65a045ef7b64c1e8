use Rattle.std.proofs.Common.{◌≡◌, length}
use Rattle.chain_listing.specs.Backups.{sent}
use Rattle.chain_listing.proofs.backup.bytes_in.Given as goal

-- the bytes so far, and those of the rows that are still to come
abbrev pub invariant-loop-row : goal.invariant-loop-row
invariant-loop-row l = sent l.bytes l.left ≡ sent 0 l.rows

abbrev pub decreases-loop-row : goal.decreases-loop-row
decreases-loop-row l = length l.left
