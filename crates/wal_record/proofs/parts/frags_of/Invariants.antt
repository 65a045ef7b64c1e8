use Rattle.std.proofs.Common.{◌≡◌, ℕ, ◌≤◌, length}
use Rattle.wal_record.specs.Parts.{frags_at}
use Rattle.wal_record.proofs.Parting.{with_frags}
use Rattle.wal_record.proofs.parts.frags_of.Given as goal

abbrev pub invariant-loop-rest : goal.invariant-loop-rest
invariant-loop-rest l = (n : ℕ) × ((length l.rest ≤ n) × (with_frags l.list.items (frags_at n l.rest) ≡ frags_at (length l.bytes) l.bytes))

abbrev pub decreases-loop-rest : goal.decreases-loop-rest
decreases-loop-rest l = length l.rest
