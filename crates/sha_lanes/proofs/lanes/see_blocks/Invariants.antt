use Rattle.std.proofs.Common.{◌≤◌, ◌++◌, ◌*◌, ◌<◌, ℕ, List, [], take, length}
use Rattle.sha2.specs.Sha256.{IsAbsorbed, initial_hash_256}
use Rattle.sha_lanes.specs.Lanes.{IsHashOf, lane, of_four}
use Rattle.sha_lanes.proofs.lanes.see_blocks.Given as goal

abbrev pub invariant-blocks-2 : goal.invariant-blocks-2
invariant-blocks-2 l = (64 * l.i ≤ length l.a) × ((j : ℕ) (m : List ℕ) → j < 4 → IsHashOf (lane j l.fn.state) m
    → IsAbsorbed initial_hash_256 (lane j l.state) [] (m ++ take (64 * l.i) (of_four l.a l.b l.c l.d j)))
