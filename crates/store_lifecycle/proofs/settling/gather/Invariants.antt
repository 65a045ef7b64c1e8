use Rattle.std.proofs.Common.{◌≡◌, List, ◌++◌, length}
use Rattle.std.specs.List.{All}
use mathlib.Core.List.{IsPrefix}
use Rattle.store_locks.specs.Seen.{Seen}
use Rattle.shared_store.specs.Shared.{CountsNoMore}
use Rattle.store_locks.specs.Locked.{gathered}
use Rattle.store_lifecycle.proofs.settling.gather.Given as goal

-- the passes that are gone were taken in
abbrev pub invariant-loop-pass : goal.invariant-loop-pass
invariant-loop-pass g l =
    (gone : List Seen) × (l.passes.items ++ gone ≡ l.fn.passes.items) × (l.desk ≡ l.fn.desk)
    × (l.all ≡ gathered l.fn.all gone)
    × All (λ (p : Seen). IsPrefix p.list l.fn.desk) gone
    × All (CountsNoMore l.fn.desk) gone

abbrev pub decreases-loop-pass : goal.decreases-loop-pass
decreases-loop-pass g l = length l.passes.items
