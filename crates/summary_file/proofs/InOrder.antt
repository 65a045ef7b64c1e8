-- Forks in order, each with its blocks in order and with a limit or a block.
use Rattle.std.proofs.Common.{List, [], ◌∷◌, map, refl}
use Rattle.std.specs.List.{AllByRecursion}
use Rattle.std.specs.List.Sorted.{IsStrictlySortedBy}
use Rattle.std.specs.Ordering.{nat_cmp}
use Rattle.lsn_core.specs.Store.{fork_cmp}
use Rattle.wal_summary.specs.Summary.{AreSorted, IsForkSummary}
use Rattle.wal_summary.specs.declared.summary.ForkSummary.{ForkSummary}
use Rattle.summary_file.specs.File.{fork_numbers, IsWritableFork, ForkHasRoom}
use Rattle.summary_file.specs.Inside.{AreForksOf}
use Rattle.summary_file.specs.declared.numbers.ForkNumbers.{ForkNumbers}

each_of : (ns : List ForkNumbers) (fs : List ForkSummary) → AreForksOf ns fs → AllByRecursion IsForkSummary fs
each_of [] [] all = tt
each_of [] (f ∷ fs) all = absurd all
each_of (n ∷ ns) [] all = absurd all
each_of (n ∷ ns) (f ∷ fs) all = (all.0.sorted, each_of ns fs all.1)

pub are_sorted : (ns : List ForkNumbers) (fs : List ForkSummary) → AreForksOf ns fs → IsStrictlySortedBy fork_cmp (map (λ f. f.fork) fs) → AreSorted fs
are_sorted ns fs all order = record { forks = order; each = each_of ns fs all }

forks_of : (fs : List ForkSummary) → AllByRecursion IsForkSummary fs → AllByRecursion IsWritableFork fs → AllByRecursion ForkHasRoom fs → AreForksOf (map fork_numbers fs) fs
forks_of [] each writable room = tt
forks_of (f ∷ fs) each writable room = (
  record {
    some_db = room.0.some_db;
    some_rel = room.0.some_rel;
    sorted = each.0;
    writable = writable.0;
    numbers = refl;
  },
  forks_of fs each.1 writable.1 room.1,
)

pub forks_of_written : (fs : List ForkSummary) → AreSorted fs → AllByRecursion IsWritableFork fs → AllByRecursion ForkHasRoom fs → AreForksOf (map fork_numbers fs) fs
forks_of_written fs sorted writable room = forks_of fs sorted.each writable room

pub order_of : (fs : List ForkSummary) → AreSorted fs → IsStrictlySortedBy fork_cmp (map (λ f. f.fork) fs)
order_of fs sorted = sorted.forks

-- the blocks of each fork rise
rise_of : (fs : List ForkSummary) → AllByRecursion IsForkSummary fs → AllByRecursion (λ f. IsStrictlySortedBy nat_cmp f.blocks) fs
rise_of [] each = tt
rise_of (f ∷ fs) each = (each.0.blocks, rise_of fs each.1)

pub blocks_rise : (fs : List ForkSummary) → AreSorted fs → AllByRecursion (λ f. IsStrictlySortedBy nat_cmp f.blocks) fs
blocks_rise fs sorted = rise_of fs sorted.each
