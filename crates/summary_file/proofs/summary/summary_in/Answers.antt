use Rattle.std.proofs.Common.{ℕ, ◌+◌, ◌<◌, ◌≡◌, false, List, Option, Some, length, get_or, subst}
use Rattle.std.specs.Global.{Vec}
use Rattle.std.specs.List.{AllAdjacentBelow}
use Rattle.std.specs.Option.{option_map}
use Rattle.std.specs.Ordering.{is_lt}
use Rattle.lsn_core.specs.Store.{fork_cmp}
use Rattle.wal_summary.specs.declared.summary.ForkSummary.{ForkSummary}
use Rattle.summary_file.specs.Inside.{AreForksOf, ForksAnswer}
use Rattle.summary_file.specs.declared.numbers.ForkNumbers.{ForkNumbers}
use Rattle.summary_file.proofs.Rising.{Neighbours}
use Rattle.summary_file.proofs.Decoding.{out_of_order, in_order}
use Rattle.summary_file.proofs.summary.summary_in.Goals as goal

-- the forks that were found are those of the numbers
found : (ns : List ForkNumbers) (list : Vec ForkNumbers) (o : Option (Vec ForkSummary)) (forks : Vec ForkSummary) → list.items ≡ ns → o ≡ Some forks → ForksAnswer list.items (option_map (λ forks. forks.items) o) → AreForksOf ns forks.items
found ns list o forks e is answer =
    subst (λ (l : List ForkNumbers). AreForksOf l forks.items) e (subst (λ (p : Option (Vec ForkSummary)). ForksAnswer list.items (option_map (λ forks. forks.items) p)) is answer)

pub returns-then-not-are_in_order : goal.returns-then-not-are_in_order
returns-then-not-are_in_order c =
    let forks = found c.args.numbers.forks c.into_vec.result c.in_ok-forks.field-0 c.in-Some.forks c.into_vec.ensures c.in-Some.is c.in_ok-forks.ensures in
    let unordered = subst (λ (l : List ForkSummary). (k : ℕ) × (k + 1 < length l) × ((d : ForkSummary) → false ≡ is_lt (fork_cmp (get_or l k d).fork (get_or l (k + 1) d).fork))) c.deref.ensures.value c.if-not-are_in_order.ensures in
    out_of_order c.args.numbers c.in-Some.forks.items unordered.0 forks unordered.1 unordered.2

pub returns : goal.returns
returns c =
    let forks = found c.args.numbers.forks c.into_vec.result c.in_ok-forks.field-0 c.in-Some.forks c.into_vec.ensures c.in-Some.is c.in_ok-forks.ensures in
    let rise = subst (λ (l : List ForkSummary). AllAdjacentBelow (Neighbours (λ f. f.fork) fork_cmp) l (length l)) c.deref.ensures.value c.if-not-are_in_order.ensures in
    in_order c.args.numbers c.in-Some.forks.items c.if-numbers.false forks rise c.from_vec.result c.from_vec.ensures
