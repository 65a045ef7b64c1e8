-- What a summary has of a fork, and the plans of segment files.
use Rattle.std.proofs.Common.{◌≡◌, ℕ, ◌+◌, ◌^◌, ◌<◌, ◌≤◌, Bool, true, false, cond, List, [], ◌∷◌, length, get_or, Option, Some, None, zero, suc, refl, sym, ap, ◌∙◌, arith}
use Rattle.std.specs.List.{All, AllByRecursion, find}
use Rattle.std.specs.List.Sorted.{IsStrictlyIncreasing}
use Rattle.std.proofs.lemmas.List.Elements.{All-head, All-tail}
use Rattle.std.proofs.lemmas.Map.Keys.{IsStrictlyIncreasing-from_sorted}
use Rattle.lsn_core.specs.declared.ids.ForkId.{ForkId}
use Rattle.history.specs.Apply.{is_same_fork}
use Rattle.wal_summary.specs.Summary.{AreSorted, IsForkSummary, limit_at}
use Rattle.wal_summary.specs.declared.summary.ForkSummary.{ForkSummary}
use Rattle.incr_file.specs.Head.{IsHead}
use Rattle.incr_file.specs.Plan.{IsPlannedHead}
use Rattle.incr_file.specs.declared.head.IncrHead.{IncrHead}
use Rattle.backup_sending.specs.Sent.{blocks_at}

-- ---- what is found of a fork

abbrev is_of : ForkId → ForkSummary → Bool
is_of fork s = is_same_fork fork s.fork

abbrev limit_of : Option ForkSummary → Option ℕ
limit_of None = None
limit_of (Some s) = s.limit

abbrev blocks_of : Option ForkSummary → List ℕ
blocks_of None = []
blocks_of (Some s) = s.blocks

limits : (fork : ForkId) (forks : List ForkSummary) → limit_at fork forks ≡ limit_of (find (is_of fork) forks)
limits fork [] = refl
limits fork (s ∷ ss) = by_test (is_same_fork fork s.fork) (limits fork ss)
  where
    by_test : (b : Bool) → limit_at fork ss ≡ limit_of (find (is_of fork) ss) → cond b s.limit (limit_at fork ss) ≡ limit_of (cond b (Some s) (find (is_of fork) ss))
    by_test true rest = refl
    by_test false rest = rest

blocks : (fork : ForkId) (forks : List ForkSummary) → blocks_at fork forks ≡ blocks_of (find (is_of fork) forks)
blocks fork [] = refl
blocks fork (s ∷ ss) = by_test (is_same_fork fork s.fork) (blocks fork ss)
  where
    by_test : (b : Bool) → blocks_at fork ss ≡ blocks_of (find (is_of fork) ss) → cond b s.blocks (blocks_at fork ss) ≡ blocks_of (cond b (Some s) (find (is_of fork) ss))
    by_test true rest = refl
    by_test false rest = rest

pub limit_found : (fork : ForkId) (forks : List ForkSummary) (o : Option ForkSummary) → o ≡ find (is_of fork) forks → limit_of o ≡ limit_at fork forks
limit_found fork forks o e = ap limit_of e ∙ sym (limits fork forks)

pub blocks_found : (fork : ForkId) (forks : List ForkSummary) (o : Option ForkSummary) → o ≡ find (is_of fork) forks → blocks_of o ≡ blocks_at fork forks
blocks_found fork forks o e = ap blocks_of e ∙ sym (blocks fork forks)

rise : (fork : ForkId) (forks : List ForkSummary) → AllByRecursion IsForkSummary forks → IsStrictlyIncreasing (blocks_at fork forks)
rise fork [] each = λ k within. absurd (omega (arith, within))
rise fork (s ∷ ss) each = by_test (is_same_fork fork s.fork) (rise fork ss each.1)
  where
    by_test : (b : Bool) → IsStrictlyIncreasing (blocks_at fork ss) → IsStrictlyIncreasing (cond b s.blocks (blocks_at fork ss))
    by_test true rest = IsStrictlyIncreasing-from_sorted s.blocks each.0.blocks
    by_test false rest = rest

pub blocks_rise : (fork : ForkId) (forks : List ForkSummary) → AreSorted forks → IsStrictlyIncreasing (blocks_at fork forks)
blocks_rise fork forks sorted = rise fork forks sorted.each

-- ---- blocks of a head

all_below : (first most : ℕ) (blocks : List ℕ) (count : ℕ) → first + count ≤ most → All (λ block. block < count) blocks → AllByRecursion (λ block. first + block < most) blocks
all_below first most [] count room all = tt
all_below first most (block ∷ blocks) count room all =
    let here : block < count = All-head (λ (n : ℕ). n < count) block blocks all in
    (omega (arith, here, room), all_below first most blocks count room (All-tail (λ (n : ℕ). n < count) block blocks all))

pub head_within : (first count : ℕ) (head : IncrHead) → first + count < 2 ^ 32 → IsPlannedHead count head → AllByRecursion (λ block. first + block < 2 ^ 32) head.blocks
head_within first count head room is = all_below first (2 ^ 32) head.blocks count (omega (arith, room)) is.below

-- rising numbers are as great as their places
at_place : (xs : List ℕ) → IsStrictlyIncreasing xs → (k : ℕ) → k < length xs → k ≤ get_or xs k 0
at_place xs up zero within = omega arith
at_place xs up (suc k) within =
    let before = at_place xs up k (omega (arith, within)) in
    let step = up k (omega (arith, within)) in
    let e : get_or xs (k + 1) 0 ≡ get_or xs (suc k) 0 = ap (λ (n : ℕ). get_or xs n 0) (let z : k + 1 ≡ suc k = omega arith in z) in
    omega (arith, before, step, e)

few : (xs : List ℕ) (most : ℕ) → IsStrictlyIncreasing xs → All (λ x. x < most) xs → length xs ≤ most
few [] most up below = omega arith
few (x ∷ xs) most up below =
    let last = at_place (x ∷ xs) up (length xs) (let z : length xs < suc (length xs) = omega arith in z) in
    let top = below (length xs) 0 (let z : length xs < suc (length xs) = omega arith in z) in
    omega (arith, last, top)

pub few_blocks : (head : IncrHead) → IsHead head → length head.blocks ≤ 131072
few_blocks head is = few head.blocks 131072 is.rising is.blocks_fit
