-- A table has one summary.
use Rattle.std.proofs.Common.{◌≡◌, ℕ, ◌==◌, Bool, true, false, cond, ◌||◌, List, [], ◌∷◌, Option, Some, None, refl, sym, ap, subst, ◌∙◌, arith, true≢false}
use Rattle.std.specs.List.{list_any, AllByRecursion}
use Rattle.std.specs.List.Sorted.{IsStrictlySortedBy}
use Rattle.std.specs.Ordering.{nat_cmp, ordering_reverse}
use Rattle.std.specs.declared.cmp.Ordering.TheVariants.{Less, Equal, Greater}
use Rattle.std.specs.Cmp.{ranked}
use Rattle.std.specs.FinMap.{nat_cmp-IsAntisymmetric}
use Rattle.std.proofs.lemmas.Cmp.{nat_cmp_total}
use Rattle.std.proofs.lemmas.Bool.{eq-eqb, eqb-true, or_left}
use Rattle.std.proofs.lemmas.Map.Keys.{sorted_tail}
use Rattle.lsn_core.specs.declared.ids.ForkId.{ForkId}
use Rattle.lsn_core.specs.Store.{fork_cmp}
use Rattle.lsn_core.proofs.ForkOrder.{fork_cmp_total, fork_cmp-IsAntisymmetric}
use Rattle.history.specs.Apply.{is_same_fork}
use Rattle.history.proofs.Stores.{fork_is, fork_self, by_test}
use Rattle.history.specs.fuzzy_copies.Summary.{BlockRefTable}
use Rattle.wal_summary.specs.declared.summary.ForkSummary.{ForkSummary}
use Rattle.wal_summary.specs.Summary.{limit_at, lists_at, table_of_forks, is_told, IsForkSummary}
use Rattle.wal_summary.specs.Laws.{SummariesAreOne, SameTablesAreSummedUp}
use Rattle.wal_summary.proofs.Tables.{same_table}
use Rattle.wal_summary.proofs.Sums.{names, IsBelow, sorted_first, absent_limit, absent_lists}

pub same_summed_up : SameTablesAreSummedUp
same_summed_up table forks sorted same = record { sorted = sorted; says = same_table (table_of_forks forks) table same }

-- a number is in a list
abbrev has : ℕ → List ℕ → Bool
has n xs = list_any (λ b. n == b) xs

other : (n x : ℕ) → nat_cmp n x ≡ Less → (n == x) ≡ false
other n x e = by_test (n == x) (λ k. absurd (let h = ranked n x Less (sym e) in let i = eqb-true n x k in omega (arith, h, i))) (λ k. k)

absent : (n : ℕ) (xs : List ℕ) → AllByRecursion (λ y. nat_cmp n y ≡ Less) xs → has n xs ≡ false
absent n [] h = refl
absent n (x ∷ xs) h = ap (λ t. t || has n xs) (other n x h.0) ∙ absent n xs h.1

first_below : (k : ℕ) (ks : List ℕ) → IsStrictlySortedBy nat_cmp (k ∷ ks) → AllByRecursion (λ y. nat_cmp k y ≡ Less) ks
unfolding IsStrictlySortedBy
first_below k ks h = h.0

lower : {K : Type 0} (R : K → K → _) → ((x y z : K) → R x y ≡ Less → R y z ≡ Less → R x z ≡ Less) → (x y : K) (ys : List K) → R x y ≡ Less → AllByRecursion (λ z. R y z ≡ Less) ys → AllByRecursion (λ z. R x z ≡ Less) ys
lower R trans x y [] e h = tt
lower R trans x y (z ∷ zs) e h = (trans x y z e h.0, lower R trans x y zs e h.1)

here : (n : ℕ) (xs : List ℕ) → has n (n ∷ xs) ≡ true
here n xs = or_left (n == n) (has n xs) (eq-eqb n n refl)

turned : {K : Type 0} (R : K → K → _) → ((x y : K) → R x y ≡ ordering_reverse (R y x)) → (x y : K) → R x y ≡ Greater → R y x ≡ Less
turned R anti x y e = anti y x ∙ ap ordering_reverse e

-- rising lists with the same numbers
same_numbers : (xs ys : List ℕ) → IsStrictlySortedBy nat_cmp xs → IsStrictlySortedBy nat_cmp ys → ((n : ℕ) → has n xs ≡ has n ys) → xs ≡ ys
same_numbers [] [] p q same = refl
same_numbers [] (y ∷ ys) p q same = absurd (true≢false (sym (here y ys) ∙ sym (same y)))
same_numbers (x ∷ xs) [] p q same = absurd (true≢false (sym (here x xs) ∙ same x))
same_numbers (x ∷ xs) (y ∷ ys) p q same =
    elim (nat_cmp x y) as (λ r. nat_cmp x y ≡ r → x ∷ xs ≡ y ∷ ys) [
      | Less ↦ λ e. absurd (true≢false (sym (here x xs) ∙ same x ∙ absent x (y ∷ ys) (e, lower nat_cmp nat_cmp_total.trans x y ys e (first_below y ys q))))
      | Equal ↦ λ e.
          let is = nat_cmp-IsAntisymmetric x y e in
          let rest = same_numbers xs ys (sorted_tail nat_cmp x xs p) (sorted_tail nat_cmp y ys q) (λ n.
          by_test (n == x)
          (λ k.
          let nx = eqb-true n x k in
          let none : has n xs ≡ false = ap (λ m. has m xs) nx ∙ absent x xs (first_below x xs p) in
          let none' : has n ys ≡ false = ap (λ m. has m ys) (nx ∙ is) ∙ absent y ys (first_below y ys q) in
          none ∙ sym none')
          (λ k. sym (ap (λ t. t || has n xs) k) ∙ same n ∙ ap (λ t. t || has n ys) (sym (ap (λ m. n == m) is) ∙ k))) in
          λ i. is i ∷ rest i
      | Greater ↦ λ e.
          let f = turned nat_cmp nat_cmp_total.antisymm x y e in
          absurd (true≢false (sym (here y ys) ∙ sym (same y) ∙ absent y (x ∷ xs) (f, lower nat_cmp nat_cmp_total.trans y x xs f (first_below x xs p))))
    ] refl

-- a fork that is told has a limit or a block
untold : (o : Option ℕ) (bs : List ℕ) → is_told o bs ≡ true → o ≡ None → ((n : ℕ) → has n bs ≡ false) → ⊥
untold None [] told e none = true≢false (sym told)
untold None (b ∷ bs) told e none = true≢false (sym (here b bs) ∙ none b)
untold (Some limit) bs told e none = absurd cc

here_limit : (s : ForkSummary) (ss : List ForkSummary) → limit_at s.fork (s ∷ ss) ≡ s.limit
here_limit s ss = ap (λ t. cond t s.limit (limit_at s.fork ss)) (fork_self s.fork)

here_lists : (n : ℕ) (s : ForkSummary) (ss : List ForkSummary) → lists_at s.fork n (s ∷ ss) ≡ has n s.blocks
here_lists n s ss = ap (λ t. cond t (has n s.blocks) (lists_at s.fork n ss)) (fork_self s.fork)

-- a list that tells a fork says otherwise than one in which all forks are above it
told_once : (s : ForkSummary) (ss others : List ForkSummary) → IsForkSummary s → IsBelow s.fork (names others) → limit_at s.fork (s ∷ ss) ≡ limit_at s.fork others → ((n : ℕ) → lists_at s.fork n (s ∷ ss) ≡ lists_at s.fork n others) → ⊥
told_once s ss others is below limit lists =
    untold s.limit s.blocks is.told (sym (here_limit s ss) ∙ limit ∙ absent_limit s.fork others below) (λ n. sym (here_lists n s ss) ∙ lists n ∙ absent_lists s.fork n others below)

below_all : (f : ForkId) (s : ForkSummary) (ss : List ForkSummary) → fork_cmp f s.fork ≡ Less → IsStrictlySortedBy fork_cmp (names (s ∷ ss)) → IsBelow f (names (s ∷ ss))
below_all f s ss e h = (e, lower fork_cmp fork_cmp_total.trans f s.fork (names ss) e (sorted_first s.fork (names ss) h))

same_forks : (a b : List ForkSummary) → IsStrictlySortedBy fork_cmp (names a) → AllByRecursion IsForkSummary a → IsStrictlySortedBy fork_cmp (names b) → AllByRecursion IsForkSummary b
    → ((f : ForkId) → limit_at f a ≡ limit_at f b) → ((f : ForkId) (n : ℕ) → lists_at f n a ≡ lists_at f n b) → a ≡ b
same_forks [] [] p p' q q' limit lists = refl
same_forks [] (y ∷ ys) p p' q q' limit lists = absurd (told_once y ys [] q'.0 tt (sym (limit y.fork)) (λ n. sym (lists y.fork n)))
same_forks (x ∷ xs) [] p p' q q' limit lists = absurd (told_once x xs [] p'.0 tt (limit x.fork) (λ n. lists x.fork n))
same_forks (x ∷ xs) (y ∷ ys) p p' q q' limit lists =
    elim (fork_cmp x.fork y.fork) as (λ r. fork_cmp x.fork y.fork ≡ r → x ∷ xs ≡ y ∷ ys) [
      | Less ↦ λ e. absurd (told_once x xs (y ∷ ys) p'.0 (below_all x.fork y ys e q) (limit x.fork) (λ n. lists x.fork n))
      | Equal ↦ λ e.
          let is = fork_cmp-IsAntisymmetric x.fork y.fork e in
          let xs_above = sorted_first x.fork (names xs) p in
          let ys_above : IsBelow x.fork (names ys) = subst (λ f. IsBelow f (names ys)) (sym is) (sorted_first y.fork (names ys) q) in
          let own_limit : x.limit ≡ y.limit = sym (here_limit x xs) ∙ limit x.fork ∙ ap (λ f. limit_at f (y ∷ ys)) is ∙ here_limit y ys in
          let own_blocks : x.blocks ≡ y.blocks = same_numbers x.blocks y.blocks p'.0.blocks q'.0.blocks (λ n. sym (here_lists n x xs) ∙ lists x.fork n ∙ ap (λ f. lists_at f n (y ∷ ys)) is ∙ here_lists n y ys) in
          let rest = same_forks xs ys (sorted_tail fork_cmp x.fork (names xs) p) p'.1 (sorted_tail fork_cmp y.fork (names ys) q) q'.1
          (λ f. by_test (is_same_fork f x.fork)
          (λ k. ap (λ g. limit_at g xs) (fork_is f x.fork k) ∙ absent_limit x.fork xs xs_above ∙ sym (ap (λ g. limit_at g ys) (fork_is f x.fork k) ∙ absent_limit x.fork ys ys_above))
          (λ k. sym (ap (λ t. cond t x.limit (limit_at f xs)) k) ∙ limit f ∙ ap (λ t. cond t y.limit (limit_at f ys)) (sym (ap (is_same_fork f) is) ∙ k)))
          (λ f n. by_test (is_same_fork f x.fork)
          (λ k. ap (λ g. lists_at g n xs) (fork_is f x.fork k) ∙ absent_lists x.fork n xs xs_above ∙ sym (ap (λ g. lists_at g n ys) (fork_is f x.fork k) ∙ absent_lists x.fork n ys ys_above))
          (λ k. sym (ap (λ t. cond t (has n x.blocks) (lists_at f n xs)) k) ∙ lists f n ∙ ap (λ t. cond t (has n y.blocks) (lists_at f n ys)) (sym (ap (is_same_fork f) is) ∙ k))) in
          λ i. record { fork = is i; limit = own_limit i; blocks = own_blocks i } ∷ rest i
      | Greater ↦ λ e. absurd (told_once y ys (x ∷ xs) q'.0 (below_all y.fork x xs (turned fork_cmp fork_cmp_total.antisymm x.fork y.fork e) p) (sym (limit y.fork)) (λ n. sym (lists y.fork n)))
    ] refl

pub one_summary : SummariesAreOne
one_summary table a b p q =
    let same : table_of_forks a ≡ table_of_forks b = p.says ∙ sym q.says in
    same_forks a b p.sorted.forks p.sorted.each q.sorted.forks q.sorted.each (λ f. ap (λ (t : BlockRefTable). t.limit f) same) (λ f n. ap (λ (t : BlockRefTable). t.listed f n) same)
