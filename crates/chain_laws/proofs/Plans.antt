-- The plans of a list of forks: each is of a fork that is found in the list.
use Rattle.std.proofs.Common.{◌≡◌, ℕ, ◌<◌, false, cond, List, [], ◌∷◌, map, Option, Some, refl, sym, ap, subst, ◌∙◌, arith}
use Rattle.std.specs.List.{AllByRecursion, find}
use Rattle.std.specs.List.Sorted.{IsStrictlySortedBy}
use Rattle.std.specs.Option.{option_map}
use Rattle.std.specs.declared.cmp.Ordering.TheVariants.{Less}
use Rattle.std.proofs.lemmas.Bool.{true≢false, false_from_ne_true}
use Rattle.lsn_core.specs.Names.{IsNamed}
use Rattle.lsn_core.specs.Store.{fork_cmp, segment_count}
use Rattle.lsn_core.specs.declared.ids.ForkId.{ForkId}
use Rattle.lsn_core.specs.declared.ids.ForkLen.{ForkLen}
use Rattle.lsn_core.proofs.AnyAll.{all_pieces, all_range}
use Rattle.history.specs.Apply.{is_same_fork}
use Rattle.history.proofs.Stores.{fork_is, fork_self}
use Rattle.wal_summary.proofs.Sums.{apart}
use Rattle.store_locks.specs.Copied.{listed_length}
use Rattle.backup_sending.specs.declared.basis.Basis.{Basis}
use Rattle.backup_sending.specs.Sent.{SegmentPlan, fork_plans, list_plans, segment_plan}

-- ---- the forks of a list

abbrev pub IsFoundIn : List ForkLen → ForkLen → Type 0
IsFoundIn list l = listed_length list l.fork ≡ Some l.blocks

abbrev pub length_in : Option ForkLen → Option ℕ
length_in o = option_map (λ l. l.blocks) o

-- each fork of a list in order is found there
all_found : (list : List ForkLen) → IsStrictlySortedBy fork_cmp (map (λ l. l.fork) list) → AllByRecursion (IsFoundIn list) list
unfolding IsStrictlySortedBy
all_found [] order = tt
all_found (l ∷ ls) order =
    (ap (λ b. length_in (cond b (Some l) (find (λ k. is_same_fork l.fork k.fork) ls))) (fork_self l.fork), behind ls order.0 (all_found ls order.1))
  where
    other : (k : ForkLen) → fork_cmp l.fork k.fork ≡ Less → is_same_fork k.fork l.fork ≡ false
    other k less = false_from_ne_true (is_same_fork k.fork l.fork) (λ e.
        let same : k.fork ≡ l.fork = fork_is k.fork l.fork e in
        true≢false (sym (fork_self l.fork) ∙ apart l.fork l.fork (subst (λ (f : ForkId). fork_cmp l.fork f ≡ Less) same less)))

    behind : (ks : List ForkLen) → AllByRecursion (λ f. fork_cmp l.fork f ≡ Less) (map (λ k. k.fork) ks) → AllByRecursion (IsFoundIn ls) ks → AllByRecursion (IsFoundIn (l ∷ ls)) ks
    behind [] below found = tt
    behind (k ∷ ks) below found =
        (ap (λ b. length_in (cond b (Some l) (find (λ x. is_same_fork k.fork x.fork) ls))) (other k below.0) ∙ found.0, behind ks below.1 found.1)

pub all_both : {X : Type 0} (A B : X → Type 0) (xs : List X) → AllByRecursion A xs → AllByRecursion B xs → AllByRecursion (λ x. A x × B x) xs
all_both A B [] a b = tt
all_both A B (x ∷ xs) a b = ((a.0, b.0), all_both A B xs a.1 b.1)

-- ---- their plans

-- a plan is that of a segment file of a listed fork
pub record IsOfList (basis : Basis) (list : List ForkLen) (p : SegmentPlan) : Type 0 where
  pub of : ForkLen
  pub seg : ℕ
  pub is : p ≡ segment_plan basis of seg
  pub there : seg < segment_count basis.relseg of.blocks
  pub named : IsNamed of.fork of.blocks
  pub found : IsFoundIn list of

pub all_plans : (basis : Basis) (list : List ForkLen) → AllByRecursion (λ l. IsNamed l.fork l.blocks) list → IsStrictlySortedBy fork_cmp (map (λ l. l.fork) list) → AllByRecursion (IsOfList basis list) (list_plans basis list)
all_plans basis list named order =
    all_pieces (λ l. IsNamed l.fork l.blocks × IsFoundIn list l) (IsOfList basis list) (fork_plans basis) list
    (λ l is. all_range (IsOfList basis list) (segment_plan basis l) 0 (segment_count basis.relseg l.blocks) (λ s least most. record { of = l; seg = s; is = refl; there = omega (arith, most); named = is.0; found = is.1 }))
    (all_both (λ l. IsNamed l.fork l.blocks) (IsFoundIn list) list named (all_found list order))
