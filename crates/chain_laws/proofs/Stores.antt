-- A store that is made fork by fork.
use Rattle.std.proofs.Common.{◌≡◌, ℕ, true, false, cond, ◌||◌, List, [], ◌∷◌, map, Some, None, is_some, refl, sym, ap, subst, ◌∙◌}
use Rattle.std.specs.declared.cmp.Ordering.{Ordering}
use Rattle.std.specs.List.{AllByRecursion, find, list_any}
use Rattle.std.specs.Option.{option_map}
use Rattle.std.specs.Ordering.{eq_by_cmp}
use Rattle.std.specs.FinMap.{find as find_key, get, from_entries, get-from_entries}
use Rattle.lsn_core.specs.Names.{IsNamed}
use Rattle.lsn_core.specs.Store.{Store, ForkPages, fork_cmp}
use Rattle.lsn_core.specs.declared.ids.ForkId.{ForkId}
use Rattle.lsn_core.specs.declared.ids.ForkLen.{ForkLen}
use Rattle.lsn_core.proofs.ForkOrder.{fork_cmp_total}
use Rattle.lsn_core.proofs.StoreFiles.{forks_tie}
use Rattle.history.specs.Apply.{is_same_fork}
use Rattle.history.proofs.Stores.{fork_is}
use Rattle.store_locks.specs.Copied.{listed_length}

-- a map from keys to what belongs to them
find_each : {K X : Type 0} (R : K → K → Ordering) → ((a b : K) → eq_by_cmp R a b ≡ true → a ≡ b) → (w : K → X) (ks : List K) (q : K) → find_key R q (map (λ k. (k, w k)) ks) ≡ cond (list_any (eq_by_cmp R q) ks) (Some (w q)) None
find_each R same w [] q = refl
find_each R same w (k ∷ ks) q =
    elim (eq_by_cmp R q k) as (λ b. eq_by_cmp R q k ≡ b → cond b (Some (w k)) (find_key R q (map (λ x. (x, w x)) ks)) ≡ cond (b || list_any (eq_by_cmp R q) ks) (Some (w q)) None) [
      | true ↦ λ e. ap (λ x. Some (w x)) (sym (same q k e))
      | false ↦ λ e. find_each R same w ks q
    ] refl

get_fork : (w : ForkId → ForkPages) (forks : List ForkId) (q : ForkId) → get (from_entries {R = fork_cmp} (map (λ f. (f, w f)) forks)) q ≡ cond (list_any (is_same_fork q) forks) (Some (w q)) None
unfolding is_same_fork
get_fork w forks q = get-from_entries fork_cmp_total (map (λ f. (f, w f)) forks) q ∙ find_each fork_cmp forks_tie w forks q

-- a fork is one of a list just where a length is listed of it
any_listed : (list : List ForkLen) (q : ForkId) → list_any (is_same_fork q) (map (λ l. l.fork) list) ≡ is_some (listed_length list q)
any_listed [] q = refl
any_listed (l ∷ ls) q =
    elim (is_same_fork q l.fork) as (λ b. (b || list_any (is_same_fork q) (map (λ k. k.fork) ls)) ≡ is_some (option_map (λ k. k.blocks) (cond b (Some l) (find (λ k. is_same_fork q k.fork) ls)))) [
      | true ↦ refl
      | false ↦ any_listed ls q
    ]

-- the store that has these pages of each listed fork
abbrev pub store_with : (ForkId → ForkPages) → List ForkLen → Store
store_with w list = from_entries (map (λ f. (f, w f)) (map (λ l. l.fork) list))

pub got_listed : (w : ForkId → ForkPages) (list : List ForkLen) (q : ForkId) → get (store_with w list) q ≡ cond (is_some (listed_length list q)) (Some (w q)) None
got_listed w list q = get_fork w (map (λ l. l.fork) list) q ∙ ap (λ b. cond b (Some (w q)) None) (any_listed list q)

-- numbers of a listed fork fit
pub listed_named : (list : List ForkLen) (q : ForkId) (blocks : ℕ) → AllByRecursion (λ l. IsNamed l.fork l.blocks) list → listed_length list q ≡ Some blocks → IsNamed q blocks
listed_named [] q blocks all e = absurd cc
listed_named (l ∷ ls) q blocks all e =
    elim (is_same_fork q l.fork) as (λ b. is_same_fork q l.fork ≡ b → option_map (λ k. k.blocks) (cond b (Some l) (find (λ k. is_same_fork q k.fork) ls)) ≡ Some blocks → IsNamed q blocks) [
      | true ↦ λ k f.
          let many : l.blocks ≡ blocks = cc in
          subst (λ (n : ℕ). IsNamed q n) many (subst (λ (x : ForkId). IsNamed x l.blocks) (sym (fork_is q l.fork k)) all.0)
      | false ↦ λ k f. listed_named ls q blocks all.1 f
    ] refl e
