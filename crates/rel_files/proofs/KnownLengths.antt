-- The lengths of forks that are known, after one was forgotten or noted.
use Rattle.std.proofs.Common.{◌≡◌, ℕ, cond, Option, Some, None, IsSome, option_map, length, refl, ap, sym, subst, ◌∙◌}
use Rattle.std.specs.declared.cmp.Ordering.{Ordering}
use Rattle.std.specs.FinMap.{get}
use Rattle.std.specs.BTreeMap.{BTreeMap, UpdatesBy}
use Rattle.std.specs.BTreeMap as tree
use Rattle.lsn_core.specs.declared.ids.ForkId.{ForkId}
use Rattle.lsn_core.specs.Store.{ForkPages, fork_cmp}
use Rattle.lsn_core.proofs.ForkOrder.{derived_cmp, derived_is}
use Rattle.lsn_core.proofs.StoreFiles.{fork_itself}
use Rattle.rel_files.specs.Forks.{whole_pages}
use Rattle.rel_files.specs.Shown.{whole_count}
use Rattle.rel_files.specs.Inside.{known_length, Forgets, Notes, IsNoted, Learns}
use Rattle.rel_files.proofs.ForkStores.{by_fork, apart}

pub found : (known : BTreeMap ForkId ℕ) (fork : ForkId) (o : Option ℕ) → o ≡ tree.get derived_cmp known fork → o ≡ known_length known fork
found known fork o e = e ∙ ap (λ (R : ForkId → ForkId → Ordering). tree.get R known fork) derived_is

updated : (m n : BTreeMap ForkId ℕ) (fork : ForkId) (w : Option ℕ) → UpdatesBy derived_cmp (derived_cmp fork) m n w → UpdatesBy fork_cmp (fork_cmp fork) m n w
updated m n fork w u = subst (λ (R : ForkId → ForkId → Ordering). UpdatesBy R (R fork) m n w) derived_is u

here : (m n : BTreeMap ForkId ℕ) (fork : ForkId) (w : Option ℕ) → UpdatesBy derived_cmp (derived_cmp fork) m n w → tree.get fork_cmp n fork ≡ w
here m n fork w u = (updated m n fork w u).0 fork ∙ ap (λ c. cond c w (tree.get fork_cmp m fork)) (fork_itself fork)

there : (m n : BTreeMap ForkId ℕ) (fork : ForkId) (w : Option ℕ) → UpdatesBy derived_cmp (derived_cmp fork) m n w → (q : ForkId) → (q ≡ fork → ⊥) → tree.get fork_cmp n q ≡ tree.get fork_cmp m q
there m n fork w u q ne = (updated m n fork w u).0 q ∙ ap (λ c. cond c w (tree.get fork_cmp m q)) (apart fork q (λ e. ne (sym e)))

counted : (o p : Option ForkPages) → o ≡ p → option_map (λ pages. length (whole_pages pages)) o ≡ option_map (λ pages. length (whole_pages pages)) p
counted o p e = ap (option_map (λ (pages : ForkPages). length (whole_pages pages))) e

pub forgotten : (m n : BTreeMap ForkId ℕ) (fork : ForkId) → UpdatesBy derived_cmp (derived_cmp fork) m n None → Forgets fork m n
forgotten m n fork u s t others known q blocks is =
    by_fork q fork
    (λ e. let none : tree.get fork_cmp n q ≡ None = subst (λ f. tree.get fork_cmp n f ≡ None) (sym e) (here m n fork None u) in let no : None ≡ Some blocks = sym none ∙ is in absurd cc)
    (λ ne. counted (get t q) (get s q) (others q ne) ∙ known q blocks (sym (there m n fork None u q ne) ∙ is))

pub noted : (m n : BTreeMap ForkId ℕ) (fork : ForkId) (v : ℕ) → UpdatesBy derived_cmp (derived_cmp fork) m n (Some v) → Notes fork v m n
noted m n fork v u s right known q blocks is =
    by_fork q fork
    (λ e. ap (whole_count s) e ∙ right ∙ sym (here m n fork (Some v) u) ∙ sym (ap (tree.get fork_cmp n) e) ∙ is)
    (λ ne. known q blocks (sym (there m n fork (Some v) u q ne) ∙ is))

pub noted_is : (m n : BTreeMap ForkId ℕ) (fork : ForkId) (v : ℕ) → UpdatesBy derived_cmp (derived_cmp fork) m n (Some v) → IsNoted fork v m n
noted_is m n fork v u = record { here = here m n fork (Some v) u; others = λ q ne. there m n fork (Some v) u q ne }

pub ordered : (m : BTreeMap ForkId ℕ) → tree.IsOrdered derived_cmp m → tree.IsOrdered fork_cmp m
ordered m h = subst (λ (R : ForkId → ForkId → Ordering). tree.IsOrdered R m) derived_is h

-- a length that was known is learned, and one that wasn't is by being noted
pub known_learned : (m : BTreeMap ForkId ℕ) (fork : ForkId) (told : Option ℕ) → told ≡ known_length m fork → Learns fork told m m
known_learned m fork told e = record { kept = λ q is. is; here = λ is. subst (λ (o : Option ℕ). IsSome o) e is }

pub noted_learned : (m n : BTreeMap ForkId ℕ) (fork : ForkId) (v : ℕ) → IsNoted fork v m n → Learns fork (Some v) m n
noted_learned m n fork v is = record {
  kept = λ q some. by_fork q fork
      (λ e. subst (λ (o : Option ℕ). IsSome o) (sym (ap (known_length n) e ∙ is.here)) refl)
      (λ ne. subst (λ (o : Option ℕ). IsSome o) (sym (is.others q ne)) some);
  here = λ some. subst (λ (o : Option ℕ). IsSome o) (sym is.here) refl;
}
