-- Stores that have some of all forks that there may be.
use Rattle.std.proofs.Common.{◌≡◌, ℕ, zero, suc, ◌+◌, ◌^◌, ◌<◌, ◌≤◌, Bool, true, false, true≢false, cond, ◌&&◌, ◌||◌, List, [], ◌∷◌, Option, Some, None, refl, sym, ap, subst, ◌∙◌, arith, eqb-true}
use Rattle.std.specs.Prelude.{◌==◌}
use Rattle.std.specs.List.{AllByRecursion, list_any, flat_map, range_with_len}
use Rattle.std.specs.FinMap.{get, insert, empty, get-insert, get-empty}
use Rattle.std.proofs.lemmas.Bool.{or_left, or_right, eqb-false}
use Rattle.std.proofs.lemmas.List.Folds.{list_any-append}
use Rattle.lsn_core.specs.Names.{IsNamed}
use Rattle.lsn_core.specs.Store.{Store, ForkPages, fork_cmp}
use Rattle.lsn_core.specs.declared.ids.ForkId.{ForkId}
use Rattle.lsn_core.specs.declared.ids.ForkKind.{ForkKind}
use Rattle.lsn_core.specs.declared.ids.ForkKind.TheVariants.{Main, Init}
use Rattle.lsn_core.proofs.AnyAll.{all_append}
use Rattle.lsn_core.proofs.ForkOrder.{fork_cmp_total}
use Rattle.lsn_core.proofs.StoreFiles.{same_fork, forks_tie, fork_itself}

-- ---- a store of some forks

abbrev stored : (ForkId → ForkPages) → (ForkId → Bool) → List ForkId → Store
stored pages there [] = empty
stored pages there (f ∷ forks) = cond (there f) (insert (stored pages there forks) f (pages f)) (stored pages there forks)

-- where a fork is among them
abbrev found : (ForkId → ForkPages) → (ForkId → Bool) → List ForkId → ForkId → Option ForkPages
found pages there forks q = cond (list_any (same_fork q) forks && there q) (Some (pages q)) None

never : (pages : ForkPages) (a b : Bool) → cond (a && false) (Some pages) None ≡ cond (b && false) (Some pages) None
never pages true true = refl
never pages true false = refl
never pages false true = refl
never pages false false = refl

put_there : (pages : ForkId → ForkPages) (there : ForkId → Bool) (f : ForkId) (forks : List ForkId) (q : ForkId) → get (stored pages there forks) q ≡ found pages there forks q → there f ≡ true
    → get (stored pages there (f ∷ forks)) q ≡ cond (same_fork q f) (Some (pages f)) (found pages there forks q)
put_there pages there f forks q more e =
    ap (λ (b : Bool). get (cond b (insert (stored pages there forks) f (pages f)) (stored pages there forks)) q) e
    ∙ get-insert fork_cmp_total (stored pages there forks) f (pages f) q
    ∙ ap (cond (same_fork q f) (Some (pages f))) more

put_not : (pages : ForkId → ForkPages) (there : ForkId → Bool) (f : ForkId) (forks : List ForkId) (q : ForkId) → get (stored pages there forks) q ≡ found pages there forks q → there f ≡ false
    → get (stored pages there (f ∷ forks)) q ≡ found pages there forks q
put_not pages there f forks q more e =
    ap (λ (b : Bool). get (cond b (insert (stored pages there forks) f (pages f)) (stored pages there forks)) q) e ∙ more

one_more : (pages : ForkId → ForkPages) (there : ForkId → Bool) (f : ForkId) (forks : List ForkId) (q : ForkId) → get (stored pages there forks) q ≡ found pages there forks q
    → (b : Bool) → there f ≡ b → (c : Bool) → same_fork q f ≡ c → get (stored pages there (f ∷ forks)) q ≡ found pages there (f ∷ forks) q
one_more pages there f forks q more true e true s =
    let same = forks_tie q f s in
    put_there pages there f forks q more e ∙ ap (λ (c : Bool). cond c (Some (pages f)) (found pages there forks q)) s
    ∙ ap (λ (k : ForkId). Some (pages k)) (sym same)
    ∙ sym (ap (λ (c : Bool). cond ((c || list_any (same_fork q) forks) && there q) (Some (pages q)) None) s
    ∙ ap (λ (c : Bool). cond c (Some (pages q)) None) (ap there same ∙ e))
one_more pages there f forks q more true e false s =
    put_there pages there f forks q more e ∙ ap (λ (c : Bool). cond c (Some (pages f)) (found pages there forks q)) s
    ∙ sym (ap (λ (c : Bool). cond ((c || list_any (same_fork q) forks) && there q) (Some (pages q)) None) s)
one_more pages there f forks q more false e true s =
    let none : there q ≡ false = ap there (forks_tie q f s) ∙ e in
    put_not pages there f forks q more e ∙ ap (λ (c : Bool). cond (list_any (same_fork q) forks && c) (Some (pages q)) None) none
    ∙ never (pages q) (list_any (same_fork q) forks) (list_any (same_fork q) (f ∷ forks))
    ∙ sym (ap (λ (c : Bool). cond (list_any (same_fork q) (f ∷ forks) && c) (Some (pages q)) None) none)
one_more pages there f forks q more false e false s =
    put_not pages there f forks q more e ∙ sym (ap (λ (c : Bool). cond ((c || list_any (same_fork q) forks) && there q) (Some (pages q)) None) s)

get_stored : (pages : ForkId → ForkPages) (there : ForkId → Bool) (forks : List ForkId) (q : ForkId) → get (stored pages there forks) q ≡ found pages there forks q
get_stored pages there [] q = get-empty fork_cmp q
get_stored pages there (f ∷ forks) q = one_more pages there f forks q (get_stored pages there forks q) (there f) refl (same_fork q f) refl

-- ---- all forks that there may be, up to a number

any_flat : {X : Type 0} (t : X → Bool) (f : ℕ → List X) (a n k : ℕ) → a ≤ k → k < a + n → list_any t (f k) ≡ true → list_any t (flat_map f (range_with_len a n)) ≡ true
any_flat t f a zero k le lt e = absurd (omega (arith, le, lt))
any_flat t f a (suc n) k le lt e =
    list_any-append t (f a) (flat_map f (range_with_len (a + 1) n))
    ∙ here_or (a == k) refl (λ apart. any_flat t f (a + 1) n k (omega (arith, le, apart)) (omega (arith, lt)) e)
  where
    here_or : (b : Bool) → (a == k) ≡ b → ((a ≡ k → ⊥) → list_any t (flat_map f (range_with_len (a + 1) n)) ≡ true) → (list_any t (f a) || list_any t (flat_map f (range_with_len (a + 1) n))) ≡ true
    here_or true i later = or_left (list_any t (f a)) _ (ap (λ (m : ℕ). list_any t (f m)) (eqb-true a k i) ∙ e)
    here_or false i later = or_right (list_any t (f a)) _ (later (eqb-false a k i))

all_flat : {X : Type 0} (P : X → Type 0) (f : ℕ → List X) (a n : ℕ) → ((k : ℕ) → a ≤ k → k < a + n → AllByRecursion P (f k)) → AllByRecursion P (flat_map f (range_with_len a n))
all_flat P f a zero each = tt
all_flat P f a (suc n) each =
    all_append P (f a) (flat_map f (range_with_len (a + 1) n)) (each a (omega arith) (omega arith))
    (all_flat P f (a + 1) n (λ k le lt. each k (omega (arith, le)) (omega (arith, lt))))

abbrev fork_at : ℕ → ℕ → ForkKind → ForkId
fork_at db rel kind = record { rel = record { db = db; rel = rel }; kind = kind }

abbrev both_kinds : ℕ → ℕ → List ForkId
both_kinds db rel = fork_at db rel Main ∷ (fork_at db rel Init ∷ [])

abbrev of_database : ℕ → ℕ → List ForkId
of_database n db = flat_map (both_kinds db) (range_with_len 1 n)

abbrev all_forks : ℕ → List ForkId
all_forks n = flat_map (of_database n) (range_with_len 1 n)

any_all : (P : ForkId → Type 0) (q : ForkId) (forks : List ForkId) → AllByRecursion P forks → list_any (same_fork q) forks ≡ true → P q
any_all P q [] all e = absurd (true≢false (sym e))
any_all P q (f ∷ forks) all e = here_or (same_fork q f) refl (λ more. any_all P q forks all.1 more)
  where
    here_or : (b : Bool) → same_fork q f ≡ b → (list_any (same_fork q) forks ≡ true → P q) → P q
    here_or true s later = subst P (sym (forks_tie q f s)) all.0
    here_or false s later = later (sym (ap (λ (b : Bool). b || list_any (same_fork q) forks) s) ∙ e)

module _ (n : ℕ) (limit : n + 1 ≡ 2 ^ 32) where
  named_at : (db rel : ℕ) (kind : ForkKind) → 1 ≤ db → db < 1 + n → 1 ≤ rel → rel < 1 + n → IsNamed (fork_at db rel kind) 0
  named_at db rel kind a b c d = record {
    some_db = a;
    db_fits = omega (arith, b, limit);
    some_rel = c;
    rel_fits = omega (arith, d, limit);
    seg_fits = omega arith;
  }

  all_named : AllByRecursion (λ f. IsNamed f 0) (all_forks n)
  all_named =
      all_flat (λ (f : ForkId). IsNamed f 0) (of_database n) 1 n (λ db a b.
      all_flat (λ (f : ForkId). IsNamed f 0) (both_kinds db) 1 n (λ rel c d.
      (named_at db rel Main a b c d, (named_at db rel Init a b c d, tt))))

  of_kind : (fork : ForkId) (db rel : ℕ) (kind : ForkKind) → fork ≡ fork_at db rel kind → list_any (same_fork fork) (both_kinds db rel) ≡ true
  of_kind fork db rel Main is =
      or_left (same_fork fork (fork_at db rel Main)) _ (subst (λ (f : ForkId). same_fork fork f ≡ true) is (fork_itself fork))
  of_kind fork db rel Init is =
      or_right (same_fork fork (fork_at db rel Main)) _ (or_left (same_fork fork (fork_at db rel Init)) _ (subst (λ (f : ForkId). same_fork fork f ≡ true) is (fork_itself fork)))

  among : (fork : ForkId) → IsNamed fork 0 → list_any (same_fork fork) (all_forks n) ≡ true
  among fork named =
      let a = named.some_db in
      let b = named.db_fits in
      let c = named.some_rel in
      let d = named.rel_fits in
      any_flat (same_fork fork) (of_database n) 1 n fork.rel.db a (omega (arith, b, limit))
      (any_flat (same_fork fork) (both_kinds fork.rel.db) 1 n fork.rel.rel c (omega (arith, d, limit))
      (of_kind fork fork.rel.db fork.rel.rel fork.kind refl))

  -- the store of those that pass a test
  pub store_with : (ForkId → ForkPages) → (ForkId → Bool) → Store
  store_with pages there = stored pages there (all_forks n)

  pub with_named : (pages : ForkId → ForkPages) (there : ForkId → Bool) (fork : ForkId) → IsNamed fork 0 → get (store_with pages there) fork ≡ cond (there fork) (Some (pages fork)) None
  unfolding store_with
  with_named pages there fork named =
      get_stored pages there (all_forks n) fork
      ∙ ap (λ (b : Bool). cond (b && there fork) (Some (pages fork)) None) (among fork named)

  pub with_some : (pages : ForkId → ForkPages) (there : ForkId → Bool) (fork : ForkId) (found : ForkPages) → get (store_with pages there) fork ≡ Some found → IsNamed fork 0
  unfolding store_with
  with_some pages there fork found e = by (list_any (same_fork fork) (all_forks n)) refl
    where
      by : (b : Bool) → list_any (same_fork fork) (all_forks n) ≡ b → IsNamed fork 0
      by true is = any_all (λ (f : ForkId). IsNamed f 0) fork (all_forks n) all_named is
      by false is =
          let none : None ≡ Some found = sym (get_stored pages there (all_forks n) fork ∙ ap (λ (b : Bool). cond (b && there fork) (Some (pages fork)) None) is) ∙ e in
          absurd cc
