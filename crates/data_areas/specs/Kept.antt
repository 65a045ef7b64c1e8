-- Calls keep the files of other names: no call at all, and calls one after the other.
use Rattle.std.specs.Prelude.{◌⊎◌, ℕ, zero, suc, ◌<◌, ◌≤◌, List, [], ◌∷◌, refl}
use Rattle.std.proofs.Common.{◌≡◌, ◌∙◌, ap, subst, sym, arith, inl, inr}
use Rattle.lsn_core.specs.Causes.{Rose}
use Rattle.vault.specs.declared.area.Vault.{Ghosts}
use Rattle.rel_files.specs.Kept.{keeps_none, keeps_on}
use Rattle.rel_files.specs.declared.forks.Forks.{Forks}
use Rattle.data_areas.specs.declared.store_forks.StoreForks.{StoreForks}
use Rattle.data_areas.specs.declared.store_forks.AreaFaults.{AreaFaults}
use Rattle.data_areas.specs.Stored.{KeepEach, count_at, NamesFault, KeepsAll}

pub each_none : {V : Type 0} (g : Ghosts V) (xs : List (Forks V)) → KeepEach g xs xs
each_none g [] = tt
each_none g (x ∷ xs) = (keeps_none g x, each_none g xs)

pub each_on : {V : Type 0} (g : Ghosts V) (xs ys zs : List (Forks V))
    → KeepEach g xs ys → KeepEach g ys zs → KeepEach g xs zs
each_on g [] [] [] first second = tt
each_on g (x ∷ xs) (y ∷ ys) (z ∷ zs) first second =
    (keeps_on g x y z first.0 second.0, each_on g xs ys zs first.1 second.1)
each_on g [] [] (z ∷ zs) first second = absurd second
each_on g [] (y ∷ ys) zs first second = absurd first
each_on g (x ∷ xs) [] zs first second = absurd first
each_on g (x ∷ xs) (y ∷ ys) [] first second = absurd second

-- no count fell
pub counts_grow : {V : Type 0} (g : Ghosts V) (xs ys : List (Forks V)) (q : ℕ)
    → KeepEach g xs ys → count_at g xs q ≤ count_at g ys q
counts_grow g [] [] q kept = omega arith
counts_grow g (x ∷ xs) (y ∷ ys) zero kept = kept.0.area.faults
counts_grow g (x ∷ xs) (y ∷ ys) (suc q) kept = counts_grow g xs ys q kept.1
counts_grow g [] (y ∷ ys) q kept = absurd kept
counts_grow g (x ∷ xs) [] q kept = absurd kept

rose_before : (a b c : ℕ) → a ≤ b → Rose b c → Rose a c
rose_before a b c le rose = omega (arith, le, rose)

rose_behind : (a b c : ℕ) → Rose a b → b ≤ c → Rose a c
rose_behind a b c rose le = omega (arith, le, rose)

pub all_none : {V : Type 0} (g : Ghosts V) (f : StoreForks V) → KeepsAll g f f
all_none g f = record {
  each = each_none g f.parts;
  named = inl refl;
}

pub all_on : {V : Type 0} (g : Ghosts V) (a b c : StoreForks V)
    → KeepsAll g a b → KeepsAll g b c → KeepsAll g a c
all_on {V} g a b c first second = record {
  each = each_on g a.parts b.parts c.parts first.each second.each;
  named = go first.named second.named;
}
  where
    go : (b.faults ≡ a.faults) ⊎ NamesFault g a b → (c.faults ≡ b.faults) ⊎ NamesFault g b c
        → (c.faults ≡ a.faults) ⊎ NamesFault g a c
    go (inl x) (inl y) = inl (y ∙ x)
    go (inr x) (inl y) =
        let last = ap (λ (f : AreaFaults). f.last) y in
        inr (record {
          below = subst (λ (n : ℕ). n < 4) (sym last) x.below;
          rose = subst (λ (n : ℕ). Rose (count_at g a.parts n) (count_at g c.parts n)) (sym last)
              (rose_behind _ _ _ x.rose
              (counts_grow g b.parts c.parts b.faults.last second.each));
        })
    go x (inr y) = inr (record {
      below = y.below;
      rose = rose_before _ _ _ (counts_grow g a.parts b.parts c.faults.last first.each) y.rose;
    })
