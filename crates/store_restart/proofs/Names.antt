-- Names of files, as a list has them.
use Rattle.std.proofs.Common.{◌≡◌, ◌≢◌, ℕ, ◌⊎◌, inl, inr, Bool, true, true≢false, ◌||◌, List, [], ◌∷◌, ◌++◌, Option, Some, None, is_some, refl, sym, ap, ◌∙◌}
use Rattle.std.specs.Ordering.{nat_cmp, eq_by_cmp}
use Rattle.std.specs.Cmp.Lexicographic.{slice_cmp}
use Rattle.std.specs.List.{list_any}
use Rattle.std.specs.FinMap.{get, keys, contains_key-keys}
use Rattle.lsn_core.specs.Files.{Files}
use Rattle.lsn_core.proofs.StoreFiles.{names_tie}
use Rattle.store_restart.proofs.Survived.{by_test}

-- a name is one of some
abbrev pub IsOne : List ℕ → List (List ℕ) → Type 0
IsOne q [] = ⊥
IsOne q (name ∷ names) = (q ≡ name) ⊎ IsOne q names

one_by_test : (q : List ℕ) (names : List (List ℕ)) → list_any (eq_by_cmp (slice_cmp nat_cmp) q) names ≡ true → IsOne q names
one_by_test q [] e = absurd (true≢false (sym e))
one_by_test q (name ∷ names) e =
    by_test (eq_by_cmp (slice_cmp nat_cmp) q name) (λ k. inl (names_tie q name k))
    (λ k. inr (one_by_test q names (sym (ap (λ (b : Bool). b || list_any (eq_by_cmp (slice_cmp nat_cmp) q) names) k) ∙ e)))

some_key : (o : Option (List ℕ)) → o ≢ None → is_some o ≡ true
some_key None some = absurd (some refl)
some_key (Some bytes) some = refl

-- all names that are there
pub is_key : (files : Files) (q : List ℕ) → get files q ≢ None → IsOne q (keys files)
is_key files q there = one_by_test q (keys files) (sym (contains_key-keys files q) ∙ some_key (get files q) there)

pub last_or : (q name : List ℕ) (rest : List (List ℕ)) → IsOne q (rest ++ (name ∷ [])) → (q ≡ name) ⊎ IsOne q rest
last_or q name [] (inl e) = inl e
last_or q name [] (inr e) = absurd e
last_or q name (other ∷ rest) (inl e) = inr (inl e)
last_or q name (other ∷ rest) (inr e) = elim (last_or q name rest e) [ inl same ↦ inl same | inr there ↦ inr (inr there) ]
