-- Segment files that are removed one after the other.
use Rattle.std.proofs.Common.{◌≡◌, ℕ, inl, inr, true, false, Bool, cond, List, [], ◌∷◌, ◌++◌, Option, Some, None, IfSome, refl, sym, ap, subst, ◌∙◌}
use Rattle.std.specs.Prelude.{◌≢◌}
use Rattle.std.specs.Ordering.{nat_cmp, eq_by_cmp}
use Rattle.std.specs.Cmp.{eq_by_cmp_equiv}
use Rattle.std.specs.Cmp.Lexicographic.{slice_cmp, nat_list_cmp_total}
use Rattle.std.specs.FinMap.{get, keys, remove, get-remove}
use Rattle.lsn_core.specs.Files.{Files}
use Rattle.vault.specs.Area.{after_remove}
use Rattle.rel_files.specs.Forks.{IsForkPath}
use Rattle.rel_files.specs.Laws.{HasNoForks}
use Rattle.rel_neat.proofs.Names.{IsOne, is_key, last_or}
use Rattle.restart_areas.specs.Inside.{DropsFork}

-- the segment files that are there are among these names
abbrev pub AreAmong : List (List ℕ) → Files → Type 0
AreAmong names files = (path : List ℕ) → IsForkPath path → get files path ≢ None → IsOne path names

pub among_start : (names : List (List ℕ)) (told now : Option Files) → now ≡ told → IfSome told (λ m. names ≡ keys m) → IfSome now (AreAmong names)
among_start names None now same are = subst (λ (o : Option Files). IfSome o (AreAmong names)) (sym same) tt
among_start names (Some m) now same are = subst (λ (o : Option Files). IfSome o (AreAmong names)) (sym same) (λ path is there. subst (IsOne path) (sym are) (is_key m path there))

still_there : (files : Files) (name path : List ℕ) → get (remove files name) path ≢ None → get files path ≢ None
still_there files name path there none = there (get-remove nat_list_cmp_total files name path ∙ ap (cond (eq_by_cmp (slice_cmp nat_cmp) path name) None) none ∙ either (eq_by_cmp (slice_cmp nat_cmp) path name))
  where
    either : (b : Bool) → ◌≡◌ {A = Option (List ℕ)} (cond b None None) None
    either true = refl
    either false = refl

removed_gone : (name : List ℕ) (files : Files) → get (after_remove name files) name ≡ None
removed_gone name files = get-remove nat_list_cmp_total files name name ∙ ap (λ (c : Bool). cond c None (get files name)) ((eq_by_cmp_equiv nat_list_cmp_total).refl name)

dropped : (name : List ℕ) (rest : List (List ℕ)) (old : Files) → AreAmong (rest ++ (name ∷ [])) old → AreAmong rest (after_remove name old)
dropped name rest old among path is there =
    elim (last_or path name rest (among path is (still_there old name path there))) [
      | inl same ↦ absurd (there (ap (get (remove old name)) same ∙ removed_gone name old))
      | inr one ↦ one
    ]

passed : (name : List ℕ) (rest : List (List ℕ)) (old : Files) → (IsForkPath name → ⊥) → AreAmong (rest ++ (name ∷ [])) old → AreAmong rest old
passed name rest old not among path is there =
    elim (last_or path name rest (among path is there)) [
      | inl same ↦ absurd (not (subst IsForkPath same is))
      | inr one ↦ one
    ]

pub among_step : (name : List ℕ) (names rest : List (List ℕ)) (old new : Option Files) → names ≡ rest ++ (name ∷ []) → DropsFork name old new → IfSome old (AreAmong names) → IfSome new (AreAmong rest)
among_step name names rest None new are (inl is) among = subst (λ (o : Option Files). IfSome o (AreAmong rest)) (sym is.1) tt
among_step name names rest (Some m) new are (inl is) among = subst (λ (o : Option Files). IfSome o (AreAmong rest)) (sym is.1) (dropped name rest m (subst (λ (ns : List (List ℕ)). AreAmong ns m) are among))
among_step name names rest None new are (inr stays) among = subst (λ (o : Option Files). IfSome o (AreAmong rest)) (sym stays.1) tt
among_step name names rest (Some m) new are (inr stays) among = subst (λ (o : Option Files). IfSome o (AreAmong rest)) (sym stays.1) (passed name rest m stays.0 (subst (λ (ns : List (List ℕ)). AreAmong ns m) are among))

none_is : (o : Option (List ℕ)) → (o ≢ None → ⊥) → o ≡ None
none_is None not = refl
none_is (Some bytes) not = absurd (not (λ e. let k : ◌≡◌ {A = Option (List ℕ)} (Some bytes) None = e in absurd cc))

pub among_none : (names : List (List ℕ)) (told : Option Files) → names ≡ [] → IfSome told (AreAmong names) → IfSome told HasNoForks
among_none names None none among = tt
among_none names (Some m) none among = λ path is. none_is (get m path) (λ there. subst (IsOne path) none (among path is there))
