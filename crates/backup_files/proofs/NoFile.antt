-- An area holds no file just where it has no name.
use Rattle.std.proofs.Common.{◌≡◌, ◌≢◌, ℕ, List, [], ◌∷◌, length, Option, Some, None, IfSome, refl, sym, ap, subst, ◌∙◌, arith}
use Rattle.std.specs.FinMap.{empty, entries, keys, empty_of_len, len-entries, len-empty, len}
use Rattle.std.specs.Ordering.{nat_cmp}
use Rattle.std.specs.Cmp.Lexicographic.{slice_cmp}
use Rattle.std.proofs.lemmas.List.{length-map}
use Rattle.lsn_core.specs.Files.{Files}
use Rattle.backup_files.specs.Area.{HoldsNothing, HoldsSomething}

no_length : {X : Type 0} (xs : List X) → length xs ≡ 0 → xs ≡ []
no_length [] e = refl
no_length (x ∷ xs) e = absurd (omega arith)

clear_of_names : (m : Files) → keys m ≡ [] → m ≡ empty
clear_of_names m e = empty_of_len m (len-entries m ∙ sym (length-map (entries m) (λ (x : List ℕ × List ℕ). x.0)) ∙ ap length e)

names_of_clear : (m : Files) → m ≡ empty → keys m ≡ []
names_of_clear m e = no_length (keys m) (length-map (entries m) (λ (x : List ℕ × List ℕ). x.0) ∙ sym (len-entries m) ∙ subst (λ (n : Files). len n ≡ 0) (sym e) (len-empty (slice_cmp nat_cmp) (List ℕ)))

-- an area whose names were listed
pub holds_nothing : (files : Option Files) (names : List (List ℕ)) → names ≡ [] → IfSome files (λ m. names ≡ keys m) → HoldsNothing files
holds_nothing None names none listed = tt
holds_nothing (Some m) names none listed = clear_of_names m (sym listed ∙ none)

pub holds_something : (files : Option Files) (names : List (List ℕ)) → names ≢ [] → IfSome files (λ m. names ≡ keys m) → HoldsSomething files
holds_something None names some listed = tt
holds_something (Some m) names some listed = λ e. some (listed ∙ names_of_clear m e)
