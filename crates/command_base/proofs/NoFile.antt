-- An area holds no file just where it has no name.
use Rattle.std.proofs.Common.{◌≡◌, ℕ, List, [], ◌∷◌, length, refl, sym, ap, subst, ◌∙◌, arith}
use Rattle.std.specs.FinMap.{empty, entries, keys, empty_of_len, len-entries, len-empty, len}
use Rattle.std.specs.Ordering.{nat_cmp}
use Rattle.std.specs.Cmp.Lexicographic.{slice_cmp}
use Rattle.std.proofs.lemmas.List.{length-map}
use Rattle.lsn_core.specs.Files.{Files}

no_length : {X : Type 0} (xs : List X) → length xs ≡ 0 → xs ≡ []
no_length [] e = refl
no_length (x ∷ xs) e = absurd (omega arith)

pub clear_of_names : (m : Files) → keys m ≡ [] → m ≡ empty
clear_of_names m e = empty_of_len m (len-entries m ∙ sym (length-map (entries m) (λ (x : List ℕ × List ℕ). x.0)) ∙ ap length e)

pub names_of_clear : (m : Files) → m ≡ empty → keys m ≡ []
names_of_clear m e = no_length (keys m) (length-map (entries m) (λ (x : List ℕ × List ℕ). x.0) ∙ sym (len-entries m) ∙ subst (λ (n : Files). len n ≡ 0) (sym e) (len-empty (slice_cmp nat_cmp) (List ℕ)))
