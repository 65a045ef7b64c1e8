-- A chain that is found is one.
use Rattle.std.proofs.Common.{◌≡◌, ◌≤◌, sym, ℕ, ◌+◌, zero, suc, Bool, true, false, List, [], ◌∷◌, length, map, Option, Some, None, refl, arith, if◌then◌else◌}
use Rattle.std.specs.Option.{option_and_then}
use Rattle.backup_label.proofs.LineTexts.{never_some}
use Rattle.chain_listing.specs.Backups.{is_full}
use Rattle.chain_listing.specs.Chains.{chain_behind, prior_of}
use Rattle.chain_listing.specs.Laws.{AreLinked, last_of, HasChain, ChainsAreLinked}
use Rattle.chain_listing.specs.declared.backup.Backup.{Backup}

some_is : {A : Type 0} (x y : A) → Some x ≡ Some y → x ≡ y
some_is x y e = cc

abbrev Names : Type 0
Names = List (List ℕ)

abbrev names_of : List Backup → Names
names_of members = map (λ b. b.name) members

by_prior : (all later : List Backup) (b : Backup) (last : Backup) (names : Names) (rest : Backup → Option Names) (found : Option Backup)
    → ((p : Backup) → prior_of all b ≡ Some p → rest p ≡ Some names → HasChain all last names)
    → prior_of all b ≡ found → option_and_then rest found ≡ Some names → HasChain all last names
by_prior all later b last names rest None go is e = absurd (never_some names e)
by_prior all later b last names rest (Some p) go is e = go p is e

by_full : (all later : List Backup) (b : Backup) (last : Backup) (names : Names) (more : Option Names) (full : Bool)
    → AreLinked all b later → last_of b later ≡ last → length later + 1 ≤ 64
    → (more ≡ Some names → HasChain all last names)
    → is_full b ≡ full → (if full then Some (b.name ∷ names_of later) else more) ≡ Some names → HasChain all last names
by_full all later b last names more true linked ends few go is e = record {
  members = b ∷ later;
  chain = (is, linked, ends);
  named = sym (some_is _ _ e);
  few = omega (arith, few);
}
by_full all later b last names more false linked ends few go is e = go e

chained : (n : ℕ) (all later : List Backup) (b last : Backup) (names : Names)
    → AreLinked all b later → last_of b later ≡ last → length later + n ≤ 64
    → chain_behind n all (names_of later) b ≡ Some names → HasChain all last names
unfolding chain_behind
chained zero all later b last names linked ends few e = absurd (never_some names e)
chained (suc n) all later b last names linked ends few e =
    by_full all later b last names _ (is_full b) linked ends (omega (arith, few))
    (by_prior all later b last names (chain_behind n all (b.name ∷ names_of later)) (prior_of all b)
    (λ p is f. chained n all (b ∷ later) p last names (is, linked) ends (omega (arith, few)) f) refl)
    refl e

pub chains_linked : ChainsAreLinked
chains_linked all last names e = chained 64 all [] last last names tt refl (omega arith) e
