-- One step of a chain, from a member to the one that it stands on.
use Rattle.std.proofs.Common.{◌≡◌, ℕ, ◌<◌, ◌≤◌, zero, suc, true, false, List, ◌∷◌, Some, None, refl, arith}
use Rattle.chain_listing.specs.Backups.{is_full}
use Rattle.chain_listing.specs.Chains.{chain_behind, prior_of}
use Rattle.chain_listing.specs.declared.backup.Backup.{Backup}

pub none_left : (n : ℕ) (all : List Backup) (behind : List (List ℕ)) (b : Backup) → n ≤ 0 → chain_behind n all behind b ≡ None
unfolding chain_behind
none_left zero all behind b small = refl
none_left (suc n) all behind b small = absurd (omega (arith, small))

pub begun : (n : ℕ) (all : List Backup) (behind : List (List ℕ)) (b : Backup) → 0 < n → is_full b ≡ true → chain_behind n all behind b ≡ Some (b.name ∷ behind)
unfolding chain_behind
begun zero all behind b some full = absurd (omega (arith, some))
begun (suc n) all behind b some full = rw full refl

pub lost : (n : ℕ) (all : List Backup) (behind : List (List ℕ)) (b : Backup) → 0 < n → is_full b ≡ false → prior_of all b ≡ None → chain_behind n all behind b ≡ None
unfolding chain_behind
lost zero all behind b some full none = absurd (omega (arith, some))
lost (suc n) all behind b some full none = rw (full, none) refl

pub further : (n m : ℕ) (all : List Backup) (behind : List (List ℕ)) (b p : Backup) → n ≡ suc m → is_full b ≡ false → prior_of all b ≡ Some p → chain_behind n all behind b ≡ chain_behind m all (b.name ∷ behind) p
unfolding chain_behind
further n m all behind b p e full prior = rw (e, full, prior) refl
