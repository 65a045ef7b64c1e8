-- Areas that a command took from a site and gave back.
use Rattle.std.proofs.Common.{◌≡◌, ℕ, ◌≤◌, List, [], ◌∷◌, refl, sym, ap, subst, ◌∙◌, arith, inl, inr}
use Rattle.vault.specs.declared.area.Vault.{Ghosts as Vaults}
use Rattle.vault.specs.declared.site.Site.{Ghosts as Sites}
use Rattle.vault.specs.declared.lending.Held.{Held}
use Rattle.vault.specs.Frame.{OnlyReads}
use Rattle.vault.specs.Site.{Areas, AreaState, AllHome, IsStill, state_in}
use Rattle.vault.specs.Lending.{Names, WritesAmong, AreTaken, GivesBack, all_away}
use Rattle.vault.proofs.LentAreas.{writes_fewer}

abbrev held : {A : Type 0} → List ℕ → A → Held A
held name area = record { name = name; area = area }

-- ---- two areas

-- those that were taken, by their names
pub taken_as : {S A : Type 0} (s : Sites S A) (g : Vaults A) (names : Names) (a b : List ℕ) (old mid : S) (taken : List (Held A)) (x y : Held A) → names ≡ a ∷ (b ∷ []) → taken ≡ x ∷ (y ∷ []) → AreTaken s g names old mid taken → AreTaken s g (a ∷ (b ∷ [])) old mid (x ∷ (y ∷ []))
taken_as {A = A} s g names a b old mid taken x y named listed is =
    subst (λ (xs : List (Held A)). AreTaken s g (a ∷ (b ∷ [])) old mid xs) listed (subst (λ (ns : Names). AreTaken s g ns old mid taken) named is)

-- what a site comes to whose areas were all at home, once they were given back
pub record TwoBack {S A : Type 0} (s : Sites S A) (g : Vaults A) (a b : List ℕ) (old new : S) (p q p_now q_now : A) : Type 0 where
  pub site : WritesAmong (a ∷ (b ∷ [])) (s.areas old) (s.areas new)
  pub first : s.areas old a ≡ state_in g p
  pub second : s.areas old b ≡ state_in g q
  pub first_now : s.areas new a ≡ state_in g p_now
  pub second_now : s.areas new b ≡ state_in g q_now
  pub later : s.take_faults old ≤ s.take_faults new

pub two_back : {S A : Type 0} (s : Sites S A) (g : Vaults A) (a b : List ℕ) (old mid new : S) (n m : List ℕ) (p q p_now q_now : A) → AllHome (s.areas old) → AreTaken s g (a ∷ (b ∷ [])) old mid (held n p ∷ (held m q ∷ []))
    → GivesBack s g (held n p_now ∷ (held m q_now ∷ [])) mid new → TwoBack s g a b old new p q p_now q_now
two_back s g a b old mid new n m p q p_now q_now home taken gives =
    let e : n ≡ a = taken.areas.0 in
    let f : m ≡ b = taken.areas.2.0 in
    let names : n ∷ (m ∷ []) ≡ a ∷ (b ∷ []) = ap (λ (x : List ℕ). x ∷ (m ∷ [])) e ∙ ap (λ (x : List ℕ). a ∷ (x ∷ [])) f in
    let out : s.areas mid ≡ all_away (s.areas old) (n ∷ (m ∷ [])) = taken.away ∙ ap (all_away (s.areas old)) (sym names) in
    let back = gives.lent (s.areas old) home out in
    record {
      site = subst (λ (ns : Names). WritesAmong ns (s.areas old) (s.areas new)) names back.site;
      first = taken.areas.1;
      second = taken.areas.2.1;
      first_now = subst (λ (x : List ℕ). s.areas new x ≡ state_in g p_now) e back.areas.1;
      second_now = subst (λ (x : List ℕ). s.areas new x ≡ state_in g q_now) f back.areas.2.1;
      later = omega (arith, taken.later, gives.take_faults);
    }

-- one of them was only read
pub first_writes : (a b : List ℕ) (old new : Areas) → WritesAmong (a ∷ (b ∷ [])) old new → IsStill (old b) (new b) → WritesAmong (a ∷ []) old new
first_writes a b old new site same =
    writes_fewer (a ∷ (b ∷ [])) (a ∷ []) old new site (λ n one none. elim one [
      | inl is ↦ absurd (none.0 is)
      | inr more ↦ elim more [
        | inl is ↦ subst (λ (x : List ℕ). IsStill (old x) (new x)) (sym is) same
        | inr other ↦ absurd other
      ]
    ])

pub second_writes : (a b : List ℕ) (old new : Areas) → WritesAmong (a ∷ (b ∷ [])) old new → IsStill (old a) (new a) → WritesAmong (b ∷ []) old new
second_writes a b old new site same =
    writes_fewer (a ∷ (b ∷ [])) (b ∷ []) old new site (λ n one none. elim one [
      | inl is ↦ subst (λ (x : List ℕ). IsStill (old x) (new x)) (sym is) same
      | inr more ↦ elim more [
        | inl is ↦ absurd (none.0 is)
        | inr other ↦ absurd other
      ]
    ])

-- ---- one area

pub record OneBack {S A : Type 0} (s : Sites S A) (g : Vaults A) (a : List ℕ) (old new : S) (p p_now : A) : Type 0 where
  pub site : WritesAmong (a ∷ []) (s.areas old) (s.areas new)
  pub area : s.areas old a ≡ state_in g p
  pub area_now : s.areas new a ≡ state_in g p_now
  pub later : s.take_faults old ≤ s.take_faults new

pub one_back : {S A : Type 0} (s : Sites S A) (g : Vaults A) (a : List ℕ) (old mid new : S) (n : List ℕ) (p p_now : A) → AllHome (s.areas old) → AreTaken s g (a ∷ []) old mid (held n p ∷ []) → GivesBack s g (held n p_now ∷ []) mid new → OneBack s g a old new p p_now
one_back s g a old mid new n p p_now home taken gives =
    let e : n ≡ a = taken.areas.0 in
    let names : n ∷ [] ≡ a ∷ [] = ap (λ (x : List ℕ). x ∷ []) e in
    let out : s.areas mid ≡ all_away (s.areas old) (n ∷ []) = taken.away ∙ ap (all_away (s.areas old)) (sym names) in
    let back = gives.lent (s.areas old) home out in
    record {
      site = subst (λ (ns : Names). WritesAmong ns (s.areas old) (s.areas new)) names back.site;
      area = taken.areas.1;
      area_now = subst (λ (x : List ℕ). s.areas new x ≡ state_in g p_now) e back.areas.1;
      later = omega (arith, taken.later, gives.take_faults);
    }

-- it was only read
pub none_writes : (a : List ℕ) (old new : Areas) → WritesAmong (a ∷ []) old new → IsStill (old a) (new a) → WritesAmong [] old new
none_writes a old new site same =
    writes_fewer (a ∷ []) [] old new site (λ n one none. elim one [
      | inl is ↦ subst (λ (x : List ℕ). IsStill (old x) (new x)) (sym is) same
      | inr other ↦ absurd other
    ])

-- ---- areas that were only read

pub reads_still : {A : Type 0} (g : Vaults A) (p q : A) → OnlyReads g p q → IsStill (state_in g p) (state_in g q)
reads_still g p q reads = record { files = reads.files; past = reads.past }

pub still_at : (x y p q : AreaState) → x ≡ p → y ≡ q → IsStill p q → IsStill x y
still_at x y p q was is still = rw (was, is) still

-- ---- none

-- a site that wasn't touched
pub none_written : (names : Names) (areas : Areas) → AllHome areas → WritesAmong names areas areas
none_written names areas home = record {
  home = home;
  later = λ n. omega arith;
  others = λ n none. refl;
  quiet = λ n none. refl;
}
