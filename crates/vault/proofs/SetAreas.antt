-- The areas of a site, of which one is set.
use Rattle.std.proofs.Common.{◌≡◌, ◌≢◌, ℕ, Bool, true, false, List, refl, inl, inr, ◌⊎◌, Result, Ok, Err, OnOk, OnErr, ap}
use Rattle.std.specs.Str.{bytes_eq}
use Rattle.std.proofs.lemmas.Slice.Eq.{bytes_eq-Decides}
use Rattle.vault.specs.Site.{AreaState, Areas, AllHome, away, set_at}

pub set_at-same : (f : Areas) (name : List ℕ) (x : AreaState) → set_at f name x name ≡ x
unfolding set_at
set_at-same f name x = rw ((bytes_eq-Decides name name).1 refl) refl

-- a test that is true or false
either : (b : Bool) → (b ≡ true) ⊎ (b ≡ false)
either true = inl refl
either false = inr refl

-- a name is another one or not
pub same_or_not : (n name : List ℕ) → (n ≡ name) ⊎ (n ≢ name)
same_or_not n name =
    elim (either (bytes_eq n name)) [
      | inl hit ↦ inl ((bytes_eq-Decides n name).0 hit)
      | inr miss ↦ inr (λ is. absurd cc ((bytes_eq-Decides n name).1 is))
    ]

pub set_at-other : (f : Areas) (name n : List ℕ) (x : AreaState) → n ≢ name → set_at f name x n ≡ f n
unfolding set_at
set_at-other f name n x other =
    elim (either (bytes_eq n name)) [
      | inl e ↦ absurd (other ((bytes_eq-Decides n name).0 e))
      | inr e ↦ rw e refl
    ]

-- what holds at a name of the area that was set there, and of every other as it was, holds at every name
pub set_at-each : (P : List ℕ → AreaState → Type 0) (f : Areas) (name : List ℕ) (x : AreaState) → P name x → (n : List ℕ) → (n ≢ name → P n (f n)) → P n (set_at f name x n)
set_at-each P f name x here n there =
    elim (same_or_not n name) [
      | inl is ↦ rw (is, set_at-same f name x) here
      | inr other ↦ rw (set_at-other f name n x other) (there other)
    ]

pub same_home : (f g : Areas) → g ≡ f → AllHome f → AllHome g
same_home f g same home n = rw (ap (λ (areas : Areas). areas n) same) (home n)

-- all areas are at home after one was placed there, or none
pub home_after : {E : Type 0} (r : Result (Unit {0}) E) (old new : Areas) (name : List ℕ) (x : AreaState) → OnOk r (new ≡ set_at old name x) → OnErr r (new ≡ old) → x.home ≡ true → AllHome old → AllHome new
home_after (Ok done) old new name x placed same home all =
    same_home _ _ placed (λ n. set_at-each (λ _ area. area.home ≡ true) old name x home n (λ _. all n))
home_after (Err e) old new name x placed same home all = same_home _ _ same all

-- a new area that was taken
pub out_new : (f h g : Areas) (name : List ℕ) (x : AreaState) → h ≡ f → f name ≡ x → g ≡ set_at h name (away x) → g ≡ set_at f name (away (f name))
out_new f h g name x same new out = rw (out, same, new) refl

-- what holds, holds after an error
pub after_error : {T E : Type 0} (r : Result T E) (P : Type 0) → P → OnErr r P
after_error (Ok v) P holds = tt
after_error (Err e) P holds = holds
