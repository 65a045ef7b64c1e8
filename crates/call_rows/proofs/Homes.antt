-- An area that is taken from a site and given back.
use Rattle.std.proofs.Common.{◌≡◌, ℕ, List, true, false, refl, inl, inr}
use Rattle.vault.specs.Site.{AreaState, Areas, AllHome, away, set_at, one_away}
use Rattle.vault.proofs.SetAreas.{set_at-same, set_at-other, same_or_not}

-- an area that is out is not at home
pub is_out : (f g : Areas) (name : List ℕ) → g ≡ one_away f name → (g name).home ≡ false
is_out f g name out = rw (out, set_at-same f name (away (f name))) refl

-- its count of faults stays
pub out_faults : (f g : Areas) (name : List ℕ) (area : AreaState) → area ≡ f name → g ≡ one_away f name → (g name).faults ≡ area.faults
out_faults f g name area taken out = rw (out, set_at-same f name (away (f name)), taken) refl

-- all areas are at home again
pub all_home : (f g h : Areas) (name : List ℕ) (area : AreaState) → AllHome f → g ≡ one_away f name → h ≡ set_at g name area → area.home ≡ true → AllHome h
all_home f g h name area home out back here n =
    elim (same_or_not n name) [
      | inl is ↦ rw (back, is, set_at-same g name area) here
      | inr other ↦ rw (back, set_at-other g name n area other, out, set_at-other f name n (away (f name)) other) (home n)
    ]
