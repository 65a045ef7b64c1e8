-- Pages in areas that hold the parts of a store.
use Rattle.std.proofs.Common.{◌≡◌, ℕ, zero, suc, ◌<◌, List, [], ◌∷◌, Some, refl, arith}
use Rattle.std.specs.Prelude.{slice_get}
use Rattle.lsn_core.specs.Store.{Store}
use Rattle.vault.specs.declared.area.Vault.{Ghosts}
use Rattle.history.specs.partitions.Parts.{IsPart}
use Rattle.rel_files.specs.Shown.{AreFilesOf, HoldsStore}
use Rattle.rel_files.specs.declared.forks.Forks.{Forks}
use Rattle.data_areas.specs.declared.areas.DataAreas.{DataAreas}
use Rattle.data_areas.specs.Rebuilt.{HoldsPages}
use Rattle.data_areas.specs.Stored.{ShowsPart}
use Rattle.restart_areas.specs.Pages.{HoldParts}

one_shown : {V : Type 0} (g : Ghosts V) (relseg q : ℕ) (area : V) (f : Forks V) (store : Store) (forks : List (Forks V)) → ((s : Store) → AreFilesOf relseg (g.files area) s → HoldsStore g f s)
    → slice_get forks q ≡ Some f → (part : Store) × (IsPart q store part × HoldsPages relseg (g.files area) part) → ShowsPart g q store forks
one_shown g relseg q area f store forks held there has = record {
  files = f;
  there = there;
  part = has.0;
  part_is = has.1.0;
  shown = record { holds = held has.0 has.1.1.files; whole = has.1.1.whole };
}

pub four_shown : {V : Type 0} (g : Ghosts V) (relseg : ℕ) (areas : DataAreas V) (store : Store) (f0 f1 f2 f3 : Forks V) → HoldParts g relseg areas store
    → ((s : Store) → AreFilesOf relseg (g.files areas.data0) s → HoldsStore g f0 s) → ((s : Store) → AreFilesOf relseg (g.files areas.data1) s → HoldsStore g f1 s)
    → ((s : Store) → AreFilesOf relseg (g.files areas.data2) s → HoldsStore g f2 s) → ((s : Store) → AreFilesOf relseg (g.files areas.data3) s → HoldsStore g f3 s)
    → (q : ℕ) → q < 4 → ShowsPart g q store (f0 ∷ (f1 ∷ (f2 ∷ (f3 ∷ []))))
four_shown g relseg areas store f0 f1 f2 f3 has h0 h1 h2 h3 zero below = one_shown g relseg 0 areas.data0 f0 store (f0 ∷ (f1 ∷ (f2 ∷ (f3 ∷ [])))) h0 refl (has 0 below)
four_shown g relseg areas store f0 f1 f2 f3 has h0 h1 h2 h3 (suc zero) below = one_shown g relseg 1 areas.data1 f1 store (f0 ∷ (f1 ∷ (f2 ∷ (f3 ∷ [])))) h1 refl (has 1 below)
four_shown g relseg areas store f0 f1 f2 f3 has h0 h1 h2 h3 (suc (suc zero)) below = one_shown g relseg 2 areas.data2 f2 store (f0 ∷ (f1 ∷ (f2 ∷ (f3 ∷ [])))) h2 refl (has 2 below)
four_shown g relseg areas store f0 f1 f2 f3 has h0 h1 h2 h3 (suc (suc (suc zero))) below = one_shown g relseg 3 areas.data3 f3 store (f0 ∷ (f1 ∷ (f2 ∷ (f3 ∷ [])))) h3 refl (has 3 below)
four_shown g relseg areas store f0 f1 f2 f3 has h0 h1 h2 h3 (suc (suc (suc (suc q)))) below = absurd (omega (arith, below))
