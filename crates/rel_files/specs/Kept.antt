-- Calls keep what lies below: no call at all, and calls one after the other.
use Rattle.std.specs.Prelude.{ℕ, List, Option, Some, None, refl}
use Rattle.std.proofs.Common.{◌∙◌, arith}
use Rattle.lsn_core.specs.Files.{Files}
use Rattle.vault.specs.declared.area.Vault.{Ghosts}
use Rattle.vault.specs.Area.{Related}
use Rattle.vault.specs.Stops.{Event}
use Rattle.vault.specs.Frame.{AgreeBut, IsAmong}
use Rattle.vault.proofs.Through.{adds_none}
use Rattle.vault.proofs.Changed.{changes_on}
use Rattle.rel_files.specs.Forks.{IsForkPath}
use Rattle.rel_files.specs.Shown.{KeepsOthers}
use Rattle.rel_files.specs.declared.forks.Forks.{Forks}

-- the ghost members of a type of areas, as a law of an implementation has them
abbrev pub ghosts_of : {V : Type 0}
    → (V → Option Files) → (V → ℕ) → (V → Option (List Event)) → Ghosts V
ghosts_of files faults past = record { files = files; faults = faults; past = past }

agree_none : (Among : List ℕ → Type 0) (x : Option Files) → Related (AgreeBut Among) x x
agree_none Among None = tt
agree_none Among (Some m) = λ q out. refl

pub keeps_none : {V : Type 0} (g : Ghosts V) (f : Forks V) → KeepsOthers g f f
keeps_none g f = record {
  relseg = refl;
  area = record {
    files = agree_none IsForkPath (g.files f.area);
    past = adds_none (IsAmong IsForkPath) (g.past f.area) (g.past f.area) refl;
    faults = omega arith;
  };
}

pub keeps_on : {V : Type 0} (g : Ghosts V) (a b c : Forks V)
    → KeepsOthers g a b → KeepsOthers g b c → KeepsOthers g a c
keeps_on g a b c first second = record {
  relseg = second.relseg ∙ first.relseg;
  area = changes_on g IsForkPath a.area b.area c.area first.area second.area;
}
