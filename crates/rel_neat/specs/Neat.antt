-- Segment files that hold whole pages and nothing else.
use Rattle.std.specs.Prelude.{◌≡◌, ℕ, ◌-◌, ◌*◌, ◌<◌, ◌≤◌, false, List, length, Option, Some, IfSome}
use Rattle.std.specs.FinMap.{get}
use Rattle.lsn_core.specs.Files.{Files}
use Rattle.lsn_core.specs.Laws.{HasNamedForks}
use Rattle.lsn_core.specs.Names.{fork_path_bytes, IsNamed}
use Rattle.lsn_core.specs.declared.ids.ForkId.{ForkId}
use Rattle.vault.specs.Frame.{Adds}
use Rattle.vault.specs.declared.area.Vault.{Ghosts}
use Rattle.stop_areas.specs.Left.{Base, IsLeftOf, segment_of}
use Rattle.stop_areas.specs.Keeps.{Keeps}

-- a segment file has whole blocks, at most so many, and unless it is the first of its fork it has
-- some, and the one before it is full
pub record IsNeatFile (relseg : ℕ) (files : Files) (fork : ForkId) (seg : ℕ) (bytes : List ℕ)
    : Type 0 where
  pub blocks : ℕ
  pub size : length bytes ≡ blocks * 8192
  pub most : blocks ≤ relseg
  pub some : 0 < seg → 0 < blocks
  pub before : 0 < seg → relseg * 8192 ≤ length (segment_of files fork (seg - 1))

abbrev pub IsNeatAt : ℕ → Files → ForkId → ℕ → Type 0
IsNeatAt relseg files fork seg =
    IfSome (get files (fork_path_bytes fork seg false)) (IsNeatFile relseg files fork seg)

-- all segment files of forks are neat
abbrev pub IsNeat : ℕ → Files → Type 0
IsNeat relseg files =
    (fork : ForkId) (seg : ℕ) → IsNamed fork seg → IsNeatAt relseg files fork seg

-- files are told, and have what stays
abbrev pub HasLeft : ℕ → Base → Option Files → Type 0
HasLeft relseg base told = (m : Files) × ((told ≡ Some m) × IsLeftOf relseg base m)

-- an area that has what stays has it still, and only events happened to it that keep that
abbrev pub KeepsWhatStays : {V : Type 0} → Ghosts V → ℕ → V → V → Type 0
KeepsWhatStays g relseg old new = (base : Base) → HasNamedForks base.store
    → HasLeft relseg base (g.files old)
    → HasLeft relseg base (g.files new) × Adds (Keeps relseg base) (g.past old) (g.past new)
