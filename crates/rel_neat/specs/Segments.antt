-- What functions inside the crate answer about segment files. No public contract cites these.
use Rattle.std.specs.Prelude.{◌≡◌, ◌≢◌, ℕ, ◌-◌, ◌*◌, ◌/◌, ◌==◌, ◌&&◌, ◌||◌, min, Bool, false, List, [], ◌∷◌, length, Option, Some, None, Result, OnOk, OnErr, nat_lt, if◌then◌else◌}
use Rattle.std.specs.List.{Contains}
use Rattle.std.specs.List.Sorted.{IsNonDecreasingBy}
use Rattle.std.specs.Option.{option_map}
use Rattle.std.specs.FinMap.{get}
use Rattle.lsn_core.specs.Files.{Files}
use Rattle.lsn_core.specs.Names.{fork_path_bytes, IsNamed}
use Rattle.lsn_core.specs.declared.fault.AreaFault.{AreaFault}
use Rattle.lsn_core.specs.declared.ids.ForkId.{ForkId}
use Rattle.vault.specs.Area.{after_cut, after_remove, Related, IsUndecided}
use Rattle.vault.specs.Frame.{Adds}
use Rattle.vault.specs.Stops.{Event, cut, removed}
use Rattle.vault.specs.declared.area.Vault.{Ghosts}
use Rattle.rel_files.specs.Forks.{IsForkPath}
use Rattle.stop_areas.specs.Left.{segment_of}

-- ---- which there are

-- the segment file that a path names, in its plain form
abbrev pub TellsSegment : List ℕ → Option (ForkId × ℕ) → Type 0
TellsSegment path None = IsForkPath path → ⊥
TellsSegment path (Some x) = IsNamed x.0 x.1 × (path ≡ fork_path_bytes x.0 x.1 false)

abbrev pub IsSegmentNamed : ForkId × ℕ → Type 0
IsSegmentNamed x = IsNamed x.0 x.1

-- these are the segment files that are there, by their numbers
pub record ListsSegments (found : List (ForkId × ℕ)) (files : Files) : Type 0 where
  pub all : (fork : ForkId) (seg : ℕ) → IsNamed fork seg
      → get files (fork_path_bytes fork seg false) ≢ None → Contains found (fork, seg)
  pub rising : IsNonDecreasingBy (λ x. x.1) found

-- ---- one of them

-- how many whole blocks it has, at most so many
abbrev pub blocks_in : ℕ → Files → ForkId → ℕ → ℕ
blocks_in relseg files fork seg = min (length (segment_of files fork seg) / 8192) relseg

-- its fork doesn't have it
abbrev pub is_stray : ℕ → Files → ForkId → ℕ → Bool
is_stray relseg files fork seg =
    nat_lt 0 seg && ((blocks_in relseg files fork seg == 0)
    || nat_lt (blocks_in relseg files fork (seg - 1)) relseg)

-- the files once it was made neat, and once several were, in turn
abbrev pub neatened : ℕ → ForkId → ℕ → Files → Files
neatened relseg fork seg files =
    if is_stray relseg files fork seg then after_remove (fork_path_bytes fork seg false) files
    else after_cut (fork_path_bytes fork seg false) (blocks_in relseg files fork seg * 8192) files

abbrev pub all_neatened : ℕ → List (ForkId × ℕ) → Files → Files
all_neatened relseg [] files = files
all_neatened relseg (x ∷ xs) files = all_neatened relseg xs (neatened relseg x.0 x.1 files)

-- ---- calls

-- a call made a step of the files, which is one event; where it failed they are as before or after
pub record Makes {V : Type 0} (g : Ghosts V) (step : Files → Files) (event : Event) (old new : V)
    (result : Result (Unit {0}) AreaFault) : Type 0 where
  pub done : OnOk result (g.files new ≡ option_map step (g.files old))
  pub failed : OnErr result (Related (IsUndecided step) (g.files old) (g.files new))
  pub events : Adds (λ e. e ≡ event) (g.past old) (g.past new)

abbrev pub Removes : {V : Type 0} → Ghosts V → ForkId → ℕ → V → V
    → Result (Unit {0}) AreaFault → Type 0
Removes g fork seg old new result =
    Makes g (after_remove (fork_path_bytes fork seg false))
    (removed (fork_path_bytes fork seg false)) old new result

abbrev pub CutsTo : {V : Type 0} → Ghosts V → ForkId → ℕ → ℕ → V → V
    → Result (Unit {0}) AreaFault → Type 0
CutsTo g fork seg size old new result =
    Makes g (after_cut (fork_path_bytes fork seg false) size)
    (cut (fork_path_bytes fork seg false) size) old new result
