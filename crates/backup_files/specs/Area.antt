-- What writing a backup leaves of its area.
use Rattle.std.specs.Prelude.{◌≡◌, ◌≢◌, ℕ, ◌+◌, ◌-◌, ◌^◌, ◌≤◌, min, ◌⊎◌, List, Option, None, IfSome}
use Rattle.std.specs.Option.{option_map}
use Rattle.std.specs.FinMap.{get, insert, empty}
use Rattle.lsn_core.specs.Causes.{Rose}
use Rattle.lsn_core.specs.Files.{Files}
use Rattle.lsn_core.specs.declared.fault.AreaFault.{AreaFault}
use Rattle.lsn_core.specs.declared.fault.AreaFault.TheVariants as area
use Rattle.vault.specs.declared.area.Vault.{Ghosts}
use Rattle.vault.specs.Area.{Related}
use Rattle.vault.specs.Stops.{Event, noted, synced, wrote}
use Rattle.backup_files.specs.Directory.{manifest_name}

-- an area has no file of a name, where that is told
abbrev pub Lacks : Option Files → List ℕ → Type 0
Lacks files name = IfSome files (λ m. get m name ≡ None)

-- an area with a file
abbrev pub with_file : List ℕ → List ℕ → Option Files → Option Files
with_file name bytes files = option_map (λ m. insert m name bytes) files

-- an area holds no file, or one at least, where that is told
abbrev pub HoldsNothing : Option Files → Type 0
HoldsNothing files = IfSome files (λ m. m ≡ empty)

abbrev pub HoldsSomething : Option Files → Type 0
HoldsSomething files = IfSome files (λ m. m ≢ empty)

-- either both of two areas tell their files, or neither
abbrev pub TellAlike : Option Files → Option Files → Type 0
TellAlike old new = Related (λ m n. Unit {0}) old new

-- the manifest's file is as it was: missing, in an area that held nothing
abbrev pub KeepsManifest : Option Files → Option Files → Type 0
KeepsManifest old new = Related (λ m n. get n manifest_name ≡ get m manifest_name) old new

-- of the backup's area, the manifest's file is left alone, and the count didn't fall
pub record SparesManifest {V : Type 0} (g : Ghosts V) (old new : V) : Type 0 where
  pub manifest : KeepsManifest (g.files old) (g.files new)
  pub faults : g.faults old ≤ g.faults new

-- the last that was done to an area: all files but the manifest were synced, and then the manifest
-- was written and synced
pub record EndsSynced {V : Type 0} (g : Ghosts V) (out : V) : Type 0 where
  pub before : Option Files
  pub text : List ℕ
  pub earlier : Option (List Event)
  pub files : g.files out ≡ option_map (λ m. insert m manifest_name text) before
  pub past : g.past out ≡ noted (synced (g.files out)) (noted (wrote manifest_name 0 text)
      (noted (synced before) earlier))

-- a count rose twice; at its type's end it stays
abbrev pub RoseTwice : ℕ → ℕ → Type 0
RoseTwice before now = min (before + 2) (2 ^ 64 - 1) ≤ now

-- what is left of the manifest where it can't be written and synced: nothing, unless its removal
-- failed too. Then the count rose twice; or once, and there was no memory; or memory was missing
-- twice, and the text stands
abbrev pub LeavesText : {V : Type 0} → Ghosts V → List ℕ → V → V → AreaFault → Type 0
LeavesText g text old new area.Failed =
    KeepsManifest (g.files old) (g.files new) ⊎ RoseTwice (g.faults old) (g.faults new)
LeavesText g text old new area.NoMemory =
    KeepsManifest (g.files old) (g.files new)
    ⊎ (Rose (g.faults old) (g.faults new)
    ⊎ (g.files new ≡ with_file manifest_name text (g.files old)))
