-- What calls on a store in segment files add to what happened to the area.
use Rattle.std.specs.Prelude.{◌≡◌, ℕ, ◌+◌, ◌-◌, ◌*◌, ◌/◌, ◌%◌, ◌≤◌, ◌⊎◌, false, List, [], length}
use Rattle.lsn_core.specs.declared.ids.ForkId.{ForkId}
use Rattle.lsn_core.specs.declared.ids.BlockId.{BlockId}
use Rattle.lsn_core.specs.Names.{fork_path_bytes, IsNamed}
use Rattle.vault.specs.Stops.{Event, wrote, cut, removed}

-- a page was written at a block of a fork
pub record IsPageWrite (relseg : ℕ) (fork : ForkId) (block : ℕ) (event : Event) : Type 0 where
  pub page : List ℕ
  pub size : length page ≡ 8192
  pub named : IsNamed fork (block / relseg)
  pub is : event ≡ wrote (fork_path_bytes fork (block / relseg) false) (block % relseg * 8192) page

-- at a block, or before it at one of those from a number of blocks on
pub record IsPut (relseg count : ℕ) (at : BlockId) (event : Event) : Type 0 where
  pub block : ℕ
  pub upto : block ≤ at.block
  pub from : (count ≤ block) ⊎ (block ≡ at.block)
  pub write : IsPageWrite relseg at.fork block event

-- the first file of a fork was made
pub record IsMake (fork : ForkId) (event : Event) : Type 0 where
  pub named : IsNamed fork 0
  pub is : event ≡ wrote (fork_path_bytes fork 0 false) 0 []

-- a file of a fork was removed, from one on
pub record IsFileRemoval (fork : ForkId) (first : ℕ) (event : Event) : Type 0 where
  pub seg : ℕ
  pub from : first ≤ seg
  pub named : IsNamed fork seg
  pub is : event ≡ removed (fork_path_bytes fork seg false)

-- a file of a fork was cut so that so many blocks of the fork are left
pub record IsFileCut (relseg : ℕ) (fork : ForkId) (left : ℕ) (event : Event) : Type 0 where
  pub seg : ℕ
  pub before : seg * relseg ≤ left
  pub named : IsNamed fork seg
  pub is : event ≡ cut (fork_path_bytes fork seg false) ((left - seg * relseg) * 8192)

-- a file that has none of so many first blocks was removed, or the last one that has some was cut
-- behind them
abbrev pub IsForkCut : ℕ → ForkId → ℕ → Event → Type 0
IsForkCut relseg fork left event =
    IsFileRemoval fork ((left - 1) / relseg + 1) event ⊎ IsFileCut relseg fork left event
