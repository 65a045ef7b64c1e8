-- What an open store keeps of its WAL, and of its workers' commands.
use Rattle.std.specs.Prelude.{◌≡◌, ℕ, ◌<◌, ◌≤◌, List, length, get_or, IsSome}
use Rattle.lsn_core.specs.Segment.{StoreSettings}
use Rattle.vault.specs.declared.area.Vault.{Ghosts}
use Rattle.wal_writer.specs.declared.state.WalState.{WalState}
use Rattle.history.specs.Entry.{Entry}
use Rattle.store_locks.specs.Seen.{accepted_by}

-- each worker's number of accepted commands
abbrev pub AreCounts : List ℕ → List Entry → Type 0
AreCounts counts history =
    (worker : ℕ) → worker < length counts
    → get_or counts worker 0 ≡ length (accepted_by worker history)

-- the WAL has segments of the settings' size and their system identifier, is flushed up to a place
-- that is kept, and its area tells its files where areas do
pub record IsWalOf {V : Type 0} (g : Ghosts V) (settings : StoreSettings) (tells : Type 0)
    (wal : WalState V) (mark : ℕ) : Type 0 where
  pub segment : wal.tail.mib ≡ settings.segment
  pub system : wal.tail.system ≡ settings.system
  pub flushed : mark ≤ wal.tail.flushed
  pub told : tells → IsSome (g.files wal.area)
