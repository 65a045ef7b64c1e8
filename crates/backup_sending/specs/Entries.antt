-- The entries of a worker's checkpoints and backups, among those of others.
use Rattle.std.specs.Prelude.{◌≡◌, ℕ, ◌<◌, ◌≤◌, ◌⊎◌, List, slice_get, Some}
use Rattle.history.specs.Entry.{Entry, Mark, RedoMark, Online, BackupEnd}
use Rattle.store_locks.specs.Calls.{IsMarkOf, HasNoRoom}
use Rattle.shared_store.specs.Shared.{FindsNoRoomIn}

-- ---- checkpoints

-- a checkpoint of a worker, behind so many entries: its start, which stands at the redo point, and
-- behind it the end that names that
pub record HasCheckpointAt (worker before : ℕ) (now : List Entry) (redo : ℕ) : Type 0 where
  pub first : Entry
  pub number : ℕ
  pub later : before ≤ number
  pub there : slice_get now number ≡ Some first
  pub starts : IsMarkOf worker (RedoMark 1) first
  pub redo_is : first.start ≡ redo
  pub last : Entry
  pub number_last : ℕ
  pub behind : number < number_last
  pub there_last : slice_get now number_last ≡ Some last
  pub ends : IsMarkOf worker (Online redo) last

-- ---- backups

-- the entries of a backup by a worker: its checkpoint's start and end, and its own end
pub record AreOfBackup (worker : ℕ) (first last stop : Entry) : Type 0 where
  pub starts : IsMarkOf worker (RedoMark 1) first
  pub completes : IsMarkOf worker (Online first.start) last
  pub ends : IsMarkOf worker (BackupEnd first.start) stop

-- a backup of a worker, behind so many entries: its checkpoint, and behind that its end
pub record HasBackupAt (worker before : ℕ) (now : List Entry) (start checkpoint end : ℕ)
    : Type 0 where
  pub first : Entry
  pub last : Entry
  pub stop : Entry
  pub entries : AreOfBackup worker first last stop
  pub number : ℕ
  pub later : before ≤ number
  pub there : slice_get now number ≡ Some first
  pub number_last : ℕ
  pub behind : number < number_last
  pub there_last : slice_get now number_last ≡ Some last
  pub number_stop : ℕ
  pub behind_last : number_last < number_stop
  pub there_stop : slice_get now number_stop ≡ Some stop
  pub start_is : start ≡ first.start
  pub checkpoint_is : checkpoint ≡ last.start
  pub end_is : end ≡ stop.end

-- the end of a backup of a worker that started at a place, behind so many entries
pub record HasBackupEndAt (worker before : ℕ) (now : List Entry) (start end : ℕ) : Type 0 where
  pub stop : Entry
  pub number : ℕ
  pub later : before ≤ number
  pub there : slice_get now number ≡ Some stop
  pub ends : IsMarkOf worker (BackupEnd start) stop
  pub end_is : stop.end ≡ end

-- ---- a WAL that is full

-- a worker's backup, behind so many entries, found no room for its checkpoint, or for its end
-- behind that
abbrev pub MeetsFullWal : ℕ → ℕ → ℕ → List Entry → Type 0
MeetsFullWal mib worker before now =
    FindsNoRoomIn mib worker before now
    ⊎ ((redo : ℕ) × HasCheckpointAt worker before now redo
    × HasNoRoom mib now (Mark (BackupEnd redo)))
