-- What an incremental backup answers and leaves.
use Rattle.std.specs.Prelude.{◌≡◌, ◌≢◌, ℕ, ◌<◌, ◌≤◌, ◌⊎◌, List, map, length, take, Option, IfSome, Result, Ok, Err}
use Rattle.std.specs.FinMap.{empty}
use Rattle.lsn_core.specs.Causes.{Rose}
use Rattle.lsn_core.specs.Files.{Files}
use Rattle.lsn_core.specs.Segment.{StoreSettings}
use Rattle.lsn_core.specs.declared.fault.StoreArea.TheVariants.{Sums}
use Rattle.lsn_core.specs.declared.ids.ForkLen.{ForkLen}
use Rattle.lsn_core.specs.declared.lsn.Lsn.{Lsn}
use Rattle.vault.specs.declared.area.Vault.{Ghosts}
use Rattle.history.specs.Entry.{Entry}
use Rattle.manifest.specs.Listing.{Listing}
use Rattle.wal_summary.specs.declared.summary.Summary.{Summary}
use Rattle.store_locks.specs.Seen.{Seen, ShareRose}
use Rattle.shared_summaries.specs.Shelf.{HasCoveredSo}
use Rattle.store_faults.specs.declared.advance_fault.AdvanceFault.{AdvanceFault}
use Rattle.store_faults.specs.declared.advance_fault.AdvanceFault.TheVariants as advance
use Rattle.backup_sending.specs.declared.basis.Basis.{Basis}
use Rattle.backup_sending.specs.declared.done.Done.{Done}
use Rattle.store_faults.specs.declared.incr_fault.IncrFault.{IncrFault}
use Rattle.store_faults.specs.declared.incr_fault.IncrFault.TheVariants.{NotEmpty, NoManifest, ManifestRefused, SystemDiffers, Overlap, Gap, WalFull, StoreFailed, SumsFailed, PriorFailed, OutFailed, NoMemory}
use Rattle.backup_sending.specs.Directory.{incr_label, IsDirectory}
use Rattle.backup_files.specs.Area.{EndsSynced, HoldsNothing, HoldsSomething, KeepsManifest, RoseTwice}
use Rattle.backup_sending.specs.Entries.{HasCheckpointAt, HasBackupAt, MeetsFullWal}
use Rattle.incr_backup.specs.Prior.{HasListing, IsOfStore, PriorAnswer}
use Rattle.backup_sending.specs.Sent.{SentFile, AreListed, AreSent, file_of}

-- what a run began with: the settings of its store, the entries that were found, the files of the
-- area of summaries, where it told them, and the moment before which a summary is old that was made
-- then
pub record Origin : Type 0 where
  pub settings : StoreSettings
  pub found : List Entry
  pub sums : Option Files
  pub limit : ℕ

abbrev pub origin : StoreSettings → List Entry → Option Files → ℕ → Origin
origin settings found sums limit =
    record { settings = settings; found = found; sums = sums; limit = limit }

-- a worker's pass, and the areas of the prior backup and of the backup
pub record IncrSite (V : Type 0) : Type 0 where
  pub seen : Seen
  pub prior : V
  pub out : V

abbrev pub incr_site : {V : Type 0} → Seen → V → V → IncrSite V
incr_site seen prior out = record { seen = seen; prior = prior; out = out }

-- ---- summaries

-- behind a worker's checkpoint of this redo point, all summaries of what it had seen then were
-- published in an area that was true for that, and the old ones removed, and this is what covers
-- the WAL from a place up to the redo point
pub record SumsUp (tells : Type 0) (found : List Entry) (begun : Option Files)
    (when limit worker before : ℕ) (now : List Entry) (redo from : ℕ)
    (answer : Result Summary AdvanceFault) : Type 0 where
  pub seen : ℕ
  pub within : seen ≤ length now
  pub checkpoint : HasCheckpointAt worker before (take seen now) redo
  pub covered : HasCoveredSo tells found begun (take seen now) when limit from redo answer

-- ---- a backup that was taken

-- the prior backup's manifest, where its area tells it: it is of this store, and ends at the
-- backup's start or before
pub record IsPrior {V : Type 0} (g : Ghosts V) (o : Origin) (site : IncrSite V) (m : Listing)
    (start : ℕ) : Type 0 where
  pub told : IfSome (g.files site.prior) (λ files. HasListing files m)
  pub ours : IsOfStore o.settings.system m
  pub behind : m.end ≤ start

-- what covers the WAL from a place to a redo point of a checkpoint that the worker did since, by
-- summaries of what it had seen then, or why none does
abbrev pub IsSummedUp :
    Type 0 → Origin → ℕ → Seen → Seen → ℕ → ℕ → Result Summary AdvanceFault → Type 0
IsSummedUp tells o when old new start from answer =
    SumsUp tells o.found o.sums when o.limit old.worker (length old.list) new.list start from answer

-- an area's files are an incremental backup's directory: those of the forks that were listed, each
-- as it is planned by the prior backup's manifest and the summary. Each fork was listed and each
-- page that is sent was copied at a moment of its own, while what the worker has seen now was
-- written, from the start of the backup's checkpoint on to the end of its last entry
pub record IsTakenIncr {V : Type 0} (g : Ghosts V) (tells : Type 0) (o : Origin) (name : List ℕ)
    (when : ℕ) (old new : IncrSite V) (done : Done) : Type 0 where
  pub checkpoint : ℕ
  pub entries : HasBackupAt old.seen.worker (length old.seen.list) new.seen.list done.start.0
      checkpoint done.end.0
  pub basis : Basis
  pub relseg : basis.relseg ≡ o.settings.relseg
  pub prior : IsPrior g o old basis.prior done.start.0
  pub summed : IsSummedUp tells o when old.seen new.seen done.start.0 basis.prior.start
      (Ok basis.summary)
  pub list : List ForkLen
  pub listed : AreListed tells new.seen.list done.start.0 done.end.0 list
  pub files : List SentFile
  pub sent : AreSent tells new.seen.list done.start.0 done.end.0 basis list files
  pub directory : IsDirectory o.settings
      (λ begun. incr_label done.start (record { 0 = checkpoint })
      (record { 0 = basis.prior.start }) begun name)
      when (map file_of files) done.start done.end done.files (g.files new.out)

-- it was taken, whatever is answered
abbrev pub IsTakenIncrWhole :
    {V : Type 0} → Ghosts V → Type 0 → Origin → List ℕ → ℕ → IncrSite V → IncrSite V → Type 0
IsTakenIncrWhole g tells o name when old new =
    (done : Done) × IsTakenIncr g tells o name when old new done

-- ---- refusals

-- the prior's manifest is answered so, where its area tells it
abbrev pub PriorSays : {V : Type 0} → Ghosts V → Origin → IncrSite V → IncrFault → Type 0
PriorSays g o site fault =
    IfSome (g.files site.prior) (λ m. PriorAnswer m o.settings.system (Err fault))

-- the checkpoint was done, and the prior backup ends past its redo point
abbrev pub Overlaps :
    {V : Type 0} → Ghosts V → Origin → IncrSite V → IncrSite V → ℕ → ℕ → Type 0
Overlaps g o old new start end =
    (m : Listing) × IfSome (g.files old.prior) (λ files. HasListing files m)
    × IsOfStore o.settings.system m
    × HasCheckpointAt old.seen.worker (length old.seen.list) new.seen.list start
    × (m.end ≡ end) × (start < end)

-- the checkpoint was done and summaries were published, and they don't cover a place
abbrev pub LeavesGap :
    {V : Type 0} → Ghosts V → Type 0 → Origin → ℕ → IncrSite V → IncrSite V → Lsn → Type 0
LeavesGap g tells o when old new place =
    (m : Listing) × (start : ℕ) × IsPrior g o old m start
    × IsSummedUp tells o when old.seen new.seen start m.start (Err (advance.Gap place))

-- why it is refused: the area holds a file; the prior's manifest; the two ranges overlap; a place
-- isn't covered; the WAL had no room behind all that the worker has seen now; or a device failed,
-- of the store or of the summaries one of whose faults the pass's share rose, or an area's, whose
-- count rose. Want of memory may come at any time
abbrev pub IncrCause :
    {V : Type 0} → Ghosts V → Type 0 → Origin → ℕ → IncrSite V → IncrSite V → IncrFault → Type 0
IncrCause g tells o when old new NotEmpty = HoldsSomething (g.files old.out)
IncrCause g tells o when old new NoManifest = PriorSays g o old NoManifest
IncrCause g tells o when old new (ManifestRefused why) = PriorSays g o old (ManifestRefused why)
IncrCause g tells o when old new (SystemDiffers have expected) =
    PriorSays g o old (SystemDiffers have expected)
IncrCause g tells o when old new (Overlap start end) = Overlaps g o old new start.0 end.0
IncrCause g tells o when old new (Gap place) = LeavesGap g tells o when old new place
IncrCause g tells o when old new (WalFull n) =
    (n ≡ length new.seen.list)
    × MeetsFullWal o.settings.segment old.seen.worker (length old.seen.list) new.seen.list
IncrCause g tells o when old new (StoreFailed area) = ShareRose area old.seen new.seen
IncrCause g tells o when old new SumsFailed = ShareRose Sums old.seen new.seen
IncrCause g tells o when old new PriorFailed = Rose (g.faults old.prior) (g.faults new.prior)
IncrCause g tells o when old new OutFailed = Rose (g.faults old.out) (g.faults new.out)
IncrCause g tells o when old new NoMemory = Unit {0}

-- the prior's manifest is read and of this store, where its area tells it
abbrev pub TakesPrior : {V : Type 0} → Ghosts V → Origin → IncrSite V → Type 0
TakesPrior g o site = IfSome (g.files site.prior) (λ files.
    (m : Listing) × PriorAnswer files o.settings.system (Ok m))

-- what was judged before a refusal: that the area holds nothing, and then that the prior's manifest
-- is taken
abbrev pub IsJudged : {V : Type 0} → Ghosts V → Origin → IncrSite V → IncrFault → Type 0
IsJudged g o old NotEmpty = Unit {0}
IsJudged g o old NoManifest = HoldsNothing (g.files old.out)
IsJudged g o old (ManifestRefused why) = HoldsNothing (g.files old.out)
IsJudged g o old (SystemDiffers have expected) = HoldsNothing (g.files old.out)
IsJudged g o old (Overlap start end) = HoldsNothing (g.files old.out) × TakesPrior g o old
IsJudged g o old (Gap place) = HoldsNothing (g.files old.out) × TakesPrior g o old
IsJudged g o old (WalFull n) = HoldsNothing (g.files old.out) × TakesPrior g o old
IsJudged g o old (StoreFailed area) = HoldsNothing (g.files old.out) × TakesPrior g o old
IsJudged g o old SumsFailed = HoldsNothing (g.files old.out) × TakesPrior g o old
IsJudged g o old PriorFailed = HoldsNothing (g.files old.out)
IsJudged g o old OutFailed = Unit {0}
IsJudged g o old NoMemory = Unit {0}

-- ---- what stands after a refusal

-- nothing was written to an area
pub record IsSpared {V : Type 0} (g : Ghosts V) (old new : V) : Type 0 where
  pub files : g.files new ≡ g.files old
  pub past : g.past new ≡ g.past old

-- nothing was done by the pass and to the area
pub record StandsStill {V : Type 0} (g : Ghosts V) (old new : IncrSite V) : Type 0 where
  pub seen : new.seen ≡ old.seen
  pub out : IsSpared g old.out new.out

-- what a refusal leaves that isn't of a device or of memory: all, before the checkpoint; behind it
-- no file is written where ranges overlap or a place isn't covered
abbrev pub LeavesBehind :
    {V : Type 0} → Ghosts V → IncrSite V → IncrSite V → IncrFault → Type 0
LeavesBehind g old new NotEmpty = StandsStill g old new
LeavesBehind g old new NoManifest = StandsStill g old new
LeavesBehind g old new (ManifestRefused why) = StandsStill g old new
LeavesBehind g old new (SystemDiffers have expected) = StandsStill g old new
LeavesBehind g old new PriorFailed = StandsStill g old new
LeavesBehind g old new (Overlap start end) = IsSpared g old.out new.out
LeavesBehind g old new (Gap place) = IsSpared g old.out new.out
LeavesBehind g old new (WalFull n) = Unit {0}
LeavesBehind g old new (StoreFailed area) = Unit {0}
LeavesBehind g old new SumsFailed = Unit {0}
LeavesBehind g old new OutFailed = Unit {0}
LeavesBehind g old new NoMemory = Unit {0}

-- where the area held a file, whatever the refusal is
abbrev pub KeepsIncrFull : {V : Type 0} → Ghosts V → IncrSite V → IncrSite V → Type 0
KeepsIncrFull g old new = IfSome (g.files old.out) (λ m. m ≢ empty → StandsStill g old new)

-- what a refusal leaves of the manifest: nothing. Its removal alone, which follows a fault in
-- writing or syncing it, may fail too: then the area's count rose twice, or once and there was no
-- memory; or memory was missing twice, and the whole directory stands
abbrev pub LeavesIncrManifest : {V : Type 0} → Ghosts V → Type 0 → V → V → IncrFault → Type 0
LeavesIncrManifest g whole old new OutFailed =
    KeepsManifest (g.files old) (g.files new) ⊎ RoseTwice (g.faults old) (g.faults new)
LeavesIncrManifest g whole old new NoMemory =
    KeepsManifest (g.files old) (g.files new) ⊎ (Rose (g.faults old) (g.faults new) ⊎ whole)
LeavesIncrManifest g whole old new fault = KeepsManifest (g.files old) (g.files new)

-- ---- the answer

-- a backup that was taken into an area that held nothing
pub record IsFinishedIncr {V : Type 0} (g : Ghosts V) (tells : Type 0) (o : Origin)
    (name : List ℕ) (when : ℕ) (old new : IncrSite V) (done : Done) : Type 0 where
  pub taken : IsTakenIncr g tells o name when old new done
  pub synced : EndsSynced g new.out
  pub empty : HoldsNothing (g.files old.out)

-- a refusal: its cause, what was judged before it, and what stands
pub record IsRefusedIncr {V : Type 0} (g : Ghosts V) (tells : Type 0) (o : Origin)
    (name : List ℕ) (when : ℕ) (old new : IncrSite V) (fault : IncrFault) : Type 0 where
  pub cause : IncrCause g tells o when old new fault
  pub judged : IsJudged g o old fault
  pub behind : LeavesBehind g old new fault
  pub full : KeepsIncrFull g old new
  pub manifest : LeavesIncrManifest g (IsTakenIncrWhole g tells o name when old new)
      old.out new.out fault

abbrev pub IncrAnswers :
    {V : Type 0} → Ghosts V → Type 0 → Origin → List ℕ → ℕ → IncrSite V → IncrSite V
    → Result Done IncrFault → Type 0
IncrAnswers g tells o name when old new (Ok done) =
    IsFinishedIncr g tells o name when old new done
IncrAnswers g tells o name when old new (Err fault) =
    IsRefusedIncr g tells o name when old new fault
