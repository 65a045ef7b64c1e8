-- `restore`: what restoring a chain of backups and a WAL into an output does, prints and ends with.
use Rattle.std.specs.Prelude.{◌≡◌, ℕ, ◌<◌, ◌≤◌, ◌⊎◌, Option, List, [], ◌∷◌, ◌++◌, IsSome, IfSome, Some, None, Result, Ok, Err, codes}
use Rattle.lsn_core.specs.Files.{Files}
use Rattle.lsn_core.specs.declared.lsn.Lsn.{Lsn}
use Rattle.lsn_core.specs.Segment.{StoreSettings}
use Rattle.lsn_core.specs.Tip.{Tip}
use Rattle.vault.specs.Site.{AreaState}
use Rattle.vault.specs.Lending.{Names}
use Rattle.wal_record.specs.declared.record.Record.{Record}
use Rattle.chain_check.specs.declared.member.Member.{Member}
use Rattle.recovery.specs.declared.fault.RecoveryFault.{RecoveryFault}
use Rattle.recovery.specs.declared.reading.Beginning.TheVariants.{AtPlace}
use Rattle.recovery.specs.declared.replaying.Replayed.{Replayed}
use Rattle.recovery.specs.Onward.{IsReadFromTo, replayed_to}
use Rattle.recovery.specs.Causes.{RecoveryCauses, CauseOf, HasSettings, settings_causes, reading_causes}
use Rattle.backup_restore.specs.Restored.{RestoreAreas, IsRestored, restore_causes}
use Rattle.command_base.specs.declared.status.Status.{Status}
use Rattle.command_base.specs.declared.status.Status.TheVariants as status
use Rattle.command_base.specs.Areas.{wal_name, output_name, backup_name, IsClear, IsFull, AreaIsDurable, Keeps, AreaFails}
use Rattle.command_base.specs.Outside.{Outside, Works, Untakens, IsUntaken}
use Rattle.command_base.specs.Faults.{refused_line, area_text, full_text, take_text, wal_text, area_status, wal_status}
use Rattle.store_commands.specs.declared.replaying.ReplayReport.{ReplayReport}
use Rattle.chain_commands.specs.declared.restoring.RestoreFault.{RestoreFault}
use Rattle.chain_commands.specs.declared.restoring.RestoreFault.TheVariants as restore
use Rattle.command_base.specs.Backups.{lsns_text}
use Rattle.chain_commands.specs.Chain.{backup_names, backup_areas, files_told, faults_of, BackupFails, IsOfChain, MembersRefused}
use Rattle.chain_commands.specs.Chain.{name_at, members_fault_text, members_status}
use Rattle.store_commands.specs.Replay.{KeepsFull, made_line}

abbrev pub RestoreResult : Type 0
RestoreResult = Result ReplayReport RestoreFault

-- ---- the areas

-- the areas that it looks at: of the WAL, of the members in their order, and of the output
pub record RestoreSeen : Type 0 where
  pub wal : AreaState
  pub members : List AreaState
  pub out : AreaState

-- the same as what is restored of them: of the members what they tell, and how often each has
-- failed
abbrev pub restored_areas : RestoreSeen → RestoreAreas
restored_areas seen = record {
  wal = seen.wal;
  chain = files_told seen.members;
  faults = faults_of seen.members;
  out = seen.out;
}

-- a target that is given isn't before a member's end
abbrev pub IsLate : Option Lsn → Member → Type 0
IsLate upto member = IfSome upto (λ target. member.manifest.end ≤ target.0)

-- ---- what `restore` comes to

-- the chain to this member was restored: the output was clear, and the WAL was redone over what the
-- chain is combined to, from the start of the member's label on, up to the target or the WAL's end,
-- which isn't before the member's end; and a stop leaves the output so
pub record RestoresChain
    (upto : Option Lsn) (old new : RestoreSeen) (report : ReplayReport) (newest : Member)
    : Type 0 where
  pub clear : IsClear old.out
  pub settings : StoreSettings
  pub given : HasSettings old.wal.files settings
  pub replayed : Replayed
  pub restored : IsRestored settings newest.label.start upto
      (restored_areas old) (restored_areas new) replayed
  pub reached : IsSome old.wal.files ⊎ IsSome upto
      → newest.manifest.end ≤ replayed_to upto replayed.tip
  pub end : report.end.0 ≡ replayed.end.0
  pub forks : report.forks ≡ replayed.forks
  pub pages : report.pages ≡ replayed.pages
  pub durable : AreaIsDurable new.out

-- ---- why a chain isn't restored

-- the output is clear, and the WAL that is read from a place on ends at another one
pub record EndsAt (wal out : AreaState) (start end : Lsn) : Type 0 where
  pub clear : IsClear out
  pub settings : StoreSettings
  pub given : HasSettings wal.files settings
  pub entries : List Record
  pub last : Tip
  pub read : IsReadFromTo settings wal.files (AtPlace start) None entries last
  pub end_is : end.0 ≡ last.end

-- the target is before the newest member's end: the one that is given, or else the WAL's end
pub record IsEarly (upto : Option Lsn) (wal out : AreaState) (target end : Lsn) (newest : Member)
    : Type 0 where
  pub end_is : end.0 ≡ newest.manifest.end
  pub early : target.0 < end.0
  pub target_is : (upto ≡ Some target)
      ⊎ ((upto ≡ None) × EndsAt wal out newest.label.start target)

-- the chain may be restored up to the target, but the output holds a file
pub record IsNotEmpty (upto : Option Lsn) (out : AreaState) (newest : Member) : Type 0 where
  pub late : IsLate upto newest
  pub full : IsFull out

-- the settings of the WAL can't be read; or by them its entries from a place on can't be read
abbrev pub reading_causes_from : Option Lsn → Option Files → Lsn → RecoveryCauses
reading_causes_from upto files start = record (settings_causes files) {
  damaged = λ mib damage. (s : StoreSettings) × HasSettings files s
      × (reading_causes s (AtPlace start) upto files).damaged mib damage;
  short = λ end target. (s : StoreSettings) × HasSettings files s
      × (reading_causes s (AtPlace start) upto files).short end target;
}

-- the WAL is read from a place on, up to the target or to its end, which isn't before an end
pub record ReadsPast
    (s : StoreSettings) (files : Option Files) (upto : Option Lsn) (start : Lsn) (end : ℕ)
    : Type 0 where
  pub entries : List Record
  pub last : Tip
  pub read : IsReadFromTo s files (AtPlace start) upto entries last
  pub reached : end ≤ replayed_to upto last

-- or they are read so, past a backup's end, but can't be redone over what the chain is combined to
abbrev pub wal_causes_from : Option Lsn → RestoreSeen → Lsn → ℕ → RecoveryCauses
wal_causes_from upto old start end = record (reading_causes_from upto old.wal.files start) {
  bad = λ place. (s : StoreSettings) × HasSettings old.wal.files s
      × ReadsPast s old.wal.files upto start end
      × (restore_causes s start upto (restored_areas old)).bad place;
}

-- the chain may be restored up to the target, and the output is clear, but the WAL is refused
pub record IsUnredone
    (upto : Option Lsn) (old new : RestoreSeen) (why : RecoveryFault) (newest : Member)
    : Type 0 where
  pub late : IsLate upto newest
  pub clear : IsClear old.out
  pub cause : CauseOf (wal_causes_from upto old newest.label.start newest.manifest.end)
      old.wal.faults new.wal.faults why

-- why `restore` of the members of these names comes to its answer, where an area that isn't handed
-- out means this. What it finds leaves the output as it was, and so does any fault where it held a
-- file; of one that was empty a failed device or want of memory says nothing
abbrev pub RestoreAnswer : Option Lsn → Names → Untakens → RestoreSeen → RestoreSeen
    → RestoreResult → Type 0
RestoreAnswer upto names Untaken old new (Ok report) =
    IsOfChain names old.members (RestoresChain upto old new report)
RestoreAnswer upto names Untaken old new (Err (restore.Site fault)) = Untaken fault
RestoreAnswer upto names Untaken old new (Err (restore.Members fault)) =
    MembersRefused names old.members new.members fault × Keeps old.out new.out
RestoreAnswer upto names Untaken old new (Err (restore.Early target end)) =
    IsOfChain names old.members (IsEarly upto old.wal old.out target end) × Keeps old.out new.out
RestoreAnswer upto names Untaken old new (Err restore.NotEmpty) =
    IsOfChain names old.members (IsNotEmpty upto old.out) × Keeps old.out new.out
RestoreAnswer upto names Untaken old new (Err (restore.Wal why)) =
    IsOfChain names old.members (IsUnredone upto old new why) × Keeps old.out new.out
RestoreAnswer upto names Untaken old new (Err (restore.Backup place why)) =
    BackupFails old.members new.members place why × KeepsFull old.out new.out
RestoreAnswer upto names Untaken old new (Err (restore.Out why)) =
    AreaFails old.out new.out why × KeepsFull old.out new.out

-- the areas that it looks at, of the whole outside
abbrev pub restore_seen : Names → List ℕ → Outside → RestoreSeen
restore_seen names out o = record {
  wal = o.areas wal_name;
  members = backup_areas names o.areas;
  out = o.areas out;
}

abbrev pub restore_asks : Names → List ℕ → Names
restore_asks names out = backup_names names ++ (wal_name ∷ (out ∷ []))

-- the same of the whole outside, with this area of the output
abbrev pub RestoreRan : Option Lsn → Names → List ℕ → Outside → Outside → RestoreResult → Type 0
RestoreRan upto names out old new r =
    RestoreAnswer upto names (IsUntaken (restore_asks names out) old new)
    (restore_seen names out old) (restore_seen names out new) r

-- `restore` up to a target, where one is given, to an output of a name, of the members of these
-- names. No file changes but those of the output
abbrev pub RestoreDoes : Option Lsn → List ℕ → Names → Outside → Outside → RestoreResult → Type 0
RestoreDoes upto out names old new r =
    Works (output_name out ∷ []) old new
    × RestoreRan upto names (output_name out) old new r

-- ---- what it prints, where these are the members' names and the output's area, and its status

-- a target is before a backup's end
abbrev pub early_text : Lsn → Lsn → List ℕ
early_text target end = codes "40 TargetEarly " ++ lsns_text target end

abbrev pub restore_fault_text : Names → List ℕ → RestoreFault → List ℕ
restore_fault_text names out (restore.Site fault) = take_text fault
restore_fault_text names out (restore.Members fault) = members_fault_text names fault
restore_fault_text names out (restore.Early target end) = early_text target end
restore_fault_text names out restore.NotEmpty = full_text out
restore_fault_text names out (restore.Wal why) = wal_text why
restore_fault_text names out (restore.Backup place why) =
    area_text (backup_name (name_at names place)) why
restore_fault_text names out (restore.Out why) = area_text out why

abbrev pub restore_text : Names → List ℕ → RestoreResult → List ℕ
restore_text names out (Ok report) = made_line (codes "restored ") report
restore_text names out (Err fault) = refused_line (restore_fault_text names out fault)

abbrev pub restore_status : RestoreResult → Status
restore_status (Ok report) = status.Done
restore_status (Err (restore.Site fault)) = area_status fault.why
restore_status (Err (restore.Members fault)) = members_status fault
restore_status (Err (restore.Early target end)) = status.Refused
restore_status (Err restore.NotEmpty) = status.Refused
restore_status (Err (restore.Wal why)) = wal_status why
restore_status (Err (restore.Backup place why)) = area_status why
restore_status (Err (restore.Out why)) = area_status why
