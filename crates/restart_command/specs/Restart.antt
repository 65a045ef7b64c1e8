-- `restart`: what bringing a store back after a stop does, prints and ends with.
use Rattle.std.specs.Prelude.{◌≡◌, ℕ, List, [], ◌∷◌, Result, Ok, Err, codes}
use Rattle.lsn_core.specs.Segment.{StoreSettings}
use Rattle.lsn_core.specs.Tip.{Tip}
use Rattle.lsn_core.specs.declared.fault.StoreFault.TheVariants as store
use Rattle.vault.specs.declared.area.Vault.{Ghosts}
use Rattle.vault.specs.Site.{Areas, AreaState, IsStill}
use Rattle.vault.specs.Lending.{Names}
use Rattle.recovery.specs.declared.fault.RecoveryFault.{RecoveryFault}
use Rattle.recovery.specs.declared.fault.RecoveryFault.TheVariants as wal
use Rattle.recovery.specs.Causes.{HasSettings, CauseOf, settings_causes}
use Rattle.store_areas.specs.declared.areas.StoreAreas.{StoreAreas}
use Rattle.store_areas.specs.Begin.{SameData}
use Rattle.store_restart.specs.declared.fault.RestartWhy.{RestartWhy}
use Rattle.store_restart.specs.declared.fault.RestartWhy.TheVariants as why
use Rattle.store_restart.specs.Restarted.{IsBack, IsRefused}
use Rattle.store_commands.specs.declared.replaying.ReplayReport.{ReplayReport}
use Rattle.store_commands.specs.Replay.{made_line}
use Rattle.restart_command.specs.declared.command.RestartFault.{RestartFault}
use Rattle.restart_command.specs.declared.command.RestartFault.TheVariants as restart
use Rattle.command_base.specs.declared.status.Status.{Status}
use Rattle.command_base.specs.declared.status.Status.TheVariants as status
use Rattle.command_base.specs.Areas.{wal_name, data_name}
use Rattle.command_base.specs.Outside.{Outside, Works, Untakens, IsUntaken}
use Rattle.command_base.specs.Faults.{refused_line, take_text, wal_text, store_text, area_status, wal_status, store_status}

abbrev pub RestartResult : Type 0
RestartResult = Result ReplayReport RestartFault

-- ---- what `restart` comes to

-- the areas that it asks for, which it may change: those of a store
abbrev pub store_asks : Names
store_asks = wal_name ∷ data_name 0 ∷ data_name 1 ∷ data_name 2 ∷ data_name 3 ∷ []

-- an area, as far as is known of it
abbrev pub known : Ghosts AreaState
known = record {
  files = λ area. area.files;
  faults = λ area. area.faults;
  past = λ area. area.past;
}

-- a store, as far as is known of its areas
abbrev pub StoreState : Type 0
StoreState = StoreAreas AreaState

abbrev pub store_at : Areas → StoreState
store_at areas = record {
  wal = areas wal_name;
  data0 = areas (data_name 0);
  data1 = areas (data_name 1);
  data2 = areas (data_name 2);
  data3 = areas (data_name 3);
}

-- a store was brought back by the settings of its WAL: that ends behind its survivors, and the data
-- areas have so many forks and pages
pub record RestartDone (old new : StoreState) (report : ReplayReport) : Type 0 where
  pub settings : StoreSettings
  pub given : HasSettings old.wal.files settings
  pub tip : Tip
  pub back : IsBack known settings old
      (record { areas = new; tip = tip; forks = report.forks; pages = report.pages })
  pub end : report.end.0 ≡ tip.end

-- the settings can't be read, and no area changed
pub record HasNoSettings (old new : StoreState) (fault : RecoveryFault) : Type 0 where
  pub cause : CauseOf (settings_causes old.wal.files) old.wal.faults new.wal.faults fault
  pub wal_still : IsStill old.wal new.wal
  pub data_same : SameData old new

-- by the settings of its WAL, which has segments of so many MiB, it wasn't brought back for this
-- reason
pub record IsUnrestarted (old new : StoreState) (mib : ℕ) (fault : RestartWhy) : Type 0 where
  pub settings : StoreSettings
  pub given : HasSettings old.wal.files settings
  pub segment : mib ≡ settings.segment
  pub refused : IsRefused known settings old (record { areas = new; why = fault })

-- why `restart` comes to its answer, where an area that isn't handed out means this
abbrev pub RestartAnswer : Untakens → StoreState → StoreState → RestartResult → Type 0
RestartAnswer Untaken old new (Ok report) = RestartDone old new report
RestartAnswer Untaken old new (Err (restart.Site fault)) = Untaken fault
RestartAnswer Untaken old new (Err (restart.Settings fault)) = HasNoSettings old new fault
RestartAnswer Untaken old new (Err (restart.Store mib fault)) = IsUnrestarted old new mib fault

-- the same of the whole outside
abbrev pub RestartRan : Outside → Outside → RestartResult → Type 0
RestartRan old new r =
    RestartAnswer (IsUntaken store_asks old new) (store_at old.areas) (store_at new.areas) r

-- `restart`
abbrev pub RestartDoes : Outside → Outside → RestartResult → Type 0
RestartDoes old new r = Works store_asks old new × RestartRan old new r

-- ---- what it prints, and its status

-- a store whose WAL has segments of so many MiB isn't brought back
abbrev pub why_text : ℕ → RestartWhy → List ℕ
why_text mib (why.Damaged damage) = wal_text (wal.Damaged mib damage)
why_text mib (why.BadDelta place) = wal_text (wal.BadDelta place)
why_text mib (why.Failed area) = store_text (store.Failed area)
why_text mib why.NoMemory = store_text store.NoMemory

abbrev pub restart_fault_text : RestartFault → List ℕ
restart_fault_text (restart.Site fault) = take_text fault
restart_fault_text (restart.Settings fault) = wal_text fault
restart_fault_text (restart.Store mib fault) = why_text mib fault

abbrev pub restart_text : RestartResult → List ℕ
restart_text (Ok report) = made_line (codes "restarted ") report
restart_text (Err fault) = refused_line (restart_fault_text fault)

abbrev pub why_status : RestartWhy → Status
why_status (why.Damaged damage) = status.Refused
why_status (why.BadDelta place) = status.Refused
why_status (why.Failed area) = store_status (store.Failed area)
why_status why.NoMemory = store_status store.NoMemory

abbrev pub restart_status : RestartResult → Status
restart_status (Ok report) = status.Done
restart_status (Err (restart.Site fault)) = area_status fault.why
restart_status (Err (restart.Settings fault)) = wal_status fault
restart_status (Err (restart.Store mib fault)) = why_status fault
