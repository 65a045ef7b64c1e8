-- `init`: what making a new store does, prints and ends with.
use Rattle.std.specs.Prelude.{◌≡◌, ◌⊎◌, ℕ, ◌*◌, ◌%◌, ◌^◌, List, [], ◌∷◌, ◌++◌, length, Option, None, Result, Ok, Err, IfSome, codes}
use Rattle.std.specs.Option.{option_map, unwrap_or}
use Rattle.std.specs.FinMap.{empty, insert}
use Rattle.lsn_core.specs.Files.{Files}
use Rattle.lsn_core.specs.Names.{lsn_bytes, segment_name_bytes}
use Rattle.lsn_core.specs.declared.lsn.Lsn.{Lsn}
use Rattle.lsn_core.specs.Segment.{StoreSettings, segment_bytes}
use Rattle.lsn_core.specs.Tip.{Tip}
use Rattle.vault.specs.Area.{IsTorn, Related}
use Rattle.vault.specs.Site.{AreaState}
use Rattle.vault.specs.Lending.{Names}
use Rattle.wal_pages.specs.Places.{start_after}
use Rattle.wal_pages.specs.Spread.{spread}
use Rattle.wal_record.specs.declared.record.Record.{Record}
use Rattle.wal_record.specs.declared.record.Kind.TheVariants.{Shutdown}
use Rattle.wal_record.specs.Spelling.{sealed}
use Rattle.wal_record.specs.Tips.{first_tip, tip_after, record_at_tip}
use Rattle.wal_reader.specs.Settings.{settings_text, IsSettingsOf}
use Rattle.wal_reader.specs.Wal.{IsWal}
use Rattle.command_base.specs.declared.status.Status.{Status}
use Rattle.command_base.specs.declared.status.Status.TheVariants as status
use Rattle.command_line.specs.declared.options.InitOptions.{InitOptions}
use Rattle.store_commands.specs.declared.new_store.InitFault.{InitFault}
use Rattle.store_commands.specs.declared.new_store.InitFault.TheVariants as init
use Rattle.command_base.specs.Areas.{wal_name, sums_name, IsClear, IsFull, AreaIsDurable, Keeps, AreaFails}
use Rattle.command_base.specs.Outside.{Outside, Works, Untakens, IsUntaken}
use Rattle.command_base.specs.Faults.{refused_line, area_text, full_text, take_text, area_status}

abbrev pub InitResult : Type 0
InitResult = Result Lsn InitFault

-- ---- what a new store is

-- its settings: those that are given, or 16 MiB, 131072 blocks and an identifier of the moment
abbrev pub new_settings : InitOptions → ℕ → StoreSettings
new_settings options moment = record {
  segment = unwrap_or options.segment 16;
  relseg = unwrap_or options.relseg 131072;
  system = unwrap_or options.system (moment % 2 ^ 32 * 2 ^ 32);
}

-- its files' names: that of its settings, and that of segment 1
abbrev pub settings_name : List ℕ
settings_name = codes "settings"

abbrev pub segment_name : StoreSettings → List ℕ
segment_name s = segment_name_bytes 1 s.segment

-- the bytes of `settings`
abbrev pub settings_file : StoreSettings → List ℕ
settings_file s = settings_text s.segment s.relseg

-- where the first entry of a WAL starts: behind the head of the first page of segment 1
abbrev pub first_start : ℕ → Lsn
first_start mib = record { 0 = start_after mib (segment_bytes mib) }

-- the first entry of a WAL: a shutdown checkpoint whose redo point is its own start
abbrev pub first_entry : ℕ → Record
first_entry mib = record_at_tip mib (first_tip mib) (Shutdown (first_start mib))

-- where a WAL of that entry alone ends
abbrev pub new_tip : ℕ → Tip
new_tip mib = tip_after (first_tip mib) (first_entry mib)

-- the bytes of segment 1 with that entry alone
abbrev pub segment_file : StoreSettings → List ℕ
segment_file s =
    spread s.segment s.system (segment_bytes s.segment) (sealed (first_entry s.segment))

-- the files once `settings` is written, and once segment 1 is too
abbrev pub begun_wal : StoreSettings → Files
begun_wal s = insert empty settings_name (settings_file s)

abbrev pub new_wal : StoreSettings → Files
new_wal s = insert (begun_wal s) (segment_name s) (segment_file s)

-- a WAL of these files is the first entry alone
abbrev pub HasFirstAlone : StoreSettings → Files → Type 0
HasFirstAlone s files = IsWal s files (first_entry s.segment ∷ []) (new_tip s.segment)

-- the WAL is a new one: its files read as these settings and as an archive of the first entry alone
pub record IsNewWal (s : StoreSettings) (files : Option Files) : Type 0 where
  pub archive : IfSome files (HasFirstAlone s)
  pub settings : IfSome files (λ m. IsSettingsOf m s)

-- ---- what `init` comes to

-- the areas that it looks at, and those of them that it may change
pub record InitAreas : Type 0 where
  pub wal : AreaState
  pub sums : AreaState

abbrev pub init_areas : Outside → InitAreas
init_areas o = record { wal = o.areas wal_name; sums = o.areas sums_name }

abbrev pub init_asks : Names
init_asks = wal_name ∷ (sums_name ∷ [])

abbrev pub init_writes : Names
init_writes = wal_name ∷ []

-- a new store was made, durably, where neither area held a file
pub record InitDone (s : StoreSettings) (old new : InitAreas) (end : Lsn) : Type 0 where
  pub wal_clear : IsClear old.wal
  pub sums_clear : IsClear old.sums
  pub written : new.wal.files ≡ option_map (λ m. new_wal s) old.wal.files
  pub end_is : end.0 ≡ (new_tip s.segment).end
  pub reads : IsNewWal s new.wal.files
  pub durable : AreaIsDurable new.wal

-- a write of these bytes from the start of a file on failed, and may have left a part
abbrev pub IsTornIn : List ℕ → List ℕ → Option Files → Option Files → Type 0
IsTornIn name bytes old new = Related (IsTorn name 0 (length bytes)) old new

-- a part of a new WAL stands in an area that held no file: a torn `settings` and no other file; or
-- that file whole, and a torn segment 1
abbrev pub HoldsPart : StoreSettings → Option Files → Option Files → Type 0
HoldsPart s old new =
    IsTornIn settings_name (settings_file s) old new
    ⊎ IsTornIn (segment_name s) (segment_file s) (option_map (λ m. begun_wal s) old) new

-- what a failure leaves of the WAL's area: all as it was; or, of one that held no file, a part of a
-- new WAL
abbrev pub IsPartMade : StoreSettings → AreaState → AreaState → Type 0
IsPartMade s old new = Keeps old new ⊎ (IsClear old × HoldsPart s old.files new.files)

-- why `init` with these settings comes to its answer, where an area that isn't handed out means
-- this. A WAL or summaries that are there change nothing
abbrev pub InitAnswer : StoreSettings → Untakens → InitAreas → InitAreas → InitResult → Type 0
InitAnswer s Untaken old new (Ok end) = InitDone s old new end
InitAnswer s Untaken old new (Err (init.Site fault)) = Untaken fault
InitAnswer s Untaken old new (Err init.AlreadyInit) = IsFull old.wal × Keeps old.wal new.wal
InitAnswer s Untaken old new (Err init.SumsNotEmpty) =
    IsClear old.wal × IsFull old.sums × Keeps old.wal new.wal
InitAnswer s Untaken old new (Err (init.Wal why)) =
    AreaFails old.wal new.wal why × IsPartMade s old.wal new.wal
InitAnswer s Untaken old new (Err (init.Sums why)) =
    AreaFails old.sums new.sums why × Keeps old.wal new.wal

-- the same of the whole outside
abbrev pub InitRan : StoreSettings → Outside → Outside → InitResult → Type 0
InitRan s old new r =
    InitAnswer s (IsUntaken init_asks old new) (init_areas old) (init_areas new) r

-- the moment that a new system identifier is made of is the clock's
abbrev pub IsMoment : InitOptions → Outside → ℕ → Type 0
IsMoment options old moment = IfSome old.moment (λ told. options.system ≡ None → moment ≡ told)

-- `init` with these options
abbrev pub InitDoes : InitOptions → Outside → Outside → InitResult → Type 0
InitDoes options old new r =
    Works init_writes old new
    × ((moment : ℕ) × IsMoment options old moment × InitRan (new_settings options moment) old new r)

-- ---- what it prints, and its status

abbrev pub init_fault_text : InitFault → List ℕ
init_fault_text (init.Site fault) = take_text fault
init_fault_text init.AlreadyInit = codes "42 AlreadyInit"
init_fault_text init.SumsNotEmpty = full_text sums_name
init_fault_text (init.Wal why) = area_text wal_name why
init_fault_text (init.Sums why) = area_text sums_name why

abbrev pub init_text : InitResult → List ℕ
init_text (Ok end) = codes "initialised " ++ (lsn_bytes end.0 ++ (10 ∷ []))
init_text (Err fault) = refused_line (init_fault_text fault)

abbrev pub init_status : InitResult → Status
init_status (Ok end) = status.Done
init_status (Err (init.Site fault)) = area_status fault.why
init_status (Err init.AlreadyInit) = status.Refused
init_status (Err init.SumsNotEmpty) = status.Refused
init_status (Err (init.Wal why)) = area_status why
init_status (Err (init.Sums why)) = area_status why
