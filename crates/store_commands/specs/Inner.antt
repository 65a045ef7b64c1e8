-- What private functions answer to those that call them. None of it stands in the contract of a
-- public call.
use Rattle.std.specs.Prelude.{◌≡◌, ℕ, ◌-◌, List, Option, None, Result, Ok, Err, IfSome}
use Rattle.std.specs.Option.{option_map}
use Rattle.std.specs.FinMap.{empty, insert}
use Rattle.lsn_core.specs.Files.{Files}
use Rattle.lsn_core.specs.Names.{segment_name_bytes}
use Rattle.lsn_core.specs.declared.lsn.Lsn.{Lsn}
use Rattle.lsn_core.specs.Segment.{StoreSettings, IsSegmentMib, IsRelseg}
use Rattle.lsn_core.specs.declared.fault.AreaFault.TheVariants.{NoMemory}
use Rattle.vault.specs.declared.area.Vault.{Ghosts as Vaults}
use Rattle.vault.specs.Area.{after_write}
use Rattle.vault.specs.Frame.{IsDurable}
use Rattle.vault.specs.Site.{state_in}
use Rattle.recovery.specs.declared.replaying.Replayed.{Replayed}
use Rattle.recovery.specs.declared.fault.ReplayFault.{ReplayFault as Unreplayed}
use Rattle.recovery.specs.declared.fault.ReplayFault.TheVariants as unreplayed
use Rattle.recovery.specs.Causes.{HasSettings}
use Rattle.wal_writer.specs.Log.{Ready}
use Rattle.store_commands.specs.declared.new_store.InitFault.{InitFault}
use Rattle.store_commands.specs.declared.replaying.ReplayReport.{ReplayReport}
use Rattle.store_commands.specs.declared.replaying.ReplayFault.{ReplayFault}
use Rattle.store_commands.specs.declared.replaying.ReplayFault.TheVariants as replay
use Rattle.command_base.specs.Areas.{AreaCause}
use Rattle.command_base.specs.Outside.{Never}
use Rattle.store_commands.specs.Init.{InitResult, InitAreas, InitAnswer, IsTornIn, new_wal, first_entry, settings_name, settings_file, segment_name, segment_file}
use Rattle.store_commands.specs.Replay.{ReplayResult, ReplayAreas, ReplayAnswer}
use Rattle.wal_summary.specs.declared.summary.Summary.{Summary}
use Rattle.wal_summary.specs.Kept.{IsCovering, IsGap}
use Rattle.store_commands.specs.declared.range_summary.WalsummaryFault.TheVariants as walsummary
use Rattle.store_commands.specs.Walsummary.{WalsummaryResult, WalsummaryAnswer}

-- ---- `init`

-- settings are in their ranges
abbrev pub HasRanges : StoreSettings → Type 0
HasRanges s = IsSegmentMib s.segment × IsRelseg s.relseg

-- the areas of the WAL and of the summaries
abbrev pub init_areas_in : {V : Type 0} → Vaults V → V → V → InitAreas
init_areas_in vaults wal sums = record { wal = state_in vaults wal; sums = state_in vaults sums }

-- why `init` with these settings comes to its answer over these two areas
abbrev pub AnswersInit :
    {V : Type 0} → Vaults V → StoreSettings → V → V → V → V → InitResult → Type 0
AnswersInit vaults s wal sums wal_now sums_now r =
    InitAnswer s Never (init_areas_in vaults wal sums) (init_areas_in vaults wal_now sums_now) r

-- why it is refused, with whatever settings
abbrev pub RefusesInit : {V : Type 0} → Vaults V → V → V → V → V → InitFault → Type 0
RefusesInit vaults wal sums wal_now sums_now fault =
    (s : StoreSettings) → AnswersInit vaults s wal sums wal_now sums_now (Err fault)

-- the files with `settings` written, with a file of segment 1, and with both alone
abbrev pub with_settings : StoreSettings → Option Files → Option Files
with_settings s files = option_map (after_write settings_name 0 (settings_file s)) files

abbrev pub with_segment : StoreSettings → Option Files → Option Files
with_segment s files = option_map (λ m. insert m (segment_name s) (segment_file s)) files

abbrev pub with_both : StoreSettings → Option Files → Option Files
with_both s files = option_map (λ m. new_wal s) files

-- a write of either failed
abbrev pub IsSettingsTorn : StoreSettings → Option Files → Option Files → Type 0
IsSettingsTorn s old new = IsTornIn settings_name (settings_file s) old new

abbrev pub IsSegmentTorn : StoreSettings → Option Files → Option Files → Type 0
IsSegmentTorn s old new = IsTornIn (segment_name s) (segment_file s) old new

-- the first entry of a WAL with these settings was prepared
pub record IsFirstEntry (s : StoreSettings) (ready : Ready) : Type 0 where
  pub entry : ready.entry ≡ first_entry s.segment
  pub bytes : ready.bytes ≡ segment_file s

-- bytes stand at the start of the file of segment 1
abbrev pub with_first : ℕ → List ℕ → Option Files → Option Files
with_first mib bytes files = option_map (after_write (segment_name_bytes 1 mib) 0 bytes) files

-- a write of them failed
abbrev pub IsFirstTorn : ℕ → List ℕ → Option Files → Option Files → Type 0
IsFirstTorn mib bytes old new = IsTornIn (segment_name_bytes 1 mib) bytes old new

-- ---- `replay`

abbrev pub replay_areas_in : {V : Type 0} → Vaults V → V → V → ReplayAreas
replay_areas_in vaults wal out = record { wal = state_in vaults wal; out = state_in vaults out }

-- why `replay` comes to its answer over the area of the WAL and that of the output
abbrev pub AnswersReplay :
    {V : Type 0} → Vaults V → Option Lsn → V → V → V → V → ReplayResult → Type 0
AnswersReplay vaults upto wal out wal_now out_now r =
    ReplayAnswer upto Never
    (replay_areas_in vaults wal out) (replay_areas_in vaults wal_now out_now) r

-- what is known before anything is written, or why nothing is
abbrev pub AnswersPrepared :
    {V : Type 0} → Vaults V → Option Lsn → V → V → V → V → Result StoreSettings ReplayFault
    → Type 0
AnswersPrepared vaults upto wal out wal_now out_now (Ok settings) =
    IfSome (vaults.files out) (λ m. m ≡ empty) × HasSettings (vaults.files wal) settings
AnswersPrepared vaults upto wal out wal_now out_now (Err fault) =
    AnswersReplay vaults upto wal out wal_now out_now (Err fault)

-- the report of a replay that came to its end
abbrev pub reported : Replayed → ReplayReport
reported r = record { end = r.end; forks = r.forks; pages = r.pages }

-- how a replay into an area ends: what was written is as it was, and durable, or, where the WAL
-- couldn't be replayed, it is taken away
abbrev pub FinishAnswer :
    {V : Type 0} → Vaults V → Result Replayed Unreplayed → V → V → ReplayResult → Type 0
FinishAnswer vaults (Ok r) old new (Ok report) =
    (vaults.files new ≡ vaults.files old)
    × ((report ≡ reported r) × IsDurable (vaults.files new) (vaults.past new))
FinishAnswer vaults (Ok r) old new (Err (replay.Out why)) =
    AreaCause (vaults.faults old) (vaults.faults new) why
FinishAnswer vaults (Ok r) old new (Err (replay.Site fault)) = ⊥
FinishAnswer vaults (Ok r) old new (Err replay.NotEmpty) = ⊥
FinishAnswer vaults (Ok r) old new (Err (replay.Wal why)) = ⊥
FinishAnswer vaults (Err (unreplayed.Out f)) old new result =
    (vaults.faults new ≡ vaults.faults old) × (result ≡ Err (replay.Out f))
FinishAnswer vaults (Err (unreplayed.Wal f)) old new (Err (replay.Wal why)) =
    (vaults.files new ≡ option_map (λ m. empty) (vaults.files old)) × (why ≡ f)
FinishAnswer vaults (Err (unreplayed.Wal f)) old new (Err (replay.Out why)) =
    AreaCause (vaults.faults old) (vaults.faults new) why
FinishAnswer vaults (Err (unreplayed.Wal f)) old new (Err (replay.Site fault)) = ⊥
FinishAnswer vaults (Err (unreplayed.Wal f)) old new (Err replay.NotEmpty) = ⊥
FinishAnswer vaults (Err (unreplayed.Wal f)) old new (Ok report) = ⊥

-- ---- `walsummary`

-- why it comes to its answer over kept summaries, and over the area of the summaries
abbrev pub AnswersKept : List Summary → Lsn → Lsn → WalsummaryResult → Type 0
AnswersKept sums from to (Ok sum) = IsCovering sums from.0 to.0 sum
AnswersKept sums from to (Err (walsummary.Gap place)) = IsGap sums from.0 to.0 place.0
AnswersKept sums from to (Err (walsummary.Sums why)) = why ≡ NoMemory
AnswersKept sums from to (Err (walsummary.Site fault)) = ⊥

abbrev pub AnswersWalsummary :
    {V : Type 0} → Vaults V → Lsn → Lsn → V → V → WalsummaryResult → Type 0
AnswersWalsummary vaults from to area now r =
    WalsummaryAnswer from to Never (state_in vaults area) (state_in vaults now) r
