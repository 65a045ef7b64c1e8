-- `walsummary`: what telling the kept summaries of a range does, prints and ends with.
use Rattle.std.specs.Prelude.{ℕ, List, [], ◌∷◌, Result, Ok, Err, IfSome}
use Rattle.lsn_core.specs.Files.{Files}
use Rattle.lsn_core.specs.declared.lsn.Lsn.{Lsn}
use Rattle.vault.specs.Site.{AreaState}
use Rattle.wal_summary.specs.declared.summary.Summary.{Summary}
use Rattle.wal_summary.specs.Kept.{IsCovering, IsGap}
use Rattle.summary_store.specs.Kept.{AreKept}
use Rattle.summary_text.specs.Text.{summary_text}
use Rattle.command_base.specs.declared.status.Status.{Status}
use Rattle.command_base.specs.declared.status.Status.TheVariants as status
use Rattle.command_base.specs.Areas.{sums_name, AreaFails}
use Rattle.command_base.specs.Outside.{Outside, Works, Untakens, IsUntaken}
use Rattle.command_base.specs.Backups.{gap_text}
use Rattle.command_base.specs.Faults.{refused_line, take_text, area_text, area_status}
use Rattle.store_commands.specs.declared.range_summary.WalsummaryFault.{WalsummaryFault}
use Rattle.store_commands.specs.declared.range_summary.WalsummaryFault.TheVariants as walsummary

abbrev pub WalsummaryResult : Type 0
WalsummaryResult = Result Summary WalsummaryFault

-- ---- what `walsummary` comes to

-- the summaries that are kept of files cover a range, and this is their merge
pub record IsKeptCovering (from to : ℕ) (sum : Summary) (files : Files) : Type 0 where
  pub sums : List Summary
  pub kept : AreKept files sums
  pub covering : IsCovering sums from to sum

-- they don't cover it, and this is its least place that none of them covers
pub record IsKeptGap (from to place : ℕ) (files : Files) : Type 0 where
  pub sums : List Summary
  pub kept : AreKept files sums
  pub gap : IsGap sums from to place

-- why `walsummary` of a range comes to its answer over the area of the summaries, where an area
-- that isn't handed out means this
abbrev pub WalsummaryAnswer :
    Lsn → Lsn → Untakens → AreaState → AreaState → WalsummaryResult → Type 0
WalsummaryAnswer from to Untaken old new (Ok sum) =
    IfSome old.files (IsKeptCovering from.0 to.0 sum)
WalsummaryAnswer from to Untaken old new (Err (walsummary.Site fault)) = Untaken fault
WalsummaryAnswer from to Untaken old new (Err (walsummary.Gap place)) =
    IfSome old.files (IsKeptGap from.0 to.0 place.0)
WalsummaryAnswer from to Untaken old new (Err (walsummary.Sums why)) = AreaFails old new why

-- the same of the whole outside, in this area
abbrev pub WalsummaryRan :
    List ℕ → Lsn → Lsn → Outside → Outside → WalsummaryResult → Type 0
WalsummaryRan area from to old new r =
    WalsummaryAnswer from to (IsUntaken (area ∷ []) old new) (old.areas area) (new.areas area) r

-- `walsummary` of a range. No file changes
abbrev pub WalsummaryDoes : Lsn → Lsn → Outside → Outside → WalsummaryResult → Type 0
WalsummaryDoes from to old new r = Works [] old new × WalsummaryRan sums_name from to old new r

-- ---- what it prints, and its status

abbrev pub walsummary_fault_text : WalsummaryFault → List ℕ
walsummary_fault_text (walsummary.Site fault) = take_text fault
walsummary_fault_text (walsummary.Gap place) = gap_text place
walsummary_fault_text (walsummary.Sums why) = area_text sums_name why

abbrev pub walsummary_text : WalsummaryResult → List ℕ
walsummary_text (Ok sum) = summary_text sum.forks
walsummary_text (Err fault) = refused_line (walsummary_fault_text fault)

abbrev pub walsummary_status : WalsummaryResult → Status
walsummary_status (Ok sum) = status.Done
walsummary_status (Err (walsummary.Site fault)) = area_status fault.why
walsummary_status (Err (walsummary.Gap place)) = status.Refused
walsummary_status (Err (walsummary.Sums why)) = area_status why
