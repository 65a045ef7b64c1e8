-- What the summaries that are kept of an area cover.
use Rattle.std.proofs.Common.{ℕ, List, Option, Some, None, Ok, Err, IfSome, sym, subst}
use Rattle.lsn_core.specs.Files.{Files}
use Rattle.lsn_core.specs.declared.lsn.Lsn.{Lsn}
use Rattle.lsn_core.specs.declared.fault.AreaFault.{AreaFault}
use Rattle.lsn_core.specs.declared.fault.AreaFault.TheVariants.{NoMemory}
use Rattle.vault.specs.declared.area.Vault.{Ghosts as Vaults}
use Rattle.wal_summary.specs.declared.summary.Summary.{Summary}
use Rattle.wal_summary.specs.Kept.{IsCovering, IsGap}
use Rattle.summary_store.specs.Kept.{AreKept}
use Rattle.command_base.specs.Areas.{AreaCause}
use Rattle.store_commands.specs.declared.range_summary.WalsummaryFault.TheVariants as walsummary
use Rattle.store_commands.specs.Walsummary.{WalsummaryResult, IsKeptCovering, IsKeptGap}
use Rattle.store_commands.specs.Inner.{AnswersKept, AnswersWalsummary}

covering_told : (files : Option Files) (sums : List Summary) (from to : ℕ) (sum : Summary) → IfSome files (λ m. AreKept m sums) → IsCovering sums from to sum → IfSome files (IsKeptCovering from to sum)
covering_told None sums from to sum kept is = tt
covering_told (Some m) sums from to sum kept is = record { sums = sums; kept = kept; covering = is }

gap_told : (files : Option Files) (sums : List Summary) (from to place : ℕ) → IfSome files (λ m. AreKept m sums) → IsGap sums from to place → IfSome files (IsKeptGap from to place)
gap_told None sums from to place kept is = tt
gap_told (Some m) sums from to place kept is = record { sums = sums; kept = kept; gap = is }

no_memory : (before now : ℕ) → AreaCause before now NoMemory
no_memory before now = tt

-- the answer over what is kept is that over the area
pub kept_answers : {V : Type 0} (g : Vaults V) (from to : Lsn) (area now : V) (sums : List Summary) (r : WalsummaryResult) → IfSome (g.files area) (λ m. AreKept m sums) → AnswersKept sums from to r → AnswersWalsummary g from to area now r
kept_answers g from to area now sums (Ok sum) kept is = covering_told (g.files area) sums from.0 to.0 sum kept is
kept_answers g from to area now sums (Err (walsummary.Gap place)) kept is = gap_told (g.files area) sums from.0 to.0 place.0 kept is
kept_answers g from to area now sums (Err (walsummary.Site fault)) kept is = is
kept_answers g from to area now sums (Err (walsummary.Sums why)) kept is =
    subst (λ (w : AreaFault). AreaCause (g.faults area) (g.faults now) w) (sym is) (no_memory (g.faults area) (g.faults now))
