-- What joining the members of a chain, or of a series, to one backup does: `combine` a chain, and
-- `merge-incr` a series.
use Rattle.std.specs.Prelude.{◌≡◌, ◌⊎◌, ℕ, ◌+◌, List, [], ◌∷◌, ◌++◌, length, Option, Result, Ok, Err, IfSome}
use Rattle.lsn_core.specs.Causes.{Rose}
use Rattle.lsn_core.specs.Files.{Files}
use Rattle.lsn_core.specs.declared.fault.AreaFault.{AreaFault}
use Rattle.lsn_core.specs.declared.fault.AreaFault.TheVariants as area
use Rattle.vault.specs.Lending.{Names}
use Rattle.vault.specs.Site.{AreaState}
use Rattle.manifest.specs.Listing.{Listing}
use Rattle.backup_files.specs.Area.{KeepsManifest, RoseTwice}
use Rattle.chain_check.specs.Directory.{IsAsListed}
use Rattle.chain_check.specs.declared.member.Member.{Member}
use Rattle.chain_files.specs.Sources.{OfChain}
use Rattle.directory_files.specs.Relisted.{other_rows}
use Rattle.directory_files.specs.Written.{CanList}
use Rattle.combine.specs.Calls.{CannotList}
use Rattle.combine.specs.Combined.{EndsWith, IsCombined}
use Rattle.merge_laws.specs.Merged.{BeginsWith, IsMerged}
use Rattle.incr_merge.specs.Calls.{AreMergedPaths}
use Rattle.command_base.specs.Areas.{backup_name, IsClear, IsFull, AreaIsDurable, Keeps, AreaFails}
use Rattle.command_base.specs.Outside.{IsMoment, Outside, Works, Untakens, IsUntaken}
use Rattle.store_commands.specs.Replay.{KeepsFull}
use Rattle.chain_commands.specs.declared.chain.Joining.{Joining}
use Rattle.chain_commands.specs.declared.chain.Joining.TheVariants as join
use Rattle.chain_commands.specs.declared.combining.CombineReport.{CombineReport}
use Rattle.chain_commands.specs.declared.combining.CombineFault.{CombineFault}
use Rattle.chain_commands.specs.declared.combining.CombineFault.TheVariants as combine
use Rattle.chain_commands.specs.Chain.{backup_names, backup_areas, files_told, BackupFails}
use Rattle.chain_commands.specs.Chain.{IsOfJoined, MembersRefusedAs}

abbrev pub CombineResult : Type 0
CombineResult = Result CombineReport CombineFault

-- ---- what is joined

-- the areas that are looked at: of the members in their order, and of the output
pub record CombineSeen : Type 0 where
  pub members : List AreaState
  pub out : AreaState

-- the output's files are what the chain to this member is combined to at a moment, with so many
-- rows, where all areas tell theirs
abbrev pub HoldsCombined : ℕ → CombineSeen → CombineSeen → Member → ℕ → Type 0
HoldsCombined when old new newest rows =
    OfChain (files_told old.members) (λ chain. (last : Files) → EndsWith chain last
    → IsAsListed last newest
    → IfSome new.out.files (IsCombined chain last newest.manifest when rows))

-- the same of what the series to this member is merged to
abbrev pub HoldsMerged : ℕ → CombineSeen → CombineSeen → Member → ℕ → Type 0
HoldsMerged when old new newest rows =
    OfChain (files_told old.members) (λ series. (first last : Files) → BeginsWith series first
    → EndsWith series last → IsAsListed last newest
    → IfSome new.out.files (IsMerged series first last newest.manifest when rows))

-- and of a chain, or of a series
abbrev pub HoldsJoined : Joining → ℕ → CombineSeen → CombineSeen → Member → ℕ → Type 0
HoldsJoined join.Chain when old new newest rows = HoldsCombined when old new newest rows
HoldsJoined join.Series when old new newest rows = HoldsMerged when old new newest rows

-- no manifest can list what a series is merged to, whose newest member's manifest is this
abbrev pub CannotListMerged : List Files → Listing → Type 0
CannotListMerged series m =
    (paths : List (List ℕ)) × AreMergedPaths series (other_rows m.files) paths
    × (CanList m paths → ⊥)

-- one can
abbrev pub CanListMerged : List Files → Listing → Type 0
CanListMerged series m =
    (paths : List (List ℕ)) → AreMergedPaths series (other_rows m.files) paths → CanList m paths

-- none can list what members are joined to that tell this; and one can, where a series tells
abbrev pub IsUnlistable : Joining → Option (List Files) → Listing → Type 0
IsUnlistable join.Chain told m = CannotList m
IsUnlistable join.Series told m = OfChain told (λ series. CannotListMerged series m)

abbrev pub IsListable : Joining → Option (List Files) → Listing → Type 0
IsListable join.Chain told m = CannotList m → ⊥
IsListable join.Series told m = OfChain told (λ series. CanListMerged series m)

-- ---- what joining comes to

-- what is told of a chain to this member that was combined to so many files, or of a series that
-- was merged to so many
abbrev pub combine_report : Member → ℕ → CombineReport
combine_report newest rows = record {
  start = record { 0 = newest.manifest.start };
  end = record { 0 = newest.manifest.end };
  rows = rows;
}

-- the members, of which this is the newest, were joined, durably, into an output that was clear,
-- and a manifest can list it
pub record JoinsMembers
    (joining : Joining) (when : ℕ) (old new : CombineSeen) (report : CombineReport)
    (newest : Member)
    : Type 0 where
  pub clear : IsClear old.out
  pub listable : IsListable joining (files_told old.members) newest.manifest
  pub rows : ℕ
  pub told : report ≡ combine_report newest rows
  pub counted : rows ≡ length (other_rows newest.manifest.files)
  pub combined : HoldsJoined joining when old new newest rows
  pub durable : AreaIsDurable new.out

-- no manifest can list what the members to this one are joined to, which is the last of the members
-- of these names
pub record IsUnlisted
    (joining : Joining) (names : Names) (old : CombineSeen) (place : ℕ) (newest : Member)
    : Type 0 where
  pub last : place + 1 ≡ length names
  pub clear : IsClear old.out
  pub cause : IsUnlistable joining (files_told old.members) newest.manifest

-- what a failure leaves of the output's manifest: nothing. Its removal alone, which follows a fault
-- in writing or syncing it, may fail too: then the count rose twice, or once and there was no
-- memory; or memory was missing twice, and the whole directory stands
abbrev pub LeavesNone : Type 0 → AreaState → AreaState → AreaFault → Type 0
LeavesNone whole old new area.Failed =
    KeepsManifest old.files new.files ⊎ RoseTwice old.faults new.faults
LeavesNone whole old new area.NoMemory =
    KeepsManifest old.files new.files ⊎ (Rose old.faults new.faults ⊎ whole)

-- the whole directory stands, whatever is answered
abbrev pub StandsWhole : Joining → ℕ → Names → CombineSeen → CombineSeen → Type 0
StandsWhole joining when names old new =
    IsOfJoined joining names old.members (λ newest.
    (rows : ℕ) × HoldsJoined joining when old new newest rows)

-- why joining the members of these names at a moment comes to its answer, where an area that isn't
-- handed out means this. What it finds leaves the output as it was, and so does any fault where it
-- held a file; one that was empty is left without a manifest
abbrev pub JoinAnswer :
    Joining → ℕ → Names → Untakens → CombineSeen → CombineSeen → CombineResult → Type 0
JoinAnswer joining when names Untaken old new (Ok report) =
    IsOfJoined joining names old.members (JoinsMembers joining when old new report)
JoinAnswer joining when names Untaken old new (Err (combine.Site fault)) = Untaken fault
JoinAnswer joining when names Untaken old new (Err (combine.Members fault)) =
    MembersRefusedAs joining names old.members new.members fault × Keeps old.out new.out
JoinAnswer joining when names Untaken old new (Err combine.NotEmpty) =
    IsOfJoined joining names old.members (λ newest. IsFull old.out) × Keeps old.out new.out
JoinAnswer joining when names Untaken old new (Err (combine.Unlisted place)) =
    IsOfJoined joining names old.members (IsUnlisted joining names old place)
    × Keeps old.out new.out
JoinAnswer joining when names Untaken old new (Err (combine.Backup place why)) =
    BackupFails old.members new.members place why × KeepsFull old.out new.out
    × KeepsManifest old.out.files new.out.files
JoinAnswer joining when names Untaken old new (Err (combine.Out why)) =
    AreaFails old.out new.out why × KeepsFull old.out new.out
    × LeavesNone (StandsWhole joining when names old new) old.out new.out why

-- the areas that are looked at, of the whole outside
abbrev pub combine_seen : Names → List ℕ → Outside → CombineSeen
combine_seen names out o = record { members = backup_areas names o.areas; out = o.areas out }

abbrev pub combine_asks : Names → List ℕ → Names
combine_asks names out = backup_names names ++ (out ∷ [])

-- the same of the whole outside, with this area of the output
abbrev pub JoinRan :
    Joining → ℕ → Names → List ℕ → Outside → Outside → CombineResult → Type 0
JoinRan joining when names out old new r =
    JoinAnswer joining when names (IsUntaken (combine_asks names out) old new)
    (combine_seen names out old) (combine_seen names out new) r

-- joining the members of these names to a backup of a name, at the clock's moment. No file changes
-- but those of that backup's area
abbrev pub JoinDoes :
    Joining → List ℕ → Names → Outside → Outside → CombineResult → Type 0
JoinDoes joining out names old new r =
    (when : ℕ) × IsMoment old when
    × Works (backup_name out ∷ []) old new
    × JoinRan joining when names (backup_name out) old new r
