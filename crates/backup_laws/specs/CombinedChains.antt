-- What `combine` makes of a sound chain of backups is a sound chain of one.
use Rattle.std.specs.Prelude.{◌≡◌, ℕ, List, [], ◌∷◌, Some, Ok}
use Rattle.lsn_core.specs.Files.{Files}
use Rattle.lsn_core.specs.Segment.{IsRelseg}
use Rattle.lsn_core.specs.declared.lsn.Lsn.{Lsn}
use Rattle.vault.specs.Lending.{Names}
use Rattle.history.specs.Entry.{Entry}
use Rattle.chain_check.specs.Chain.{IsAccepted}
use Rattle.chain_check.specs.Directory.{IsAsListed}
use Rattle.chain_check.specs.declared.member.Member.{Member}
use Rattle.chain_laws.specs.Chain.{IsSoundChain}
use Rattle.command_base.specs.Areas.{backup_name}
use Rattle.command_base.specs.Outside.{Outside}
use Rattle.chain_commands.specs.declared.combining.CombineReport.{CombineReport}
use Rattle.chain_commands.specs.Chain.{backup_areas, files_told}
use Rattle.chain_commands.specs.Combine.{CombineDoes}

-- `combine` ended well: of these directories, which stood under the members' names, it made this
-- one
pub record HasCombined
    (members : Names) (chain : List Files) (name : List ℕ) (made : Files) (old new : Outside)
    (report : CombineReport)
    : Type 0 where
  pub does : CombineDoes name members old new (Ok report)
  pub were : files_told (backup_areas members old.areas) ≡ Some chain
  pub is : (new.areas (backup_name name)).files ≡ Some made

-- files are the directory of a backup of a name as its manifest lists it. As a chain of one it is
-- accepted, and sound for a history, from where its label starts to where its manifest ends
pub record IsSoundAlone
    (relseg : ℕ) (history : List Entry) (name : List ℕ) (start end : Lsn) (files : Files)
    : Type 0 where
  pub member : Member
  pub named : member.name ≡ name
  pub starts : member.label.start ≡ start
  pub ends : member.manifest.end ≡ end.0
  pub listed : IsAsListed files member
  pub accepted : IsAccepted (member ∷ [])
  pub sound : IsSoundChain relseg history (files ∷ []) start.0 end.0

-- where the members' directories were a sound chain of a history, between the places that `combine`
-- told, the one that it made of them is a sound chain of one
abbrev pub CombinedChainsStaySound : Type 0
CombinedChainsStaySound =
    (members : Names) (chain : List Files) (name : List ℕ) (made : Files) (old new : Outside)
    (report : CombineReport) (relseg : ℕ) (history : List Entry)
    → IsRelseg relseg → HasCombined members chain name made old new report
    → IsSoundChain relseg history chain report.start.0 report.end.0
    → IsSoundAlone relseg history name report.start report.end made
