-- `combine`: what combining a chain of backups to one does, prints and ends with.
use Rattle.std.specs.Prelude.{ℕ, List, ◌∷◌, ◌++◌, [], Ok, Err, codes}
use Rattle.vault.specs.Lending.{Names}
use Rattle.chain_check.specs.declared.member.Member.{Member}
use Rattle.chain_check.specs.declared.fault.ChainFault.TheVariants.{ManifestDamaged}
use Rattle.chain_check.specs.declared.fault.ManifestWhy.TheVariants.{Shape}
use Rattle.command_base.specs.declared.status.Status.{Status}
use Rattle.command_base.specs.declared.status.Status.TheVariants as status
use Rattle.command_base.specs.Areas.{backup_name}
use Rattle.command_base.specs.Outside.{Outside, Untakens}
use Rattle.command_base.specs.Faults.{refused_line, area_text, full_text, take_text, area_status}
use Rattle.chain_commands.specs.declared.chain.Joining.TheVariants as join
use Rattle.chain_commands.specs.declared.combining.CombineReport.{CombineReport}
use Rattle.chain_commands.specs.declared.combining.CombineFault.{CombineFault}
use Rattle.chain_commands.specs.declared.combining.CombineFault.TheVariants as combine
use Rattle.chain_commands.specs.Chain.{name_at, members_fault_text, members_status}
use Rattle.chain_commands.specs.Directory.{directory_text}
use Rattle.chain_commands.specs.Joined.{JoinsMembers, JoinAnswer, JoinDoes}
use Rattle.chain_commands.specs.Verify.{range_text}
-- what is joined, and what is told of it
pub use Rattle.chain_commands.specs.Joined.{CombineResult, CombineSeen, combine_seen, combine_report}

-- ---- what `combine` comes to

-- the chain to this member was combined, durably, into an output that was clear, and a manifest can
-- list it
abbrev pub CombinesChain :
    ℕ → CombineSeen → CombineSeen → CombineReport → Member → Type 0
CombinesChain when old new report newest = JoinsMembers join.Chain when old new report newest

-- why `combine` of the members of these names at a moment comes to its answer, where an area that
-- isn't handed out means this
abbrev pub CombineAnswer : ℕ → Names → Untakens → CombineSeen → CombineSeen → CombineResult → Type 0
CombineAnswer when names Untaken old new r = JoinAnswer join.Chain when names Untaken old new r

-- `combine` to a backup of a name, of the members of these names, at the clock's moment. No file
-- changes but those of that backup's area
abbrev pub CombineDoes : List ℕ → Names → Outside → Outside → CombineResult → Type 0
CombineDoes out names old new r = JoinDoes join.Chain out names old new r

-- ---- what it prints, where these are the members' names and the output's area, and its status

-- the line of what was joined to a backup of this name, behind a word
abbrev pub joined_line : List ℕ → List ℕ → CombineReport → List ℕ
joined_line word name report =
    word ++ (name ++ (32 ∷ (range_text report.start report.end report.rows ++ (10 ∷ []))))

abbrev pub combine_fault_text : Names → List ℕ → CombineFault → List ℕ
combine_fault_text names out (combine.Site fault) = take_text fault
combine_fault_text names out (combine.Members fault) = members_fault_text names fault
combine_fault_text names out combine.NotEmpty = full_text out
combine_fault_text names out (combine.Unlisted place) =
    directory_text (name_at names place) (ManifestDamaged Shape)
combine_fault_text names out (combine.Backup place why) =
    area_text (backup_name (name_at names place)) why
combine_fault_text names out (combine.Out why) = area_text out why

-- the line for a backup of this name
abbrev pub joined_text : List ℕ → Names → List ℕ → CombineResult → List ℕ
joined_text word names name (Ok report) = joined_line word name report
joined_text word names name (Err fault) =
    refused_line (combine_fault_text names (backup_name name) fault)

abbrev pub combine_text : Names → List ℕ → CombineResult → List ℕ
combine_text names name r = joined_text (codes "combined ") names name r

abbrev pub combine_status : CombineResult → Status
combine_status (Ok report) = status.Done
combine_status (Err (combine.Site fault)) = area_status fault.why
combine_status (Err (combine.Members fault)) = members_status fault
combine_status (Err combine.NotEmpty) = status.Refused
combine_status (Err (combine.Unlisted place)) = status.Refused
combine_status (Err (combine.Backup place why)) = area_status why
combine_status (Err (combine.Out why)) = area_status why
