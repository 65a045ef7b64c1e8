-- What is printed of a member of a chain of backups that isn't taken (profile).
use Rattle.std.specs.Prelude.{ℕ, List, ◌++◌, codes}
use Rattle.chain_check.specs.declared.link.LinkFault.{LinkFault}
use Rattle.chain_check.specs.declared.link.LinkFault.TheVariants as link
use Rattle.command_base.specs.Faults.{memory_text}
use Rattle.command_base.specs.Backups.{of_backup, with_number, with_lsns, overlap_text, systems_text}
use Rattle.command_base.specs.declared.status.Status.{Status}
use Rattle.command_base.specs.declared.status.Status.TheVariants as status

-- the member of this name isn't taken
abbrev pub link_text : List ℕ → LinkFault → List ℕ
link_text name link.TooManyMembers = codes "37 TooManyMembers"
link_text name (link.ManifestVersion v) = with_number (codes "22 ManifestVersion") name v
link_text name (link.TimelineDiffers v) = with_number (codes "34 TimelineDiffers") name v
link_text name link.FirstIncremental = codes "30 FirstIncremental " ++ name
link_text name link.LaterFull = codes "31 LaterFull " ++ name
link_text name (link.SystemDiffers have expected) =
    systems_text name have expected
link_text name (link.WrongPrior have expected) =
    with_lsns (codes "32 WrongPrior") name have expected
link_text name (link.Overlap start end) = overlap_text name start end
link_text name (link.NoPriorFile path) = of_backup (codes "36 NoPriorFile") name path
link_text name link.NoMemory = memory_text

-- the status of a member that isn't taken
abbrev pub link_status : LinkFault → Status
link_status link.TooManyMembers = status.Refused
link_status (link.ManifestVersion v) = status.Refused
link_status (link.TimelineDiffers v) = status.Refused
link_status link.FirstIncremental = status.Refused
link_status link.LaterFull = status.Refused
link_status (link.SystemDiffers have expected) = status.Refused
link_status (link.WrongPrior have expected) = status.Refused
link_status (link.Overlap start end) = status.Refused
link_status (link.NoPriorFile path) = status.Refused
link_status link.NoMemory = status.Memory
