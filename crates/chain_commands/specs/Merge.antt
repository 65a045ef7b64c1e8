-- `merge-incr`: what merging a series of incremental backups to one does and prints; it ends as
-- `combine` does.
use Rattle.std.specs.Prelude.{ℕ, List, codes}
use Rattle.vault.specs.Lending.{Names}
use Rattle.chain_check.specs.declared.member.Member.{Member}
use Rattle.command_base.specs.Outside.{Outside, Untakens}
use Rattle.chain_commands.specs.declared.chain.Joining.TheVariants as join
use Rattle.chain_commands.specs.declared.combining.CombineReport.{CombineReport}
use Rattle.chain_commands.specs.Combine.{joined_text}
use Rattle.chain_commands.specs.Joined.{CombineResult, CombineSeen, JoinsMembers, JoinAnswer, JoinDoes}

-- the series to this member was merged, durably, into an output that was clear, and a manifest can
-- list it
abbrev pub MergesSeries :
    ℕ → CombineSeen → CombineSeen → CombineReport → Member → Type 0
MergesSeries when old new report newest = JoinsMembers join.Series when old new report newest

-- why `merge-incr` of the members of these names at a moment comes to its answer, where an area
-- that isn't handed out means this
abbrev pub MergeAnswer : ℕ → Names → Untakens → CombineSeen → CombineSeen → CombineResult → Type 0
MergeAnswer when names Untaken old new r = JoinAnswer join.Series when names Untaken old new r

-- `merge-incr` to a backup of a name, of the members of these names, at the clock's moment. No file
-- changes but those of that backup's area
abbrev pub MergeDoes : List ℕ → Names → Outside → Outside → CombineResult → Type 0
MergeDoes out names old new r = JoinDoes join.Series out names old new r

-- the line for a backup of this name
abbrev pub merge_text : Names → List ℕ → CombineResult → List ℕ
merge_text names name r = joined_text (codes "merged ") names name r
