use Rattle.std.proofs.Common.{◌≤◌, ◌-◌, length, take}
use Rattle.command_line.specs.Members.{names_in}
use Rattle.chain_commands.proofs.MemberAreas.{Standing}
use Rattle.chain_commands.proofs.chain.areas_of.Given as goal

-- the areas of the members before this one stand at their places
abbrev pub invariant-loop-name : goal.invariant-loop-name
invariant-loop-name l = record {
  within : l.member ≤ length (names_in l.members);
  standing : Standing (take l.member (names_in l.members)) l.names.items l.places.items;
}

abbrev pub decreases-loop-name : goal.decreases-loop-name
decreases-loop-name l = length (names_in l.members) - l.member
