use Rattle.std.proofs.Common.{◌≤◌, ◌-◌, length, take}
use Rattle.chain_files.specs.Told.{AllOnlyRead}
use Rattle.command_line.specs.Members.{names_in}
use Rattle.chain_commands.specs.Chain.{AreMembersIn}
use Rattle.chain_commands.specs.Inner.{areas_at}
use Rattle.chain_commands.proofs.chain.members_at.Given as goal

-- the members before this one are found, and all areas were only read
abbrev pub invariant-loop-name : goal.invariant-loop-name
invariant-loop-name g l = record {
  within : l.at ≤ length (names_in l.names);
  read : AllOnlyRead g.V.Vault l.fn.areas l.areas;
  found : AreMembersIn (take l.at (names_in l.names)) (take l.at (areas_at g.V.Vault l.fn.areas l.places)) l.members.items;
}

abbrev pub decreases-loop-name : goal.decreases-loop-name
decreases-loop-name g l = length (names_in l.names) - l.at
