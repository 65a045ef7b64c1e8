-- The members of a chain of backups, in the words of the command line (profile).
use Rattle.std.specs.Prelude.{ℕ, Bool, List, length, nat_le, ◌&&◌}
use Rattle.std.specs.List.{list_all}
use Rattle.scripts.specs.Cuts.{is_name}
use Rattle.command_line.specs.declared.members.MemberNames.{MemberNames}

abbrev pub names_in : MemberNames → List (List ℕ)
names_in members = members.names.now

-- there is one at least, and each is a name
abbrev pub are_members : List (List ℕ) → Bool
are_members names = nat_le 1 (length names) && list_all is_name names

-- there are two at least, and each is a name
abbrev pub are_series : List (List ℕ) → Bool
are_series names = nat_le 2 (length names) && list_all is_name names
