-- The lines of a listing, in their order.
use Rattle.std.specs.Prelude.{ℕ, Bool, false, List, [], ◌∷◌, ◌++◌, slice_get, Option, Some, None, if◌then◌else◌}
use Rattle.std.specs.Str.{bytes_eq}
use Rattle.std.specs.Option.{option_map, option_and_then, is_none}
use Rattle.chain_listing.specs.Chains.{chain_of, prior_of}
use Rattle.chain_listing.specs.Listing.{View}
use Rattle.chain_view.specs.Cells.{member_line, damaged_line}
use Rattle.chain_listing.specs.declared.backup.Backup.{Backup}
use Rattle.chain_listing.specs.declared.listing.Damaged.{Damaged}
use Rattle.chain_view.specs.declared.cells.Cell.{Cell}
use Rattle.chain_view.specs.declared.cells.Member.{Member}

-- a chain has the name of its first member
abbrev pub first_of : Option (List (List ℕ)) → Option (List ℕ)
first_of names = option_and_then (λ names. slice_get names 0) names

-- a backup in the chain that it ends, among all of them
abbrev pub member_of : List Backup → Backup → Member
member_of backups backup = record {
  backup = backup;
  chain = first_of (chain_of backups backup);
  prior = option_map (λ b. b.name) (prior_of backups backup);
}

abbrev pub members_in : List Backup → List Backup → List Member
members_in backups [] = []
members_in backups (backup ∷ left) = member_of backups backup ∷ members_in backups left

abbrev pub is_named : Option (List ℕ) → List ℕ → Bool
is_named None name = false
is_named (Some chain) name = bytes_eq chain name

-- the members of the chains that begin with a backup of this name
abbrev pub chain_lines : List ℕ → List Member → List (List Cell)
chain_lines name [] = []
chain_lines name (member ∷ left) =
    if is_named member.chain name then member_line member ∷ chain_lines name left
    else chain_lines name left

-- those that begin with this one, where it is a full one: its own chain has its name
abbrev pub root_lines : List Member → Member → List (List Cell)
root_lines members member =
    if is_named member.chain member.backup.name then chain_lines member.backup.name members else []

-- all chains, in the order of the backups that they begin with
abbrev pub chains_lines : List Member → List Member → List (List Cell)
chains_lines members [] = []
chains_lines members (member ∷ left) = root_lines members member ++ chains_lines members left

-- the backups that end no chain
abbrev pub broken_lines : List Member → List (List Cell)
broken_lines [] = []
broken_lines (member ∷ left) =
    if is_none member.chain then member_line member ∷ broken_lines left else broken_lines left

-- the folders that are no backup
abbrev pub damaged_lines : List Damaged → List (List Cell)
damaged_lines [] = []
damaged_lines (damaged ∷ left) = damaged_line damaged ∷ damaged_lines left

abbrev pub member_lines : List Member → List (List Cell)
member_lines members = chains_lines members members ++ broken_lines members

-- the lines of a listing
abbrev pub lines_of : View → List (List Cell)
lines_of view =
    member_lines (members_in view.backups view.backups) ++ damaged_lines view.damaged
