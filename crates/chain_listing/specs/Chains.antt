-- How backups stand on one another, and the chains that they make (PostgreSQL manual,
-- pg_combinebackup), by what their labels and manifests tell.
use Rattle.std.specs.Prelude.{ℕ, zero, suc, Bool, false, not, ◌==◌, ◌&&◌, nat_le, List, [], ◌∷◌, Option, Some, None, if◌then◌else◌}
use Rattle.std.specs.List.{find}
use Rattle.std.specs.Option.{option_and_then, is_some}
use Rattle.lsn_core.specs.declared.lsn.Lsn.{Lsn}
use Rattle.chain_listing.specs.Backups.{is_full}
use Rattle.chain_listing.specs.declared.backup.Backup.{Backup}

-- what a label names as its prior's start is this place
abbrev pub names_start : Option Lsn → ℕ → Bool
names_start None at = false
names_start (Some start) at = start.0 == at

-- a backup stands on another one: its label names that one's start, it is of the same store, and it
-- starts where that one has ended
abbrev pub is_prior : Backup → Backup → Bool
is_prior member prior =
    names_start member.prior prior.start.0
    && (nat_le prior.end.0 member.start.0 && (prior.system == member.system))

-- the one that it is listed to stand on: the first such one
abbrev pub prior_of : List Backup → Backup → Option Backup
prior_of backups member = find (is_prior member) backups

-- the names of the members of a chain, the oldest first: these behind a backup, it, and those that
-- it stands on, so many with it at most. None where one isn't there
unfoldable pub chain_behind : ℕ → List Backup → List (List ℕ) → Backup → Option (List (List ℕ))
chain_behind zero backups behind member = None
chain_behind (suc n) backups behind member =
    if is_full member then Some (member.name ∷ behind)
    else option_and_then (chain_behind n backups (member.name ∷ behind)) (prior_of backups member)

-- the chain that a backup ends, of 64 members at most
abbrev pub chain_of : List Backup → Backup → Option (List (List ℕ))
chain_of backups last = chain_behind 64 backups [] last

-- ---- the chain for a place

-- a backup ends a chain, and at or before this place
abbrev pub reaches : List Backup → ℕ → Backup → Bool
reaches backups upto last = nat_le last.end.0 upto && is_some (chain_of backups last)

-- it ends at or before another one, where there is one
abbrev pub ends_by : Option Backup → Backup → Bool
ends_by None last = false
ends_by (Some found) last = nat_le last.end.0 found.end.0

-- the newest of some backups, and of one that was found before, that ends a chain so
abbrev pub newer : List Backup → ℕ → Option Backup → Backup → Option Backup
newer backups upto found last =
    if not (ends_by found last) && reaches backups upto last then Some last else found

abbrev pub newest_in : List Backup → ℕ → Option Backup → List Backup → Option Backup
newest_in backups upto found [] = found
newest_in backups upto found (last ∷ left) =
    newest_in backups upto (newer backups upto found last) left

-- the members of that chain
abbrev pub members_for : List Backup → ℕ → Option (List (List ℕ))
members_for backups upto =
    option_and_then (chain_of backups) (newest_in backups upto None backups)
