-- The order in which backups are listed.
use Rattle.std.specs.Prelude.{ℕ, List, length, if◌then◌else◌}
use Rattle.std.specs.Ordering.{nat_cmp, ordering_then, is_gt}
use Rattle.std.specs.declared.cmp.Ordering.{Ordering}
use Rattle.std.specs.Cmp.Lexicographic.{slice_cmp}
use Rattle.std.specs.List.{insert, position}
use Rattle.std.specs.Option.{unwrap_or}
use Rattle.chain_listing.specs.Backups.{is_full}
use Rattle.chain_listing.specs.declared.backup.Backup.{Backup}

-- of backups with one end full ones come first, so that the shorter chain is taken
abbrev pub rank : Backup → ℕ
rank backup = if is_full backup then 0 else 1

-- by their ends, their ranks and their names
abbrev pub backup_cmp : Backup → Backup → Ordering
backup_cmp a b =
    ordering_then (ordering_then (nat_cmp a.end.0 b.end.0) (nat_cmp (rank a) (rank b)))
    (slice_cmp nat_cmp a.name b.name)

-- a backup put among those that stand in this order: before the first that comes behind it
abbrev pub with_backup : List Backup → Backup → List Backup
with_backup backups backup =
    insert backups
    (unwrap_or (position (λ b. is_gt (backup_cmp b backup)) backups) (length backups)) backup
