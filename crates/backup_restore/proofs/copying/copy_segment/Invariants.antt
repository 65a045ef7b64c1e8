use Rattle.std.proofs.Common.{◌-◌, ◌≤◌}
use Rattle.vault.specs.Frame.{ChangesOnly}
use Rattle.rel_files.specs.Forks.{IsForkPath}
use Rattle.chain_files.specs.Told.{chain_told, AllOnlyRead}
use Rattle.backup_restore.specs.Inside.{area_shows}
use Rattle.backup_restore.proofs.Segments.{KeepsSegment}
use Rattle.backup_restore.proofs.copying.copy_segment.Given as goal

-- so many pages of the file were put
abbrev pub invariant-loop-count : goal.invariant-loop-count
invariant-loop-count g l =
    KeepsSegment (area_shows g.V.Vault l.relseg) l.relseg (chain_told g.V.Vault l.fn.areas l.places) l.fork l.seg l.first l.most l.fn.out l.out l.count
    × AllOnlyRead g.V.Vault l.fn.areas l.areas × ChangesOnly g.V.Vault IsForkPath l.fn.out l.out × (g.V.Vault.faults l.fn.out ≤ g.V.Vault.faults l.out)

abbrev pub decreases-loop-count : goal.decreases-loop-count
decreases-loop-count g l = l.most - l.count
