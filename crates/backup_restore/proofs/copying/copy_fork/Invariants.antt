use Rattle.std.proofs.Common.{◌+◌, ◌-◌, ◌≤◌}
use Rattle.vault.specs.Frame.{ChangesOnly}
use Rattle.rel_files.specs.Forks.{IsForkPath}
use Rattle.chain_files.specs.Told.{chain_told, AllOnlyRead}
use Rattle.backup_restore.specs.Inside.{MakesFork, area_shows}
use Rattle.backup_restore.proofs.ForkCopies.{KeepsFork}
use Rattle.backup_restore.proofs.copying.copy_fork.Given as goal

-- the fork was made, and the files so far were put
abbrev pub invariant-loop-count : goal.invariant-loop-count
invariant-loop-count g l =
    (mid : g.row.V.Denot) × MakesFork (area_shows g.V.Vault l.relseg) l.fn.out mid l.fork
    × KeepsFork (area_shows g.V.Vault l.relseg) l.relseg (chain_told g.V.Vault l.fn.areas l.places) l.fork mid l.out l.seg l.count l.all
    × AllOnlyRead g.V.Vault l.fn.areas l.areas × ChangesOnly g.V.Vault IsForkPath l.fn.out l.out × (g.V.Vault.faults l.fn.out ≤ g.V.Vault.faults l.out)

abbrev pub decreases-loop-count : goal.decreases-loop-count
decreases-loop-count g l = 4294967295 + l.relseg - l.all + l.count - l.relseg
