use Rattle.std.proofs.Common.{◌≤◌, take}
use Rattle.vault.specs.Frame.{ChangesOnly}
use Rattle.rel_files.specs.Forks.{IsForkPath}
use Rattle.chain_files.specs.Told.{chain_told, AllOnlyRead}
use Rattle.backup_restore.specs.Inside.{area_shows}
use Rattle.backup_restore.proofs.StoreCopies.{CopiedSoFar}
use Rattle.backup_restore.proofs.copying.copy_store.Given as goal

-- the forks of the names so far were copied
abbrev pub invariant-loop-name : goal.invariant-loop-name
invariant-loop-name g l =
    CopiedSoFar (area_shows g.V.Vault l.relseg) l.relseg (chain_told g.V.Vault l.fn.areas l.places) (take l.name-index l.name-items) l.fn.out l.out l.tally
    × AllOnlyRead g.V.Vault l.fn.areas l.areas × ChangesOnly g.V.Vault IsForkPath l.fn.out l.out × (g.V.Vault.faults l.fn.out ≤ g.V.Vault.faults l.out)
