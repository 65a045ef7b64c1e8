use Rattle.std.proofs.Common.{◌≡◌, length, true}
use Rattle.backup_sending.specs.Backup.{site_of}
use Rattle.backup_sending.specs.Inside.{CopiesOn}
use Rattle.backup_sending.proofs.Stores.{StoreSoFar}
use Rattle.backup_sending.proofs.forks.copy_forks.Given as goal

-- all forks but those that are left were copied
abbrev pub invariant-loop-fork : goal.invariant-loop-fork
invariant-loop-fork g l = record {
  step : CopiesOn g.V.Vault (site_of l.fn.pass l.fn.out) (site_of l.pass l.out);
  far : StoreSoFar (g.J.OfStore.tells ≡ true) l.pass.list l.from.0 l.relseg l.forks l.left l.modified (g.V.Vault.files l.fn.out) (g.V.Vault.files l.out) l.rows.items;
}

abbrev pub decreases-loop-fork : goal.decreases-loop-fork
decreases-loop-fork g l = length l.left
