use Rattle.std.proofs.Common.{◌≡◌, ◌≤◌, ◌-◌, true}
use Rattle.backup_sending.specs.Backup.{site_of}
use Rattle.backup_sending.specs.Inside.{CopiesOn}
use Rattle.backup_sending.proofs.Contents.{SoFar}
use Rattle.backup_sending.proofs.files.copy_file.Given as goal

-- the file has so many blocks
abbrev pub invariant-loop-done : goal.invariant-loop-done
invariant-loop-done g l = record {
  within : l.done ≤ l.count;
  step : CopiesOn g.V.Vault (site_of l.fn.pass l.fn.out) (site_of l.pass l.out);
  far : SoFar (g.J.OfStore.tells ≡ true) l.pass.list l.from.0 l.fork l.block l.done l.path (g.V.Vault.files l.fn.out) (g.V.Vault.files l.out) l.hasher;
}

abbrev pub decreases-loop-done : goal.decreases-loop-done
decreases-loop-done g l = l.count - l.done
