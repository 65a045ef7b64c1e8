use Rattle.std.proofs.Common.{◌≡◌, ◌+◌, ◌*◌, ◌^◌, ◌<◌, length, true}
use Rattle.std.specs.List.{AllByRecursion}
use Rattle.backup_sending.specs.Backup.{site_of}
use Rattle.backup_sending.specs.Inside.{CopiesOn}
use Rattle.backup_sending.proofs.Blocks.{PartSoFar}
use Rattle.backup_sending.proofs.parts.copy_part.Given as goal

-- all blocks but those that are left stand in the file
abbrev pub invariant-loop-left : goal.invariant-loop-left
invariant-loop-left g l = record {
  step : CopiesOn g.V.Vault (site_of l.fn.pass l.fn.out) (site_of l.pass l.out);
  within : AllByRecursion (λ block. l.first + block < 2 ^ 32) l.left;
  small : l.at + length l.left * 8192 < 2 ^ 64;
  far : PartSoFar (g.J.OfStore.tells ≡ true) l.pass.list l.from.0 l.fork l.first l.front l.blocks l.left l.path l.at (g.V.Vault.files l.fn.out) (g.V.Vault.files l.out) l.hasher;
}

abbrev pub decreases-loop-left : goal.decreases-loop-left
decreases-loop-left g l = length l.left
