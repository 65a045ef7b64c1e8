use Rattle.std.proofs.Common.{◌≡◌, ◌+◌, ◌^◌, ◌<◌, length, true}
use Rattle.std.specs.List.{AllByRecursion}
use Rattle.backup_sending.specs.Backup.{LooksOn}
use Rattle.backup_sending.proofs.Blocks.{BlocksSoFar}
use Rattle.backup_sending.proofs.parts.copy_blocks.Given as goal

-- all blocks but those that are left were copied
abbrev pub invariant-loop-block : goal.invariant-loop-block
invariant-loop-block g l = record {
  looks : LooksOn 0 l.fn.pass l.pass;
  within : AllByRecursion (λ block. l.first + block < 2 ^ 32) l.left;
  far : BlocksSoFar (g.J.OfStore.tells ≡ true) l.pass.list l.from.0 l.fork l.first l.blocks l.left l.fn.piece.items l.piece.items;
}

abbrev pub decreases-loop-block : goal.decreases-loop-block
decreases-loop-block g l = length l.left
