use Rattle.std.proofs.Common.{◌≡◌, ◌≤◌, ◌-◌, true}
use Rattle.backup_sending.specs.Backup.{LooksOn}
use Rattle.backup_sending.specs.Inside.{AddsCopies}
use Rattle.backup_sending.proofs.pages.copy_pages.Given as goal

-- so many blocks were copied
abbrev pub invariant-loop-done : goal.invariant-loop-done
invariant-loop-done g l = record {
  within : l.done ≤ l.count;
  looks : LooksOn 0 l.fn.pass l.pass;
  added : AddsCopies (g.J.OfStore.tells ≡ true) l.pass.list l.from.0 l.fork l.block l.done l.fn.piece.items l.piece.items;
}

abbrev pub decreases-loop-done : goal.decreases-loop-done
decreases-loop-done g l = l.count - l.done
