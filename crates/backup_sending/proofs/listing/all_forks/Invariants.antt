use Rattle.std.proofs.Common.{◌≡◌, ◌≤◌, ◌-◌, true}
use Rattle.backup_sending.specs.Backup.{LooksOn}
use Rattle.backup_sending.proofs.Lengths.{KnowsForks}
use Rattle.backup_sending.proofs.listing.all_forks.Given as goal

-- the forks of so many partitions are known
abbrev pub invariant-loop-q : goal.invariant-loop-q
invariant-loop-q g l = record {
  within : l.q ≤ 4;
  looks : LooksOn 0 l.fn.pass l.pass;
  known : KnowsForks (g.J.OfStore.tells ≡ true) l.pass.list l.from.0 l.q l.known;
}

abbrev pub decreases-loop-q : goal.decreases-loop-q
decreases-loop-q g l = 4 - l.q
