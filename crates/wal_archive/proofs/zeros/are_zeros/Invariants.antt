use Rattle.std.proofs.Common.{◌-◌, ◌≡◌, ◌≤◌, IfSome, take, drop}
use Rattle.vault.specs.Area.{bytes_of}
use Rattle.vault.specs.Frame.{OnlyReads}
use Rattle.wal_archive.specs.Scanning.{all_zero}
use Rattle.wal_archive.proofs.zeros.are_zeros.Given as goal

-- what was passed is zero: whether all is zero is told by what is left
abbrev pub invariant-loop-at : goal.invariant-loop-at
invariant-loop-at g l = record {
  within : l.at ≤ l.limit;
  reads : OnlyReads g.V.Vault l.fn.area l.area;
  zero : IfSome (g.V.Vault.files l.fn.area)
      (λ m. all_zero (drop l.from (take l.limit (bytes_of m l.name)))
      ≡ all_zero (drop l.at (take l.limit (bytes_of m l.name))));
}

abbrev pub decreases-loop-at : goal.decreases-loop-at
decreases-loop-at g l = l.limit - l.at
