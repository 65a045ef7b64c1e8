use Rattle.std.proofs.Common.{IfSome}
use Rattle.vault.specs.Frame.{OnlyReads}
use Rattle.wal_archive.specs.Scanning.{held_end}
use Rattle.wal_archive.proofs.Scans.{ScannedTo}
use Rattle.wal_archive.proofs.ends.any_holds_past.Given as goal

-- none of the names so far is of such a file
abbrev pub invariant-loop-name : goal.invariant-loop-name
invariant-loop-name g l = record {
  reads : OnlyReads g.V.Vault l.fn.area l.area;
  scanned : IfSome (g.V.Vault.files l.fn.area)
      (λ m. ScannedTo (held_end l.size m) l.size l.x l.names l.name-index);
}
