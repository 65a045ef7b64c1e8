use Rattle.std.proofs.Common.{◌≡◌, ℕ, length}
use Rattle.lsn_core.specs.Names.{segment_number}
use Rattle.vault.specs.Area.{Related}
use Rattle.vault.specs.Frame.{Adds, ChangesOnly}
use Rattle.store_restart.specs.Trimmed.{IsArchiveFile, IsTrim}
use Rattle.store_restart.proofs.Trimmed.{IsClearing}
use Rattle.store_restart.proofs.trimming.remove_all_later.Given as goal

abbrev pub invariant-loop-name : goal.invariant-loop-name
invariant-loop-name g l = record {
  clears : Related (IsClearing l.size l.own l.names.items) (g.V.Vault.files l.fn.wal) (g.V.Vault.files l.wal);
  events : (end : ℕ) → l.own ≡ segment_number end l.size → Adds (IsTrim l.size end) (g.V.Vault.past l.fn.wal) (g.V.Vault.past l.wal);
  changes : ChangesOnly g.V.Vault (IsArchiveFile l.size) l.fn.wal l.wal;
}

abbrev pub decreases-loop-name : goal.decreases-loop-name
decreases-loop-name g l = length l.names.items
