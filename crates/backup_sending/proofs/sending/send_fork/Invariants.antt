use Rattle.std.proofs.Common.{◌≡◌, ◌≤◌, ◌-◌, map, true}
use Rattle.std.specs.List.{range_with_len}
use Rattle.backup_sending.specs.Backup.{site_of}
use Rattle.backup_sending.specs.Inside.{CopiesOn}
use Rattle.backup_sending.specs.Sent.{segment_plan}
use Rattle.backup_sending.specs.Sending.{SendsFiles}
use Rattle.backup_sending.proofs.sending.send_fork.Given as goal

-- so many segments were sent
abbrev pub invariant-loop-seg : goal.invariant-loop-seg
invariant-loop-seg g l = record {
  within : l.seg ≤ l.count;
  step : CopiesOn g.V.Vault (site_of l.fn.pass l.fn.out) (site_of l.pass l.out);
  far : SendsFiles (g.J.OfStore.tells ≡ true) l.pass.list l.from.0 (map (segment_plan l.basis l.fork) (range_with_len 0 l.seg)) l.modified (g.V.Vault.files l.fn.out) (g.V.Vault.files l.out) l.fn.rows.items l.rows.items;
}

abbrev pub decreases-loop-seg : goal.decreases-loop-seg
decreases-loop-seg g l = l.count - l.seg
