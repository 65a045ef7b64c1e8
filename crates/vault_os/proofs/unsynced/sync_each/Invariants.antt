use Rattle.std.proofs.Common.{◌≡◌}
use Rattle.system_calls.specs.System.{Stays}
use Rattle.vault_os.proofs.unsynced.sync_each.Given as goal

abbrev pub invariant-loop-path : goal.invariant-loop-path
invariant-loop-path g l = record {
  same : g.S.System.files l.system ≡ g.S.System.files l.fn.system;
  open_files : Stays g.S.System.is_at l.fn.system l.system;
}
