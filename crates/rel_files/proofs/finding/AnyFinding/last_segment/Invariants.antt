use Rattle.std.proofs.Common.{◌-◌, ◌<◌, ◌≤◌, false, Some}
use Rattle.lsn_core.specs.Names.{fork_path_bytes}
use Rattle.vault.specs.Area.{IsSizeIn}
use Rattle.vault.specs.Frame.{OnlyReads}
use Rattle.rel_files.proofs.Lengths.{EndsBefore}
use Rattle.rel_files.proofs.finding.AnyFinding.last_segment.Given as goal

abbrev pub invariant-loop-end : goal.invariant-loop-end
invariant-loop-end g l = record {
  order : l.last.0 < l.end;
  step : 1 ≤ l.step;
  here : IsSizeIn (g.V.Vault.files l.fn.self) (fork_path_bytes l.fork l.last.0 false) (Some l.last.1);
  ends : EndsBefore (g.V.Vault.files l.fn.self) l.fork l.end;
  reads : OnlyReads g.V.Vault l.fn.self l.self;
}

abbrev pub decreases-loop-end : goal.decreases-loop-end
decreases-loop-end g l = l.end - l.last.0
