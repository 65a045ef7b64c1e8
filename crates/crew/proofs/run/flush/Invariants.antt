use Rattle.std.proofs.Common.{◌≤◌, []}
use Rattle.crew.specs.Running.{WentOn}
use Rattle.crew.proofs.run.flush.Given as goal

-- no command was done
abbrev pub invariant-loop-k : goal.invariant-loop-k
invariant-loop-k g l = record {
  went : WentOn 0 l.fn.pass l.pass [];
  few : l.wrote ≤ l.k;
}
