use Rattle.std.proofs.Common.{◌≤◌}
use Rattle.follow_command.specs.Output.{CopiesFork}
use Rattle.follow_command.proofs.output.copy_fork.Given as goal

-- so many blocks were put
abbrev pub invariant-loop-block : goal.invariant-loop-block
invariant-loop-block g l = record {
  copied : CopiesFork g.P.Pages.shows l.follower.store l.len l.block l.fn.target l.target;
  kept : g.P.Pages.keeps l.fn.target l.target;
  later : g.P.Pages.faults l.fn.target ≤ g.P.Pages.faults l.target;
}
