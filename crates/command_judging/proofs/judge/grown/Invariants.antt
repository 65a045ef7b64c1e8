use Rattle.std.proofs.Common.{◌≡◌, drop}
use Rattle.command_judging.specs.Judging.{grown}
use Rattle.command_judging.proofs.judge.grown.Given as goal

abbrev pub invariant-loop-item : goal.invariant-loop-item
invariant-loop-item l = grown (drop l.item-index l.items) l.fork l.length ≡ grown l.items l.fork l.fn.length
