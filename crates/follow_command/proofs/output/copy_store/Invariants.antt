use Rattle.std.proofs.Common.{◌≡◌, ◌≤◌, take}
use Rattle.std.specs.FinMap.{entries}
use Rattle.follow_command.proofs.Copies.{CopiesFront, count_in}
use Rattle.follow_command.proofs.output.copy_store.Given as goal

-- so many forks were put
abbrev pub invariant-loop-len : goal.invariant-loop-len
invariant-loop-len g l = record {
  copied : CopiesFront g.P.Pages.shows l.follower.store l.len-index l.fn.target l.target;
  counted : l.pages ≡ count_in (take l.len-index (entries l.follower.store));
  kept : g.P.Pages.keeps l.fn.target l.target;
  later : g.P.Pages.faults l.fn.target ≤ g.P.Pages.faults l.target;
}
