use Rattle.page_frames.specs.Overlay.{own_pages}
use Rattle.command_judging.proofs.Walk.{Walked}
use Rattle.command_judging.proofs.judge.judge_items.Given as goal

abbrev pub invariant-loop-at : goal.invariant-loop-at
invariant-loop-at l = Walked (own_pages l.frames) l.items l.at l.added
