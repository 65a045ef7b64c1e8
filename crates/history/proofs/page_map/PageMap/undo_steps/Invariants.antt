use Rattle.std.proofs.Common.{◌≡◌}
use Rattle.history.specs.Undo.{undone_steps}
use Rattle.history.proofs.page_map.PageMap.undo_steps.Given as goal

abbrev pub invariant-loop-last : goal.invariant-loop-last
invariant-loop-last l = undone_steps l.done.items l.self ≡ undone_steps l.fn.done.items l.fn.self

abbrev pub decreases-loop-last : goal.decreases-loop-last
decreases-loop-last l = goal.left-loop-last l
