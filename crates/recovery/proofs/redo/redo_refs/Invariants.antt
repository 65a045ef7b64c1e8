use Rattle.recovery.proofs.Redoing.{RefsKept}
use Rattle.recovery.proofs.redo.redo_refs.Given as goal

-- so many block references were redone
abbrev pub invariant-loop-i : goal.invariant-loop-i
invariant-loop-i g l = RefsKept g.P.Pages l.fn.target l.target l.fn.tally l.tally l.entry l.i
