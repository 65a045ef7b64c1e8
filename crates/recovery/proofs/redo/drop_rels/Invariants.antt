use Rattle.recovery.proofs.Redoing.{RelsDropped}
use Rattle.recovery.proofs.redo.drop_rels.Given as goal

-- so many relations were dropped
abbrev pub invariant-loop-rel : goal.invariant-loop-rel
invariant-loop-rel g l = RelsDropped g.P.Pages l.fn.target l.target l.fn.tally l.tally l.rels l.rel-index
