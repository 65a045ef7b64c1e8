use Rattle.smgr_redo.proofs.Acts.{RelsGone}
use Rattle.smgr_redo.proofs.redo.drop_rels.Given as goal

-- so many relations were dropped
abbrev pub invariant-loop-rel : goal.invariant-loop-rel
invariant-loop-rel g l = RelsGone g.P.Pages l.fn.target l.target l.rels l.rel-index
