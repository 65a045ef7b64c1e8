use Rattle.std.proofs.Common.{◌≡◌, true}
use Rattle.crew.proofs.Growth.{IsGrowing}
use Rattle.crew.proofs.run.grow.Given as goal

-- so many of its commands were accepted
abbrev pub invariant-loop-k : goal.invariant-loop-k
invariant-loop-k g l = IsGrowing (g.J.OfStore.tells ≡ true) g.J.OfCrew.settings.segment l.fn.pass l.pass l.at l.shape l.k l.span
