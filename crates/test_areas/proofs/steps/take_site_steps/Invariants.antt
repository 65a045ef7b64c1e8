use Rattle.vault.specs.Site.{AllHome}
use Rattle.test_areas.proofs.steps.take_site_steps.Given as goal

abbrev pub invariant-loop-number : goal.invariant-loop-number
invariant-loop-number g l = AllHome (g.S.Site.areas l.site)
