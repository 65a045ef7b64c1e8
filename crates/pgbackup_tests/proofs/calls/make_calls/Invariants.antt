use Rattle.vault.specs.Site.{AllHome}
use Rattle.pgbackup_tests.proofs.calls.make_calls.Given as goal

abbrev pub invariant-loop-number : goal.invariant-loop-number
invariant-loop-number g l = AllHome (g.S.Site.areas l.site)
