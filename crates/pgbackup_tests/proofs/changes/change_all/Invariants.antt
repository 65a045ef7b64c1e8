use Rattle.vault.specs.Site.{AllHome}
use Rattle.pgbackup_tests.proofs.changes.change_all.Given as goal

abbrev pub invariant-loop-change : goal.invariant-loop-change
invariant-loop-change g l = AllHome (g.S.Site.areas l.site)
