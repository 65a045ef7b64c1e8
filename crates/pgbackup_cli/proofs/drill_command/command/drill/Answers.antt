-- The chain was restored, and then the output was summed up.
use Rattle.std.proofs.Common.{refl}
use Rattle.command_base.proofs.Decided.{err_as}
use Rattle.command_base.specs.Outside.{of_site, of_site_clock}
use Rattle.pgbackup_cli.specs.drill_command.Drill.{drill_writes, DrillDoes}
use Rattle.pgbackup_cli.proofs.drill_command.Areas.{works_none, works_on}
use Rattle.pgbackup_cli.proofs.drill_command.Steps.{refused_at, restored_at}
use Rattle.pgbackup_cli.proofs.drill_command.command.drill.Goals as goal

pub returns-in_err-restored-clause-does : goal.returns-in_err-restored-clause-does
returns-in_err-restored-clause-does g c =
    err_as c.from_residual.result c.in_err-restored.field-0.0
    (λ r. DrillDoes c.args.n (of_site_clock g.S.Site g.C.Clock c.args.site.now c.args.clock.now) (of_site_clock g.S.Site g.C.Clock c.restore_drilled.new.site c.restore_drilled.new.clock) r)
    c.from_residual.ensures.1 (
      c.now-when.result,
      c.now-when.ensures.moment,
      c.restore_drilled.ensures.writes,
      refused_at c.args.n c.now-when.result (of_site g.S.Site c.args.site.now) (of_site g.S.Site c.restore_drilled.new.site) (g.C.Clock.moment c.args.clock.now) (g.C.Clock.moment c.restore_drilled.new.clock) c.in_err-restored.field-0.0 c.in_err-restored.ensures.answer,
    )

pub returns-in-Ok-clause-does : goal.returns-in-Ok-clause-does
returns-in-Ok-clause-does g c = (
  c.now-when.result,
  c.now-when.ensures.moment,
  works_on (drill_writes c.args.n) (of_site g.S.Site c.args.site.now) (of_site g.S.Site c.restore_drilled.new.site) (of_site g.S.Site c.sum_restored.new.site) c.restore_drilled.ensures.writes
      (works_none (drill_writes c.args.n) (of_site g.S.Site c.restore_drilled.new.site) (of_site g.S.Site c.sum_restored.new.site) c.sum_restored.ensures.reads),
  record {
    left = of_site g.S.Site c.restore_drilled.new.site;
    restored = c.in_ok-restored.restored;
    before = restored_at c.args.n c.now-when.result (of_site g.S.Site c.args.site.now) (of_site g.S.Site c.restore_drilled.new.site) c.in_ok-restored.restored (g.C.Clock.moment c.args.clock.now) c.in_ok-restored.ensures.answer;
    reads = c.sum_restored.ensures.reads;
    forks = refl;
    pages = refl;
    sum = c.in-Ok.ensures.sum;
  },
)

pub returns-in-Err-clause-does : goal.returns-in-Err-clause-does
returns-in-Err-clause-does g c = (
  c.now-when.result,
  c.now-when.ensures.moment,
  works_on (drill_writes c.args.n) (of_site g.S.Site c.args.site.now) (of_site g.S.Site c.restore_drilled.new.site) (of_site g.S.Site c.sum_restored.new.site) c.restore_drilled.ensures.writes
      (works_none (drill_writes c.args.n) (of_site g.S.Site c.restore_drilled.new.site) (of_site g.S.Site c.sum_restored.new.site) c.sum_restored.ensures.reads),
  (
    of_site g.S.Site c.restore_drilled.new.site,
    c.in_ok-restored.restored,
    restored_at c.args.n c.now-when.result (of_site g.S.Site c.args.site.now) (of_site g.S.Site c.restore_drilled.new.site) c.in_ok-restored.restored (g.C.Clock.moment c.args.clock.now) c.in_ok-restored.ensures.answer,
    c.sum_restored.ensures.reads,
    c.in-Err.ensures.unread,
  ),
)
