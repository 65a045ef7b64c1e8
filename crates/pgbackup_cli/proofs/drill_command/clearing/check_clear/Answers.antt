-- One area behind the other.
use Rattle.std.proofs.Common.{[]}
use Rattle.command_base.specs.Outside.{of_site}
use Rattle.pgbackup_cli.proofs.drill_command.Areas.{works_on, next_clear, next_full, next_unread}
use Rattle.pgbackup_cli.proofs.drill_command.clearing.check_clear.Goals as goal

pub returns-in-Ok-false-clause-unclear : goal.returns-in-Ok-false-clause-unclear
returns-in-Ok-false-clause-unclear g c =
    next_full c.args.names.now c.loop-name.name-index _ (of_site g.S.Site c.args.site.now) (of_site g.S.Site c.loop-name.site) c.in_ok-area.area c.in-Ok-false.field-0 c.loop-name.invariant.reads c.loop-name-test.true c.in_ok-area.ensures c.loop-name.invariant.clear c.in-Ok-false.ensures.clear c.in-Ok-false.field-0-test

pub returns-in-Err-clause-unclear : goal.returns-in-Err-clause-unclear
returns-in-Err-clause-unclear g c =
    next_unread c.args.names.now c.loop-name.name-index _ (of_site g.S.Site c.args.site.now) (of_site g.S.Site c.loop-name.site) (of_site g.S.Site c.look-clear.new.site) c.in_ok-area.area c.in-Err.why c.loop-name.invariant.reads c.loop-name-test.true c.in_ok-area.ensures c.loop-name.invariant.clear c.in-Err.ensures.unread

pub loop-name-preserved : goal.loop-name-preserved
loop-name-preserved g c = record {
  clear = next_clear c.args.names.now c.loop-name.name-index _ (of_site g.S.Site c.args.site.now) (of_site g.S.Site c.loop-name.site) c.in-Ok-true.field-0 c.loop-name.invariant.reads c.loop-name-test.true c.loop-name.invariant.clear c.in-Ok-true.ensures.clear c.in-Ok-true.field-0-test;
  reads = works_on [] (of_site g.S.Site c.args.site.now) (of_site g.S.Site c.loop-name.site) (of_site g.S.Site c.look-clear.new.site) c.loop-name.invariant.reads c.look-clear.ensures.reads;
  home = c.look-clear.ensures.reads.0.home;
}
