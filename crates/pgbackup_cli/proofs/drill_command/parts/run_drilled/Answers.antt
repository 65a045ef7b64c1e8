-- The store was made, and then the script was run.
use Rattle.std.proofs.Common.{◌∙◌, sym}
use Rattle.command_base.proofs.Decided.{err_as}
use Rattle.command_base.specs.Outside.{of_site}
use Rattle.drill_script.proofs.Runnable.{drilled_is_runnable}
use Rattle.pgbackup_cli.specs.drill_command.Drill.{drill_writes, HasRun}
use Rattle.pgbackup_cli.specs.drill_command.Inside.{Steps}
use Rattle.pgbackup_cli.proofs.drill_command.Areas.{works_on}
use Rattle.pgbackup_cli.proofs.drill_command.Steps.{asks_drilled, has_ended, of_drilled, run_wrote}
use Rattle.pgbackup_cli.proofs.drill_command.parts.run_drilled.Goals as goal

pub returns-in_err-begin-clause-answer : goal.returns-in_err-begin-clause-answer
returns-in_err-begin-clause-answer g c =
    err_as c.from_residual.result c.in_err-begin.field-0.0
    (λ r. Steps c.args.n c.args.when (λ done. HasRun c.args.n c.args.when (of_site g.S.Site c.args.site.now) (of_site g.S.Site c.begin.new.site)) (of_site g.S.Site c.args.site.now) (of_site g.S.Site c.begin.new.site) r)
    c.from_residual.ensures.1 (c.in_err-begin.ensures.answer c.args.when)

pub run_script-came-requires-clause-apart : goal.run_script-came-requires-clause-apart
run_script-came-requires-clause-apart g c = λ κs lives. rw c.in_ok-script.ensures (drilled_is_runnable c.args.n).apart

pub run_script-came-requires-clause-few : goal.run_script-came-requires-clause-few
run_script-came-requires-clause-few g c = λ κs lives. rw c.in_ok-script.ensures (drilled_is_runnable c.args.n).few

pub run_script-came-requires-clause-priors : goal.run_script-came-requires-clause-priors
run_script-came-requires-clause-priors g c = λ κs lives. rw c.in_ok-script.ensures (drilled_is_runnable c.args.n).priors

pub returns-in-Done-clause-answer : goal.returns-in-Done-clause-answer
returns-in-Done-clause-answer g c =
    let ended = has_ended c.args.n c.args.when (of_site g.S.Site c.begin.new.site) (of_site g.S.Site c.run_script-came.new.site) c.run_script-came.result
    (of_drilled c.args.n c.args.when c.in_ok-script.script (of_site g.S.Site c.begin.new.site) (of_site g.S.Site c.run_script-came.new.site) c.run_script-came.result c.in_ok-script.ensures c.run_script-came.ensures.answer)
    (sym c.run_status.ensures ∙ c.in-Done.is) in
    record {
      begun = of_site g.S.Site c.begin.new.site;
      before = c.in_ok-begin.ensures.answer c.args.when;
      wrote = asks_drilled c.args.n c.in_ok-script.script (of_site g.S.Site c.begin.new.site) (of_site g.S.Site c.run_script-came.new.site) c.in_ok-script.ensures c.run_script-came.ensures.site;
      run = ended.run;
      done = ended.done;
      ended = ended.ended;
    }

pub returns-in-Done-clause-writes : goal.returns-in-Done-clause-writes
returns-in-Done-clause-writes g c =
    works_on (drill_writes c.args.n) (of_site g.S.Site c.args.site.now) (of_site g.S.Site c.begin.new.site) (of_site g.S.Site c.run_script-came.new.site) c.begin.ensures.writes
    (run_wrote c.args.n (of_site g.S.Site c.begin.new.site) (of_site g.S.Site c.run_script-came.new.site)
    (asks_drilled c.args.n c.in_ok-script.script (of_site g.S.Site c.begin.new.site) (of_site g.S.Site c.run_script-came.new.site) c.in_ok-script.ensures c.run_script-came.ensures.site))

pub returns-in_default : goal.returns-in_default
returns-in_default g c =
    let wrote = asks_drilled c.args.n c.in_ok-script.script (of_site g.S.Site c.begin.new.site) (of_site g.S.Site c.run_script-came.new.site) c.in_ok-script.ensures c.run_script-came.ensures.site in
    record {
      answer = (
        of_site g.S.Site c.begin.new.site,
        c.in_ok-begin.ensures.answer c.args.when,
        wrote,
        of_drilled c.args.n c.args.when c.in_ok-script.script (of_site g.S.Site c.begin.new.site) (of_site g.S.Site c.run_script-came.new.site) c.run_script-came.result c.in_ok-script.ensures c.run_script-came.ensures.answer,
        λ e. c.in_default.not-Done (c.run_status.ensures ∙ e),
      );
      writes = works_on (drill_writes c.args.n) (of_site g.S.Site c.args.site.now) (of_site g.S.Site c.begin.new.site) (of_site g.S.Site c.run_script-came.new.site) c.begin.ensures.writes
          (run_wrote c.args.n (of_site g.S.Site c.begin.new.site) (of_site g.S.Site c.run_script-came.new.site) wrote);
    }
