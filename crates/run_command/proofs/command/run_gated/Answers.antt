use Rattle.std.proofs.Common.{[], arith}
use Rattle.summary_store.specs.Expiry.{age_limit}
use Rattle.run_command.specs.Run.{RunAnswer, run_workers}
use Rattle.command_base.specs.Outside.{of_site, of_all}
use Rattle.command_base.proofs.Decided.{err_as}
use Rattle.command_base.proofs.Lent.{none_written}
use Rattle.scripts.proofs.Priors.{scripts_fit}
use Rattle.run_command.proofs.RunAnswers.{of_input}
use Rattle.run_command.proofs.command.run_gated.Goals as goal

pub returns-in_err-script-clause-does : goal.returns-in_err-script-clause-does
returns-in_err-script-clause-does g c = (
  c.now-when.result,
  [],
  c.now-when.ensures.moment,
  (none_written _ _ c.requires, omega arith),
  c.in_err-script.ensures.later,
  c.in_err-script.ensures.taken,
  err_as c.from_residual.result c.in_err-script.field-0.0
      (RunAnswer c.now-when.result (age_limit c.args.days c.now-when.result) [] (of_all g.S.Site g.I.Source g.C.Clock c.args.site.now c.args.input.now c.args.clock.now) (of_all g.S.Site g.I.Source g.C.Clock c.args.site.now c.script_of.new.input c.now-when.new.self))
      c.from_residual.ensures.1 (c.in_err-script.ensures.refused c.now-when.result (age_limit c.args.days c.now-when.result) [] (of_site g.S.Site c.args.site.now) (g.C.Clock.moment c.args.clock.now) (g.C.Clock.moment c.now-when.new.self)),
)

pub returns-clause-does : goal.returns-clause-does
returns-clause-does g c = (
  c.now-when.result,
  _,
  c.now-when.ensures.moment,
  c.run_script.ensures.site,
  c.in_ok-script.ensures.later,
  c.in_ok-script.ensures.taken,
  of_input c.now-when.result (age_limit c.args.days c.now-when.result) c.in_ok-script.script (of_site g.S.Site c.args.site.now) (of_site g.S.Site c.run_script.new.site) (g.I.Source.left c.args.input.now) (g.I.Source.left c.script_of.new.input) (g.I.Source.faults c.args.input.now) (g.I.Source.faults c.script_of.new.input)
      (g.C.Clock.moment c.args.clock.now) (g.C.Clock.moment c.now-when.new.self) c.run_script.result c.in_ok-script.ensures.script c.run_script.ensures.answer,
)

pub run_script-requires-clause-priors : goal.run_script-requires-clause-priors
run_script-requires-clause-priors g c κs within = scripts_fit run_workers c.in_ok-script.ensures.script.bytes _ c.in_ok-script.ensures.script.script_is
