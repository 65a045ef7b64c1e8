-- One subcommand after the other.
use Rattle.std.proofs.lemmas.Result.{IfOk-weaker}
use Rattle.clap.specs.Simple.{App, with_subcommand}
use Rattle.command_line.specs.App.{top_app, init_app, run_app, replay_app, verify_app, restore_app, combine_app, merge_app, walsummary_app, follow_app, drill_app, restart_app}
use Rattle.command_line.proofs.AppLemmas.{with_sub}
use Rattle.command_line.proofs.app.whole_command.Goals as goal

abbrev one : App
one = with_subcommand top_app init_app.top

abbrev two : App
two = with_subcommand one run_app.top

abbrev three : App
three = with_subcommand two replay_app.top

abbrev four : App
four = with_subcommand three verify_app.top

abbrev five : App
five = with_subcommand four restore_app.top

abbrev six : App
six = with_subcommand five combine_app.top

abbrev seven : App
seven = with_subcommand six merge_app.top

abbrev eight : App
eight = with_subcommand seven walsummary_app.top

abbrev nine : App
nine = with_subcommand eight follow_app.top

abbrev ten : App
ten = with_subcommand nine drill_app.top

pub returns : goal.returns
returns c =
    let is_one = with_sub _ _ _ top_app init_app c.top_command.ensures c.in_ok-init_command.ensures c.in_ok-subcommand.ensures in
    let is_two = with_sub _ _ _ one run_app is_one c.in_ok-run_command.ensures c.in_ok-subcommand-2.ensures in
    let is_three = with_sub _ _ _ two replay_app is_two c.in_ok-replay_command.ensures c.in_ok-subcommand-3.ensures in
    let is_four = with_sub _ _ _ three verify_app is_three c.in_ok-verify_command.ensures c.in_ok-subcommand-4.ensures in
    let is_five = with_sub _ _ _ four restore_app is_four c.in_ok-restore_command.ensures c.in_ok-subcommand-5.ensures in
    let is_six = with_sub _ _ _ five combine_app is_five c.in_ok-combine_command.ensures c.in_ok-subcommand-6.ensures in
    let is_seven = with_sub _ _ _ six merge_app is_six c.in_ok-merge_command.ensures c.in_ok-subcommand-7.ensures in
    let is_eight = with_sub _ _ _ seven walsummary_app is_seven c.in_ok-walsummary_command.ensures c.in_ok-subcommand-8.ensures in
    let is_nine = with_sub _ _ _ eight follow_app is_eight c.in_ok-follow_command.ensures c.in_ok-subcommand-9.ensures in
    let is_ten = with_sub _ _ _ nine drill_app is_nine c.in_ok-drill_command.ensures c.in_ok-subcommand-10.ensures in
    IfOk-weaker c.subcommand-11.result _ _ (λ r h. with_sub _ _ _ ten restart_app is_ten c.restart_command.ensures h) c.subcommand-11.ensures
