-- The parts of the line, each as it is written.
use Rattle.std.proofs.Common.{◌≡◌, ◌∙◌, ℕ, List, [], ◌∷◌, refl}
use Rattle.std.specs.Prelude.{codes}
use Rattle.std.specs.Fmt.{decimal}
use Rattle.std.proofs.lemmas.Result.{IfOk-weaker}
use Rattle.command_base.specs.Faults.{joined}
use Rattle.pgbackup_cli.specs.declared.drill_command.report.DrillReport.{DrillReport}
use Rattle.pgbackup_cli.specs.drill_command.Telling.{done_text}
use Rattle.pgbackup_cli.proofs.drill_command.telling.done_text.Goals as goal

line : (text number forks pages sum : List ℕ) (n : ℕ) (report : DrillReport)
    → text ≡ joined (codes "drill " ∷ number ∷ codes " writers 4 commands 2084 forks " ∷ forks ∷ codes " pages " ∷ pages ∷ codes " contents " ∷ sum ∷ (10 ∷ []) ∷ [])
    → number ≡ decimal n → forks ≡ decimal report.forks → pages ≡ decimal report.pages → sum ≡ report.sum → text ≡ done_text n report
line text number forks pages sum n report is a b c d = is ∙ rw (a, b, c, d) refl

pub returns : goal.returns
returns c =
    IfOk-weaker c.joined.result _ _ (λ text is. line text c.as_bytes.result.now c.as_bytes-2.result.now c.as_bytes-3.result.now c.as_bytes-4.result.now c.args.n c.args.report.now is
    (c.as_bytes.ensures.value ∙ c.in_ok-number.ensures.ok) (c.as_bytes-2.ensures.value ∙ c.in_ok-forks.ensures.ok) (c.as_bytes-3.ensures.value ∙ c.in_ok-pages.ensures.ok) c.as_bytes-4.ensures) c.joined.ensures
