use Rattle.std.proofs.Common.{List, ℕ, ◌++◌, ◌∷◌, ap, ◌∙◌}
use Rattle.std.proofs.lemmas.Result.{IfOk-weaker}
use Rattle.jiff.specs.Words.{date_text}
use Rattle.backup_label.specs.Time.{IsTimeText}
use Rattle.backup_label.proofs.time.time_text.Goals as goal

pub returns : goal.returns
returns c = IfOk-weaker c.shown.result _ (IsTimeText c.args.when c.args.zone.now) (λ t e. (c.date_of.result, c.date_of.ensures, e ∙ ap (λ (clock : List ℕ). date_text c.date_of.result ++ (32 ∷ (clock ++ (32 ∷ c.args.zone.now)))) c.clock_of.ensures)) c.shown.ensures
