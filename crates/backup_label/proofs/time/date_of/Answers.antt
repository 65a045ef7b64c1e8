use Rattle.std.proofs.Common.{arith, ◌*◌, ◌∙◌, ◌≡◌, pos, ap}
use Rattle.jiff.specs.Words.{epoch_day, civil_nanos}
use Rattle.jiff.specs.Types.{Date}
use Rattle.std.proofs.lemmas.Int.{ints}
use Rattle.backup_label.proofs.Day.{day_of}
use Rattle.backup_label.proofs.time.date_of.Goals as goal

pub returns : goal.returns
returns c =
    let value = rw c.unwrap-moment.ensures at c.from_second.ensures.value in
    let nanos : civil_nanos c.to_datetime.result ≡ pos (c.args.when * 1000000000) = c.to_datetime.ensures ∙ omega (arith, ints, value, c.requires) in
    ap (λ (d : Date). epoch_day d) c.date.ensures ∙ day_of c.args.when c.to_datetime.result nanos
