use Rattle.std.proofs.Common.{ℕ, List, ◌<◌, ◌≤◌, length, ap, sym, ◌∙◌, arith}
use Rattle.std.proofs.lemmas.List.{length-drop, length-take-le}
use Rattle.scripts.proofs.Pieces.{line_some, line_none}
use Rattle.scripts.proofs.reading.line_at.Goals as goal

pub returns-in-Some : goal.returns-in-Some
returns-in-Some c =
    let front : List ℕ = c.behind-rest.result.now in
    let size : ℕ = c.in-Some.size in
    let within : size < length front = c.in-Some.ensures.within in
    let le : size ≤ length front = omega (arith, within) in
    record {
      lt = c.requires;
      cut = line_some c.args.bytes.now front c.args.at size c.behind-rest.ensures (sym c.in-Some.is ∙ c.place_of.ensures.place);
      place = omega (arith, length-take-le size front le, within, length-drop c.args.at c.args.bytes.now, ap length c.behind-rest.ensures, c.requires);
    }

pub returns-in-None : goal.returns-in-None
returns-in-None c = record {
  lt = c.requires;
  cut = line_none c.args.bytes.now c.behind-rest.result.now c.args.at c.requires c.behind-rest.ensures (sym c.in-None.is ∙ c.place_of.ensures.place);
  place = omega (arith, length-drop c.args.at c.args.bytes.now, ap length c.behind-rest.ensures, c.requires);
}
