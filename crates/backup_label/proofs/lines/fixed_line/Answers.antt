use Rattle.std.proofs.Common.{rules, ◌≡◌}
use Rattle.backup_label.proofs.LineTexts.{other_value}
use Rattle.backup_label.proofs.lines.fixed_line.Goals as goal

pub returns-then-ne-clause-none : goal.returns-then-ne-clause-none
returns-then-ne-clause-none c =
    let other : c.in-Some.value.now ≡ c.args.word.now → ⊥ = search rules in
    other_value c.args.key.now c.in-Some.value.now c.args.text.now c.in-Some.tail.now (λ v. v ≡ c.args.word.now) c.in-Some.ensures.found other
