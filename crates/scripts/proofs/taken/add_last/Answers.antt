use Rattle.std.proofs.Common.{◌-◌, List, length, arith, subst}
use Rattle.std.specs.List.{list_any}
use Rattle.scripts.specs.declared.script.Line.{Line}
use Rattle.scripts.specs.Named.{names_backup}
use Rattle.scripts.specs.Inside.{AddsNames}
use Rattle.scripts.proofs.Closed.{taken_last}
use Rattle.scripts.proofs.taken.add_last.Goals as goal

pub returns-in_ok-add_lines-in-Some : goal.returns-in_ok-add_lines-in-Some
returns-in_ok-add_lines-in-Some c =
    let h = c.in-Some.ensures.item in
    taken_last c.args.tasks.now (length c.args.tasks.now - 1) c.in-Some.task.now c.args.names.now c.add_lines.new.names (omega (arith, h.3.0)) h.1 c.requires
    (subst (λ (ls : List Line). AddsNames (λ q. list_any (names_backup q) ls) c.args.names.now c.add_lines.new.names) c.as_slice.ensures c.in_ok-add_lines-in-Some.ensures)
