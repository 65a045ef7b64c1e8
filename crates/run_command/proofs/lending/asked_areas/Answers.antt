use Rattle.std.proofs.Common.{◌≡◌, ◌+◌, ◌∷◌, ◌++◌, [], take, ap, sym, ◌∙◌}
use Rattle.std.proofs.lemmas.List.{take_more}
use Rattle.scripts.specs.declared.script.Line.{Line}
use Rattle.run_command.proofs.Noted.{noted_more}
use Rattle.run_command.proofs.lending.asked_areas.Goals as goal

pub loop-line-preserved : goal.loop-line-preserved
loop-line-preserved c =
    let more : take (c.loop-line.line-index + 1) c.args.lines.now ≡ take c.loop-line.line-index c.args.lines.now ++ (c.line-item.result ∷ []) =
    take_more c.args.lines.now c.loop-line.line-index c.line-item.result c.loop-line-test.true ∙ ap (λ (l : Line). take c.loop-line.line-index c.args.lines.now ++ (l ∷ [])) (sym c.line-item.is) in
    noted_more (take c.loop-line.line-index c.args.lines.now) (take (c.loop-line.line-index + 1) c.args.lines.now) c.line-item.result c.loop-line.names.items c.note_areas.new.names.items more c.loop-line.invariant c.in_ok-note_areas.ensures
