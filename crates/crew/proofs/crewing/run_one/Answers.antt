-- The areas that its lines ask for are held.
use Rattle.std.proofs.Common.{List, sym, subst}
use Rattle.vault.specs.declared.lending.Held.{Held}
use Rattle.scripts.specs.declared.script.Line.{Line}
use Rattle.crew.specs.Backups.{areas_asked, AreHeld}
use Rattle.crew.proofs.crewing.run_one.Goals as goal

pub run_worker-requires-clause-held : goal.run_worker-requires-clause-held
run_worker-requires-clause-held g c κs within =
    subst (λ (held : List (Held g.row.V.Denot)). AreHeld (areas_asked c.as_slice.result.now) held) (sym c.deref_mut.ensures.value)
    (subst (λ (lines : List Line). AreHeld (areas_asked lines) c.args.worker.now.areas.items) (sym c.as_slice.ensures) c.requires.ready.held)
