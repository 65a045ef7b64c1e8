use Rattle.std.proofs.Common.{◌≡◌, ◌+◌, ◌∷◌, ◌++◌, [], true, List, take, ap, sym, subst, ◌∙◌, arith}
use Rattle.std.proofs.lemmas.List.{take_more, take_all}
use Rattle.vault.proofs.LentAreas.{later_again}
use Rattle.scripts.specs.declared.script.Line.{Line}
use Rattle.crew.specs.Backups.{areas_of}
use Rattle.crew.specs.Run.{basis_of}
use Rattle.crew.proofs.Held.{later_same, line_held}
use Rattle.scripts.proofs.Priors.{line_fits}
use Rattle.crew.proofs.Ran.{IsRunning, runs_none, runs_more, runs_all}
use Rattle.crew.proofs.run.run_worker.Goals as goal

pub loop-line-init : goal.loop-line-init
loop-line-init g c = record {
  len = c.requires.empty;
  room = c.requires.room;
  running = runs_none (g.J.OfStore.tells ≡ true) (basis_of g.J.OfCrew.settings c.args.when g.J.OfCrew.found g.J.OfCrew.sums g.J.OfRetention.limit) c.args.pass.now (areas_of g.V.Vault c.args.held.now) c.args.answers.now.items c.requires.none;
  later = later_same g.V.Vault c.args.held.now;
}

pub loop-line-preserved : goal.loop-line-preserved
loop-line-preserved g c =
    let more : take (c.loop-line.line-index + 1) c.args.lines.now ≡ take c.loop-line.line-index c.args.lines.now ++ (c.line-item.result ∷ []) =
    take_more c.args.lines.now c.loop-line.line-index c.line-item.result c.loop-line-test.true ∙ ap (λ (l : Line). take c.loop-line.line-index c.args.lines.now ++ (l ∷ [])) (sym c.line-item.is) in
    record {
      len = omega (arith, c.put.ensures.len, c.loop-line.invariant.len);
      room = omega (arith, c.put.ensures.capacity, c.loop-line.invariant.room);
      running = runs_more (g.J.OfStore.tells ≡ true) (basis_of g.J.OfCrew.settings c.args.when g.J.OfCrew.found g.J.OfCrew.sums g.J.OfRetention.limit) c.args.pass.now c.loop-line.pass c.run_line-answer.new.pass (areas_of g.V.Vault c.args.held.now) (areas_of g.V.Vault c.loop-line.held)
          (areas_of g.V.Vault c.run_line-answer.new.held) (take c.loop-line.line-index c.args.lines.now) (take (c.loop-line.line-index + 1) c.args.lines.now) c.line-item.result c.loop-line.answers.items c.put.new.answers.items
          c.run_line-answer.result c.loop-line.stopped c.stops-stopped.result c.loop-line.invariant.running c.run_line-answer.ensures.runs more c.put.ensures.items c.stops-stopped.ensures;
      later = later_again g.V.Vault c.args.held.now c.loop-line.held c.run_line-answer.new.held c.loop-line.invariant.later c.run_line-answer.ensures.later;
    }

pub run_line-answer-requires-clause-held : goal.run_line-answer-requires-clause-held
run_line-answer-requires-clause-held g c κs within =
    line_held g.V.Vault c.args.held.now c.loop-line.held c.args.lines.now c.loop-line.line-index c.line-item.result c.requires.held c.loop-line.invariant.later c.loop-line-test.true c.line-item.is

pub run_line-answer-requires-clause-prior : goal.run_line-answer-requires-clause-prior
run_line-answer-requires-clause-prior g c κs within = line_fits c.args.lines.now c.loop-line.line-index c.line-item.result c.requires.priors c.loop-line-test.true c.line-item.is

pub returns-clause-run : goal.returns-clause-run
returns-clause-run g c =
    let all : take c.loop-line.line-index c.args.lines.now ≡ c.args.lines.now = take_all c.loop-line.line-index c.args.lines.now c.loop-line-test.false in
    runs_all (g.J.OfStore.tells ≡ true) (basis_of g.J.OfCrew.settings c.args.when g.J.OfCrew.found g.J.OfCrew.sums g.J.OfRetention.limit) c.args.pass.now c.loop-line.pass (areas_of g.V.Vault c.args.held.now) (areas_of g.V.Vault c.loop-line.held) c.args.lines.now c.loop-line.answers.items c.loop-line.stopped
    (subst (λ (ls : List Line). IsRunning (g.J.OfStore.tells ≡ true) (basis_of g.J.OfCrew.settings c.args.when g.J.OfCrew.found g.J.OfCrew.sums g.J.OfRetention.limit) c.args.pass.now c.loop-line.pass (areas_of g.V.Vault c.args.held.now) (areas_of g.V.Vault c.loop-line.held) ls c.loop-line.answers.items c.loop-line.stopped) all
    c.loop-line.invariant.running)
