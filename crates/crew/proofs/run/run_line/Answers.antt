use Rattle.std.proofs.Common.{◌≡◌, Bool, true, sym, subst}
use Rattle.run_answers.specs.declared.answer.Answer.TheVariants.{NotRun}
use Rattle.crew.specs.Backups.{areas_of}
use Rattle.crew.specs.Run.{basis_of}
use Rattle.crew.specs.Running.{LineRuns}
use Rattle.crew.proofs.Held.{later_same}
use Rattle.crew.proofs.Ran.{not_run}
use Rattle.crew.proofs.run.run_line.Goals as goal

pub returns-then-stopped-clause-runs : goal.returns-then-stopped-clause-runs
returns-then-stopped-clause-runs g c =
    subst (λ (b : Bool). LineRuns (g.J.OfStore.tells ≡ true) (basis_of g.J.OfCrew.settings c.args.when g.J.OfCrew.found g.J.OfCrew.sums g.J.OfRetention.limit) c.args.line.now.command b c.args.pass.now c.args.pass.now (areas_of g.V.Vault c.args.held.now) (areas_of g.V.Vault c.args.held.now) NotRun) (sym c.if-stopped.true)
    (not_run (g.J.OfStore.tells ≡ true) (basis_of g.J.OfCrew.settings c.args.when g.J.OfCrew.found g.J.OfCrew.sums g.J.OfRetention.limit) c.args.line.now.command c.args.pass.now (areas_of g.V.Vault c.args.held.now))

pub returns-then-stopped-clause-later : goal.returns-then-stopped-clause-later
returns-then-stopped-clause-later g c = later_same g.V.Vault c.args.held.now
