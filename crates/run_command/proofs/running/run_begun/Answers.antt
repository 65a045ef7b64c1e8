-- All passes are given back, and the store is closed.
use Rattle.std.proofs.Common.{◌≡◌, ℕ, true, length, max, ap, sym, ◌∙◌}
use Rattle.crew.specs.Run.{basis_of}
use Rattle.run_command.proofs.Crews.{has_run_on, numbered, passes_many, told_many}
use Rattle.run_command.proofs.running.run_begun.Goals as goal

pub close-areas-requires-clause-order : goal.close-areas-requires-clause-order
close-areas-requires-clause-order g c κs within =
    numbered g.V.Vault (g.J.OfStore.tells ≡ true) (basis_of g.J.OfCrew.settings c.args.when g.J.OfCrew.found g.J.OfCrew.sums g.J.OfRetention.limit) (g.J.OfCrew.starts 5) c.run_shared-sums.new.passes.items c.run_shared-sums.result.0 c.run_shared-sums.result.1.total c.args.held.now.items c.run_shared-sums.new.held.items c.run_shared-sums.result.2 c.run_shared-sums.ensures.ran

pub close-areas-requires-clause-many : goal.close-areas-requires-clause-many
close-areas-requires-clause-many g c κs within =
    let told : length c.run_shared-sums.result.2 ≡ length c.args.work.seats.items = told_many (λ t. t.task) (λ s. s.task) c.run_shared-sums.result.2 c.args.work.seats.items c.run_shared-sums.ensures.script in
    passes_many g.V.Vault (g.J.OfStore.tells ≡ true) (basis_of g.J.OfCrew.settings c.args.when g.J.OfCrew.found g.J.OfCrew.sums g.J.OfRetention.limit) (g.J.OfCrew.starts 5) c.run_shared-sums.new.passes.items c.run_shared-sums.result.0 c.run_shared-sums.result.1.total c.args.held.now.items c.run_shared-sums.new.held.items c.run_shared-sums.result.2 c.run_shared-sums.ensures.ran
    ∙ (ap (λ (n : ℕ). max n 1) told ∙ sym c.requires.workers.0)

pub returns-clause-ran : goal.returns-clause-ran
returns-clause-ran g c =
    has_run_on g.V.Vault (g.J.OfStore.tells ≡ true) (basis_of g.J.OfCrew.settings c.args.when g.J.OfCrew.found g.J.OfCrew.sums g.J.OfRetention.limit) g.J.OfCrew.wal g.J.OfCrew.starts c.run_shared-sums.new.passes.items c.close-areas.result.0 c.run_shared-sums.result.0 c.run_shared-sums.result.1.total c.close-areas.new.sums.total c.args.held.now.items c.run_shared-sums.new.held.items c.run_shared-sums.result.2 c.close-areas.result.1
    c.run_shared-sums.ensures.ran c.close-areas.ensures.sums c.close-areas.ensures.booked c.close-areas.ensures.closed
