-- A script, run over the area of summaries that is shared and then taken back.
use Rattle.std.proofs.Common.{◌≡◌, ℕ, true, List, length, max, get_or, ap, subst, sym, ◌∙◌, ◌≤◌, arith}
use Rattle.std.specs.Prelude.{slice_set}
use Rattle.store_lifecycle.specs.Starts.{fresh_passes}
use Rattle.store_locks.specs.Seen.{Seen}
use Rattle.crew.specs.Run.{basis_of}
use Rattle.run_command.specs.Inner.{passes_for}
use Rattle.summary_store.proofs.Expiring.{limit_below}
use Rattle.run_command.proofs.Crews.{length_fresh, set_length, set_same, shared, told_many}
use Rattle.run_command.proofs.running.run_shared.Goals as goal

pub index_mut-requires : goal.index_mut-requires
index_mut-requires g c =
    omega (arith, c.args.passes.now.ok, ap (λ (ps : List Seen). length ps) c.requires.fresh, length_fresh (passes_for c.args.work.seats.items) g.J.OfCrew.found)

pub run_work-told-requires-clause-passes : goal.run_work-told-requires-clause-passes
run_work-told-requires-clause-passes g c κs within =
    omega (arith, set_length c.args.passes.now.items c.begin-sums.new.pass, ap (λ (ps : List Seen). length ps) c.requires.fresh, length_fresh (passes_for c.args.work.seats.items) g.J.OfCrew.found)

pub returns-clause-ran : goal.returns-clause-ran
returns-clause-ran g c =
    let many : length c.args.passes.now.items ≡ passes_for c.args.work.seats.items = ap (λ (ps : List Seen). length ps) c.requires.fresh ∙ length_fresh (passes_for c.args.work.seats.items) g.J.OfCrew.found in
    let here : c.begin-sums.new.pass ≡ get_or c.args.passes.now.items 0 c.begin-sums.new.pass = c.begin-sums.ensures ∙ (c.index_mut.ensures.value ∙ ap (λ (p : Seen). get_or c.args.passes.now.items 0 p) (sym c.begin-sums.ensures)) in
    let same : slice_set c.args.passes.now.items 0 c.begin-sums.new.pass ≡ c.args.passes.now.items = set_same c.args.passes.now.items c.begin-sums.new.pass (omega (arith, many)) here in
    let told : length c.run_work-told.result ≡ length c.args.work.seats.items = told_many (λ t. t.task) (λ s. s.task) c.run_work-told.result c.args.work.seats.items c.run_work-told.ensures.script in
    shared g.V.Vault (g.J.OfStore.tells ≡ true) (basis_of g.J.OfCrew.settings c.args.when g.J.OfCrew.found g.J.OfCrew.sums g.J.OfRetention.limit) (g.J.OfCrew.starts 5) (slice_set c.args.passes.now.items 0 c.begin-sums.new.pass) c.run_work-told.new.passes.items c.index_mut-2.result.now c.close-sums.new.pass c.close-sums.result.0 c.close-sums.result.1.total c.args.held.now.items c.run_work-told.new.held.items c.run_work-told.result
    c.run_work-told.ensures.ran (same ∙ (c.requires.fresh ∙ ap (λ (n : ℕ). fresh_passes (max n 1) g.J.OfCrew.found) (sym told))) c.index_mut-2.ensures.value c.close-sums.ensures.looks c.close-sums.ensures.faults c.close-sums.ensures.shelved c.close-sums.ensures.risen

pub run_work-told-requires-clause-young : goal.run_work-told-requires-clause-young
run_work-told-requires-clause-young g c κs within = subst (λ n. n ≤ c.args.when) (sym c.requires.limit) (limit_below c.args.days c.args.when)
