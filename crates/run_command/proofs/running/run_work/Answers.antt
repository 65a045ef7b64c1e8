-- A crew's lines, run side by side.
use Rattle.std.proofs.Common.{◌≡◌, true, List, ◌++◌, length, take, drop, ap, sym, subst, ◌∙◌, arith}
use Rattle.std.specs.List.{All}
use Rattle.crew.specs.declared.crewing.Worker.{Worker}
use Rattle.crew.specs.Crewing.{AllRan, IsReady}
use Rattle.crew.specs.Run.{basis_of}
use Rattle.run_command.specs.Run.{tasks_told}
use Rattle.run_command.specs.Inner.{HasPlaces, areas_held, told_of}
use Rattle.run_command.proofs.Seated.{areas_enough, areas_kept, crew_later, crew_ran, ready_crew, seated_areas, seated_length, held_is, passes_is, told_is, told_tasks, written_all}
use Rattle.run_command.proofs.running.run_work.Goals as goal

pub seat_all-requires-clause-held : goal.seat_all-requires-clause-held
seat_all-requires-clause-held g c κs within = omega (arith, areas_enough c.args.work.seats.items c.args.held.now.items c.requires.names)

pub run_crew-requires-clause-ready : goal.run_crew-requires-clause-ready
run_crew-requires-clause-ready g c κs within =
    subst (λ (ws : List (Worker _ _)). All IsReady ws) (sym c.deref_mut.ensures.value)
    (ready_crew c.args.work.seats.items c.seat_all.new.crew.items c.args.held.now.items c.seat_all.new.held.items c.seat_all.ensures.seated c.requires.work.ready c.seat_all.ensures.sit.held_are c.requires.names)

pub raise_all-requires-clause-passes : goal.raise_all-requires-clause-passes
raise_all-requires-clause-passes g c κs within =
    let ran : AllRan g.V.Vault (g.J.OfStore.tells ≡ true) (basis_of g.J.OfCrew.settings c.args.when g.J.OfCrew.found g.J.OfCrew.sums g.J.OfRetention.limit) c.seat_all.new.crew.items c.run_crew.new.crew = (subst (λ (ws : List (Worker _ _)). AllRan g.V.Vault (g.J.OfStore.tells ≡ true) (basis_of g.J.OfCrew.settings c.args.when g.J.OfCrew.found g.J.OfCrew.sums g.J.OfRetention.limit) ws c.run_crew.new.crew) c.deref_mut.ensures.value c.run_crew.ensures) in
    subst (λ (ws : List (Worker _ _)). HasPlaces c.seat_all.new.passes (length ws)) (sym (written_all c.seat_all.new.crew.items c.run_crew.new.crew c.seat_all.new.crew.len (sym c.deref_mut.ensures.len ∙ ap (λ xs. length xs) c.deref_mut.ensures.value) (c.run_crew.ensures.0 ∙ ap (λ xs. length xs) c.deref_mut.ensures.value)))
    (omega (arith, seated_length c.args.work.seats.items c.seat_all.new.crew.items c.seat_all.ensures.seated, ran.0, c.seat_all.ensures.passes_places))

pub raise_all-requires-clause-held : goal.raise_all-requires-clause-held
raise_all-requires-clause-held g c κs within =
    let ran : AllRan g.V.Vault (g.J.OfStore.tells ≡ true) (basis_of g.J.OfCrew.settings c.args.when g.J.OfCrew.found g.J.OfCrew.sums g.J.OfRetention.limit) c.seat_all.new.crew.items c.run_crew.new.crew = (subst (λ (ws : List (Worker _ _)). AllRan g.V.Vault (g.J.OfStore.tells ≡ true) (basis_of g.J.OfCrew.settings c.args.when g.J.OfCrew.found g.J.OfCrew.sums g.J.OfRetention.limit) ws c.run_crew.new.crew) c.deref_mut.ensures.value c.run_crew.ensures) in
    subst (λ (ws : List (Worker _ _)). HasPlaces c.seat_all.new.held (length (areas_held ws))) (sym (written_all c.seat_all.new.crew.items c.run_crew.new.crew c.seat_all.new.crew.len (sym c.deref_mut.ensures.len ∙ ap (λ xs. length xs) c.deref_mut.ensures.value) (c.run_crew.ensures.0 ∙ ap (λ xs. length xs) c.deref_mut.ensures.value)))
    (omega (arith, seated_areas c.args.work.seats.items c.seat_all.new.crew.items c.seat_all.ensures.seated, areas_kept g.V.Vault (g.J.OfStore.tells ≡ true) (basis_of g.J.OfCrew.settings c.args.when g.J.OfCrew.found g.J.OfCrew.sums g.J.OfRetention.limit) c.seat_all.new.crew.items c.run_crew.new.crew ran.0 ran.1, c.seat_all.ensures.held_places))

pub raise_all-requires-clause-told : goal.raise_all-requires-clause-told
raise_all-requires-clause-told g c κs within =
    let ran : AllRan g.V.Vault (g.J.OfStore.tells ≡ true) (basis_of g.J.OfCrew.settings c.args.when g.J.OfCrew.found g.J.OfCrew.sums g.J.OfRetention.limit) c.seat_all.new.crew.items c.run_crew.new.crew = (subst (λ (ws : List (Worker _ _)). AllRan g.V.Vault (g.J.OfStore.tells ≡ true) (basis_of g.J.OfCrew.settings c.args.when g.J.OfCrew.found g.J.OfCrew.sums g.J.OfRetention.limit) ws c.run_crew.new.crew) c.deref_mut.ensures.value c.run_crew.ensures) in
    subst (λ (ws : List (Worker _ _)). HasPlaces c.args.work.told (length ws)) (sym (written_all c.seat_all.new.crew.items c.run_crew.new.crew c.seat_all.new.crew.len (sym c.deref_mut.ensures.len ∙ ap (λ xs. length xs) c.deref_mut.ensures.value) (c.run_crew.ensures.0 ∙ ap (λ xs. length xs) c.deref_mut.ensures.value)))
    (omega (arith, seated_length c.args.work.seats.items c.seat_all.new.crew.items c.seat_all.ensures.seated, ran.0, c.requires.work.told.1, c.requires.work.told.2))

pub returns-clause-ran : goal.returns-clause-ran
returns-clause-ran g c =
    let back = (written_all c.seat_all.new.crew.items c.run_crew.new.crew c.seat_all.new.crew.len (sym c.deref_mut.ensures.len ∙ ap (λ xs. length xs) c.deref_mut.ensures.value) (c.run_crew.ensures.0 ∙ ap (λ xs. length xs) c.deref_mut.ensures.value)) in
    crew_ran g.V.Vault (g.J.OfStore.tells ≡ true) (basis_of g.J.OfCrew.settings c.args.when g.J.OfCrew.found g.J.OfCrew.sums g.J.OfRetention.limit) c.args.work.seats.items c.seat_all.new.crew.items c.run_crew.new.crew c.args.passes.now.items c.seat_all.new.passes.items c.raise_all.new.passes.items c.args.held.now.items c.seat_all.new.held.items c.raise_all.new.held.items c.from_vec.result
    c.seat_all.ensures.seated c.seat_all.ensures.sit c.requires.work.ready c.requires.names (subst (λ (ws : List (Worker _ _)). AllRan g.V.Vault (g.J.OfStore.tells ≡ true) (basis_of g.J.OfCrew.settings c.args.when g.J.OfCrew.found g.J.OfCrew.sums g.J.OfRetention.limit) ws c.run_crew.new.crew) c.deref_mut.ensures.value c.run_crew.ensures)
    (passes_is c.seat_all.new.passes.items c.raise_all.new.passes.items (take c.seat_all.new.crew.len (c.run_crew.new.crew ++ drop (length c.run_crew.new.crew) c.seat_all.new.crew.items)) c.run_crew.new.crew c.raise_all.ensures.passes back)
    (held_is c.seat_all.new.held.items c.raise_all.new.held.items (take c.seat_all.new.crew.len (c.run_crew.new.crew ++ drop (length c.run_crew.new.crew) c.seat_all.new.crew.items)) c.run_crew.new.crew c.raise_all.ensures.held back)
    (c.from_vec.ensures ∙ told_is c.args.work.told.items c.raise_all.new.told.items (take c.seat_all.new.crew.len (c.run_crew.new.crew ++ drop (length c.run_crew.new.crew) c.seat_all.new.crew.items)) c.run_crew.new.crew c.raise_all.ensures.told c.requires.work.told.0 back)

pub returns-clause-script : goal.returns-clause-script
returns-clause-script g c =
    let ran : AllRan g.V.Vault (g.J.OfStore.tells ≡ true) (basis_of g.J.OfCrew.settings c.args.when g.J.OfCrew.found g.J.OfCrew.sums g.J.OfRetention.limit) c.seat_all.new.crew.items c.run_crew.new.crew = (subst (λ (ws : List (Worker _ _)). AllRan g.V.Vault (g.J.OfStore.tells ≡ true) (basis_of g.J.OfCrew.settings c.args.when g.J.OfCrew.found g.J.OfCrew.sums g.J.OfRetention.limit) ws c.run_crew.new.crew) c.deref_mut.ensures.value c.run_crew.ensures) in
    let tell : c.from_vec.result ≡ told_of c.run_crew.new.crew = c.from_vec.ensures ∙ told_is c.args.work.told.items c.raise_all.new.told.items (take c.seat_all.new.crew.len (c.run_crew.new.crew ++ drop (length c.run_crew.new.crew) c.seat_all.new.crew.items)) c.run_crew.new.crew c.raise_all.ensures.told c.requires.work.told.0 (written_all c.seat_all.new.crew.items c.run_crew.new.crew c.seat_all.new.crew.len (sym c.deref_mut.ensures.len ∙ ap (λ xs. length xs) c.deref_mut.ensures.value) (c.run_crew.ensures.0 ∙ ap (λ xs. length xs) c.deref_mut.ensures.value)) in
    ap tasks_told tell ∙ told_tasks g.V.Vault (g.J.OfStore.tells ≡ true) (basis_of g.J.OfCrew.settings c.args.when g.J.OfCrew.found g.J.OfCrew.sums g.J.OfRetention.limit) c.args.work.seats.items c.seat_all.new.crew.items c.run_crew.new.crew c.seat_all.ensures.seated ran.0 ran.1

pub returns-clause-later : goal.returns-clause-later
returns-clause-later g c =
    crew_later g.V.Vault (g.J.OfStore.tells ≡ true) (basis_of g.J.OfCrew.settings c.args.when g.J.OfCrew.found g.J.OfCrew.sums g.J.OfRetention.limit) c.args.passes.now.items c.raise_all.new.passes.items c.args.held.now.items c.raise_all.new.held.items c.from_vec.result (returns-clause-ran g c)
