use Rattle.std.proofs.Common.{◌+◌, refl, ap}
use Rattle.std.specs.Prelude.{slice_get}
use Rattle.core_machine.specs.declared.crew.Crewman.{Crewman}
use Rattle.core_machine.proofs.Crews.{found_here, one_found, crew_counted}
use Rattle.core_machine.proofs.crew.Crew.count.Goals as goal

pub returns : goal.returns
returns c =
    let reached = c.reach.new.self.list.items in
    let here = found_here reached c.args.number c.index.result.now c.in_ok-reach.ensures.there c.index.ensures in
    let there = found_here reached c.args.number c.index_mut.result.now c.in_ok-reach.ensures.there c.index_mut.ensures.value in
    let same = one_found (slice_get reached c.args.number) c.index_mut.result.now c.index.result.now there here in
    crew_counted c.args.self.now.list.items reached c.args.number (record { redo = c.index_mut.result.now.redo; backup = c.index_mut.result.now.backup; commands = c.index.result.now.commands + 1 }) c.index.result.now c.in_ok-reach.ensures here
    (ap (λ (m : Crewman). m.redo) same) (ap (λ (m : Crewman). m.backup) same) refl
