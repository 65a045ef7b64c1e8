use Rattle.std.proofs.Common.{refl, sym, ap}
use Rattle.core_machine.specs.Inside.{commands_in}
use Rattle.core_machine.proofs.Crews.{found_here, crew_set}
use Rattle.core_machine.proofs.crew.Crew.set.Goals as goal

pub returns : goal.returns
returns c =
    crew_set c.args.self.now.list.items c.reach.new.self.list.items c.args.number (record { redo = c.args.redo; backup = c.args.backup; commands = c.index.result.now.commands }) c.index.result.now.commands c.in_ok-reach.ensures
    (sym (ap commands_in (found_here c.reach.new.self.list.items c.args.number c.index.result.now c.in_ok-reach.ensures.there c.index.ensures))) refl
