use Rattle.std.proofs.Common.{subst, Option}
use Rattle.lsn_core.specs.declared.lsn.Place.{Place}
use Rattle.core_machine.specs.Inside.{MayHaveAppended}
use Rattle.core_machine.proofs.Showing.{mark_full, mark_placed}
use Rattle.core_machine.proofs.machine.Machine.mark.Goals as goal

pub returns-in-None : goal.returns-in-None
returns-in-None c s worker marking reached shown is =
    let a = subst (λ (o : Option Place). MayHaveAppended c.args.self.now c.append.new.self c.args.kind o) c.in-None.is c.in_ok-append.ensures in
    mark_full c.args.self.now c.append.new.self s worker marking c.args.kind shown is a.0 a.1

pub returns-in-Some : goal.returns-in-Some
returns-in-Some c s worker marking reached shown is =
    let a = subst (λ (o : Option Place). MayHaveAppended c.args.self.now c.append.new.self c.args.kind o) c.in-Some.is c.in_ok-append.ensures in
    mark_placed c.args.self.now c.append.new.self s worker marking c.args.kind c.in-Some.place reached shown is a
