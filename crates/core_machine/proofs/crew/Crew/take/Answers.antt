use Rattle.std.proofs.Common.{sym, arith, ◌∙◌}
use Rattle.core_machine.proofs.Crews.{crew_taken, found_here}
use Rattle.core_machine.proofs.crew.Crew.take.Goals as goal

pub returns-clause-others : goal.returns-clause-others
returns-clause-others c =
    let size = c.len.ensures ∙ c.args.self.now.list.ok.0 in
    crew_taken c.args.self.now.list.items c.args.number c.index_mut.result.now c.take.new.self
    (sym (found_here c.args.self.now.list.items c.args.number c.index_mut.result.now (omega (arith, c.if-at-len.false, size)) c.index_mut.ensures.value)) c.take.ensures.after
