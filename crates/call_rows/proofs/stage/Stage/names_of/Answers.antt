use Rattle.std.proofs.Common.{refl}
use Rattle.call_rows.proofs.Homes.{is_out, out_faults, all_home}
use Rattle.call_rows.proofs.stage.Stage.names_of.Goals as goal

pub invariant_of-self : goal.invariant_of-self
invariant_of-self c = record { home = λ n. rw c.in_err-area.ensures.same (c.args.self.now.home n) }

pub give-requires-clause-taken : goal.give-requires-clause-taken
give-requires-clause-taken c = is_out _ _ _ c.in_ok-area.ensures.away

pub give-requires-clause-later : goal.give-requires-clause-later
give-requires-clause-later c = rw (out_faults _ _ _ _ c.in_ok-area.ensures.taken c.in_ok-area.ensures.away) c.names-names.ensures.cause.later

pub invariant_of-self-2 : goal.invariant_of-self-2
invariant_of-self-2 c = record { home = all_home _ _ _ _ _ c.args.self.now.home c.in_ok-area.ensures.away c.give.ensures.areas refl }
