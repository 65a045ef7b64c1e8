-- The stream is followed where the output is clear, or refused.
use Rattle.std.proofs.Common.{Err, sym, subst}
use Rattle.store_commands.specs.declared.follow_stream.FollowFault.{FollowFault}
use Rattle.store_commands.specs.Following.{AnswersFollow}
use Rattle.store_commands.proofs.FollowedOut.{clear_now, stream_refused}
use Rattle.store_commands.proofs.follow_stream.follow_onto.Goals as goal

pub returns-in-Err-follow_stream-clause-answer : goal.returns-in-Err-follow_stream-clause-answer
returns-in-Err-follow_stream-clause-answer g c =
    subst (λ (f : FollowFault). AnswersFollow g.V.Vault g.I.Source c.args.segment c.args.relseg c.args.out.now c.args.input.now c.is_clear.new.area c.follow_stream.new.input (Err f)) (sym c.unfollowed.ensures)
    (stream_refused g.V.Vault g.I.Source c.args.segment c.args.relseg c.args.out.now c.is_clear.new.area c.args.input.now c.follow_stream.new.input c.in-Err-follow_stream.why c.in-Err-follow_stream.ensures.answer (clear_now (g.V.Vault.files c.args.out.now) c.in-Ok-true.field-0 c.in-Ok-true.field-0-test c.in-Ok-true.ensures.clear) c.is_clear.ensures.same c.in-Err-follow_stream.ensures.failed)
