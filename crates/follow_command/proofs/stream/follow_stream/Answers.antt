-- What the input came to, in the words of a replay.
use Rattle.std.proofs.Common.{Ok, Err, ap, subst}
use Rattle.lsn_core.specs.byte_words.Told.{when_told}
use Rattle.lsn_core.specs.Segment.{IsSegmentMib}
use Rattle.wal_follow.specs.Following.{Following}
use Rattle.follow_command.specs.Input.{InputAnswer}
use Rattle.follow_command.specs.Followed.{StreamAnswer, IsReplayed}
use Rattle.follow_command.proofs.Replayed.{came_well, came_refused}
use Rattle.follow_command.proofs.stream.follow_stream.Goals as goal

pub returns-in-Ok-clause-answer : goal.returns-in-Ok-clause-answer
returns-in-Ok-clause-answer g c =
    let old = c.in_ok-follower.follower in
    let new = c.follow_input.new.follower in
    when_told (g.I.Source.left c.args.input.now) (λ bytes. InputAnswer old new bytes (Ok c.in-Ok.end)) (λ bytes. IsReplayed c.args.segment c.args.relseg bytes new c.in-Ok.end)
    (λ bytes answer. came_well c.refusals_stay.ensures c.args.segment c.args.relseg (subst IsSegmentMib c.mib-mib.ensures.value c.mib-mib.ensures.range) old new (ap (λ (f : Following). f.span.mib) c.in_ok-follower.ensures.new) (ap (λ (f : Following). f.relseg) c.in_ok-follower.ensures.new) bytes c.in-Ok.end answer)
    c.in-Ok.ensures.answer

pub returns-in-Err-clause-answer : goal.returns-in-Err-clause-answer
returns-in-Err-clause-answer g c =
    let old = c.in_ok-follower.follower in
    let new = c.follow_input.new.follower in
    when_told (g.I.Source.left c.args.input.now) (λ bytes. InputAnswer old new bytes (Err c.in-Err.why)) (λ bytes. StreamAnswer c.args.segment c.args.relseg bytes (Err c.in-Err.why))
    (λ bytes answer. came_refused c.refusals_stay.ensures c.args.segment c.args.relseg (subst IsSegmentMib c.mib-mib.ensures.value c.mib-mib.ensures.range) old new (ap (λ (f : Following). f.span.mib) c.in_ok-follower.ensures.new) (ap (λ (f : Following). f.relseg) c.in_ok-follower.ensures.new) bytes c.in-Err.why answer)
    c.in-Err.ensures.answer
