-- A piece is fed, as far as there is room.
use Rattle.std.proofs.Common.{◌≡◌, length, take, Result, Ok, Option, Some, ℕ, IfSome, ap, subst, ◌∙◌, arith}
use Rattle.follow_command.specs.declared.input.InputFault.{InputFault}
use Rattle.follow_command.specs.declared.input.InputFault.TheVariants as refusal
use Rattle.follow_command.specs.Input.{FeedAnswer}
use Rattle.follow_command.proofs.Feeding.{some_more, too_long, is_refused, err_is}
use Rattle.follow_command.proofs.input.feed_more.Goals as goal

pub returns-in_err-feed-clause-answer : goal.returns-in_err-feed-clause-answer
returns-in_err-feed-clause-answer g c =
    err_is c.from_residual-in_err-feed.result (refusal.Wal c.in_err-feed.field-0.0) (λ (r : Result (Option ℕ) InputFault). IfSome (g.I.Source.left c.args.input.now) (λ bytes. FeedAnswer c.args.follower.now c.feed.new.self c.args.room bytes r)) c.from_residual-in_err-feed.ensures.1
    (is_refused c.args.follower.now c.feed.new.self (g.I.Source.left c.args.input.now) c.in_ok-piece.piece.items c.first_bytes-front.result.now c.args.room c.in_err-feed.field-0.0 c.in_ok-piece.ensures.front (c.first_bytes-front.ensures ∙ ap (take c.args.room) c.deref.ensures.value) c.in_err-feed.ensures.refused)

pub returns-then-front-len-clause-answer : goal.returns-then-front-len-clause-answer
returns-then-front-len-clause-answer g c =
    too_long c.args.follower.now c.feed.new.self (g.I.Source.left c.args.input.now) c.in_ok-piece.piece.items c.first_bytes-front.result.now c.args.room c.in_ok-feed.field-0 c.in_ok-piece.ensures.front (c.first_bytes-front.ensures ∙ ap (take c.args.room) c.deref.ensures.value) (omega (arith, c.if-front-len.true, c.len.ensures)) c.in_ok-feed.ensures.fed

pub returns-clause-answer : goal.returns-clause-answer
returns-clause-answer g c =
    let count : length c.in_ok-piece.piece.items ≡ c.len-2.result = omega (arith, c.len-2.ensures) in
    subst (λ (n : ℕ). IfSome (g.I.Source.left c.args.input.now) (λ bytes. FeedAnswer c.args.follower.now c.feed.new.self c.args.room bytes (Ok (Some n)))) count
    (some_more c.args.follower.now c.feed.new.self (g.I.Source.left c.args.input.now) c.in_ok-piece.piece.items c.first_bytes-front.result.now c.args.room c.in_ok-feed.field-0 c.in_ok-piece.ensures.front (c.first_bytes-front.ensures ∙ ap (take c.args.room) c.deref.ensures.value) (omega (arith, c.if-front-len.false, c.len.ensures)) c.in_ok-feed.ensures.fed)
