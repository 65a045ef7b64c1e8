-- Pieces are fed up to the input's end.
use Rattle.std.proofs.Common.{◌≡◌, ◌-◌, ◌≤◌, ℕ, drop, Option, IfSome, Result, Ok, subst, arith}
use Rattle.std.specs.Option.{option_map, unwrap_or}
use Rattle.lsn_core.specs.declared.lsn.Lsn.{Lsn}
use Rattle.follow_command.specs.declared.input.InputFault.{InputFault}
use Rattle.follow_command.specs.declared.input.InputFault.TheVariants as refusal
use Rattle.follow_command.specs.Input.{most_input, FeedAnswer, InputAnswer}
use Rattle.follow_command.proofs.Feeding.{none_fed, more_fed, finished, torn, refused_input, err_is}
use Rattle.follow_command.proofs.input.follow_input.Goals as goal

pub loop-count-init : goal.loop-count-init
loop-count-init g c = record { fed = none_fed c.args.follower.now (g.I.Source.left c.args.input.now) c.requires; later = omega arith }

pub returns-in_err-count-clause-answer : goal.returns-in_err-count-clause-answer
returns-in_err-count-clause-answer g c =
    err_is c.from_residual.result c.in_err-count.field-0.0 (λ (r : Result Lsn InputFault). IfSome (g.I.Source.left c.args.input.now) (λ bytes. InputAnswer c.args.follower.now c.feed_more.new.follower bytes r)) c.from_residual.ensures.1
    (refused_input c.args.follower.now c.loop-count.follower c.feed_more.new.follower (g.I.Source.left c.args.input.now) (g.I.Source.left c.loop-count.input) c.loop-count.total c.in_err-count.field-0.0 c.loop-count.invariant.fed c.in_err-count.ensures.answer)

pub loop-count-preserved : goal.loop-count-preserved
loop-count-preserved g c =
    let later = c.loop-count.invariant.later in
    let on = c.in_ok-count.ensures.later in
    record {
      fed = more_fed c.args.follower.now c.loop-count.follower c.feed_more.new.follower (g.I.Source.left c.args.input.now) (g.I.Source.left c.loop-count.input) (g.I.Source.left c.feed_more.new.input) c.loop-count.total c.in-Some.count c.loop-count.invariant.fed
          (subst (λ (o : Option ℕ). IfSome o (λ n. n ≤ most_input - c.loop-count.total)) c.in-Some.is c.in_ok-count.ensures.within)
          (subst (λ (o : Option ℕ). IfSome (g.I.Source.left c.loop-count.input) (λ bytes. FeedAnswer c.loop-count.follower c.feed_more.new.follower (most_input - c.loop-count.total) bytes (Ok o))) c.in-Some.is c.in_ok-count.ensures.answer)
          (subst (λ (o : Option ℕ). g.I.Source.left c.feed_more.new.input ≡ option_map (drop (unwrap_or o 0)) (g.I.Source.left c.loop-count.input)) c.in-Some.is c.in_ok-count.ensures.left);
      later = omega (arith, later, on);
    }

pub returns-in_err-finish-clause-answer : goal.returns-in_err-finish-clause-answer
returns-in_err-finish-clause-answer g c =
    err_is c.from_residual-in_err-finish.result (refusal.Wal c.in_err-finish.field-0.0) (λ (r : Result Lsn InputFault). IfSome (g.I.Source.left c.args.input.now) (λ bytes. InputAnswer c.args.follower.now c.finish.new.self bytes r)) c.from_residual-in_err-finish.ensures.1
    (torn c.args.follower.now c.loop-count.follower c.feed_more.new.follower c.finish.new.self (g.I.Source.left c.args.input.now) (g.I.Source.left c.loop-count.input) c.loop-count.total c.in_err-finish.field-0.0 c.loop-count.invariant.fed
    (subst (λ (o : Option ℕ). IfSome (g.I.Source.left c.loop-count.input) (λ bytes. FeedAnswer c.loop-count.follower c.feed_more.new.follower (most_input - c.loop-count.total) bytes (Ok o))) c.in_default.is c.in_ok-count.ensures.answer)
    c.in_err-finish.ensures.kept c.in_err-finish.ensures.end)

pub returns-clause-answer : goal.returns-clause-answer
returns-clause-answer g c =
    finished c.args.follower.now c.loop-count.follower c.feed_more.new.follower c.finish.new.self (g.I.Source.left c.args.input.now) (g.I.Source.left c.loop-count.input) c.loop-count.total c.in_ok-finish.field-0 c.loop-count.invariant.fed
    (subst (λ (o : Option ℕ). IfSome (g.I.Source.left c.loop-count.input) (λ bytes. FeedAnswer c.loop-count.follower c.feed_more.new.follower (most_input - c.loop-count.total) bytes (Ok o))) c.in_default.is c.in_ok-count.ensures.answer)
    c.in_ok-finish.ensures.same c.in_ok-finish.ensures.end
