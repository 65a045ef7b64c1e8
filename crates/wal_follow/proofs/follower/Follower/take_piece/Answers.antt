-- A piece comes, and what became whole is read.
use Rattle.std.proofs.Common.{List, ℕ, ◌++◌}
use Rattle.wal_follow.specs.declared.fault.FollowFault.TheVariants as follow
use Rattle.wal_follow.specs.Following.{StandsBehind, RefusesStream}
use Rattle.wal_follow.proofs.Going.{err_cause}
use Rattle.wal_follow.proofs.Behind.{quiet_goes, read_goes, read_refused}
use Rattle.wal_follow.proofs.follower.Follower.take_piece.Goals as goal

pub returns-in_err-take_in-clause-refused : goal.returns-in_err-take_in-clause-refused
returns-in_err-take_in-clause-refused c =
    err_cause c.from_residual.result follow.NoMemory (λ why. (fed : List ℕ) → StandsBehind c.args.self.now fed → RefusesStream c.args.self.now.span.mib c.args.self.now.relseg (fed ++ c.args.piece.now) why) c.from_residual.ensures.1 (λ fed is. tt)

pub returns-then-branch-clause-follows : goal.returns-then-branch-clause-follows
returns-then-branch-clause-follows c fed is =
    quiet_goes c.args.self.now c.take_in.new.self fed c.args.piece.now c.in_ok-take_in.field-0 c.in_ok-take_in.ensures.taken c.if-branch.true is

pub returns-in_err-read_whole-clause-refused : goal.returns-in_err-read_whole-clause-refused
returns-in_err-read_whole-clause-refused c =
    err_cause c.from_residual-in_err-read_whole.result c.in_err-read_whole.field-0.0 (λ why. (fed : List ℕ) → StandsBehind c.args.self.now fed → RefusesStream c.args.self.now.span.mib c.args.self.now.relseg (fed ++ c.args.piece.now) why) c.from_residual-in_err-read_whole.ensures.1
    (λ fed is. read_refused c.args.self.now c.take_in.new.self fed c.args.piece.now c.in_ok-take_in.field-0 c.in_err-read_whole.field-0.0 c.in_ok-take_in.ensures.taken c.in_err-read_whole.ensures.refused is)

pub returns-clause-follows : goal.returns-clause-follows
returns-clause-follows c fed is =
    read_goes c.args.self.now c.take_in.new.self c.read_whole.new.self c.forget.new.self fed c.args.piece.now c.in_ok-take_in.field-0 c.in_ok-take_in.ensures.taken c.in_ok-read_whole.ensures.read c.forget.ensures is
