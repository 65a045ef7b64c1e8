use Rattle.std.proofs.Common.{arith}
use Rattle.summary_file.proofs.Ranges.{is_this, is_other}
use Rattle.summary_file.proofs.name.is_name_of.Goals as goal

pub returns-then-from-start : goal.returns-then-from-start
returns-then-from-start c =
    is_this c.args.name.now c.in-Some.from c.in-Some.to c.args.start.0 c.args.end.0 c.in-Some.ensures.found c.in-Some.ensures.small.0 c.in-Some.ensures.small.1 (omega arith) (omega arith) c.if-from-start.true

pub returns-else-from-start : goal.returns-else-from-start
returns-else-from-start c =
    is_other c.args.name.now c.in-Some.from c.in-Some.to c.args.start.0 c.args.end.0 c.in-Some.ensures.found c.in-Some.ensures.small.0 c.in-Some.ensures.small.1 (omega arith) (omega arith) c.if-from-start.false
