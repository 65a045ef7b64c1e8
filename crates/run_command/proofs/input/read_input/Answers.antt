use Rattle.std.proofs.Common.{◌≤◌, length, ap, arith}
use Rattle.run_command.proofs.Reading.{reads_on, all_read, whole_bytes, first_bytes, front_taken, more_taken}
use Rattle.run_command.proofs.input.read_input.Goals as goal

pub returns-then-branch-clause-input : goal.returns-then-branch-clause-input
returns-then-branch-clause-input g c =
    let more = c.in_ok-read_more.ensures.more in
    let before = c.loop-alloc.bytes.items in
    let bytes = c.read_more.new.bytes.items in
    let start = g.I.Source.left c.args.input.now in
    let now = g.I.Source.left c.read_more.new.input in
    let front = reads_on _ _ _ _ _ _ _ c.loop-alloc.invariant.front more in
    let ended = more.at_end c.if-branch.true in
    let all = all_read before bytes start _ c.loop-alloc.invariant.front ended.0 ended.1 in
    let size : length bytes ≤ 4194305 = omega (arith, ap length ended.0, c.loop-alloc.invariant.size) in
    record {
      bytes_are = whole_bytes _ bytes start now front size all;
      size = size;
      rest = front.left_is;
    }

pub returns-then-branch-clause-taken : goal.returns-then-branch-clause-taken
returns-then-branch-clause-taken g c =
    more_taken 4194305 _ _ _ _ _ c.loop-alloc.invariant.front (omega (arith, c.loop-alloc-test.true)) c.in_ok-read_more.ensures.taken

pub returns-in_err-read_more-clause-taken : goal.returns-in_err-read_more-clause-taken
returns-in_err-read_more-clause-taken g c =
    more_taken 4194305 _ _ _ _ _ c.loop-alloc.invariant.front (omega (arith, c.loop-alloc-test.true)) c.in_err-read_more.ensures.taken

pub loop-alloc-preserved : goal.loop-alloc-preserved
loop-alloc-preserved g c = record {
  front = reads_on _ _ _ _ _ _ _ c.loop-alloc.invariant.front c.in_ok-read_more.ensures.more;
  size = omega (arith, c.in_ok-read_more.ensures.more.within, c.loop-alloc-test.true);
  later = omega (arith, c.loop-alloc.invariant.later, c.in_ok-read_more.ensures.cause.later);
}

pub returns-clause-input : goal.returns-clause-input
returns-clause-input g c = record {
  bytes_are = first_bytes 4194305 c.loop-alloc.bytes.items (g.I.Source.left c.args.input.now) (g.I.Source.left c.loop-alloc.input) c.loop-alloc.invariant.front (omega (arith, c.loop-alloc.invariant.size, c.loop-alloc-test.false));
  size = c.loop-alloc.invariant.size;
  rest = c.loop-alloc.invariant.front.left_is;
}

pub returns-clause-taken : goal.returns-clause-taken
returns-clause-taken g c = front_taken 4194305 _ _ _ c.loop-alloc.invariant.front c.loop-alloc.invariant.size
