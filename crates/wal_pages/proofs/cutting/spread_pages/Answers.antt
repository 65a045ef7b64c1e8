use Rattle.std.proofs.Common.{◌≡◌, ◌+◌, ◌-◌, ◌%◌, ◌≤◌, ◌++◌, length, ap, arith, ◌∙◌, min}
use Rattle.wal_pages.specs.Places.{flat_before}
use Rattle.wal_pages.specs.Spread.{spread_from}
use Rattle.wal_pages.proofs.Starts.{end_past, head_until, flat_le}
use Rattle.wal_pages.proofs.Pieces.{spread_add}
use Rattle.wal_pages.proofs.cutting.spread_pages.Goals as goal

pub loop-at-init : goal.loop-at-init
loop-at-init c =
    let mib = c.args.of.now.segment in
    let some : 1 ≤ mib = omega (arith, c.segment.ensures.value, c.segment.ensures.range.least) in
    record {
      from = omega arith;
      to =
          let past = end_past mib c.args.before (length c.args.flat.now) some c.requires.least in
          omega (arith, past, c.requires.end);
      spread =
          let none : 0 ≡ c.args.before - c.args.before = omega arith in
          c.new-bytes.ensures.items
          ∙ ap (spread_from mib c.args.of.now.system c.flat_before-first.result c.args.flat.now
          c.args.before) none;
    }

pub push_page-requires-clause-head : goal.push_page-requires-clause-head
push_page-requires-clause-head c =
    let mib = c.args.of.now.segment in
    let some : 1 ≤ mib = omega (arith, c.segment.ensures.value, c.segment.ensures.range.least) in
    head_until mib c.args.before (length c.args.flat.now) c.loop-at.at c.min-until.result some
    (c.min-until.ensures ∙ ap (λ n. min n (c.loop-at.at - c.loop-at.at % 8192 + 8192))
    c.requires.end)
    (omega (arith, c.requires.end, c.loop-at-test.true))

pub push_page-requires-clause-first : goal.push_page-requires-clause-first
push_page-requires-clause-first c =
    let mib = c.args.of.now.segment in
    let some : 1 ≤ mib = omega (arith, c.segment.ensures.value, c.segment.ensures.range.least) in
    let up = flat_le mib c.args.before c.loop-at.at some c.loop-at.invariant.from in
    let is : c.flat_before-first.result ≡ flat_before mib c.args.before =
    c.flat_before-first.ensures.number
    ∙ ap (λ n. flat_before n c.args.before) c.segment.ensures.value in
    omega (arith, up, is)

pub loop-at-preserved : goal.loop-at-preserved
loop-at-preserved c =
    let at = c.loop-at.at in
    let until = c.min-until.result in
    record {
      from = omega (arith, c.loop-at.invariant.from, c.min-until.ensures, c.loop-at-test.true);
      to = omega (arith, c.min-until.ensures);
      spread =
          c.in_ok-push_page.ensures
          ∙ ap (λ l. l ++ spread_from c.args.of.now.segment c.args.of.now.system
          c.flat_before-first.result c.args.flat.now at (until - at)) c.loop-at.invariant.spread
          ∙ spread_add c.args.of.now.segment c.args.of.now.system c.flat_before-first.result
          c.args.flat.now c.args.before
          (at - c.args.before) (until - at) at (until - c.args.before)
          (omega (arith, c.loop-at.invariant.from))
          (omega (arith, c.loop-at.invariant.from, c.min-until.ensures, c.loop-at-test.true));
    }
