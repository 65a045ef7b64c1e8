use Rattle.std.proofs.Common.{◌≡◌, [], true, arith}
use Rattle.crew.specs.Running.{WentOn}
use Rattle.crew.proofs.Shares.{shares_same, fault_stays}
use Rattle.crew.proofs.Steps.{none_marked, went_nowhere, went_further, went_still}
use Rattle.crew.proofs.Marks.{written, not_written}
use Rattle.crew.proofs.run.flush.Goals as goal
use Rattle.crew.proofs.run.flush.Goals.{then-is_some, else-is_some}

pub loop-k-init : goal.loop-k-init
loop-k-init g c = record { went = went_nowhere c.args.pass.now; few = omega arith }

pub loop-k-preserved : goal.loop-k-preserved
loop-k-preserved g c =
    let still : WentOn 0 c.loop-k.pass c.write_page.new.pass [] =
    went_still c.loop-k.pass c.write_page.new.pass c.write_page.ensures.seen c.write_page.ensures.accepted (none_marked c.loop-k.pass.marks c.write_page.new.pass.marks c.write_page.ensures.marks) (shares_same c.loop-k.pass.faults c.write_page.new.pass.faults c.in-Ok.ensures.faults) in
    record {
      went = went_further c.args.pass.now c.loop-k.pass c.write_page.new.pass [] [] c.loop-k.invariant.went still;
      few = elim c.if-is_some.branch [ then-is_some w ↦ omega arith | else-is_some w ↦ omega arith ];
    }

pub returns-in-Err : goal.returns-in-Err
returns-in-Err g c =
    let still : WentOn 0 c.loop-k.pass c.write_page.new.pass [] =
    went_still c.loop-k.pass c.write_page.new.pass c.write_page.ensures.seen c.write_page.ensures.accepted (none_marked c.loop-k.pass.marks c.write_page.new.pass.marks c.write_page.ensures.marks) (fault_stays c.loop-k.pass c.write_page.new.pass c.in-Err.fault c.in-Err.ensures.faults) in
    not_written (g.J.OfStore.tells ≡ true) g.J.OfCrew.settings c.args.pass.now c.loop-k.pass c.write_page.new.pass c.args.count c.in-Err.fault c.loop-k.invariant.went still c.in-Err.ensures.faults

pub returns : goal.returns
returns g c = written (g.J.OfStore.tells ≡ true) g.J.OfCrew.settings c.args.pass.now c.loop-k.pass c.args.count c.loop-k.wrote c.loop-k.invariant.went (omega (arith, c.loop-k.invariant.few, c.loop-k-test.false))
