-- A refusal is the judgement's.
use Rattle.std.proofs.Common.{◌≡◌, ◌≤◌, ap, ◌∙◌, arith}
use Rattle.lsn_core.specs.Segment.{StoreSettings}
use Rattle.wal_reader.proofs.Reached.{start_bound}
use Rattle.wal_reader.proofs.Steps.{judged_fault}
use Rattle.wal_reader.proofs.step.judge.Goals as goal

pub end_of-requires : goal.end_of-requires
end_of-requires c =
    let same : c.segment-size.result ≡ c.args.layout.now.segment = c.segment-size.ensures.value ∙ ap (λ (s : StoreSettings). s.segment) c.settings.ensures in
    let some : 1 ≤ c.args.layout.now.segment = omega (arith, c.segment-size.ensures.range.least, same) in
    omega (arith, c.start_after-start.ensures, start_bound c.args.layout.now.segment c.args.end.0 some c.requires.bound)

pub returns-in-Err : goal.returns-in-Err
returns-in-Err c = rw c.fault_at.ensures (judged_fault c.args.layout.now.segment c.args.end.0 c.args.prev c.args.bytes.now c.start_after-start.result c.end_of.result c.in-Err.fault c.start_after-start.ensures c.end_of.ensures.end c.in-Err.ensures.entry)
