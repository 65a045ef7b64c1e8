-- What was read behind the end, and judged.
use Rattle.std.proofs.Common.{◌≡◌, ◌≤◌, ap, ◌∙◌, arith}
use Rattle.lsn_core.specs.Segment.{StoreSettings}
use Rattle.lsn_core.specs.Tip.{Tip}
use Rattle.wal_archive.specs.Reading.{IsEntrySized}
use Rattle.wal_reader.proofs.Steps.{behind_ended, behind_fault, behind_judged}
use Rattle.wal_reader.proofs.step.step_behind.Goals as goal

pub returns-in-Ok-None-clause-answer : goal.returns-in-Ok-None-clause-answer
returns-in-Ok-None-clause-answer g c =
    behind_ended c.args.layout.now c.args.tip c.tip.inside.end.0 (g.V.Vault.files c.args.wal.now) (ap (λ (t : Tip). t.end) c.tip.view_is) (rw c.in-Ok-None.field-0-is at c.in-Ok-None.ensures.bytes)

pub returns-in-Err-clause-answer : goal.returns-in-Err-clause-answer
returns-in-Err-clause-answer g c =
    rw c.from.ensures (behind_fault c.args.layout.now c.args.tip c.tip.inside.end.0 (g.V.Vault.files c.args.wal.now) (g.V.Vault.faults c.args.wal.now) (g.V.Vault.faults c.next_bytes.new.area) c.in-Err.fault (ap (λ (t : Tip). t.end) c.tip.view_is) c.in-Err.ensures.bytes)

pub returns-clause-answer : goal.returns-clause-answer
returns-clause-answer g c =
    let size : IsEntrySized c.in-Ok-Some.bytes.items = rw c.in-Ok-Some.field-0-is at c.in-Ok-Some.ensures.size in
    let same : c.segment-size.result ≡ c.args.layout.now.segment = c.segment-size.ensures.value ∙ ap (λ (s : StoreSettings). s.segment) c.settings.ensures in
    let some : 1 ≤ c.args.layout.now.segment = omega (arith, c.segment-size.ensures.range.least, same) in
    behind_judged c.args.layout.now c.args.tip c.tip.inside.end.0 c.tip.inside.prev.0 (g.V.Vault.files c.args.wal.now) (g.V.Vault.faults c.args.wal.now) (g.V.Vault.faults c.next_bytes.new.area) c.in-Ok-Some.bytes.items c.judge.result
    some c.requires (ap (λ (t : Tip). t.end) c.tip.view_is) (ap (λ (t : Tip). t.prev) c.tip.view_is) size.least (rw c.in-Ok-Some.field-0-is at c.in-Ok-Some.ensures.bytes) (rw c.deref.ensures.value at c.judge.ensures)
