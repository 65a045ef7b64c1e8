-- What was read at the place, and judged.
use Rattle.std.proofs.Common.{◌≡◌, ◌≤◌, Some, None, ap, ◌∙◌, arith}
use Rattle.std.specs.Prelude.{Ok}
use Rattle.lsn_core.specs.Segment.{StoreSettings}
use Rattle.wal_archive.specs.Reading.{IsEntrySized, MayStart}
use Rattle.wal_reader.specs.Inside.{JudgeAnswer}
use Rattle.wal_reader.proofs.Steps.{at_ended, at_fault, at_outside, at_refused, at_judged}
use Rattle.wal_reader.proofs.step.step_at.Goals as goal

pub returns-in-Ok-None-clause-answer : goal.returns-in-Ok-None-clause-answer
returns-in-Ok-None-clause-answer g c =
    at_ended c.args.layout.now c.args.from.0 (g.V.Vault.files c.args.wal.now) (rw c.in-Ok-None.field-0-is at c.in-Ok-None.ensures.bytes)

pub returns-in-Err-clause-answer : goal.returns-in-Err-clause-answer
returns-in-Err-clause-answer g c =
    rw c.from.ensures (at_fault c.args.layout.now c.args.from.0 (g.V.Vault.files c.args.wal.now) (g.V.Vault.faults c.args.wal.now) (g.V.Vault.faults c.set_bytes.new.area) c.in-Err.fault c.in-Err.ensures.bytes)

pub returns-in-Ok-Some-judge-clause-answer : goal.returns-in-Ok-Some-judge-clause-answer
returns-in-Ok-Some-judge-clause-answer g c =
    let same : c.segment-size.result ≡ c.args.layout.now.segment = c.segment-size.ensures.value ∙ ap (λ (s : StoreSettings). s.segment) c.settings.ensures in
    let some : 1 ≤ c.args.layout.now.segment = omega (arith, c.segment-size.ensures.range.least, same) in
    let may : MayStart c.args.layout.now.segment c.args.from.0 = rw c.in-Ok-Some.field-0-is at c.in-Ok-Some.ensures.place in
    let size : IsEntrySized c.in-Ok-Some.bytes.items = rw c.in-Ok-Some.field-0-is at c.in-Ok-Some.ensures.size in
    let judged : JudgeAnswer c.args.layout.now.segment c.args.from.0 None c.in-Ok-Some.bytes.items (Ok (Some c.in-Ok-Some-judge.entry)) = rw (c.in-Ok-Some-judge.field-0-is, c.deref.ensures.value) at c.in-Ok-Some-judge.ensures in
    at_judged c.args.layout.now c.args.from.0 (g.V.Vault.files c.args.wal.now) (g.V.Vault.faults c.args.wal.now) (g.V.Vault.faults c.set_bytes.new.area) c.in-Ok-Some.bytes.items c.in-Ok-Some-judge.entry c.as_first.result some may size.least judged.0 (rw c.in-Ok-Some.field-0-is at c.in-Ok-Some.ensures.bytes) judged.1.0 judged.1.1 c.as_first.ensures

pub returns-in-Ok-None-judge-clause-answer : goal.returns-in-Ok-None-judge-clause-answer
returns-in-Ok-None-judge-clause-answer g c =
    let same : c.segment-size.result ≡ c.args.layout.now.segment = c.segment-size.ensures.value ∙ ap (λ (s : StoreSettings). s.segment) c.settings.ensures in
    let some : 1 ≤ c.args.layout.now.segment = omega (arith, c.segment-size.ensures.range.least, same) in
    let may : MayStart c.args.layout.now.segment c.args.from.0 = rw c.in-Ok-Some.field-0-is at c.in-Ok-Some.ensures.place in
    let judged : JudgeAnswer c.args.layout.now.segment c.args.from.0 None c.in-Ok-Some.bytes.items (Ok None) = rw (c.in-Ok-None-judge.field-0-is, c.deref.ensures.value) at c.in-Ok-None-judge.ensures in
    at_outside c.args.layout.now c.args.from.0 (g.V.Vault.files c.args.wal.now) c.in-Ok-Some.bytes.items some may judged (rw c.in-Ok-Some.field-0-is at c.in-Ok-Some.ensures.bytes)

pub returns-clause-answer : goal.returns-clause-answer
returns-clause-answer g c =
    at_refused c.args.layout.now c.args.from.0 (g.V.Vault.files c.args.wal.now) (g.V.Vault.faults c.args.wal.now) (g.V.Vault.faults c.set_bytes.new.area) c.in-Ok-Some.bytes.items c.in-Err-judge.fault (rw c.in-Ok-Some.field-0-is at c.in-Ok-Some.ensures.bytes) (rw c.deref.ensures.value at c.in-Err-judge.ensures)
