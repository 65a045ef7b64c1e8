use Rattle.std.proofs.Common.{◌+◌, ◌*◌, ap, arith}
use Rattle.wal_archive.proofs.Scans.{past_before, past_held_by, past_missing_by}
use Rattle.wal_archive.proofs.ends.holds_past.Goals as goal

pub returns-then-begin-bytes-clause-past : goal.returns-then-begin-bytes-clause-past
returns-then-begin-bytes-clause-past g c =
    past_before (g.V.Vault.files c.args.area.now) c.args.size c.args.x c.in-Some.number
    c.args.name.now c.in-Some.ensures.segment
    (omega (
      arith,
      c.if-begin-bytes.true,
      c.bytes.ensures.bytes,
      c.bytes-2.ensures.bytes,
      ap (λ n. c.in-Some.number * n) c.bytes.ensures.bytes,
    ))

pub returns-in-Some-2-clause-past : goal.returns-in-Some-2-clause-past
returns-in-Some-2-clause-past g c =
    past_held_by (g.V.Vault.files c.args.area.now) c.args.size c.args.x c.in-Some.number
    c.in-Some-2.count (c.in-Some.number * c.bytes.result + c.in-Some-2.count) c.args.name.now
    c.is_past.result
    c.in_ok-count.field-0 c.in-Some-2.is c.in-Some.ensures.segment c.in_ok-count.ensures.held
    (ap (λ n. c.in-Some.number * n + c.in-Some-2.count) c.bytes.ensures.bytes)
    c.is_past.ensures.past

pub returns-in-None-clause-past : goal.returns-in-None-clause-past
returns-in-None-clause-past g c =
    past_missing_by (g.V.Vault.files c.args.area.now) c.args.size c.args.x c.in-Some.number
    c.args.name.now c.in_ok-count.field-0 c.in-None.is c.in-Some.ensures.segment
    c.in_ok-count.ensures.held
