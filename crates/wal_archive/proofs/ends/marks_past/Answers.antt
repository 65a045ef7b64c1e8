use Rattle.std.proofs.Common.{◌-◌, ◌*◌, ap, refl, ◌∙◌}
use Rattle.wal_archive.proofs.Scans.{past_marked, past_marks_before}
use Rattle.wal_archive.proofs.ends.marks_past.Goals as goal

pub returns-then-limit-from-clause-past : goal.returns-then-limit-from-clause-past
returns-then-limit-from-clause-past g c =
    past_marks_before (g.V.Vault.files c.args.area.now) c.args.size c.args.x c.in-Some.number
    c.saturating_sub-from.result c.bytes-limit.result c.args.name.now
    c.in-Some.ensures.segment c.bytes-limit.ensures.bytes
    (c.saturating_sub-from.ensures
    ∙ ap (λ n. c.args.x - c.in-Some.number * n) c.bytes-limit.ensures.bytes)
    c.if-limit-from.true

pub returns-clause-past : goal.returns-clause-past
returns-clause-past g c =
    past_marked (g.V.Vault.files c.args.area.now) c.args.size c.args.x c.in-Some.number
    c.saturating_sub-from.result c.bytes-limit.result c.args.name.now c.in_ok-zero.zero _
    c.in-Some.ensures.segment c.bytes-limit.ensures.bytes
    (c.saturating_sub-from.ensures
    ∙ ap (λ n. c.args.x - c.in-Some.number * n) c.bytes-limit.ensures.bytes)
    c.in_ok-zero.ensures.zero refl
