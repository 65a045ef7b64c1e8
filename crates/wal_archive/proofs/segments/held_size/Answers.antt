use Rattle.std.proofs.Common.{rules, sym, ◌∙◌}
use Rattle.wal_archive.proofs.Scans.{held_outside, held_some_told, held_none_told}
use Rattle.wal_archive.proofs.segments.held_size.Goals as goal

pub returns-then-not-is_segment-clause-held : goal.returns-then-not-is_segment-clause-held
returns-then-not-is_segment-clause-held g c =
    held_outside (g.V.Vault.files c.args.area.now) c.args.size c.args.number
    (sym c.is_segment.ensures.test ∙ c.if-not-is_segment.true)

pub returns-in-Some-clause-held : goal.returns-in-Some-clause-held
returns-in-Some-clause-held g c =
    held_some_told (g.V.Vault.files c.args.area.now) c.args.size c.args.number c.in-Some.count
    c.bytes.result c.min.result c.as_bytes.result.now c.in_ok-count.field-0
    (sym c.is_segment.ensures.test ∙ c.if-not-is_segment.false) (search rules) c.in-Some.is
    c.bytes.ensures.bytes c.min.ensures c.in_ok-count.ensures.size

pub returns-clause-held : goal.returns-clause-held
returns-clause-held g c =
    held_none_told (g.V.Vault.files c.args.area.now) c.args.size c.args.number
    c.as_bytes.result.now c.in_ok-count.field-0
    (sym c.is_segment.ensures.test ∙ c.if-not-is_segment.false) (search rules) (search rules)
    c.in_ok-count.ensures.size
