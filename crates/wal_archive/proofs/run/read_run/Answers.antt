use Rattle.std.proofs.Common.{rules, sym, ◌∙◌}
use Rattle.wal_archive.proofs.RunLaws.{run_told, outside_told}
use Rattle.wal_archive.proofs.run.read_run.Goals as goal

pub returns-then-not-is_segment-clause-run : goal.returns-then-not-is_segment-clause-run
returns-then-not-is_segment-clause-run g c =
    outside_told (g.V.Vault.files c.args.area.now) c.args.size c.args.x c.segment_of-number.result
    c.args.into.now c.segment_of-number.ensures.number
    (sym c.is_segment.ensures.test ∙ c.if-not-is_segment.true)

pub returns-clause-run : goal.returns-clause-run
returns-clause-run g c =
    run_told c.read_at.result (g.V.Vault.files c.args.area.now) c.args.size c.args.x
    c.segment_of-number.result c.offset_of.result c.as_bytes.result.now c.args.into.now
    c.read_at.new.into
    c.segment_of-number.ensures.some c.segment_of-number.ensures.number c.offset_of.ensures
    (sym c.is_segment.ensures.test ∙ c.if-not-is_segment.false) (search rules) c.requires.one
    c.read_at.ensures.read
