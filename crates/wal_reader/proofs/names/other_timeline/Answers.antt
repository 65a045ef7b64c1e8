-- A segment's name fits.
use Rattle.std.proofs.Common.{length, ap, sym, ◌∙◌}
use Rattle.wal_reader.specs.Names.{HasNoOther}
use Rattle.wal_reader.proofs.WalNames.{name_kept}
use Rattle.wal_reader.proofs.names.other_timeline.Goals as goal

pub returns-then-is_other_timeline-clause-none : goal.returns-then-is_other_timeline-clause-none
returns-then-is_other_timeline-clause-none c =
    name_kept c.args.size c.as_bytes.result.now c.new.result (HasNoOther c.args.size c.args.names.now) (c.is_other_timeline.ensures.0 c.if-is_other_timeline.true) (λ e. c.new.ensures.some.1 (ap length (c.as_bytes-then-is_other_timeline.ensures ∙ sym c.as_bytes.ensures) ∙ e))
