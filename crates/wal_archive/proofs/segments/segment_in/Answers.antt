use Rattle.std.proofs.Common.{sym, ◌∙◌}
use Rattle.wal_archive.proofs.Files.{segment_range}
use Rattle.wal_archive.proofs.SegmentNames.{segment_found, segment_outside, segment_none}
use Rattle.wal_archive.proofs.segments.segment_in.Goals as goal

pub returns-then-is_in_archive-clause-segment : goal.returns-then-is_in_archive-clause-segment
returns-then-is_in_archive-clause-segment c =
    segment_found c.args.size c.in-Some.timeline c.in-Some.number c.args.name.now
    c.in-Some.ensures.found (sym c.is_in_archive.ensures ∙ c.if-is_in_archive.true)

pub returns-then-is_in_archive-clause-most : goal.returns-then-is_in_archive-clause-most
returns-then-is_in_archive-clause-most c =
    (segment_range c.in-Some.number
    (segment_found c.args.size c.in-Some.timeline c.in-Some.number c.args.name.now
    c.in-Some.ensures.found (sym c.is_in_archive.ensures ∙ c.if-is_in_archive.true)).0).1

pub returns-else-is_in_archive-clause-segment : goal.returns-else-is_in_archive-clause-segment
returns-else-is_in_archive-clause-segment c =
    segment_outside c.args.size c.in-Some.timeline c.in-Some.number c.args.name.now
    (rw c.mib-mib.ensures.value at c.mib-mib.ensures.range) c.in-Some.ensures.found
    c.in-Some.ensures.named (sym c.is_in_archive.ensures ∙ c.if-is_in_archive.false)

pub returns-in-None-clause-segment : goal.returns-in-None-clause-segment
returns-in-None-clause-segment c =
    segment_none c.args.size c.args.name.now
    (rw c.mib-mib.ensures.value at c.mib-mib.ensures.range) c.in-None.ensures.none
