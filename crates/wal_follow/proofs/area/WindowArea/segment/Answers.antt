-- A name's file is a segment's part of what is shown, or there is none.
use Rattle.std.proofs.Common.{sym, ap, ◌∙◌, arith}
use Rattle.lsn_core.specs.Names.{segment_name_bytes}
use Rattle.stream_laws.specs.Windows.{Span}
use Rattle.wal_follow.proofs.Areas.{part_there, none_there, none_behind}
use Rattle.wal_follow.proofs.area.WindowArea.segment.Goals as goal

pub returns-then-number-segments : goal.returns-then-number-segments
returns-then-number-segments c =
    part_there c.args.self.now c.args.name.now c.in-Some.number c.in-Some.ensures.segment.0 (c.in-Some.ensures.segment.1 ∙ ap (λ (w : Span). segment_name_bytes c.in-Some.number w.mib) c.self.view_is) (omega (arith, c.if-number-segments.true, c.segments.ensures))

pub returns-else-number-segments : goal.returns-else-number-segments
returns-else-number-segments c =
    none_behind c.args.self.now c.args.name.now c.in-Some.number c.in-Some.ensures.segment.0 (c.in-Some.ensures.segment.1 ∙ ap (λ (w : Span). segment_name_bytes c.in-Some.number w.mib) c.self.view_is) (omega (arith, c.if-number-segments.false, c.segments.ensures))

pub returns-in-None : goal.returns-in-None
returns-in-None c =
    none_there c.args.self.now c.args.name.now (λ s is named. c.in-None.ensures.segment s is (named ∙ sym (ap (λ (w : Span). segment_name_bytes s w.mib) c.self.view_is)))
