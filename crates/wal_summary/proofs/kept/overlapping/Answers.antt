use Rattle.std.proofs.Common.{◌≤◌}
use Rattle.wal_summary.proofs.Cover.{points_rise, parts_overlap}
use Rattle.wal_summary.proofs.kept.overlapping.Goals as goal

pub slice_bounds-result-count : goal.slice_bounds-result-count
slice_bounds-result-count c = points_rise c.args.from.0 c.args.to.0 c.args.kept.now c.ended_by-ended.result c.begun_below-begun.result c.requires.range c.requires.order c.ended_by-ended.ensures.within c.ended_by-ended.ensures.point c.begun_below-begun.ensures.point

pub slice_bounds-result-start : goal.slice_bounds-result-start
slice_bounds-result-start c = points_rise c.args.from.0 c.args.to.0 c.args.kept.now c.ended_by-ended.result c.begun_below-begun.result c.requires.range c.requires.order c.ended_by-ended.ensures.within c.ended_by-ended.ensures.point c.begun_below-begun.ensures.point

pub returns : goal.returns
returns c =
    let rise : c.ended_by-ended.result ≤ c.begun_below-begun.result = points_rise c.args.from.0 c.args.to.0 c.args.kept.now c.ended_by-ended.result c.begun_below-begun.result c.requires.range c.requires.order c.ended_by-ended.ensures.within c.ended_by-ended.ensures.point c.begun_below-begun.ensures.point in
    parts_overlap c.args.from.0 c.args.to.0 c.args.kept.now c.ended_by-ended.result c.begun_below-begun.result rise c.begun_below-begun.ensures.within c.ended_by-ended.ensures.point c.begun_below-begun.ensures.point
