-- An area that holds whole pages is opened as it is.
use Rattle.std.proofs.Common.{rules, sym, subst}
use Rattle.lsn_core.specs.Segment.{IsRelseg}
use Rattle.data_areas.proofs.Settled.{pages_there, opened_of}
use Rattle.data_areas.proofs.settling.open_part.Goals as goal

pub open-requires-after_bounds : goal.open-requires-after_bounds
open-requires-after_bounds g c κs within = (
  search rules,
  (
    subst IsRelseg (sym c.new.ensures.relseg) c.requires.relseg,
    λ told. pages_there g.V.Vault c.args.relseg c.args.area c.new.result c.new.ensures.area c.new.ensures.held c.requires.held told,
  ),
)

pub returns-clause-opened : goal.returns-clause-opened
returns-clause-opened g c =
    let o = c.open.ensures in
    opened_of g.V.Vault c.args.relseg c.args.point.0 c.args.area c.new.result c.open.result c.new.ensures.area c.new.ensures.relseg c.new.ensures.held o.frames o.clean o.point o.flushed o.relseg o.disk o.past o.faults
