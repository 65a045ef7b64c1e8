-- Each area is opened in turn.
use Rattle.std.proofs.Common.{rules}
use Rattle.data_areas.proofs.settling.open_all.Goals as goal

pub open_part-requires-after_bounds : goal.open_part-requires-after_bounds
open_part-requires-after_bounds g c κs within = (search rules, (c.requires.relseg, c.requires.held 0))

pub open_part-requires-2-after_bounds : goal.open_part-requires-2-after_bounds
open_part-requires-2-after_bounds g c κs within = (search rules, (c.requires.relseg, c.requires.held 1))

pub open_part-requires-3-after_bounds : goal.open_part-requires-3-after_bounds
open_part-requires-3-after_bounds g c κs within = (search rules, (c.requires.relseg, c.requires.held 2))

pub open_part-requires-4-after_bounds : goal.open_part-requires-4-after_bounds
open_part-requires-4-after_bounds g c κs within = (search rules, (c.requires.relseg, c.requires.held 3))
