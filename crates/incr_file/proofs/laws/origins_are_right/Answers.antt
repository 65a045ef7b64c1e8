use Rattle.incr_file.proofs.Origins.{origin_has_page}
use Rattle.incr_file.proofs.laws.origins_are_right.Goals as goal

pub returns : goal.returns
returns c = origin_has_page
