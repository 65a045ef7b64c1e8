use Rattle.pg_page.proofs.HeaderLaws.{hole_zeroed-hole_zeroed}
use Rattle.pg_page.proofs.laws.zeroing_twice_is_once.Goals as goal

pub returns : goal.returns
returns c = hole_zeroed-hole_zeroed
