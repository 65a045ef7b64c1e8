use Rattle.pg_page.proofs.PatchLaws.{patched_zeroed}
use Rattle.pg_page.proofs.laws.patched_holes_are_zero.Goals as goal

pub returns : goal.returns
returns c = patched_zeroed
