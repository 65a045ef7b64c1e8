use Rattle.pg_page.proofs.PatchLaws.{patched_again}
use Rattle.pg_page.proofs.laws.patches_differ_in_lsn.Goals as goal

pub returns : goal.returns
returns c = patched_again
