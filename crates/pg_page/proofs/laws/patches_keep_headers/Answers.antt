use Rattle.pg_page.proofs.PatchLaws.{headers_kept, tells_good}
use Rattle.pg_page.proofs.laws.patches_keep_headers.Goals as goal

pub returns-clause-kept : goal.returns-clause-kept
returns-clause-kept c = headers_kept

pub returns-clause-told : goal.returns-clause-told
returns-clause-told c = tells_good
