use Rattle.page_pool.proofs.Behind.{works_done, pages_written, torn_writes, mended}
use Rattle.page_pool.proofs.laws.writes_leave_less.Goals as goal

pub returns-clause-works : goal.returns-clause-works
returns-clause-works c = works_done

pub returns-clause-pages : goal.returns-clause-pages
returns-clause-pages c = pages_written

pub returns-clause-torn : goal.returns-clause-torn
returns-clause-torn c = torn_writes

pub returns-clause-mended : goal.returns-clause-mended
returns-clause-mended c = mended
