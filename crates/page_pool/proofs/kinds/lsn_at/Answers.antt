-- A block that isn't there has a page of zeros, which has no LSN.
use Rattle.std.proofs.Common.{ap, sym, ◌∙◌}
use Rattle.pg_page.specs.Header.{lsn_of}
use Rattle.history.proofs.Stores.{lsn_of-zero_page}
use Rattle.page_pool.proofs.kinds.lsn_at.Goals as goal

pub returns-in-Some : goal.returns-in-Some
returns-in-Some c = c.lsn_of.ensures ∙ ap lsn_of c.in-Some.ensures

pub returns-in-None : goal.returns-in-None
returns-in-None c = sym (ap lsn_of (sym c.in-None.ensures) ∙ lsn_of-zero_page)
