-- A page that can be written can be so with another LSN.
use Rattle.std.proofs.Common.{◌∙◌, ap}
use Rattle.pg_page.specs.Header.{with_lsn}
use Rattle.page_pool.proofs.Making.{page_with_lsn}
use Rattle.page_pool.proofs.kinds.image.Goals as goal

pub from_good-requires : goal.from_good-requires
from_good-requires c =
    (page_with_lsn c.args.lsn c.args.page.now c.set_lsn.new.page c.requires (c.set_lsn.ensures ∙ ap (with_lsn c.args.lsn) (c.deref_mut.ensures.value ∙ c.in_ok-image.ensures.ok))).0

pub returns-clause-writable : goal.returns-clause-writable
returns-clause-writable c =
    page_with_lsn c.args.lsn c.args.page.now c.from_good.result c.requires (c.from_good.ensures ∙ (c.set_lsn.ensures ∙ ap (with_lsn c.args.lsn) (c.deref_mut.ensures.value ∙ c.in_ok-image.ensures.ok)))
