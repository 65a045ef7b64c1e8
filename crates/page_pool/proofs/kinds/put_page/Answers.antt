-- A page with zeros in its hole can be written.
use Rattle.std.proofs.Common.{◌∙◌, ap}
use Rattle.pg_page.specs.Header.{hole_zeroed}
use Rattle.page_pool.proofs.Making.{zeroed_page}
use Rattle.page_pool.proofs.kinds.put_page.Goals as goal

pub returns-clause-writable : goal.returns-clause-writable
returns-clause-writable c =
    zeroed_page c.args.page.now c.zero_hole.new.page c.bytes.ensures.good
    (c.zero_hole.ensures ∙ ap hole_zeroed (c.deref_mut.ensures.value ∙ (c.in_ok-copy.ensures.ok ∙ c.bytes.ensures.bytes)))
