use Rattle.std.proofs.Common.{◌≡◌, Some, sym, subst, ◌∙◌}
use Rattle.page_pool.specs.Part.{Part, newest_end}
use Rattle.page_pool.specs.Partition.{part_in}
use Rattle.page_pool.proofs.Ended.{newest_is}
use Rattle.page_pool.proofs.partition.Partition.newest_lsn.Goals as goal

pub returns : goal.returns
returns g c =
    subst (λ (x : Part). Some c.in_ok-later.field-0 ≡ newest_end x) c.self.view_is
    (sym c.in_ok-later.was ∙ newest_is (part_in g.V.Vault c.self.inside) c.later.result c.newest_work-works.result c.newest_dirty-dirty.result c.deref.result.now c.later.ensures c.newest_work-works.ensures c.deref.ensures.value c.newest_dirty-dirty.ensures)
