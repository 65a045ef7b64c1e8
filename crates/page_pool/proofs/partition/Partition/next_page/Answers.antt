use Rattle.std.proofs.Common.{subst}
use Rattle.page_frames.specs.Marks.{IsFirstDirty}
use Rattle.page_pool.specs.Part.{Part}
use Rattle.page_pool.proofs.partition.Partition.next_page.Goals as goal

pub returns-clause-first : goal.returns-clause-first
returns-clause-first g c =
    let dirty = c.in_ok-first_dirty.field-0 in
    record { end = dirty.end; first = subst (λ (x : Part). IsFirstDirty x.marks dirty.at dirty.end) c.self.view_is c.in_ok-first_dirty.ensures.first }
