use Rattle.std.proofs.Common.{ap, ◌∙◌}
use Rattle.history.specs.Pages.{store_in, page_count}
use Rattle.history.proofs.Counts.{total_stays, page_count-with_set}
use Rattle.history.proofs.page_map.PageMap.undo_step.Goals as goal

pub invariant_of-self : goal.invariant_of-self
invariant_of-self c =
    let old = store_in c.self.inside.forks in
    total_stays c.self.inside.total old (store_in c.set_in.new.forks) c.self.invariant (ap page_count c.set_in.ensures ∙ page_count-with_set old c.in-Page.at c.in-Page.page)
