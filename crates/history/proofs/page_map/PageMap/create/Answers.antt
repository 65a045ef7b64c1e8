use Rattle.std.proofs.Common.{ap, ◌∙◌}
use Rattle.history.specs.Pages.{store_in, page_count}
use Rattle.history.proofs.Counts.{total_stays, page_count-with_fork}
use Rattle.history.proofs.page_map.PageMap.create.Goals as goal

pub invariant_of-self-2 : goal.invariant_of-self-2
invariant_of-self-2 c =
    total_stays c.self.inside.total (store_in c.self.inside.forks) (store_in c.create_in.new.forks) c.self.invariant
    (ap page_count c.in_ok-create_in.ensures.made ∙ page_count-with_fork (store_in c.self.inside.forks) c.args.fork.now)
