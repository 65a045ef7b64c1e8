-- The forks of an area are listed, and counted.
use Rattle.std.proofs.Common.{List, subst}
use Rattle.lsn_core.specs.declared.ids.ForkLen.{ForkLen}
use Rattle.restart_areas.specs.Counting.{IsCountOf}
use Rattle.restart_areas.proofs.Counted.{area_counted}
use Rattle.restart_areas.proofs.counting.count_area.Goals as goal

pub returns-in-Ok-count_list-clause-counts : goal.returns-in-Ok-count_list-clause-counts
returns-in-Ok-count_list-clause-counts g c =
    area_counted g.V.Vault c.args.relseg c.args.area c.new-forks.result c.in-Ok.list.items c.in-Ok-count_list.tally c.new-forks.ensures.held c.in-Ok.ensures.list
    (subst (λ (l : List ForkLen). IsCountOf l c.in-Ok-count_list.tally) c.deref.ensures.value c.in-Ok-count_list.ensures)
