-- Each area is counted, and all together.
use Rattle.data_areas.specs.declared.areas.DataAreas.{DataAreas}
use Rattle.data_areas.specs.Areas.{DataCause}
use Rattle.data_areas.proofs.Turned.{on_answer, on_fault}
use Rattle.restart_areas.specs.Counting.{SumsUp, IsFaultOf, CountsAll}
use Rattle.restart_areas.proofs.Counted.{all_counted, not_counted}
use Rattle.restart_areas.proofs.counting.count_all.Goals as goal

pub returns-clause-counts : goal.returns-clause-counts
returns-clause-counts g c =
    let r0 = c.count_area-data0.result.1 in
    let r1 = c.count_area-data1.result.1 in
    let r2 = c.count_area-data2.result.1 in
    let r3 = c.count_area-data3.result.1 in
    on_answer c.sum_of-counted.result (SumsUp r0 r1 r2 r3) (CountsAll g.V.Vault c.args.relseg c.args.areas)
    (λ tally is. all_counted g.V.Vault c.args.relseg c.args.areas r0 r1 r2 r3 tally c.count_area-data0.ensures.counts c.count_area-data1.ensures.counts c.count_area-data2.ensures.counts c.count_area-data3.ensures.counts is) c.sum_of-counted.ensures.sum

pub returns-clause-cause : goal.returns-clause-cause
returns-clause-cause g c =
    let r0 = c.count_area-data0.result.1 in
    let r1 = c.count_area-data1.result.1 in
    let r2 = c.count_area-data2.result.1 in
    let r3 = c.count_area-data3.result.1 in
    let new : DataAreas g.row.V.Denot = record { data0 = c.count_area-data0.result.0; data1 = c.count_area-data1.result.0; data2 = c.count_area-data2.result.0; data3 = c.count_area-data3.result.0 } in
    on_fault c.sum_of-counted.result (IsFaultOf r0 r1 r2 r3) (DataCause g.V.Vault c.args.areas new)
    (λ f is. not_counted g.V.Vault c.args.areas new r0 r1 r2 r3 f c.count_area-data0.ensures.cause c.count_area-data1.ensures.cause c.count_area-data2.ensures.cause c.count_area-data3.ensures.cause is) c.sum_of-counted.ensures.fault
