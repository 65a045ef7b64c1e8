-- Cleared areas show no pages.
use Rattle.data_areas.proofs.Turned.{fresh, marked_bare, empty_bare, none_in_four}
use Rattle.data_areas.proofs.store_forks.StoreForks.new.Goals as goal

pub returns-clause-shown : goal.returns-clause-shown
returns-clause-shown g c tells =
    let v = g.V.Vault in
    let relseg = c.args.relseg in
    let areas = c.args.areas in
    let bare = c.requires.bare in
    none_in_four v c.new.result c.new-2.result c.new-3.result c.new-4.result
    (fresh v relseg areas.data0 c.new.result c.new.ensures.held (marked_bare (v.files areas.data0) bare.data0) (tells 0))
    (fresh v relseg areas.data1 c.new-2.result c.new-2.ensures.held (empty_bare (v.files areas.data1) bare.data1) (tells 1))
    (fresh v relseg areas.data2 c.new-3.result c.new-3.ensures.held (empty_bare (v.files areas.data2) bare.data2) (tells 2))
    (fresh v relseg areas.data3 c.new-4.result c.new-4.ensures.held (empty_bare (v.files areas.data3) bare.data3) (tells 3))
