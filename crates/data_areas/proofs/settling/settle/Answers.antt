-- What was made durable is opened.
use Rattle.vault.specs.Boxed.{on_heap}
use Rattle.data_areas.specs.Rebuilt.{held_by, AreRebuilt}
use Rattle.data_areas.specs.Settling.{SettledSoFar, AreOpened, AreLeft}
use Rattle.data_areas.proofs.Settled.{all_rebuilt, held_still, came_to}
use Rattle.data_areas.proofs.Turned.{on_answer, on_fault}
use Rattle.data_areas.specs.Moments.{AllGoOn, pasts_of, pasts_in}
use Rattle.data_areas.proofs.Moments.{opened_on, left_on}
use Rattle.data_areas.proofs.settling.settle.Goals as goal

pub open_all-requires-clause-held : goal.open_all-requires-clause-held
open_all-requires-clause-held g c κs within = held_still (on_heap g.V.Vault) c.args.relseg c.args.areas c.make_durable.new.areas c.requires.filled c.in_default.ensures.settled

pub returns-clause-parts : goal.returns-clause-parts
returns-clause-parts g c =
    let relseg = c.args.relseg in
    let mid = c.make_durable.new.areas in
    on_answer c.open_all.result (AreOpened (on_heap g.V.Vault) relseg c.args.point.0 mid) (AreRebuilt (on_heap g.V.Vault) relseg c.args.point.0 c.args.areas)
    (λ parts opened. all_rebuilt (on_heap g.V.Vault) relseg c.args.point.0 c.args.areas mid parts c.requires.relseg.least c.requires.filled c.in_default.ensures.settled opened) c.open_all.ensures.opened

pub returns-clause-so_far : goal.returns-clause-so_far
returns-clause-so_far g c =
    let relseg = c.args.relseg in
    let old = c.args.areas in
    let mid = c.make_durable.new.areas in
    on_fault c.open_all.result (λ f. AreLeft (on_heap g.V.Vault) mid f.areas) (λ f. SettledSoFar (on_heap g.V.Vault) relseg (held_by (on_heap g.V.Vault) relseg old) old f.areas)
    (λ f left. came_to (on_heap g.V.Vault) relseg old mid f.areas c.requires.relseg.least c.in_default.ensures.settled c.in_default.ensures.ended left) c.open_all.ensures.left

pub returns-clause-go_on : goal.returns-clause-go_on
returns-clause-go_on g c =
    let v = on_heap g.V.Vault in
    let old = c.args.areas in
    let mid = c.make_durable.new.areas in
    on_answer c.open_all.result (AreOpened v c.args.relseg c.args.point.0 mid) (λ parts. AllGoOn (pasts_of v old) (pasts_in parts))
    (λ parts opened. opened_on v c.args.relseg c.args.point.0 old mid parts c.in_default.ensures.go_on opened) c.open_all.ensures.opened

pub returns-clause-went_on : goal.returns-clause-went_on
returns-clause-went_on g c =
    let v = on_heap g.V.Vault in
    let old = c.args.areas in
    let mid = c.make_durable.new.areas in
    on_fault c.open_all.result (λ f. AreLeft v mid f.areas) (λ f. AllGoOn (pasts_of v old) (pasts_of v f.areas))
    (λ f left. left_on v old mid f.areas c.in_default.ensures.go_on left) c.open_all.ensures.left
