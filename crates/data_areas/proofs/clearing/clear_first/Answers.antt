-- The mark is written, and then other files are removed.
use Rattle.vault.specs.Frame.{IsAmong}
use Rattle.data_areas.specs.Marking.{IsMark, IsOther}
use Rattle.data_areas.proofs.Moments.{goes_on, goes_further}
use Rattle.data_areas.proofs.clearing.clear_first.Goals as goal

pub returns-clause-goes_on : goal.returns-clause-goes_on
returns-clause-goes_on g c =
    let p = g.V.Vault.past in
    goes_further (p c.args.area.now) (p c.mark_rebuilding.new.area) (p c.clear_marked.new.area)
    (goes_on (IsAmong IsMark) (p c.args.area.now) (p c.mark_rebuilding.new.area) c.mark_rebuilding.ensures.changes.past)
    (goes_on (IsAmong IsOther) (p c.mark_rebuilding.new.area) (p c.clear_marked.new.area) c.clear_marked.ensures.changes.past)
