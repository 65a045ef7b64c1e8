-- What the areas hold is shown.
use Rattle.restart_areas.proofs.Shown.{four_shown}
use Rattle.restart_areas.proofs.store_pages.StorePages.new.Goals as goal

pub returns-clause-shown : goal.returns-clause-shown
returns-clause-shown g c store has =
    four_shown g.V.Vault c.args.relseg c.args.areas store c.new.result c.new-2.result c.new-3.result c.new-4.result has c.new.ensures.held c.new-2.ensures.held c.new-3.ensures.held c.new-4.ensures.held
