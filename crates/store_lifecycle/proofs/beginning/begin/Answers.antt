-- What was found is lawful, whether a store is begun or not.
use Rattle.std.proofs.Common.{List, sym, subst}
use Rattle.lsn_core.specs.Segment.{StoreSettings}
use Rattle.history.specs.Entry.{Entry}
use Rattle.journal.specs.Lawful.{IsLawful}
use Rattle.store_lifecycle.proofs.Starting.{lawful_found}
use Rattle.store_lifecycle.proofs.beginning.begin.Goals as goal

pub enlist-requires-clause-lawful : goal.enlist-requires-clause-lawful
enlist-requires-clause-lawful g c tell =
    let f = c.args.found in
    subst (λ (l : List Entry). IsLawful g.J.OfCrew.settings.segment l) (sym c.new-line.ensures)
    (subst (λ (s : StoreSettings). IsLawful s.segment f.opened.list) c.requires.names.2 (lawful_found g.V.Vault f.settings f.wal f.opened.list f.pages f.tip c.know_tip-wal.ensures.known c.requires.stands.is (c.requires.told tell)))

pub returns-in-Err-clause-lawful : goal.returns-in-Err-clause-lawful
returns-in-Err-clause-lawful g c =
    let f = c.args.found in
    λ tell. subst (λ (l : List Entry). IsLawful g.J.OfCrew.settings.segment l) c.requires.names.1
    (subst (λ (s : StoreSettings). IsLawful s.segment f.opened.list) c.requires.names.2 (lawful_found g.V.Vault f.settings f.wal f.opened.list f.pages f.tip c.know_tip-wal.ensures.known c.requires.stands.is (c.requires.told tell)))

pub returns-in-Err-new-clause-lawful : goal.returns-in-Err-new-clause-lawful
returns-in-Err-new-clause-lawful g c =
    let f = c.args.found in
    λ tell. subst (λ (l : List Entry). IsLawful g.J.OfCrew.settings.segment l) c.requires.names.1
    (subst (λ (s : StoreSettings). IsLawful s.segment f.opened.list) c.requires.names.2 (lawful_found g.V.Vault f.settings f.wal f.opened.list f.pages f.tip c.know_tip-wal.ensures.known c.requires.stands.is (c.requires.told tell)))
