-- The mark is removed, and durably so.
use Rattle.std.proofs.Common.{refl}
use Rattle.vault.proofs.Changed.{changes_on}
use Rattle.data_areas.specs.Marking.{rebuilding_name, IsMark}
use Rattle.data_areas.proofs.Marks.{removal_changes, sync_changes, anyway, gone}
use Rattle.data_areas.proofs.marking.unmark_rebuilding.Goals as goal

pub returns-in_err-remove-clause-changes : goal.returns-in_err-remove-clause-changes
returns-in_err-remove-clause-changes g c =
    let r = c.remove.ensures in
    removal_changes g.V.Vault IsMark rebuilding_name c.args.area.now c.remove.new.self c.remove.result refl r.removed r.memory r.failed r.noted r.tried r.cause.later

pub returns-clause-gone : goal.returns-clause-gone
returns-clause-gone g c =
    anyway c.sync.result _ (gone rebuilding_name (g.V.Vault.files c.args.area.now) (g.V.Vault.files c.remove.new.self) (g.V.Vault.files c.sync.new.self) c.in_ok-remove.ensures.removed c.sync.ensures.same)

pub returns-clause-changes : goal.returns-clause-changes
returns-clause-changes g c =
    let r = c.remove.ensures in
    let s = c.sync.ensures in
    changes_on g.V.Vault IsMark c.args.area.now c.remove.new.self c.sync.new.self
    (removal_changes g.V.Vault IsMark rebuilding_name c.args.area.now c.remove.new.self c.remove.result refl r.removed r.memory r.failed r.noted r.tried r.cause.later)
    (sync_changes g.V.Vault IsMark c.remove.new.self c.sync.new.self c.sync.result s.same s.noted s.tried s.cause.later)
