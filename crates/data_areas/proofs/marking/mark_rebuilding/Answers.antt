-- The mark is written, and then durable.
use Rattle.std.proofs.Common.{[], refl, arith}
use Rattle.vault.specs.Stops.{wrote}
use Rattle.vault.specs.Frame.{Has}
use Rattle.vault.proofs.Through.{settled, adds_by, adds_on, adds_sync}
use Rattle.vault.proofs.Changed.{changes_on}
use Rattle.data_areas.specs.Marking.{rebuilding_name, IsMark, IsMarking}
use Rattle.data_areas.proofs.Marks.{write_changes, sync_changes, anyway, made_there, durable}
use Rattle.data_areas.proofs.marking.mark_rebuilding.Goals as goal

pub returns-in_err-write_at-clause-changes : goal.returns-in_err-write_at-clause-changes
returns-in_err-write_at-clause-changes g c =
    let w = c.write_at.ensures in
    write_changes g.V.Vault IsMark rebuilding_name 0 [] c.args.area.now c.write_at.new.self c.write_at.result refl w.written w.memory w.failed w.noted w.tried w.cause.later

pub returns-clause-there : goal.returns-clause-there
returns-clause-there g c =
    anyway c.sync.result _ (made_there rebuilding_name (g.V.Vault.files c.args.area.now) (g.V.Vault.files c.write_at.new.self) (g.V.Vault.files c.sync.new.self) c.in_ok-write_at.ensures.written c.sync.ensures.same)

pub returns-clause-marked : goal.returns-clause-marked
returns-clause-marked g c =
    let f = g.V.Vault.files in
    let there = made_there rebuilding_name (f c.args.area.now) (f c.write_at.new.self) (f c.sync.new.self) c.in_ok-write_at.ensures.written c.sync.ensures.same in
    durable (Has rebuilding_name) c.sync.result (f c.sync.new.self) (g.V.Vault.past c.sync.new.self)
    (settled c.sync.result (f c.write_at.new.self) (f c.sync.new.self) (g.V.Vault.past c.write_at.new.self) (g.V.Vault.past c.sync.new.self) c.sync.ensures.same c.sync.ensures.noted) there

pub returns-clause-changes : goal.returns-clause-changes
returns-clause-changes g c =
    let w = c.write_at.ensures in
    let s = c.sync.ensures in
    changes_on g.V.Vault IsMark c.args.area.now c.write_at.new.self c.sync.new.self
    (write_changes g.V.Vault IsMark rebuilding_name 0 [] c.args.area.now c.write_at.new.self c.write_at.result refl w.written w.memory w.failed w.noted w.tried w.cause.later)
    (sync_changes g.V.Vault IsMark c.write_at.new.self c.sync.new.self c.sync.result s.same s.noted s.tried s.cause.later)

pub returns-in_err-write_at-clause-marking : goal.returns-in_err-write_at-clause-marking
returns-in_err-write_at-clause-marking g c =
    let w = c.write_at.ensures in
    adds_by IsMarking (wrote rebuilding_name 0 []) (g.V.Vault.past c.args.area.now) (g.V.Vault.past c.write_at.new.self) c.write_at.result (refl, omega arith) w.noted w.tried

pub returns-clause-marking : goal.returns-clause-marking
returns-clause-marking g c =
    let w = c.write_at.ensures in
    let s = c.sync.ensures in
    let p = g.V.Vault.past in
    adds_on IsMarking (p c.args.area.now) (p c.write_at.new.self) (p c.sync.new.self)
    (adds_by IsMarking (wrote rebuilding_name 0 []) (p c.args.area.now) (p c.write_at.new.self) c.write_at.result (refl, omega arith) w.noted w.tried)
    (adds_sync IsMarking (g.V.Vault.files c.write_at.new.self) (p c.write_at.new.self) (p c.sync.new.self) c.sync.result tt s.noted s.tried)
