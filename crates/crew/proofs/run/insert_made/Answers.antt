use Rattle.std.proofs.Common.{◌≡◌, true, subst}
use Rattle.std.specs.Prelude.{IfOk, Result}
use Rattle.lsn_core.specs.declared.fault.NoMemory.{NoMemory}
use Rattle.history.specs.declared.op.Op.{Op}
use Rattle.shared_store.specs.Shared.{HasInserted, HasRefused}
use Rattle.crew.proofs.Steps.{inserted, refused, not_made}
use Rattle.crew.proofs.run.insert_made.Goals as goal

pub returns-in_default : goal.returns-in_default
returns-in_default g c = λ asked e. not_made (g.J.OfStore.tells ≡ true) g.J.OfCrew.settings.segment asked c.args.pass.now c.know.ensures.lawful

pub returns-in-Ok-insert_command : goal.returns-in-Ok-insert_command
returns-in-Ok-insert_command g c = λ asked e.
    let same : c.in-Ok.op ≡ asked = subst (λ (r : Result Op NoMemory). IfOk r (λ op. op ≡ asked)) c.in-Ok.is e in
    inserted (g.J.OfStore.tells ≡ true) g.J.OfCrew.settings.segment asked c.args.pass.now c.insert_command.new.pass c.in-Ok-insert_command.receipt
    (subst (λ (op : Op). HasInserted (g.J.OfStore.tells ≡ true) g.J.OfCrew.settings.segment op c.args.pass.now c.insert_command.new.pass c.in-Ok-insert_command.receipt) same c.in-Ok-insert_command.ensures.answer)
    c.insert_command.ensures.seen c.insert_command.ensures.marks c.in-Ok-insert_command.ensures.faults

pub returns : goal.returns
returns g c = λ asked e.
    let same : c.in-Ok.op ≡ asked = subst (λ (r : Result Op NoMemory). IfOk r (λ op. op ≡ asked)) c.in-Ok.is e in
    refused (g.J.OfStore.tells ≡ true) g.J.OfCrew.settings.segment asked c.args.pass.now c.insert_command.new.pass c.in-Err.fault
    (subst (λ (op : Op). HasRefused (g.J.OfStore.tells ≡ true) g.J.OfCrew.settings.segment op c.args.pass.now c.insert_command.new.pass c.in-Err.fault) same c.in-Err.ensures.answer)
    c.insert_command.ensures.seen c.insert_command.ensures.marks c.in-Err.ensures.faults
