use Rattle.std.proofs.Common.{ℕ, ◌≤◌, ◌∙◌, arith}
use Rattle.std.specs.Global.{Vec}
use Rattle.wal_archive.specs.Rules.{next_bytes}
use Rattle.wal_archive.specs.Reading.{ended, entry_behind, items_of}
use Rattle.wal_archive.proofs.Fronts.{says_err}
use Rattle.wal_archive.proofs.Founds.{start_near, place_le_start, place_ge_end, next_stop, next_ends, next_some, next_wrong}
use Rattle.wal_archive.proofs.found.next_from.Goals as goal

pub is_ended-requires-clause-order : goal.is_ended-requires-clause-order
is_ended-requires-clause-order g c = λ κ l.
    let some : 1 ≤ c.args.size = omega
    (arith, c.mib-mib.ensures.value, c.mib-mib.ensures.range.least) in
    let s = start_near c.args.size c.args.end c.args.start some c.requires.start in
    place_le_start c.args.end c.args.start s.after

pub is_ended-requires-clause-near : goal.is_ended-requires-clause-near
is_ended-requires-clause-near g c = λ κ l.
    let some : 1 ≤ c.args.size = omega
    (arith, c.mib-mib.ensures.value, c.mib-mib.ensures.range.least) in
    let s = start_near c.args.size c.args.end c.args.start some c.requires.start in
    let p = place_ge_end c.args.end c.args.start s.after in
    omega (arith, p, s.near)

pub returns-in-Err-clause-bytes : goal.returns-in-Err-clause-bytes
returns-in-Err-clause-bytes g c =
    says_err (λ a. ended a c.args.size c.args.system c.args.end)
    (λ a. next_bytes a c.args.size c.args.system c.args.end) (λ end. end) items_of c.args.size
    (g.V.Vault.files c.args.area.now) (g.V.Vault.files c.front_of.new.area)
    (g.V.Vault.faults c.args.area.now) (g.V.Vault.faults c.front_of.new.area)
    (g.V.Vault.faults c.is_ended.new.area) c.in-Err.fault
    c.in_ok-front.ensures.reads.files c.in_ok-front.ensures.reads.faults
    (next_stop (g.V.Vault.files c.args.area.now) c.args.size c.args.system c.args.end)
    c.in-Err.ensures.ended

pub returns-then-ended-clause-bytes : goal.returns-then-ended-clause-bytes
returns-then-ended-clause-bytes g c =
    next_ends (g.V.Vault.files c.args.area.now) (g.V.Vault.files c.front_of.new.area) c.args.size
    c.args.system c.args.end c.in-Ok.ended c.in_ok-front.ensures.reads.files c.if-ended.true
    c.in-Ok.ensures.ended

pub returns-in-Ok-entry_behind-clause-bytes : goal.returns-in-Ok-entry_behind-clause-bytes
returns-in-Ok-entry_behind-clause-bytes g c =
    next_some (g.V.Vault.files c.args.area.now) (g.V.Vault.files c.front_of.new.area)
    (g.V.Vault.files c.is_ended.new.area) c.args.size c.args.system c.args.end c.in-Ok.ended
    c.in-Ok-entry_behind.bytes.items c.in_ok-front.ensures.reads.files
    (c.in-Ok.ensures.reads.files ∙ c.in_ok-front.ensures.reads.files) c.if-ended.false
    c.in-Ok.ensures.ended
    c.in-Ok-entry_behind.ensures.entry

pub returns-clause-bytes : goal.returns-clause-bytes
returns-clause-bytes g c =
    says_err (λ a. entry_behind a c.args.size c.args.system c.args.end)
    (λ a. next_bytes a c.args.size c.args.system c.args.end) (λ (bytes : Vec ℕ). bytes.items)
    items_of
    c.args.size (g.V.Vault.files c.args.area.now) (g.V.Vault.files c.is_ended.new.area)
    (g.V.Vault.faults c.args.area.now) (g.V.Vault.faults c.is_ended.new.area)
    (g.V.Vault.faults c.entry_behind.new.area) c.in-Err-entry_behind.fault
    (c.in-Ok.ensures.reads.files ∙ c.in_ok-front.ensures.reads.files)
    (omega (arith, c.in-Ok.ensures.reads.faults, c.in_ok-front.ensures.reads.faults))
    (next_wrong (g.V.Vault.files c.args.area.now) (g.V.Vault.files c.front_of.new.area)
    c.args.size c.args.system c.args.end c.in-Ok.ended c.in_ok-front.ensures.reads.files
    c.if-ended.false c.in-Ok.ensures.ended)
    c.in-Err-entry_behind.ensures.entry
