use Rattle.std.proofs.Common.{◌≡◌, ℕ, ◌∙◌, arith}
use Rattle.std.specs.Global.{Vec}
use Rattle.wal_archive.specs.Rules.{set_bytes, set_heads, entry_at}
use Rattle.wal_archive.specs.Reading.{zeros_from, items_of}
use Rattle.wal_archive.proofs.Fronts.{says_err}
use Rattle.wal_archive.proofs.Founds.{starts_there, set_stop, set_ends, set_heads_wrong, set_some, set_wrong, zero_for}
use Rattle.wal_archive.proofs.found.set_from.Goals as goal

pub returns-in-Err-clause-bytes : goal.returns-in-Err-clause-bytes
returns-in-Err-clause-bytes g c =
    let may = starts_there c.args.size c.args.from c.requires.eight c.requires.behind in
    says_err (λ a. zeros_from a c.args.size c.args.from)
    (λ a. set_bytes a c.args.size c.args.system c.args.from) (λ zeros. zeros) items_of c.args.size
    (g.V.Vault.files c.args.area.now) (g.V.Vault.files c.front_of.new.area)
    (g.V.Vault.faults c.args.area.now) (g.V.Vault.faults c.front_of.new.area)
    (g.V.Vault.faults c.is_set_end.new.area) c.in-Err.fault
    c.in_ok-front.ensures.reads.files c.in_ok-front.ensures.reads.faults
    (set_stop (g.V.Vault.files c.args.area.now) c.args.size c.args.system c.args.from may)
    c.in-Err.ensures.zeros

pub returns-then-zeros-clause-bytes : goal.returns-then-zeros-clause-bytes
returns-then-zeros-clause-bytes g c =
    let may = starts_there c.args.size c.args.from c.requires.eight c.requires.behind in
    set_ends (g.V.Vault.files c.args.area.now) (g.V.Vault.files c.front_of.new.area) c.args.size
    c.args.system c.args.from c.in-Ok.zeros may c.in_ok-front.ensures.reads.files c.if-zeros.true
    c.in-Ok.ensures.zeros

pub returns-in-Err-pass_set_heads-clause-bytes : goal.returns-in-Err-pass_set_heads-clause-bytes
returns-in-Err-pass_set_heads-clause-bytes g c =
    let may = starts_there c.args.size c.args.from c.requires.eight c.requires.behind in
    says_err (λ a. set_heads a c.args.size c.args.system c.args.from)
    (λ a. set_bytes a c.args.size c.args.system c.args.from) (λ done. zero_for done) items_of
    c.args.size (g.V.Vault.files c.args.area.now) (g.V.Vault.files c.is_set_end.new.area)
    (g.V.Vault.faults c.args.area.now) (g.V.Vault.faults c.is_set_end.new.area)
    (g.V.Vault.faults c.pass_set_heads.new.area) c.in-Err-pass_set_heads.fault
    (c.in-Ok.ensures.reads.files ∙ c.in_ok-front.ensures.reads.files)
    (omega (arith, c.in-Ok.ensures.reads.faults, c.in_ok-front.ensures.reads.faults))
    (set_heads_wrong (g.V.Vault.files c.args.area.now) (g.V.Vault.files c.front_of.new.area)
    c.args.size c.args.system c.args.from c.in-Ok.zeros may c.in_ok-front.ensures.reads.files
    c.if-zeros.false c.in-Ok.ensures.zeros)
    c.in-Err-pass_set_heads.ensures.heads

pub returns-in-Ok-entry_on-clause-bytes : goal.returns-in-Ok-entry_on-clause-bytes
returns-in-Ok-entry_on-clause-bytes g c =
    let may = starts_there c.args.size c.args.from c.requires.eight c.requires.behind in
    let set : g.V.Vault.files c.is_set_end.new.area ≡ g.V.Vault.files c.args.area.now =
    c.in-Ok.ensures.reads.files ∙ c.in_ok-front.ensures.reads.files in
    set_some (g.V.Vault.files c.args.area.now) (g.V.Vault.files c.front_of.new.area)
    (g.V.Vault.files c.is_set_end.new.area) (g.V.Vault.files c.pass_set_heads.new.area)
    c.args.size c.args.system c.args.from c.in-Ok.zeros c.in-Ok-entry_on.bytes.items may
    c.in_ok-front.ensures.reads.files set (c.in_default.ensures.reads.files ∙ set) c.if-zeros.false
    c.in-Ok.ensures.zeros c.in_default.ensures.heads c.in-Ok-entry_on.ensures.entry

pub returns-clause-bytes : goal.returns-clause-bytes
returns-clause-bytes g c =
    let may = starts_there c.args.size c.args.from c.requires.eight c.requires.behind in
    let set : g.V.Vault.files c.is_set_end.new.area ≡ g.V.Vault.files c.args.area.now =
    c.in-Ok.ensures.reads.files ∙ c.in_ok-front.ensures.reads.files in
    says_err (λ a. entry_at a c.args.size c.args.system c.args.from)
    (λ a. set_bytes a c.args.size c.args.system c.args.from) (λ (bytes : Vec ℕ). bytes.items)
    items_of
    c.args.size (g.V.Vault.files c.args.area.now) (g.V.Vault.files c.pass_set_heads.new.area)
    (g.V.Vault.faults c.args.area.now) (g.V.Vault.faults c.pass_set_heads.new.area)
    (g.V.Vault.faults c.entry_on.new.area) c.in-Err-entry_on.fault
    (c.in_default.ensures.reads.files ∙ set)
    (omega (
      arith,
      c.in_default.ensures.reads.faults,
      c.in-Ok.ensures.reads.faults,
      c.in_ok-front.ensures.reads.faults,
    ))
    (set_wrong (g.V.Vault.files c.args.area.now) (g.V.Vault.files c.front_of.new.area)
    (g.V.Vault.files c.is_set_end.new.area) c.args.size c.args.system c.args.from c.in-Ok.zeros may
    c.in_ok-front.ensures.reads.files set c.if-zeros.false c.in-Ok.ensures.zeros
    c.in_default.ensures.heads)
    c.in-Err-entry_on.ensures.entry
