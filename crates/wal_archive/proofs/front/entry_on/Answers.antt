use Rattle.std.proofs.Common.{rules, ◌+◌, ◌-◌, ◌%◌, length, refl, sym, ◌∙◌, arith}
use Rattle.wal_archive.specs.Rules.{entry_at, entry_bytes}
use Rattle.wal_archive.proofs.Fronts.{on_short, on_bad, on_page, on_cut, on_first, first_length, first_number, on_long, says_as}
use Rattle.wal_archive.proofs.front.entry_on.Goals as goal

pub returns-then-front-at-clause-entry : goal.returns-then-front-at-clause-entry
returns-then-front-at-clause-entry g c =
    on_short (g.V.Vault.files c.args.area.now) c.args.size c.args.system c.args.x c.args.start
    (c.args.x + length c.args.front.now) (8192 - c.args.x % 8192) c.args.front.now
    c.in_ok-damage.damage refl c.requires.order c.requires.held
    (omega (arith, c.if-front-at.true)) (omega (arith, c.requires.page)) c.requires.front
    c.in_ok-damage.ensures.why

pub returns-then-not-is_total-clause-entry : goal.returns-then-not-is_total-clause-entry
returns-then-not-is_total-clause-entry g c =
    on_bad (g.V.Vault.files c.args.area.now) c.args.size c.args.system c.args.x c.args.start
    c.u32_in-total.result (8192 - c.args.x % 8192) c.args.front.now c.requires.order
    (omega (arith, c.if-front-at.false)) c.u32_in-total.ensures
    (sym c.is_total.ensures.total ∙ c.if-not-is_total.true) c.requires.front

pub returns-then-at-total-clause-entry : goal.returns-then-at-total-clause-entry
returns-then-at-total-clause-entry g c =
    on_page (g.V.Vault.files c.args.area.now) c.args.size c.args.system c.args.x c.args.start
    c.u32_in-total.result c.args.front.now c.in_ok-bytes.bytes.items c.requires.order
    c.requires.page (omega (arith, c.if-front-at.false)) c.u32_in-total.ensures
    (sym c.is_total.ensures.total ∙ c.if-not-is_total.false)
    (search rules) (omega (arith, c.if-at-total.true)) c.requires.most
    c.in_ok-bytes.ensures c.requires.front

pub returns-then-front-x-clause-entry : goal.returns-then-front-x-clause-entry
returns-then-front-x-clause-entry g c =
    on_cut (g.V.Vault.files c.args.area.now) c.args.size c.args.system c.args.x c.args.start
    (c.args.x + length c.args.front.now) c.u32_in-total.result c.args.front.now
    c.in_ok-damage-2.damage refl c.requires.order c.requires.page
    (omega (arith, c.if-front-at.false)) c.u32_in-total.ensures
    (sym c.is_total.ensures.total ∙ c.if-not-is_total.false) (search rules)
    (omega (arith, c.if-at-total.false)) (omega (arith, c.if-front-x.true)) c.requires.front
    c.in_ok-damage-2.ensures.why

pub returns-clause-entry : goal.returns-clause-entry
returns-clause-entry g c =
    says_as (λ a. entry_bytes a c.args.size c.args.system c.args.start c.u32_in-total.result
    c.args.start c.u32_in-total.result)
    (λ a. entry_at a c.args.size c.args.system c.args.start) (λ bytes. bytes.items) c.args.size
    (g.V.Vault.files c.args.area.now) (g.V.Vault.faults c.args.area.now)
    (g.V.Vault.faults c.long_entry.new.area) c.long_entry.result
    (on_long (g.V.Vault.files c.args.area.now) c.args.size c.args.system c.args.x c.args.start
    c.u32_in-total.result (8192 - c.args.x % 8192) c.args.front.now c.requires.order
    (omega (arith, c.if-front-at.false)) c.u32_in-total.ensures
    (sym c.is_total.ensures.total ∙ c.if-not-is_total.false) c.requires.front)
    c.long_entry.ensures.bytes

pub long_entry-requires-clause-room : goal.long_entry-requires-clause-room
long_entry-requires-clause-room g c = λ κ l.
    let n = first_length c.args.front.now c.in_ok-first.first.items (c.args.start - c.args.x)
    c.in_ok-first.ensures in
    omega (arith, n, c.requires.order, c.requires.page, c.requires.most, c.if-front-x.false)

pub long_entry-requires-clause-more : goal.long_entry-requires-clause-more
long_entry-requires-clause-more g c = λ κ l.
    let n = first_length c.args.front.now c.in_ok-first.first.items (c.args.start - c.args.x)
    c.in_ok-first.ensures in
    omega (arith, n, c.if-at-total.false, c.requires.held)

pub long_entry-requires-clause-four : goal.long_entry-requires-clause-four
long_entry-requires-clause-four g c = λ κ l.
    let n = first_length c.args.front.now c.in_ok-first.first.items (c.args.start - c.args.x)
    c.in_ok-first.ensures in
    omega (arith, n, c.if-front-at.false)

pub long_entry-requires-clause-number : goal.long_entry-requires-clause-number
long_entry-requires-clause-number g c = λ κ l.
    first_number c.args.front.now c.in_ok-first.first.items (c.args.start - c.args.x)
    (omega (arith, c.if-front-at.false)) c.in_ok-first.ensures
    ∙ sym c.u32_in-total.ensures

pub long_entry-requires-clause-first : goal.long_entry-requires-clause-first
long_entry-requires-clause-first g c = λ κ l.
    on_first (g.V.Vault.files c.args.area.now) c.args.size c.args.x c.args.start
    (8192 - c.args.x % 8192) c.args.front.now c.in_ok-first.first.items c.requires.order
    c.requires.held c.in_ok-first.ensures c.requires.front
