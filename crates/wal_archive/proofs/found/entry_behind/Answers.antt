use Rattle.std.proofs.Common.{◌≤◌, arith}
use Rattle.std.proofs.Common.{length}
use Rattle.wal_pages.specs.Places.{head_size}
use Rattle.wal_archive.proofs.Founds.{start_near, start_is_eight, start_at_page}
use Rattle.wal_archive.proofs.found.entry_behind.Goals as goal

pub entry_on-requires-clause-behind : goal.entry_on-requires-clause-behind
entry_on-requires-clause-behind g c = λ κ l.
    let some : 1 ≤ c.args.size = omega
    (arith, c.mib-mib.ensures.value, c.mib-mib.ensures.range.least) in
    let s = start_near c.args.size c.args.end c.args.start some c.requires.start in
    s.behind

pub entry_on-requires-clause-page : goal.entry_on-requires-clause-page
entry_on-requires-clause-page g c = λ κ l.
    let some : 1 ≤ c.args.size = omega
    (arith, c.mib-mib.ensures.value, c.mib-mib.ensures.range.least) in
    let e = start_is_eight c.args.size c.args.end c.args.start some c.requires.eight
    c.requires.start in
    omega (arith, e)

pub entry_on-requires-clause-bound : goal.entry_on-requires-clause-bound
entry_on-requires-clause-bound g c = λ κ l.
    let some : 1 ≤ c.args.size = omega
    (arith, c.mib-mib.ensures.value, c.mib-mib.ensures.range.least) in
    let s = start_near c.args.size c.args.end c.args.start some c.requires.start in
    omega (arith, s.near, c.requires.bound)

pub entry_on-requires-2-clause-behind : goal.entry_on-requires-2-clause-behind
entry_on-requires-2-clause-behind g c = λ κ l.
    let some : 1 ≤ c.args.size = omega
    (arith, c.mib-mib.ensures.value, c.mib-mib.ensures.range.least) in
    let s = start_near c.args.size c.args.end c.args.start some c.requires.start in
    s.behind

pub entry_on-requires-2-clause-order : goal.entry_on-requires-2-clause-order
entry_on-requires-2-clause-order g c = λ κ l.
    let some : 1 ≤ c.args.size = omega
    (arith, c.mib-mib.ensures.value, c.mib-mib.ensures.range.least) in
    let s = start_near c.args.size c.args.end c.args.start some c.requires.start in
    s.after

pub entry_on-requires-2-clause-page : goal.entry_on-requires-2-clause-page
entry_on-requires-2-clause-page g c = λ κ l.
    let some : 1 ≤ c.args.size = omega
    (arith, c.mib-mib.ensures.value, c.mib-mib.ensures.range.least) in
    let s = start_near c.args.size c.args.end c.args.start some c.requires.start in
    omega (arith, s.near, s.after, c.if-end-ne0.false)

pub entry_on-requires-2-clause-bound : goal.entry_on-requires-2-clause-bound
entry_on-requires-2-clause-bound g c = λ κ l.
    let some : 1 ≤ c.args.size = omega
    (arith, c.mib-mib.ensures.value, c.mib-mib.ensures.range.least) in
    let s = start_near c.args.size c.args.end c.args.start some c.requires.start in
    omega (arith, s.near, c.requires.bound)

pub entry_on-requires-2-clause-held : goal.entry_on-requires-2-clause-held
entry_on-requires-2-clause-held g c = λ κ l.
    let some : 1 ≤ c.args.size = omega
    (arith, c.mib-mib.ensures.value, c.mib-mib.ensures.range.least) in
    let at = start_at_page c.args.size c.args.end c.args.start some
    (omega (arith, c.if-end-ne0.false)) c.requires.start in
    let held : head_size c.args.size c.args.end ≤ length c.args.front.now =
    c.in_default.ensures.held in
    omega (arith, at, held)
