use Rattle.std.proofs.Common.{◌≡◌, ◌<◌, ◌≤◌, true, Some, sym, ap, ◌∙◌, arith}
use Rattle.std.proofs.lemmas.Map.Keys.{le_from_is_le}
use Rattle.lsn_core.specs.Tip.{Tip}
use Rattle.lsn_core.specs.Segment.{StoreSettings}
use Rattle.wal_archive.specs.Rules.{lsn}
use Rattle.wal_pages.specs.Places.{start_after}
use Rattle.store_locks.proofs.Pieces.{not_le, whole_flushed, none_read, part_read, some_read, read_cause, keeps_read}
use Rattle.store_locks.proofs.reading.read_behind.Goals as goal

pub returns-then-le-clause-records : goal.returns-then-le-clause-records
returns-then-le-clause-records g c =
    let j = c.args.journal.now in
    let end = ap (λ (t : Tip). t.end) (c.tip.view_is ∙ c.tip-tip.ensures.tip) in
    let le : j.wal.tail.tip.end ≤ c.args.from.0 = (let k = le_from_is_le c.tip.inside.end.0 c.args.from.0 (sym c.le.ensures ∙ c.if-le.true) in omega (arith, end, k)) in
    none_read g.V.Vault c.args.settings.now (g.J.OfStore.tells ≡ true) j c.args.from.0 c.args.most c.new.result (whole_flushed j c.tip-tip.ensures.known c.tip-tip.ensures.ended c.requires.flushed) c.requires.wal c.know.ensures le c.new.ensures.items

pub returns-clause-records : goal.returns-clause-records
returns-clause-records g c =
    let j = c.args.journal.now in
    let new = c.read_flushed-read.new.self in
    let end = ap (λ (t : Tip). t.end) (c.tip.view_is ∙ c.tip-tip.ensures.tip) in
    let below : c.args.from.0 < j.wal.tail.tip.end = (let k = not_le c.tip.inside.end.0 c.args.from.0 (sym c.le.ensures ∙ c.if-le.false) in omega (arith, end, k)) in
    let starts : c.start_after-start.result.0 ≡ start_after c.args.settings.now.segment c.args.from.0 = c.start_after-start.ensures ∙ ap (λ (s : StoreSettings). start_after s.segment c.args.from.0) c.new-2.ensures in
    part_read g.V.Vault c.args.settings.now (g.J.OfStore.tells ≡ true) j new c.args.from.0 c.start_after-start.result.0 c.args.most (g.V.Vault.faults j.wal.area) (g.V.Vault.faults new.wal.area) c.read_flushed-read.result c.ended_at_damage.result
    (whole_flushed j c.tip-tip.ensures.known c.tip-tip.ensures.ended c.requires.flushed) c.requires.wal c.know.ensures c.requires.place below starts c.read_flushed-read.ensures.answer c.ended_at_damage.ensures c.read_flushed-read.ensures.reads.files c.read_flushed-read.ensures.pen

pub returns-clause-some : goal.returns-clause-some
returns-clause-some g c =
    let j = c.args.journal.now in
    let new = c.read_flushed-read.new.self in
    let starts : c.start_after-start.result.0 ≡ start_after c.args.settings.now.segment c.args.from.0 = c.start_after-start.ensures ∙ ap (λ (s : StoreSettings). start_after s.segment c.args.from.0) c.new-2.ensures in
    some_read c.args.settings.now (g.V.Vault.files j.wal.area) (Some (lsn j.wal.tail.flushed)) c.args.from.0 c.start_after-start.result.0 c.args.most (g.V.Vault.faults j.wal.area) (g.V.Vault.faults new.wal.area) c.read_flushed-read.result c.ended_at_damage.result starts
    c.read_flushed-read.ensures.answer c.ended_at_damage.ensures

pub returns-clause-cause : goal.returns-clause-cause
returns-clause-cause g c =
    let j = c.args.journal.now in
    let new = c.read_flushed-read.new.self in
    read_cause c.args.settings.now (g.V.Vault.files j.wal.area) (Some (lsn j.wal.tail.flushed)) c.start_after-start.result.0 c.args.most (g.V.Vault.faults j.wal.area) (g.V.Vault.faults new.wal.area) c.read_flushed-read.result c.ended_at_damage.result
    c.read_flushed-read.ensures.answer c.ended_at_damage.ensures

pub returns-clause-wal : goal.returns-clause-wal
returns-clause-wal g c =
    keeps_read g.V.Vault c.args.journal.now c.read_flushed-read.new.self c.tip-tip.ensures.known c.tip-tip.ensures.ended c.read_flushed-read.ensures.reads c.read_flushed-read.ensures.tail c.read_flushed-read.ensures.pen c.read_flushed-read.ensures.pages
