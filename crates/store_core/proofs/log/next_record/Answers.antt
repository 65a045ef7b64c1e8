use Rattle.std.proofs.Common.{ℕ, length, List, refl, ap, ◌∙◌, arith}
use Rattle.lsn_core.specs.Segment.{StoreSettings}
use Rattle.lsn_core.specs.Tip.{tip_with}
use Rattle.wal_pages.specs.Places.{start_after, end_of}
use Rattle.wal_record.specs.Spelling.{total_of}
use Rattle.wal_record.specs.Tips.{wal_limit}
use Rattle.wal_record.proofs.Sealed.{length-sealed}
use Rattle.store_core.proofs.Logs.{late_start, late_end, next_is}
use Rattle.store_core.proofs.log.next_record.Goals as goal

pub returns-then-last-limit : goal.returns-then-last-limit
returns-then-last-limit c =
    late_end c.args.settings.now.segment c.args.last.0 (wal_limit c.args.settings.now.segment) (total_of c.args.kind) (omega (arith, c.segment.ensures.range.least, c.segment.ensures.value)) (omega arith)
    (omega (arith, c.if-last-limit.true, c.wal_limit-limit.ensures, c.segment.ensures.value))

pub returns-then-start-limit : goal.returns-then-start-limit
returns-then-start-limit c =
    late_start c.args.settings.now.segment c.args.last.0 (wal_limit c.args.settings.now.segment) (total_of c.args.kind) (omega (arith, c.segment.ensures.range.least, c.segment.ensures.value)) (omega arith)
    (let start = c.start_after-start.ensures ∙ ap (λ (l : StoreSettings). start_after l.segment c.args.last.0) c.new-layout.ensures in
    omega (arith, c.if-start-limit.true, c.wal_limit-limit.ensures, c.segment.ensures.value, start))

pub returns-then-end-limit : goal.returns-then-end-limit
returns-then-end-limit c =
    let start = c.start_after-start.ensures ∙ ap (λ (l : StoreSettings). start_after l.segment c.args.last.0) c.new-layout.ensures in
    let size = c.in_ok-total.ensures ∙ (c.len.ensures ∙ c.in_ok-encode_record.field-0.ok.0) ∙ ap (λ (bs : List ℕ). length bs) c.in_ok-encode_record.ensures ∙ length-sealed (record { start = c.start_after-start.result; end = c.start_after-start.result; prev = c.args.prev; xid = 0; kind = c.args.kind }) in
    let end = c.end_of-end.ensures.end ∙ ap (λ (l : StoreSettings). end_of l.segment c.start_after-start.result.0 c.in_ok-total.total) c.new-layout.ensures
    ∙ ap (λ (n : ℕ). end_of c.args.settings.now.segment n c.in_ok-total.total) start ∙ ap (end_of c.args.settings.now.segment (start_after c.args.settings.now.segment c.args.last.0)) size in
    omega (arith, c.if-end-limit.true, c.wal_limit-limit.ensures, c.segment.ensures.value, end)

pub returns : goal.returns
returns c =
    let start = c.start_after-start.ensures ∙ ap (λ (l : StoreSettings). start_after l.segment c.args.last.0) c.new-layout.ensures in
    let size = c.in_ok-total.ensures ∙ (c.len.ensures ∙ c.in_ok-encode_record.field-0.ok.0) ∙ ap (λ (bs : List ℕ). length bs) c.in_ok-encode_record.ensures ∙ length-sealed (record { start = c.start_after-start.result; end = c.start_after-start.result; prev = c.args.prev; xid = 0; kind = c.args.kind }) in
    let end = c.end_of-end.ensures.end ∙ ap (λ (l : StoreSettings). end_of l.segment c.start_after-start.result.0 c.in_ok-total.total) c.new-layout.ensures
    ∙ ap (λ (n : ℕ). end_of c.args.settings.now.segment n c.in_ok-total.total) start ∙ ap (end_of c.args.settings.now.segment (start_after c.args.settings.now.segment c.args.last.0)) size in (
      next_is c.args.settings.now.segment (tip_with c.args.last.0 c.args.prev.0 0 0) c.args.kind c.start_after-start.result c.end_of-end.result c.args.prev start end refl,
      omega (arith, c.if-end-limit.false, c.wal_limit-limit.ensures, c.segment.ensures.value),
    )
