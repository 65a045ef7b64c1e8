-- The entry comes next, and so many bytes does it take.
use Rattle.std.proofs.Common.{◌≡◌, ℕ, length, ap, ◌∙◌, arith}
use Rattle.lsn_core.specs.Segment.{StoreSettings}
use Rattle.lsn_core.specs.Tip.{Tip}
use Rattle.wal_pages.specs.Places.{start_after, end_of}
use Rattle.wal_pages.specs.Spread.{spread}
use Rattle.wal_record.specs.Spelling.{total_of}
use Rattle.wal_writer.proofs.Ready.{record_from, length_sealed, total_most, start_bound, prepared}
use Rattle.wal_writer.proofs.prepared.prepare.Goals as goal

pub overflow_cast-len : goal.overflow_cast-len
overflow_cast-len c = omega (
  arith,
  c.len.ensures,
  ap length c.in_ok-flat.ensures,
  length_sealed
      (record_from c.start_after-start.result.0 c.start_after-start.result.0 c.tip.inside.prev.0
      c.args.kind),
  total_most c.args.kind c.requires.kind,
)

pub end_of-entry-requires : goal.end_of-entry-requires
end_of-entry-requires c =
    let seg : c.segment.result ≡ c.args.layout.segment = c.segment.ensures.value
    ∙ ap (λ (s : StoreSettings). s.segment) c.settings.ensures in
    let start : c.start_after-start.result.0 ≡ start_after c.args.layout.segment c.args.tip.end =
    c.start_after-start.ensures ∙ ap (λ (t : Tip). start_after c.args.layout.segment t.end)
    c.tip.view_is in
    omega (
      arith,
      start,
      start_bound c.args.layout.segment c.args.tip.end (omega (
        arith,
        seg,
        c.segment.ensures.range.least,
      )) (omega (arith, seg, c.segment.ensures.range.most))
          c.requires.tip.most,
    )

pub returns-then-entry-limit : goal.returns-then-entry-limit
returns-then-entry-limit c =
    let seg : c.segment.result ≡ c.args.layout.segment = c.segment.ensures.value
    ∙ ap (λ (s : StoreSettings). s.segment) c.settings.ensures in
    let start : c.start_after-start.result.0 ≡ start_after c.args.layout.segment c.args.tip.end =
    c.start_after-start.ensures ∙ ap (λ (t : Tip). start_after c.args.layout.segment t.end)
    c.tip.view_is in
    let size : c.len.result ≡ total_of c.args.kind = omega (
      arith,
      c.len.ensures,
      ap length c.in_ok-flat.ensures,
      length_sealed (record_from c.start_after-start.result.0
          c.start_after-start.result.0 c.tip.inside.prev.0 c.args.kind),
    ) in
    let end : c.end_of-entry.result.0 ≡ end_of c.args.layout.segment
    (start_after c.args.layout.segment c.args.tip.end) (total_of c.args.kind) =
    c.end_of-entry.ensures.end ∙ ap (λ n. end_of c.args.layout.segment n c.len.result) start
    ∙ ap (end_of c.args.layout.segment (start_after c.args.layout.segment c.args.tip.end)) size
    in
    omega (arith, end, seg, c.wal_limit-limit.ensures, c.if-entry-limit.true)

pub spread-requires-clause-least : goal.spread-requires-clause-least
spread-requires-clause-least c = omega (
  arith,
  ap length c.deref.ensures.value,
  ap length c.in_ok-flat.ensures,
  length_sealed (record_from c.start_after-start.result.0
      c.start_after-start.result.0 c.tip.inside.prev.0 c.args.kind),
)

pub spread-requires-clause-most : goal.spread-requires-clause-most
spread-requires-clause-most c = omega (
  arith,
  ap length c.deref.ensures.value,
  ap length c.in_ok-flat.ensures,
  length_sealed (record_from c.start_after-start.result.0
      c.start_after-start.result.0 c.tip.inside.prev.0 c.args.kind),
  total_most c.args.kind
      c.requires.kind,
)

pub returns : goal.returns
returns c =
    let seg : c.segment.result ≡ c.args.layout.segment = c.segment.ensures.value
    ∙ ap (λ (s : StoreSettings). s.segment) c.settings.ensures in
    let mib : ℕ = c.args.layout.segment in
    let start : c.start_after-start.result.0 ≡ start_after mib c.args.tip.end =
    c.start_after-start.ensures ∙ ap (λ (t : Tip). start_after mib t.end) c.tip.view_is in
    let size : c.len.result ≡ total_of c.args.kind = omega (
      arith,
      c.len.ensures,
      ap length c.in_ok-flat.ensures,
      length_sealed (record_from c.start_after-start.result.0
          c.start_after-start.result.0 c.tip.inside.prev.0 c.args.kind),
    ) in
    let end : c.end_of-entry.result.0 ≡ end_of mib (start_after mib c.args.tip.end)
    (total_of c.args.kind) = c.end_of-entry.ensures.end ∙ ap (λ n. end_of mib n c.len.result)
    start ∙ ap (end_of mib (start_after mib c.args.tip.end)) size in
    prepared mib c.args.layout.system c.args.tip c.start_after-start.result.0
    c.end_of-entry.result.0 c.tip.inside.prev.0 c.args.kind c.in_ok-bytes.bytes.items
    c.deref.result.now
    (omega (arith, seg, c.segment.ensures.range.least)) c.requires.tip start end
    (ap (λ (t : Tip). t.prev) c.tip.view_is) (omega (
      arith,
      seg,
      c.wal_limit-limit.ensures,
      c.if-entry-limit.false,
    )) (c.deref.ensures.value ∙ c.in_ok-flat.ensures)
    (c.in_ok-bytes.ensures ∙ ap (λ (t : Tip). spread mib c.args.layout.system t.end
    c.deref.result.now) c.tip.view_is)
