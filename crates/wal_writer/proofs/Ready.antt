-- The entry that comes next: how long it is, and where it ends.
use Rattle.std.proofs.Common.{◌≡◌, ℕ, zero, suc, ◌+◌, ◌-◌, ◌<◌, ◌≤◌, ◌^◌, ◌||◌, true, false, cond, List, length, ◌++◌, refl, sym, ap, subst, ◌∙◌, arith}
use Rattle.std.specs.Prelude.{◌==◌}
use Rattle.std.proofs.lemmas.List.FromFn.{length-map-range_with_len}
use Rattle.lsn_core.specs.byte_words.Numbers.{aligned}
use Rattle.lsn_core.specs.Segment.{StoreSettings}
use Rattle.lsn_core.specs.Tip.{Tip}
use Rattle.wal_pages.specs.Places.{place, flat_before, start_after, stop_of, end_of}
use Rattle.wal_pages.specs.Spread.{spread_byte, spread}
use Rattle.wal_pages.proofs.Splits.{place_rises, place_le, place_after, flat_place, stop_start}
use Rattle.wal_pages.proofs.Starts.{starts_aligned, ends_aligned}
use Rattle.wal_pages.proofs.Bounds.{flat_bound, place_bound}
use Rattle.wal_record.specs.declared.record.Record.{Record}
use Rattle.wal_record.specs.declared.record.Kind.{Kind}
use Rattle.wal_record.specs.Spelling.{total_of, spelling, sealed, IsWritable}
use Rattle.wal_record.specs.Tips.{is_redo_mark, redo_after, tip_after, record_at_tip, wal_limit, IsWithin}
use Rattle.wal_record.proofs.Lengths.{body_most}
use Rattle.wal_writer.specs.Log.{Log, log_of, entry_spread, appended, Ready, ready_of, IsPrepared, IsReady}

pub length_sealed : (r : Record) → length (sealed r) ≡ total_of r.kind
unfolding spelling
length_sealed r = omega arith

pub total_most : (kind : Kind) → IsWritable kind → total_of kind ≤ 4194304
total_most kind w = omega (arith, body_most kind w)

-- an entry of a kind at some places
abbrev pub record_from : ℕ → ℕ → ℕ → Kind → Record
record_from start end prev kind = record {
  start = record { 0 = start };
  end = record { 0 = end };
  prev = record { 0 = prev };
  xid = 0;
  kind = kind;
}

-- what is written doesn't depend on where it ends
pub sealed_ends : (start end other prev : ℕ) (kind : Kind)
    → sealed (record_from start end prev kind) ≡ sealed (record_from start other prev kind)
unfolding spelling
sealed_ends start end other prev kind = refl

length_spread : (mib system at : ℕ) (bytes : List ℕ) → length (spread mib system at bytes) ≡ end_of
    mib at (length bytes) - at
unfolding spread
length_spread mib system at bytes = length-map-range_with_len (spread_byte mib system
    (flat_before mib at) bytes) at (end_of mib at (length bytes) - at)

-- places are at least as far apart as their numbers
place_far : (mib f n : ℕ) → 1 ≤ mib → place mib f + n ≤ place mib (f + n)
place_far mib f zero some = (let e : place mib (f + 0) ≡ place mib f = ap (place mib)
    (let z : f + 0 ≡ f = omega arith in z) in omega (arith, e))
place_far mib f (suc n) some =
    let h = place_far mib f n some in
    let r = place_rises mib (f + n) (f + suc n) some (omega arith) in
    omega (arith, h, r)

pub start_bound : (mib end : ℕ) → 1 ≤ mib → mib ≤ 1024 → end ≤ wal_limit mib
    → start_after mib end ≤ 2 ^ 51
unfolding start_after
start_bound mib end some most within = omega (
  arith,
  place_bound mib (flat_before mib end) some,
  flat_bound mib end,
  most,
  within,
)

-- an entry of so many bytes ends at least so far behind an end
pub end_far : (mib end total : ℕ) → 1 ≤ mib → 0 < total → end + total ≤ end_of mib
    (start_after mib end) total
unfolding start_after stop_of
end_far mib end total some least =
    let f : ℕ = flat_before mib end in
    let same : flat_before mib (place mib f) ≡ f = flat_place mib f some in
    let p : place mib (flat_before mib (place mib f) + aligned total - 1) ≡ place mib
    (f + (aligned total - 1)) = ap (place mib) (let z : flat_before mib (place mib f) + aligned
    total - 1 ≡ f + (aligned total - 1) = omega (arith, same, least) in z) in
    omega (arith, p, place_far mib f (aligned total - 1) some, place_after mib end some, least)

-- it starts before it ends
start_before : (mib end total : ℕ) → 1 ≤ mib → 0 < total → start_after mib end ≤ end_of mib
    (start_after mib end) total
unfolding start_after stop_of
start_before mib end total some least =
    let f : ℕ = flat_before mib end in
    let same : flat_before mib (place mib f) ≡ f = flat_place mib f some in
    let le = place_le mib f (flat_before mib (place mib f) + aligned total - 1) some
    (omega (arith, same, least)) in
    omega (arith, le)

redo_before : (tip : Tip) (r : Record) (limit : ℕ) → tip.redo ≤ limit → r.start.0 ≤ limit
    → redo_after tip r ≤ limit
redo_before tip r limit old new = elim ((tip.count == 0) || is_redo_mark r.kind) as
    (λ b. cond b r.start.0 tip.redo ≤ limit) [ true ↦ new | false ↦ old ]

-- what is known of the entry that comes next
pub record Comes (mib system : ℕ) (tip : Tip) (kind : Kind) (bytes : List ℕ) : Type 0 where
  pub size : tip.end + length bytes ≡ (record_at_tip mib tip kind).end.0
  pub within : (record_at_tip mib tip kind).end.0 ≤ wal_limit mib
      → IsWithin mib (tip_after tip (record_at_tip mib tip kind))

pub comes : (mib system : ℕ) (tip : Tip) (kind : Kind) → 1 ≤ mib → IsWithin mib tip
    → Comes mib system tip kind (spread mib system tip.end (sealed (record_at_tip mib tip kind)))
comes mib system tip kind some is =
    let r : Record = record_at_tip mib tip kind in
    let total : length (sealed r) ≡ total_of kind = length_sealed r in
    let far = end_far mib tip.end (total_of kind) some (omega arith) in
    let same : end_of mib tip.end (length (sealed r)) ≡ r.end.0 = ap (end_of mib tip.end) total
    ∙ sym (stop_start mib tip.end (aligned (total_of kind)) some) in
    let start = starts_aligned mib tip.end some is.aligned in
    record {
      size = omega (arith, length_spread mib system tip.end (sealed r), same, far);
      within = λ most. record {
        aligned = ends_aligned mib tip.end (total_of kind) some is.aligned (omega arith);
        least = omega (arith, is.least, far);
        most = most;
        prev = start_before mib tip.end (total_of kind) some (omega arith);
        redo = redo_before tip r r.end.0 (omega (arith, is.redo, far)) (start_before mib tip.end
            (total_of kind) some (omega arith));
        count = omega (arith, is.count, far);
      };
    }

-- the entry and the bytes that were made are those that come next
pub prepared : (mib system : ℕ) (tip : Tip) (start end prev : ℕ) (kind : Kind) (bytes flat : List ℕ)
    → 1 ≤ mib → IsWithin mib tip → start ≡ start_after mib tip.end → end ≡ end_of mib
    (start_after mib tip.end) (total_of kind) → prev ≡ tip.prev → end ≤ wal_limit mib
    → flat ≡ sealed (record_from start start prev kind) → bytes ≡ spread mib system tip.end flat
    → (record_from start end prev kind ≡ record_at_tip mib tip kind) × IsPrepared mib system tip
    (ready_of (record_from start end prev kind) bytes)
prepared mib system tip start end prev kind bytes flat some is start_is end_is prev_is within
    flat_is bytes_is =
    let r : Record = record_from start end prev kind in
    let next : Record = record_at_tip mib tip kind in
    let same : r ≡ next = ap (λ n. record_from n end prev kind) start_is
    ∙ ap (λ n. record_from (start_after mib tip.end) n prev kind) end_is
    ∙ ap (λ n. record_from (start_after mib tip.end) (end_of mib (start_after mib tip.end)
    (total_of kind)) n kind) prev_is in
    let own : bytes ≡ spread mib system tip.end (sealed r) = bytes_is
    ∙ ap (spread mib system tip.end) (flat_is ∙ sealed_ends start start end prev kind) in
    let c = comes mib system tip kind some is in
    let long : length bytes ≡ length (spread mib system tip.end (sealed next)) = ap length (own
    ∙ ap (λ k. spread mib system tip.end (sealed k)) same) in (
      same,
      record {
        entry = same;
        bytes = own;
        size = omega (arith, long, c.size, end_is);
        within = subst (λ k. IsWithin mib (tip_after tip k)) (sym same)
            (c.within (omega (arith, end_is, within)));
      },
    )

-- the log of which the entry was added
pub added : (s : StoreSettings) (flushed touched : ℕ) (tip after : Tip) (pending all bytes : List ℕ)
    (now : Log) (ready : Ready) (r told : Record) → log_of s flushed touched tip pending ≡ now
    → IsReady now ready → r ≡ ready.entry → told ≡ ready.entry → bytes ≡ ready.bytes
    → after ≡ tip_after tip told → all ≡ pending ++ bytes
    → (r ≡ ready.entry) × (log_of s flushed touched after all ≡ appended now r)
added s flushed touched tip after pending all bytes now ready r told view is r_is told_is bytes_is
    after_is all_is =
    let log : Log = log_of s flushed touched tip pending in
    let there : IsReady log ready = subst (λ n. IsReady n ready) (sym view) is in
    let spread_is : bytes ≡ entry_spread log r = bytes_is ∙ there.bytes
    ∙ ap (λ k. spread s.segment s.system tip.end (sealed k)) (sym r_is) in
    let tip_is : after ≡ tip_after tip r = after_is ∙ ap (tip_after tip) (told_is ∙ sym r_is) in
    let one : log_of s flushed touched after all ≡ appended log r =
    ap (λ t. log_of s flushed touched t all) tip_is
    ∙ ap (log_of s flushed touched (tip_after tip r)) (all_is
    ∙ ap (λ l. pending ++ l) spread_is) in
    (r_is, one ∙ ap (λ n. appended n r) view)
