-- Ends that entries reach: behind the end before, and within the room of the WAL.
use Rattle.std.proofs.Common.{◌≡◌, ℕ, zero, suc, ◌+◌, ◌-◌, ◌*◌, ◌%◌, ◌^◌, ◌<◌, ◌≤◌, ◌||◌, ◌==◌, Bool, true, false, if◌then◌else◌, sym, ap, subst, ◌∙◌, arith, inr}
use Rattle.lsn_core.specs.byte_words.Numbers.{aligned}
use Rattle.lsn_core.specs.Segment.{IsSegmentMib, segment_bytes}
use Rattle.lsn_core.specs.Tip.{Tip}
use Rattle.wal_pages.specs.Places.{place, flat_before, start_after, end_of}
use Rattle.wal_pages.proofs.Splits.{place_rises, place_after, place_behind, place_flat, place_eight, flat_on, flat_place, head_on, stop_is, stop_start}
use Rattle.wal_pages.proofs.Bounds.{flat_bound, place_bound}
use Rattle.wal_record.specs.declared.record.Record.{Record}
use Rattle.wal_record.specs.Tips.{first_tip, tip_after, is_redo_mark, wal_limit}
use Rattle.wal_archive.specs.Stands.{IsEnd}
use Rattle.wal_archive.proofs.Cut.{ending}
use Rattle.wal_archive.proofs.Next.{start_of}
use Rattle.wal_reader.specs.Cursor.{IsReached}

-- places lie at least as far apart as flat bytes
far : (mib f k : ℕ) → 1 ≤ mib → place mib f + k ≤ place mib (f + k)
far mib f zero some = (let e : place mib (f + 0) ≡ place mib f = ap (place mib) (let z : f + 0 ≡ f = omega arith in z) in omega (arith, e))
far mib f (suc k) some =
    let more = far mib f k some in
    let rises = place_rises mib (f + k) (f + suc k) some (omega arith) in
    omega (arith, more, rises)

-- where an entry ends
pub end_is : (mib e total : ℕ) → 1 ≤ mib → end_of mib (start_after mib e) total ≡ place mib (flat_before mib e + aligned total - 1) + 1
end_is mib e total some = stop_start mib e (aligned total) some ∙ stop_is mib e (aligned total)

pub end_far : (mib e total : ℕ) → 1 ≤ mib → 0 < total → e + total ≤ end_of mib (start_after mib e) total
end_far mib e total some long =
    let f : ℕ = flat_before mib e in
    let same : place mib (f + (aligned total - 1)) ≡ place mib (f + aligned total - 1) = ap (place mib) (let z : f + (aligned total - 1) ≡ f + aligned total - 1 = omega (arith, long) in z) in
    omega (arith, end_is mib e total some, same, far mib f (aligned total - 1) some, place_after mib e some, long)

pub start_bound : (mib e : ℕ) → 1 ≤ mib → e ≤ 2 ^ 51 → start_after mib e ≤ 2 ^ 52
unfolding start_after
start_bound mib e some most = omega (arith, flat_bound mib e, place_bound mib (flat_before mib e) some, most)

-- an entry whose last own byte lies before the end of a segment ends there at the latest
pub end_room : (mib e total limit : ℕ) → 1 ≤ mib → IsEnd mib e → 0 < total → limit % 8 ≡ 0 → place mib (flat_before mib e + total - 1) < limit → end_of mib (start_after mib e) total ≤ limit
end_room mib e total limit some end long eight below =
    let s = start_of mib e some end in
    let first : ℕ = flat_before mib e in
    let last : ℕ = place mib (first + total - 1) in
    let more : ℕ = aligned total - total in
    let start : place mib first ≡ s.start = ap (place mib) (sym s.flat) ∙ place_flat mib s.start some s.behind in
    let first_eight : first % 8 ≡ 0 = omega (arith, place_eight mib first some, start, s.eight) in
    let group : last % 8 + more ≡ 7 = omega (arith, place_eight mib (first + total - 1) some, first_eight, long) in
    let fits : last % 8192 + more < 8192 = omega (arith, group) in
    let behind = place_behind mib (first + total - 1) some in
    let number : flat_before mib (last + more) ≡ first + aligned total - 1 = (let on = flat_on mib last more some behind (omega (arith, fits)) in let at = flat_place mib (first + total - 1) some in omega (arith, on, at, long)) in
    let is : place mib (first + aligned total - 1) ≡ last + more = ap (place mib) (sym number) ∙ place_flat mib (last + more) some (head_on mib last more some behind fits) in
    omega (arith, end_is mib e total some, is, below, group, eight)

least_of_if : (b : Bool) (x y z : ℕ) → x ≤ z → y ≤ z → (if b then x else y) ≤ z
least_of_if true x y z left right = left
least_of_if false x y z left right = right

-- what a tip has where an entry may follow
pub record IsBase (mib : ℕ) (tip : Tip) : Type 0 where
  pub ends : IsEnd mib tip.end
  pub redo : tip.redo ≤ tip.end
  pub count : tip.count * 24 ≤ tip.end

pub base : (mib : ℕ) (tip : Tip) → IsReached mib tip → IsBase mib tip
base mib tip reached = record { ends = reached.ends; redo = reached.within.redo; count = reached.within.count }

-- one more entry
pub reached : (mib total : ℕ) (tip : Tip) (r : Record) → 1 ≤ mib → IsBase mib tip → 24 ≤ total → r.start.0 ≡ start_after mib tip.end → r.end.0 ≡ end_of mib (start_after mib tip.end) total → segment_bytes mib ≤ r.start.0 → r.end.0 ≤ wal_limit mib → IsReached mib (tip_after tip r)
reached mib total tip r some is long start end least most =
    let behind = ending mib tip.end total some is.ends (omega (arith, long)) in
    let further = end_far mib tip.end total some (omega (arith, long)) in
    let ends : IsEnd mib r.end.0 = subst (IsEnd mib) (sym end) behind.is_end in
    record {
      within = record {
        aligned = ends.0;
        least = omega (arith, least, start, end, behind.start);
        most = most;
        prev = omega (arith, start, end, behind.start);
        redo = least_of_if ((tip.count == 0) || is_redo_mark r.kind) r.start.0 tip.redo r.end.0 (omega (arith, start, end, behind.start)) (omega (arith, is.redo, end, further));
        count = omega (arith, is.count, end, further, long);
      };
      ends = ends;
    }

pub later : (mib total : ℕ) (tip : Tip) (r : Record) → 1 ≤ mib → 24 ≤ total → r.end.0 ≡ end_of mib (start_after mib tip.end) total → tip.end < r.end.0
later mib total tip r some long end = omega (arith, end_far mib tip.end total some (omega (arith, long)), end, long)

pub first_reached : (mib : ℕ) → IsSegmentMib mib → IsReached mib (first_tip mib)
first_reached mib size = record {
  within = record { aligned = omega arith; least = omega arith; most = omega (arith, size.least); prev = omega arith; redo = omega arith; count = omega (arith, size.least) };
  ends = (omega arith, inr (omega arith));
}
