-- The heads of the pages that a reading went over pass where nothing is asked of what an entry has
-- on the page.
use Rattle.std.proofs.Common.{◌≡◌, ℕ, ◌+◌, ◌-◌, ◌/◌, ◌%◌, ◌<◌, ◌≤◌, Bool, true, false, not, List, length, Option, Some, None, refl, arith, inl, inr}
use Rattle.std.specs.Prelude.{Ok, nat_lt, ◌==◌}
use Rattle.std.proofs.lemmas.Bool.{cases_lt, and_parts, and_from}
use Rattle.std.proofs.lemmas.Nat.{div-add-mod'}
use Rattle.std.proofs.Math.Nat.{mul-le-mul_right, le-div_iff_mul-le}
use Rattle.lsn_core.specs.byte_words.Numbers.{u16_in, u32_in, u64_in}
use Rattle.lsn_core.specs.Segment.{segment_bytes}
use Rattle.lsn_core.specs.Sizes.{page_magic}
use Rattle.wal_pages.specs.Places.{place, flat_before, head_size, page_of, start_after, end_of}
use Rattle.wal_pages.specs.Heads.{bit, info_fits, long_fault, size_fault, or_else, first_fault, head_fault, is_first_page}
use Rattle.wal_pages.specs.declared.heads.HeadFault.{HeadFault}
use Rattle.wal_pages.proofs.Splits.{stop_is}
use Rattle.wal_archive.specs.Archive.{Archive}
use Rattle.wal_archive.specs.Rules.{bytes_at, head_at, set_heads}
use Rattle.wal_archive.specs.Stands.{HasHead, IsEnd, Stands}
use Rattle.wal_archive.proofs.Runs.{bytes_held}
use Rattle.wal_archive.proofs.Next.{else_of}
use Rattle.wal_archive.proofs.Founds.{segment_page}
use Rattle.wal_reader.proofs.Reached.{end_room}

-- ---- one head

some_is_none : (why : HeadFault) → ◌≡◌ {A = Option HeadFault} (Some why) None → ⊥
some_is_none why e = absurd cc

no_first : (a b : Option HeadFault) → or_else a b ≡ None → a ≡ None
no_first None b e = refl
no_first (Some why) b e = absurd cc

no_later : (a : Option HeadFault) → a ≡ None → or_else a None ≡ None
no_later None e = refl
no_later (Some why) e = e

holds : (b : Bool) → not b ≡ false → b ≡ true
holds true e = refl
holds false e = absurd cc

fails : (b : Bool) → b ≡ true → not b ≡ false
fails true e = refl
fails false e = absurd cc

-- a head that passes with so many bytes still to come passes where these aren't tested
untested : (first : Bool) (mib system page size : ℕ) (bytes : List ℕ) → first_fault first mib system page (Some size) bytes ≡ None → first_fault first mib system page None bytes ≡ None
unfolding first_fault
untested first mib system page size bytes passes =
    let info : ℕ = u16_in bytes 2 in
    let c1 = else_of _ _ _ _ passes (some_is_none _) in
    let c2 = else_of _ _ _ _ c1.1 (some_is_none _) in
    let c3 = else_of _ _ _ _ c2.1 (some_is_none _) in
    let c4 = else_of _ _ _ _ c3.1 (some_is_none _) in
    let p = and_parts (nat_lt info 8) _ (holds _ c2.0) in
    let q = and_parts ((info / 2 % 2) == bit first) _ p.1 in
    let fits : not (info_fits first None info) ≡ false = fails (info_fits first None info) (and_from (nat_lt info 8) ((info / 2 % 2) == bit first) p.0 q.0) in
    let magic : not (u16_in bytes 0 == page_magic) ≡ false = c1.0 in
    let timeline : not (u32_in bytes 4 == 1) ≡ false = c3.0 in
    let address : not (u64_in bytes 8 == page) ≡ false = c4.0 in
    let long : Option HeadFault = long_fault first mib system bytes in
    rw (magic, fits, timeline, address) (no_later long (no_first long (size_fault (Some size) bytes) c4.1))

pub head_passes : (a : Archive) (mib system begin page size : ℕ) → HasHead a mib system page size → head_at a mib system begin page None ≡ Ok 0
unfolding head_at
head_passes a mib system begin page size h =
    let run : bytes_at a mib begin page (head_size mib page) ≡ Ok h.bytes =
    bytes_held a mib begin page (head_size mib page) h.bytes h.len (λ i lt. h.held i (omega (arith, lt, h.len))) in
    let passes : head_fault mib system page None h.bytes ≡ None = untested (is_first_page mib page) mib system page size h.bytes h.passes in
    rw (run, passes) refl

-- ---- all heads before a place

-- each page from the first segment on that begins before a limit has a head that passes
abbrev pub AreHeadsTo : Archive → ℕ → ℕ → ℕ → Type 0
AreHeadsTo a mib system limit = (p : ℕ) → p % 8192 ≡ 0 → segment_bytes mib ≤ p → p < limit → (size : ℕ) × HasHead a mib system p size

-- nothing begins before the first segment does
pub no_heads : (a : Archive) (mib system : ℕ) → AreHeadsTo a mib system (segment_bytes mib)
no_heads a mib system p start least below = absurd (omega (arith, least, below))

-- an entry's own bytes go over each page that begins before its end
pub heads_on : (a : Archive) (mib system e : ℕ) (bytes : List ℕ) → 1 ≤ mib → IsEnd mib e → Stands a mib system e bytes → AreHeadsTo a mib system e → AreHeadsTo a mib system (end_of mib (start_after mib e) (length bytes))
heads_on a mib system e bytes some end st before p start least below =
    elim (cases_lt p e) [
      | inl lt ↦ before p start least lt
      | inr from ↦ elim (cases_lt (place mib (flat_before mib e + length bytes - 1)) p) [
        | inl over ↦ absurd (let room = end_room mib e (length bytes) p some end (omega (arith, st.least)) (omega (arith, start)) over in omega (arith, room, below))
        | inr le ↦ (_, st.heads p start from (omega (arith, le, stop_is mib e (length bytes))))
      ]
    ]

-- ---- the heads that a cursor asks for which is set at a place

-- the segment of a place from the first segment on begins there or later
segment_from : (mib from : ℕ) → 1 ≤ mib → segment_bytes mib ≤ from → segment_bytes mib ≤ from - from % segment_bytes mib
segment_from mib from some least =
    let one : 1 ≤ from / segment_bytes mib = (le-div_iff_mul-le {k = segment_bytes mib} (omega (arith, some))).1 (omega (arith, least)) in
    let up = mul-le-mul_right (segment_bytes mib) one in
    let whole = div-add-mod' from (segment_bytes mib) in
    omega (arith, up, whole)

pub set_heads_pass : (a : Archive) (mib system from limit : ℕ) → 1 ≤ mib → segment_bytes mib ≤ from → from < limit → AreHeadsTo a mib system limit → set_heads a mib system from ≡ Ok 0
set_heads_pass a mib system from limit some least below heads =
    let segment : ℕ = from - from % segment_bytes mib in
    let page : ℕ = page_of from in
    let first = heads segment (segment_page mib from some) (segment_from mib from some least) (omega (arith, below)) in
    let own = heads page (omega arith) (omega (arith, least)) (omega (arith, below)) in
    let first_passes : head_at a mib system segment segment None ≡ Ok 0 = head_passes a mib system segment segment first.0 first.1 in
    let own_passes : head_at a mib system page page None ≡ Ok 0 = head_passes a mib system page page own.0 own.1 in
    rw (first_passes, own_passes) refl
