-- Where the bytes of a cut entry stand, the entry stands.
use Rattle.std.proofs.Common.{◌≡◌, ℕ, ◌+◌, ◌-◌, ◌%◌, ◌^◌, ◌<◌, ◌≤◌, ◌⊎◌, List, length, get_or, Some, sym, ap, subst, ◌∙◌, arith, inl, inr}
use Rattle.std.proofs.lemmas.Bool.{cases_lt}
use Rattle.lsn_core.specs.byte_words.Numbers.{u32_in, aligned}
use Rattle.wal_pages.specs.Places.{place, flat_before, IsBehindHead, start_after, stop_of, end_of}
use Rattle.wal_pages.specs.Heads.{page_head}
use Rattle.wal_pages.specs.Spread.{still_to_come, spread_byte}
use Rattle.wal_pages.proofs.Splits.{page_passed, place_behind, flat_on, flat_place, place_flat, place_le, place_after, head_on, head_bounds, place_eight, stop_is, stop_start}
use Rattle.wal_pages.proofs.Pieces.{still_small, spread_flat, spread_head}
use Rattle.wal_pages.proofs.Written.{head_written, length_head}
use Rattle.wal_archive.specs.Archive.{Archive}
use Rattle.wal_archive.specs.Stands.{IsEnd, Stands}
use Rattle.wal_archive.proofs.Next.{start_of}

-- the archive holds the bytes of an entry that is cut over pages behind e, up to a limit
abbrev pub IsCut : Archive → ℕ → ℕ → ℕ → List ℕ → ℕ → Type 0
IsCut a mib system e bytes limit = (x : ℕ) → e ≤ x → x < limit
    → a.byte x ≡ Some (spread_byte mib system (flat_before mib e) bytes x)

pub cut_stands : (a : Archive) (mib system e limit : ℕ) (bytes : List ℕ) → 1 ≤ mib → mib ≤ 1024
    → system < 2 ^ 64 → limit ≤ 2 ^ 64 → stop_of mib e (length bytes) ≤ limit
    → u32_in bytes 0 ≡ length bytes → 24 ≤ length bytes → length bytes ≤ 4194304
    → IsCut a mib system e bytes limit → Stands a mib system e bytes
cut_stands a mib system e limit bytes some most_mib known bound within total least most cut =
    let first : ℕ = flat_before mib e in
    let stop = stop_is mib e (length bytes) in
    record {
      total = total;
      least = least;
      most = most;
      flat = λ i lt.
          let x : ℕ = place mib (first + i) in
          let up = place_le mib first (first + i) some (omega arith) in
          let down = place_le mib (first + i) (first + length bytes - 1) some (omega (arith, lt)) in
          let after = place_after mib e some in
          cut x (omega (arith, up, after)) (omega (arith, down, stop, within))
          ∙ ap Some (spread_flat mib system first bytes x (place_behind mib (first + i) some)
          ∙ ap (λ n. get_or bytes n 0) (let f = flat_place mib (first + i) some in
          let z : flat_before mib x - first ≡ i = omega (arith, f) in z));
      heads = λ p start from below.
          let size : ℕ = still_to_come mib first (length bytes) p in
          let small = still_small mib first (length bytes) p in
          let h = length_head mib system p size (omega (arith, below, within, bound))
          (omega (arith, small, most)) in
          let reach = page_passed mib (place mib (first + length bytes - 1)) p some
          (place_behind mib (first + length bytes - 1) some) start (omega (arith, below, stop))
          in
          record {
            bytes = page_head mib system p size;
            len = h;
            held = λ i lt. cut (p + i) (omega (arith, from))
                (omega (arith, lt, reach, stop, within))
                ∙ ap Some (spread_head mib system first bytes p i some start lt);
            passes = head_written mib system p size most_mib known
                (omega (arith, below, within, bound)) (omega (arith, small, most));
          };
    }

-- what is known of the end of an entry behind e
pub record Ending (mib e total end : ℕ) : Type 0 where
  pub is_end : IsEnd mib end
  pub stop : stop_of mib e total ≤ end
  pub start : start_after mib e < end
  pub later : e < end
  pub flat : flat_before mib end ≡ flat_before mib e + aligned total

pub ending : (mib e total : ℕ) → 1 ≤ mib → IsEnd mib e → 0 < total
    → Ending mib e total (end_of mib (start_after mib e) total)
ending mib e total some end long =
    let s = start_of mib e some end in
    let first : ℕ = flat_before mib e in
    let n : ℕ = first + aligned total - 1 in
    let last : ℕ = place mib n in
    let is : end_of mib (start_after mib e) total ≡ last + 1 = stop_start mib e (aligned total) some
    ∙ stop_is mib e (aligned total) in
    let behind = place_behind mib n some in
    let b = head_bounds mib last in
    let f : flat_before mib (last + 1) ≡ n + 1 = flat_on mib last 1 some behind (omega arith)
    ∙ ap (λ k. k + 1) (flat_place mib n some) in
    let eight : first % 8 ≡ 0 = (let z = place_eight mib first some in
    let y : place mib first ≡ s.start = ap (place mib) (sym s.flat)
    ∙ place_flat mib s.start some s.behind in omega (arith, z, y, s.eight)) in
    let eight_last = place_eight mib n some in
    let by_eight : (last + 1) % 8 ≡ 0 = omega (arith, eight_last, eight, long) in
    let le = place_le mib first n some (omega (arith, long)) in
    let start : place mib first ≡ s.start = ap (place mib) (sym s.flat)
    ∙ place_flat mib s.start some s.behind in
    let stop_le = place_le mib (first + total - 1) n some (omega arith) in
    let page : IsBehindHead mib (last + 1) ⊎ ((last + 1) % 8192 ≡ 0) =
    elim (cases_lt (last % 8192 + 1) 8192) [
      | inl lt ↦ inl (head_next mib last some behind lt)
      | inr ge ↦ inr (omega (arith, ge))
    ] in
    subst (λ k. Ending mib e total k) (sym is) (record {
      is_end = (by_eight, page);
      stop = omega (arith, stop_is mib e total, stop_le);
      start = omega (arith, s.is, start, le);
      later = omega (arith, s.later, start, le);
      flat = omega (arith, f, long);
    })
  where
    head_next : (mib x : ℕ) → 1 ≤ mib → IsBehindHead mib x → x % 8192 + 1 < 8192
        → IsBehindHead mib (x + 1)
    head_next mib x some behind lt = head_on mib x 1 some behind lt
