-- The archive's bytes of an entry, piece by piece.
use Rattle.std.proofs.Common.{◌≡◌, ℕ, zero, suc, ◌+◌, ◌-◌, ◌%◌, ◌^◌, ◌<◌, ◌≤◌, ltb, List, ◌∷◌, ◌++◌, length, get_or, take, drop, map, replicate, min, refl, sym, ap, ◌∙◌, arith, inl, inr, append_assoc}
use Rattle.std.specs.List.{range_with_len}
use Rattle.std.proofs.lemmas.Bool.{cases_lt, lt-ltb, le-ltb, cond-true, cond-false}
use Rattle.std.proofs.lemmas.List.{ext_get_or, get_or-drop, get_or-take, get_or_append_left, get_or-append_right, get_or-replicate, get_or_past, length-take, length-drop, length-append, length-replicate, map-append}
use Rattle.std.proofs.lemmas.List.FromFn.{length-map-range_with_len, get_or-map-range_with_len}
use Rattle.lsn_core.specs.byte_words.Numbers.{aligned}
use Rattle.lsn_core.specs.byte_words.Pieces.{zero_filled}
use Rattle.wal_pages.specs.Places.{place, flat_before, head_size, IsBehindHead, page_of, stop_of}
use Rattle.wal_pages.specs.Heads.{page_head}
use Rattle.wal_pages.specs.Laws.{StandsIn}
use Rattle.wal_pages.specs.Spread.{still_to_come, spread_byte, spread_from, spread}
use Rattle.wal_pages.proofs.Splits.{flat_on, flat_place, place_behind, place_le, place_after, head_same, head_bounds, head_on}
use Rattle.wal_pages.proofs.Written.{length_head}
use Rattle.wal_pages.proofs.Starts.{in_head}

-- two ranges of numbers, one behind the other
pub range_add : (a n m b : ℕ) → a + n ≡ b → range_with_len a n ++ range_with_len b m
    ≡ range_with_len a (n + m)
range_add a zero m b e =
    let less : m ≡ 0 + m = omega arith in
    ap (λ x. range_with_len x m) (let z : b ≡ a = omega (arith, e) in z)
    ∙ ap (range_with_len a) less
range_add a (suc n) m b e =
    let more : suc n + m ≡ suc (n + m) = omega arith in
    ap (λ l. a ∷ l) (range_add (a + 1) n m b (omega (arith, e)))
    ∙ ap (range_with_len a) (sym more)

pub spread_add : (mib system first : ℕ) (bytes : List ℕ) (at n m next total : ℕ) → at + n ≡ next
    → n + m ≡ total
    → spread_from mib system first bytes at n ++ spread_from mib system first bytes next m
    ≡ spread_from mib system first bytes at total
spread_add mib system first bytes at n m next total e t =
    sym (map-append (spread_byte mib system first bytes) (range_with_len at n)
    (range_with_len next m))
    ∙ ap (map (spread_byte mib system first bytes)) (range_add at n m next e)
    ∙ ap (spread_from mib system first bytes at) t

-- a byte of the archive behind a head is one of the entry's, or zero
pub spread_flat : (mib system first : ℕ) (bytes : List ℕ) (x : ℕ) → IsBehindHead mib x
    → spread_byte mib system first bytes x ≡ get_or bytes (flat_before mib x - first) 0
unfolding spread_byte
spread_flat mib system first bytes x behind = cond-false _ _ _ (le-ltb _ _ behind)

-- one within a page's head is that head's
pub spread_head : (mib system first : ℕ) (bytes : List ℕ) (p i : ℕ) → 1 ≤ mib → p % 8192 ≡ 0
    → i < head_size mib p → spread_byte mib system first bytes (p + i)
    ≡ get_or (page_head mib system p (still_to_come mib first (length bytes) p)) i 0
unfolding spread_byte
spread_head mib system first bytes p i some start lt =
    let b = head_bounds mib p in
    let o : (p + i) % 8192 ≡ i = omega (arith, start, lt, b.1) in
    let h : head_size mib (p + i) ≡ head_size mib p =
    head_same mib p i some start (omega (arith, lt, b.1)) in
    let q : page_of (p + i) ≡ p = omega (arith, o) in
    cond-true (ltb ((p + i) % 8192) (head_size mib (p + i)))
    (get_or (page_head mib system (page_of (p + i))
    (still_to_come mib first (length bytes) (page_of (p + i)))) ((p + i) % 8192) 0)
    (get_or bytes (flat_before mib (p + i) - first) 0) (lt-ltb _ _ (omega (arith, o, h, lt)))
    ∙ ap (λ n. get_or (page_head mib system n (still_to_come mib first (length bytes) n))
    ((p + i) % 8192) 0) q
    ∙ ap (λ n. get_or (page_head mib system p (still_to_come mib first (length bytes) p)) n 0) o

pub still_small : (mib first total p : ℕ) → still_to_come mib first total p ≤ total
still_small mib first total p =
    elim (cases_lt first (flat_before mib p)) [
      | inl lt ↦
          let e : still_to_come mib first total p ≡ first + total - flat_before mib p =
          cond-true _ _ _ (lt-ltb _ _ lt) in
          omega (arith, e, lt)
      | inr le ↦
          let e : still_to_come mib first total p ≡ 0 = cond-false _ _ _ (le-ltb _ _ le) in
          omega (arith, e)
    ]

pub head_length : (mib system first total page : ℕ) (head : List ℕ) → page ≤ 2 ^ 53
    → total ≤ 4194304
    → head ≡ page_head mib system page (still_to_come mib first total page)
    → length head ≡ head_size mib page
head_length mib system first total page head bound most is =
    let small = still_small mib first total page in
    ap length is ∙ length_head mib system page (still_to_come mib first total page)
    (omega (arith, bound)) (omega (arith, small, most))

-- a head as the code makes it
pub head_made : (seg mib system first total page left : ℕ) (head : List ℕ) → seg ≡ mib
    → left ≡ still_to_come seg first total page → head ≡ page_head mib system page left
    → head ≡ page_head mib system page (still_to_come mib first total page)
head_made seg mib system first total page left head same is made =
    made ∙ ap (page_head mib system page) (is ∙ ap (λ n. still_to_come n first total page) same)

-- what is left of a page's head from a place in it on
pub head_piece : (mib system first : ℕ) (bytes head : List ℕ) (at : ℕ) → 1 ≤ mib
    → at % 8192 < head_size mib at
    → head ≡ page_head mib system (page_of at) (still_to_come mib first (length bytes) (page_of at))
    → length head ≡ head_size mib (page_of at)
    → drop (at % 8192) head ≡ spread_from mib system first bytes at (head_size mib at - at % 8192)
head_piece mib system first bytes head at some lt is size =
    let i = in_head mib at some lt in
    let f : ℕ → ℕ = spread_byte mib system first bytes in
    let count : ℕ = head_size mib at - at % 8192 in
    let left : length (drop (at % 8192) head) ≡ count = length-drop (at % 8192) head
    ∙ (let z : length head - at % 8192 ≡ count = omega (arith, size, i.head) in z) in
    ext_get_or 0 (drop (at % 8192) head) (map f (range_with_len at count))
    (left ∙ sym (length-map-range_with_len f at count))
    (λ k below.
    let within : at % 8192 + k < head_size mib (page_of at) = omega (arith, below, left, i.head) in
    let there : page_of at + (at % 8192 + k) ≡ at + k = omega arith in
    get_or-drop (at % 8192) head k 0
    ∙ ap (λ l. get_or l (at % 8192 + k) 0) is
    ∙ sym (spread_head mib system first bytes (page_of at) (at % 8192 + k) some (omega arith)
    within)
    ∙ ap f there
    ∙ sym (get_or-map-range_with_len f at count k (at + k) 0 (omega (arith, below, left)) refl))

-- so many bytes from the front, and zeros where there are fewer
filled_byte : (l : List ℕ) (count i : ℕ) → i < count
    → get_or (zero_filled (take count l) count) i 0 ≡ get_or l i 0
filled_byte l count i lt =
    let t : List ℕ = take count l in
    let size = length-take count l in
    elim (cases_lt i (length t)) [
      | inl within ↦ get_or_append_left t (replicate (count - length t) 0) 0 i within
          ∙ get_or-take count l i 0 lt
      | inr past ↦
          get_or-append_right t (replicate (count - length t) 0) (length t) i 0 refl past
          ∙ get_or-replicate (count - length t) (i - length t) 0 0 (omega (arith, past, lt))
          ∙ sym (get_or_past l i 0 (omega (arith, past, lt, size)))
    ]

filled_length : (l : List ℕ) (count : ℕ) → length (zero_filled (take count l) count) ≡ count
filled_length l count =
    let t : List ℕ = take count l in
    let size = length-take count l in
    length-append t (replicate (count - length t) 0)
    ∙ ap (λ n. length t + n) (length-replicate (count - length t) 0)
    ∙ (let z : length t + (count - length t) ≡ count = omega (arith, size) in z)

-- the entry's bytes on a page, and zeros behind them
pub flat_piece : (mib system first : ℕ) (bytes : List ℕ) (at count from : ℕ) → 1 ≤ mib
    → IsBehindHead mib at
    → at % 8192 + count ≤ 8192 → first ≤ flat_before mib at
    → from ≡ min (flat_before mib at - first) (length bytes)
    → zero_filled (take count (drop from bytes)) count ≡ spread_from mib system first bytes at count
flat_piece mib system first bytes at count from some behind fits after is =
    let f : ℕ → ℕ = spread_byte mib system first bytes in
    let skip : ℕ = flat_before mib at - first in
    let size = filled_length (drop from bytes) count in
    ext_get_or 0 (zero_filled (take count (drop from bytes)) count)
    (map f (range_with_len at count))
    (size ∙ sym (length-map-range_with_len f at count))
    (λ i below.
    let lt : i < count = omega (arith, below, size) in
    let there : IsBehindHead mib (at + i) =
    head_on mib at i some behind (omega (arith, lt, fits)) in
    let on : flat_before mib (at + i) ≡ flat_before mib at + i =
    flat_on mib at i some behind (omega (arith, lt, fits)) in
    let place_is : flat_before mib (at + i) - first ≡ skip + i = omega (arith, on, after) in
    let same : get_or bytes (from + i) 0 ≡ get_or bytes (skip + i) 0 =
    elim (cases_lt skip (length bytes)) [
      | inl less ↦ ap (λ n. get_or bytes (n + i) 0)
          (let z : from ≡ skip = omega (arith, is, less) in z)
      | inr past ↦ get_or_past bytes (from + i) 0 (omega (arith, is, past))
          ∙ sym (get_or_past bytes (skip + i) 0 (omega (arith, past)))
    ] in
    filled_byte (drop from bytes) count i lt
    ∙ get_or-drop from bytes i 0
    ∙ same
    ∙ ap (λ n. get_or bytes n 0) (sym place_is)
    ∙ sym (spread_flat mib system first bytes (at + i) there)
    ∙ sym (get_or-map-range_with_len f at count i (at + i) 0 lt refl))

-- the head of a page and the bytes behind it
pub page_pieces : (mib system first : ℕ) (bytes head out : List ℕ) (at until : ℕ) → 1 ≤ mib
    → at % 8192 < head_size mib at
    → head ≡ page_head mib system (page_of at) (still_to_come mib first (length bytes) (page_of at))
    → length head ≡ head_size mib (page_of at)
    → page_of at + head_size mib at ≤ until
    → (out ++ drop (at - page_of at) head)
    ++ spread_from mib system first bytes (page_of at + head_size mib at)
    (until - (page_of at + head_size mib at)) ≡ out
    ++ spread_from mib system first bytes at (until - at)
page_pieces mib system first bytes head out at until some lt is size within =
    let from : ℕ = page_of at + head_size mib at in
    let o : at - page_of at ≡ at % 8192 = omega arith in
    let front : drop (at - page_of at) head
    ≡ spread_from mib system first bytes at (head_size mib at - at % 8192) =
    ap (λ n. drop n head) o ∙ head_piece mib system first bytes head at some lt is size in
    append_assoc out (drop (at - page_of at) head)
    (spread_from mib system first bytes from (until - from))
    ∙ ap (λ l. out ++ (l ++ spread_from mib system first bytes from (until - from))) front
    ∙ ap (λ l. out ++ l) (spread_add mib system first bytes at (head_size mib at - at % 8192)
    (until - from) from (until - at) (omega (arith, lt)) (omega (arith, lt, within)))

-- each byte of an entry stands at its place
pub bytes_stand : (mib system before : ℕ) (bytes : List ℕ) (i : ℕ) → 1 ≤ mib → i < length bytes
    → StandsIn mib before (spread mib system before bytes) bytes i
unfolding spread stop_of
bytes_stand mib system before bytes i some lt =
    let first : ℕ = flat_before mib before in
    let f : ℕ → ℕ = spread_byte mib system first bytes in
    let x : ℕ = place mib (first + i) in
    let last : ℕ = first + aligned (length bytes) - 1 in
    let count : ℕ = place mib last + 1 - before in
    let after = place_after mib before some in
    let up = place_le mib first (first + i) some (omega arith) in
    let down = place_le mib (first + i) last some (omega (arith, lt)) in
    let size = length-map-range_with_len f before count in
    let number = flat_place mib (first + i) some in
    record {
      from = omega (arith, after, up);
      within = omega (arith, size, after, up, down);
      byte =
          get_or-map-range_with_len f before count (x - before) x 0 (omega (arith, after, up, down))
          (omega (arith, after, up))
          ∙ spread_flat mib system first bytes x (place_behind mib (first + i) some)
          ∙ ap (λ n. get_or bytes n 0) (let z : flat_before mib x - first ≡ i =
          omega (arith, number) in z);
    }
