-- A window takes pieces, and forgets bytes at its beginning.
use Rattle.std.proofs.Common.{◌≡◌, ℕ, suc, ◌+◌, ◌-◌, ◌*◌, ◌/◌, ◌<◌, ◌≤◌, min, Bool, true, false, cond, inl, inr, List, ◌++◌, length, take, drop, replicate, get_or, Option, Some, None, refl, sym, ap, subst, ◌∙◌, arith}
use Rattle.std.proofs.lemmas.Bool.{cases_lt, lt-ltb, le-ltb}
use Rattle.std.proofs.lemmas.Nat.{div-add-mod'}
use Rattle.std.proofs.Math.Nat.{mod-lt, mul-le-mul_right}
use Rattle.std.proofs.lemmas.List.{append_assoc, length-append, length-replicate, length-take, length-drop, get_or_append_left, get_or-append-add, get_or-take, get_or-drop}
use Rattle.lsn_core.specs.Segment.{segment_bytes}
use Rattle.lsn_core.specs.Sizes.{most_segments}
use Rattle.wal_record.specs.Tips.{wal_limit}
use Rattle.wal_archive.specs.Archive.{is_segment, nth}
use Rattle.wal_archive.proofs.Files.{segment_range}
use Rattle.stream_laws.specs.Streams.{stream_byte}
use Rattle.stream_laws.specs.Windows.{Span, shown, span_top, archive_room, IsStreamEnd, WindowsTake, WindowsForget}

-- ---- bytes of lists

nth_here : (l : List ℕ) (i : ℕ) → i < length l → nth l i ≡ Some (get_or l i 0)
nth_here l i lt = rw (lt-ltb i (length l) lt) refl

nth_past : (l : List ℕ) (i : ℕ) → length l ≤ i → nth l i ≡ None
nth_past l i le = rw (le-ltb i (length l) le) refl

some_ap : (a b : ℕ) → a ≡ b → ◌≡◌ {A = Option ℕ} (Some a) (Some b)
some_ap a b e = ap (λ (n : ℕ). Some n) e

nth_left : (a b : List ℕ) (i : ℕ) → i < length a → nth (a ++ b) i ≡ nth a i
nth_left a b i lt =
    let l = length-append a b in
    nth_here (a ++ b) i (omega (arith, l, lt)) ∙ (some_ap (get_or (a ++ b) i 0) (get_or a i 0) (get_or_append_left a b 0 i lt) ∙ sym (nth_here a i lt))

nth_right : (a b : List ℕ) (i : ℕ) → length a ≤ i → nth (a ++ b) i ≡ nth b (i - length a)
nth_right a b i le =
    let l = length-append a b in
    elim (cases_lt (i - length a) (length b)) [
      | inl lt ↦
          let at : i ≡ length a + (i - length a) = omega (arith, le) in
          nth_here (a ++ b) i (omega (arith, l, lt, le))
          ∙ (some_ap (get_or (a ++ b) i 0) (get_or b (i - length a) 0) (ap (λ (n : ℕ). get_or (a ++ b) n 0) at ∙ get_or-append-add a b (i - length a) 0)
          ∙ sym (nth_here b (i - length a) lt))
      | inr past ↦ nth_past (a ++ b) i (omega (arith, l, past, le)) ∙ sym (nth_past b (i - length a) past)
    ]

nth_take : (n : ℕ) (l : List ℕ) (i : ℕ) → i < n → nth (take n l) i ≡ nth l i
nth_take n l i lt =
    let t = length-take n l in
    elim (cases_lt i (length l)) [
      | inl in_ ↦ nth_here (take n l) i (omega (arith, t, in_, lt)) ∙ (some_ap (get_or (take n l) i 0) (get_or l i 0) (get_or-take n l i 0 lt) ∙ sym (nth_here l i in_))
      | inr past ↦ nth_past (take n l) i (omega (arith, t, past)) ∙ sym (nth_past l i past)
    ]

nth_drop : (n : ℕ) (l : List ℕ) (i : ℕ) → nth (drop n l) i ≡ nth l (n + i)
nth_drop n l i =
    let d = length-drop n l in
    elim (cases_lt i (length (drop n l))) [
      | inl in_ ↦ nth_here (drop n l) i in_ ∙ (some_ap (get_or (drop n l) i 0) (get_or l (n + i) 0) (get_or-drop n l i 0) ∙ sym (nth_here l (n + i) (omega (arith, d, in_))))
      | inr past ↦ nth_past (drop n l) i past ∙ sym (nth_past l (n + i) (omega (arith, d, past)))
    ]

-- ---- bytes of streams

-- one byte for another, where the archive has one there
streamed : (m : ℕ) (a b : List ℕ) (x : ℕ) → (is_segment (x / segment_bytes m) ≡ true → nth a (x - segment_bytes m) ≡ nth b (x - segment_bytes m)) → stream_byte m a x ≡ stream_byte m b x
streamed m a b x =
    elim (is_segment (x / segment_bytes m)) as (λ s. (s ≡ true → nth a (x - segment_bytes m) ≡ nth b (x - segment_bytes m)) → cond s (nth a (x - segment_bytes m)) None ≡ cond s (nth b (x - segment_bytes m)) None) [
      | true ↦ λ e. e refl
      | false ↦ λ e. refl
    ]

unstreamed : (m : ℕ) (a b : List ℕ) (x : ℕ) → is_segment (x / segment_bytes m) ≡ true → stream_byte m a x ≡ stream_byte m b x → nth a (x - segment_bytes m) ≡ nth b (x - segment_bytes m)
unstreamed m a b x is e =
    sym (ap (λ (s : Bool). cond s (nth a (x - segment_bytes m)) None) is) ∙ (e ∙ ap (λ (s : Bool). cond s (nth b (x - segment_bytes m)) None) is)

below : (m x : ℕ) → 1 ≤ m → is_segment (x / segment_bytes m) ≡ true → x < wal_limit m
below m x some is =
    let size : ℕ = segment_bytes m in
    let range = segment_range (x / size) is in
    let split = div-add-mod' x size in
    let small = mod-lt x {m = size} (omega (arith, some)) in
    let wide : suc (x / size) * size ≤ (most_segments + 1) * size = mul-le-mul_right size (let r = range.1 in let z : suc (x / size) ≤ most_segments + 1 = omega (arith, r) in z) in
    let next : suc (x / size) * size ≡ x / size * size + size = omega arith in
    omega (arith, split, small, wide, next)

-- ---- pieces

module _ (m base : ℕ) (s fed piece : List ℕ) (some : 1 ≤ m) (long : length s ≡ min (length fed) (archive_room m)) (same : (x : ℕ) → base ≤ x → stream_byte m s x ≡ stream_byte m fed x) where
  abbrev room : ℕ
  room = wal_limit m - (segment_bytes m + length s)

  abbrev cut : List ℕ
  cut = take room piece

  taken_long : length (s ++ cut) ≡ min (length (fed ++ piece)) (archive_room m)
  taken_long =
      let a = length-append s cut in
      let t = length-take room piece in
      let f = length-append fed piece in
      omega (arith, a, t, f, long, some)

  taken_nth : (i : ℕ) → i < archive_room m → (i < length s → nth s i ≡ nth fed i) → nth (s ++ cut) i ≡ nth (fed ++ piece) i
  taken_nth i within old =
      elim (cases_lt i (length s)) [
        | inl lt ↦ nth_left s cut i lt ∙ (old lt ∙ sym (nth_left fed piece i (omega (arith, lt, long))))
        | inr le ↦
            let one : length s ≡ length fed = omega (arith, long, le, within) in
            let low : i - length s < room = omega (arith, le, within, some) in
            nth_right s cut i le
            ∙ (nth_take room piece (i - length s) low
            ∙ (ap (λ (n : ℕ). nth piece (i - n)) one
            ∙ sym (nth_right fed piece i (omega (arith, one, le)))))
      ]

  taken_same : (x : ℕ) → base ≤ x → stream_byte m (s ++ cut) x ≡ stream_byte m (fed ++ piece) x
  taken_same x le = streamed m (s ++ cut) (fed ++ piece) x (λ is.
      let top = below m x some is in
      let range = segment_range (x / segment_bytes m) is in
      taken_nth (x - segment_bytes m) (omega (arith, top, some)) (λ lt. unstreamed m s fed x is (same x le)))

-- a window with the stream that it shows
moved : (v : Span) (m b : ℕ) (s fed : List ℕ) → v.mib ≡ m → v.base ≡ b → shown v ≡ s → 1 ≤ m → segment_bytes m ≤ b → length s ≡ min (length fed) (archive_room m) → ((x : ℕ) → b ≤ x → stream_byte m s x ≡ stream_byte m fed x) → IsStreamEnd v fed
moved v m b s fed em eb es some least long same = record {
  some = subst (λ (n : ℕ). 1 ≤ n) (sym em) some;
  least = subst (λ (n : ℕ). segment_bytes n ≤ v.base) (sym em) (subst (λ (k : ℕ). segment_bytes m ≤ k) (sym eb) least);
  long = ap length es ∙ (long ∙ ap (λ (n : ℕ). min (length fed) (archive_room n)) (sym em));
  same = λ x le.
      ap (λ (l : List ℕ). stream_byte v.mib l x) es
      ∙ subst (λ (n : ℕ). stream_byte n s x ≡ stream_byte n fed x) (sym em) (same x (subst (λ (k : ℕ). k ≤ x) eb le));
}

-- what a window shows, by its parts
abbrev shown_by : ℕ → ℕ → List ℕ → List ℕ
shown_by m b tail = replicate (b - segment_bytes m) 0 ++ tail

abbrev tail_of : Span → List ℕ
tail_of w = w.bytes ++ replicate w.zeros 0

tail_long : (w : Span) → length (tail_of w) ≡ length w.bytes + w.zeros
tail_long w = let a = length-append w.bytes (replicate w.zeros 0) in let r = length-replicate {A = ℕ} w.zeros 0 in omega (arith, a, r)

shown_long : (w : Span) → segment_bytes w.mib ≤ w.base → segment_bytes w.mib + length (shown w) ≡ span_top w
shown_long w least =
    let a = length-append (replicate (w.base - segment_bytes w.mib) 0) (tail_of w) in
    let r = length-replicate {A = ℕ} (w.base - segment_bytes w.mib) 0 in
    let t = tail_long w in
    omega (arith, a, r, t, least)

pub takes : WindowsTake
takes w v fed piece is em eb et =
    let front : List ℕ = replicate (w.base - segment_bytes w.mib) 0 in
    let end = wal_limit w.mib - span_top w in
    let count : end ≡ wal_limit w.mib - (segment_bytes w.mib + length (shown w)) = ap (λ (n : ℕ). wal_limit w.mib - n) (sym (shown_long w is.least)) in
    let parts : shown v ≡ shown w ++ take end piece =
    ap (λ (m : ℕ). shown_by m v.base (tail_of v)) em
    ∙ (ap (λ (b : ℕ). shown_by w.mib b (tail_of v)) eb
    ∙ (ap (shown_by w.mib w.base) et
    ∙ sym (append_assoc front (tail_of w) (take end piece)))) in
    moved v w.mib w.base (shown w ++ take (wal_limit w.mib - (segment_bytes w.mib + length (shown w))) piece) (fed ++ piece) em eb
    (parts ∙ ap (λ (n : ℕ). shown w ++ take n piece) count) is.some is.least
    (taken_long w.mib w.base (shown w) fed piece is.some is.long is.same)
    (taken_same w.mib w.base (shown w) fed piece is.some is.long is.same)

pub forgets : WindowsForget
forgets w v fed is em le top et =
    let size : ℕ = segment_bytes w.mib in
    let d : ℕ = v.base - w.base in
    let tail = tail_of w in
    let least = is.least in
    let old : List ℕ = replicate (w.base - size) 0 in
    let new : List ℕ = replicate (v.base - size) 0 in
    let lo = length-replicate {A = ℕ} (w.base - size) 0 in
    let ln = length-replicate {A = ℕ} (v.base - size) 0 in
    let lt = tail_long w in
    let ld = length-drop d tail in
    let la = length-append old tail in
    let lb = length-append new (drop d tail) in
    let long : length (new ++ drop d tail) ≡ length (shown w) = omega (arith, lo, ln, lt, ld, la, lb, least, le, top) in
    moved v w.mib v.base (new ++ drop d tail) fed em refl
    (ap (λ (m : ℕ). shown_by m v.base (tail_of v)) em ∙ ap (shown_by w.mib v.base) et)
    is.some (omega (arith, least, le)) (long ∙ is.long)
    (λ x far.
    streamed w.mib (new ++ drop d tail) (shown w) x (λ seg.
    let i = x - size in
    let at : d + (i - length new) ≡ i - length old = omega (arith, lo, ln, least, le, far) in
    nth_right new (drop d tail) i (omega (arith, ln, far))
    ∙ (nth_drop d tail (i - length new)
    ∙ (ap (nth tail) at
    ∙ sym (nth_right old tail i (omega (arith, lo, le, far))))))
    ∙ is.same x (omega (arith, le, far)))
