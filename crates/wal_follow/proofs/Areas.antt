-- What an area shows of a window: sizes, and the bytes of a run.
use Rattle.std.proofs.Common.{◌≡◌, ℕ, ◌+◌, ◌-◌, ◌*◌, ◌<◌, ◌≤◌, min, max, true, inl, inr, List, [], ◌∷◌, ◌++◌, length, map, take, drop, replicate, get_or, Option, Some, None, refl, sym, ap, subst, ◌∙◌, arith}
use Rattle.std.specs.List.{range_with_len}
use Rattle.std.specs.FinMap.{get, keys}
use Rattle.std.proofs.lemmas.List.FromFn.{map-range_with_len_more}
use Rattle.std.specs.Option.{unwrap_or}
use Rattle.std.proofs.lemmas.Bool.{cases_lt}
use Rattle.std.proofs.lemmas.List.{same_lists, length-append, length-replicate, length-take, length-drop, get_or_append_left, get_or-append_right, get_or-replicate, get_or-take, get_or-drop, get_or_default, drop-take, take-take, drop-drop}
use Rattle.lsn_core.specs.byte_words.Pieces.{overwritten}
use Rattle.lsn_core.proofs.byte_words.Overwritten.{length-overwritten, overwritten_before, overwritten_within, overwritten_behind}
use Rattle.lsn_core.specs.Segment.{segment_bytes}
use Rattle.vault.specs.Area.{bytes_of, IsRead}
use Rattle.stream_laws.specs.Streams.{segment_part}
use Rattle.stream_laws.specs.Windows.{Span, shown, span_files}
use Rattle.lsn_core.specs.Names.{segment_name_bytes}
use Rattle.wal_archive.specs.Archive.{is_segment}
use Rattle.wal_archive.proofs.Files.{segment_range}
use Rattle.wal_archive.proofs.Names.{names_differ}
use Rattle.wal_archive.proofs.Writes.{segment_by}
use Rattle.stream_laws.proofs.NamesStand.{names_stand}
use Rattle.stream_laws.proofs.FilesStand.{files_stand, none_else}
use Rattle.wal_follow.specs.Window.{run, span_segments, NamesPart, IsPartRead}

pub shown_size : (w : Span) → segment_bytes w.mib ≤ w.base → length (shown w) ≡ (w.base - segment_bytes w.mib) + (length w.bytes + w.zeros)
shown_size w least =
    let a = length-append (replicate (w.base - segment_bytes w.mib) 0) (w.bytes ++ replicate w.zeros 0) in
    let b = length-append w.bytes (replicate w.zeros 0) in
    let c = length-replicate {A = ℕ} (w.base - segment_bytes w.mib) 0 in
    let d = length-replicate {A = ℕ} w.zeros 0 in
    omega (arith, a, b, c, d)

-- ---- the bytes of a run

run_before : (lead zeros i : ℕ) (bytes : List ℕ) → i < lead → get_or (run lead bytes zeros) i 0 ≡ 0
run_before lead zeros i bytes lt =
    let r = length-replicate {A = ℕ} lead 0 in
    get_or_append_left (replicate lead 0) (bytes ++ replicate zeros 0) 0 i (omega (arith, r, lt)) ∙ get_or-replicate lead i 0 0 lt

run_within : (lead zeros i : ℕ) (bytes : List ℕ) → lead ≤ i → i - lead < length bytes → get_or (run lead bytes zeros) i 0 ≡ get_or bytes (i - lead) 0
run_within lead zeros i bytes le lt =
    let r = length-replicate {A = ℕ} lead 0 in
    get_or-append_right (replicate lead 0) (bytes ++ replicate zeros 0) lead i 0 r le
    ∙ get_or_append_left bytes (replicate zeros 0) 0 (i - lead) lt

run_behind : (lead zeros i : ℕ) (bytes : List ℕ) → lead + length bytes ≤ i → i < lead + (length bytes + zeros) → get_or (run lead bytes zeros) i 0 ≡ 0
run_behind lead zeros i bytes le lt =
    let r = length-replicate {A = ℕ} lead 0 in
    get_or-append_right (replicate lead 0) (bytes ++ replicate zeros 0) lead i 0 r (omega (arith, le))
    ∙ (get_or-append_right bytes (replicate zeros 0) (length bytes) (i - lead) 0 refl (omega (arith, le))
    ∙ get_or-replicate zeros (i - lead - length bytes) 0 0 (omega (arith, le, lt)))

-- lists of numbers that are the same at each place
same_at : (xs ys : List ℕ) → length xs ≡ length ys → ((k : ℕ) → k < length xs → get_or xs k 0 ≡ get_or ys k 0) → xs ≡ ys
same_at xs ys e f =
    same_lists xs ys e (λ k d lt. get_or_default xs k d 0 lt ∙ (f k lt ∙ sym (get_or_default ys k d 0 (omega (arith, e, lt)))))

module _ (lead zeros from n : ℕ) (bytes : List ℕ) (fits : from + n ≤ lead + (length bytes + zeros)) where
  abbrev wanted : List ℕ
  wanted = take n (drop from (run lead bytes zeros))

  wanted_long : length wanted ≡ n
  wanted_long =
      let t = length-take n (drop from (run lead bytes zeros)) in
      let d = length-drop from (run lead bytes zeros) in
      let a = length-append (replicate lead 0) (bytes ++ replicate zeros 0) in
      let b = length-append bytes (replicate zeros 0) in
      let c = length-replicate {A = ℕ} lead 0 in
      let e = length-replicate {A = ℕ} zeros 0 in
      omega (arith, t, d, a, b, c, e, fits)

  wanted_at : (k : ℕ) → k < n → get_or wanted k 0 ≡ get_or (run lead bytes zeros) (from + k) 0
  wanted_at k lt = get_or-take n (drop from (run lead bytes zeros)) k 0 lt ∙ get_or-drop from (run lead bytes zeros) k 0

  -- none of the bytes lies in the run
  copied_zeros : min (lead + length bytes) (from + n) ≤ max from lead → replicate n 0 ≡ wanted
  copied_zeros none =
      let r = length-replicate {A = ℕ} n 0 in
      same_at (replicate n 0) wanted (r ∙ sym wanted_long) (λ k lt.
      let small : k < n = omega (arith, r, lt) in
      get_or-replicate n k 0 0 small ∙ sym (wanted_at k small ∙ elim (cases_lt (from + k) lead) [
        | inl before ↦ run_before lead zeros (from + k) bytes before
        | inr later ↦ run_behind lead zeros (from + k) bytes (omega (arith, none, small, later)) (omega (arith, fits, small))
      ]))

  module _ (piece : List ℕ) (start : ℕ) (at : start ≡ max from lead) (some : start < min (lead + length bytes) (from + n)) (long : length piece ≡ min (lead + length bytes) (from + n) - start) (same : (i : ℕ) → i < length piece → get_or piece i 0 ≡ get_or bytes (start - lead + i) 0) where
    place : start - from ≤ length {A = ℕ} (replicate n 0)
    place = let r = length-replicate {A = ℕ} n 0 in omega (arith, r, at, some)

    size : length (overwritten (replicate n 0) (start - from) piece) ≡ length {A = ℕ} (replicate n 0)
    size = let r = length-replicate {A = ℕ} n 0 in length-overwritten (replicate n 0) (start - from) piece (omega (arith, r, at, some, long))

    -- before the bytes, among them, and behind them
    at_before : (k : ℕ) → k < n → k < start - from → get_or (overwritten (replicate n 0) (start - from) piece) k 0 ≡ get_or wanted k 0
    at_before k small before =
        let low : from + k < lead = omega (arith, at, before) in
        overwritten_before (replicate n 0) (start - from) piece k place before
        ∙ (get_or-replicate n k 0 0 small ∙ sym (wanted_at k small ∙ run_before lead zeros (from + k) bytes low))

    at_within : (k : ℕ) → k < n → start - from ≤ k → k < start - from + length piece → get_or (overwritten (replicate n 0) (start - from) piece) k 0 ≡ get_or wanted k 0
    at_within k small later within =
        let whole : k ≡ start - from + (k - (start - from)) = omega (arith, later) in
        let there : start - lead + (k - (start - from)) ≡ from + k - lead = omega (arith, at, later) in
        let low : lead ≤ from + k = omega (arith, at, later) in
        let high : from + k - lead < length bytes = omega (arith, at, some, long, later, within) in
        let inside : k - (start - from) < length piece = omega (arith, later, within) in
        ap (λ (j : ℕ). get_or (overwritten (replicate n 0) (start - from) piece) j 0) whole
        ∙ (overwritten_within (replicate n 0) (start - from) piece (k - (start - from)) place inside
        ∙ (same (k - (start - from)) inside
        ∙ (ap (λ (j : ℕ). get_or bytes j 0) there
        ∙ sym (wanted_at k small ∙ run_within lead zeros (from + k) bytes low high))))

    at_behind : (k : ℕ) → k < n → start - from + length piece ≤ k → get_or (overwritten (replicate n 0) (start - from) piece) k 0 ≡ get_or wanted k 0
    at_behind k small behind =
        let low : lead + length bytes ≤ from + k = omega (arith, at, some, long, behind, small) in
        let high : from + k < lead + (length bytes + zeros) = omega (arith, fits, small) in
        overwritten_behind (replicate n 0) (start - from) piece k place behind
        ∙ (get_or-replicate n k 0 0 small ∙ sym (wanted_at k small ∙ run_behind lead zeros (from + k) bytes low high))

    copied_bytes : overwritten (replicate n 0) (start - from) piece ≡ wanted
    copied_bytes =
        let r = length-replicate {A = ℕ} n 0 in
        let e = size in
        same_at (overwritten (replicate n 0) (start - from) piece) wanted (size ∙ (r ∙ sym wanted_long)) (λ k lt.
        let small : k < n = omega (arith, r, lt, e) in
        elim (cases_lt k (start - from)) [
          | inl before ↦ at_before k small before
          | inr later ↦ elim (cases_lt k (start - from + length piece)) [
            | inl within ↦ at_within k small later within
            | inr behind ↦ at_behind k small behind
          ]
        ])

-- what a copy leaves, where none of the bytes lies in the run
pub copied_none : (lead zeros from n start end : ℕ) (bytes into : List ℕ) → from + n ≤ lead + (length bytes + zeros) → start ≡ max from lead → end ≡ min (lead + length bytes) (from + n) → end ≤ start → into ≡ replicate n 0 → into ≡ take n (drop from (run lead bytes zeros))
copied_none lead zeros from n start end bytes into fits at to none cleared =
    cleared ∙ copied_zeros lead zeros from n bytes fits (omega (arith, at, to, none))

-- and where some do
pub copied_some : (lead zeros from n start end : ℕ) (bytes into piece now : List ℕ) → from + n ≤ lead + (length bytes + zeros) → start ≡ max from lead → end ≡ min (lead + length bytes) (from + n) → start < end → into ≡ replicate n 0 → piece ≡ take (end - lead - (start - lead)) (drop (start - lead) bytes) → now ≡ overwritten into (start - from) piece → now ≡ take n (drop from (run lead bytes zeros))
copied_some lead zeros from n start end bytes into piece now fits at to some cleared part is =
    let t = length-take (end - lead - (start - lead)) (drop (start - lead) bytes) in
    let d = length-drop (start - lead) bytes in
    let p : length piece ≡ length (take (end - lead - (start - lead)) (drop (start - lead) bytes)) = ap (λ (l : List ℕ). length l) part in
    let long : length piece ≡ min (lead + length bytes) (from + n) - start = omega (arith, t, d, p, at, to, some) in
    is ∙ (ap (λ (l : List ℕ). overwritten l (start - from) piece) cleared
    ∙ copied_bytes lead zeros from n bytes fits piece start at (omega (arith, to, some)) long (λ i lt.
    let few : i < end - lead - (start - lead) = omega (arith, long, to, lt, at) in
    ap (λ (l : List ℕ). get_or l i 0) part
    ∙ (get_or-take (end - lead - (start - lead)) (drop (start - lead) bytes) i 0 few
    ∙ get_or-drop (start - lead) bytes i 0)))

-- ---- a read of a segment's file

-- a part of a stream's bytes, from a place within the part on
part_from : (size before at count : ℕ) (bytes : List ℕ) → at + count ≤ size → take count (drop at (take size (drop before bytes))) ≡ take count (drop (before + at) bytes)
part_from size before at count bytes within =
    let whole : size ≡ at + (size - at) = omega (arith, within) in
    ap (λ (n : ℕ). take count (drop at (take n (drop before bytes)))) whole
    ∙ (ap (take count) (drop-take at (size - at) (drop before bytes))
    ∙ (take-take count (size - at) (drop at (drop before bytes)) (omega (arith, within))
    ∙ ap (take count) (drop-drop at before bytes)))

-- the same of a part of what a window shows
module _ (w : Span) (s at count : ℕ) (before now : List ℕ) (few : count ≡ min (length (segment_part w.mib (shown w) s) - at) (length before)) where
  -- where the copy ends
  pub part_fits : 0 < count → (s - 1) * segment_bytes w.mib + at + count ≤ length (shown w)
  part_fits some =
      let t = length-take (segment_bytes w.mib) (drop ((s - 1) * segment_bytes w.mib) (shown w)) in
      let d = length-drop ((s - 1) * segment_bytes w.mib) (shown w) in
      omega (arith, t, d, few, some)

  pub nothing_read : count ≡ 0 → IsPartRead w s at before before 0
  nothing_read none = record { counted = omega (arith, few, none); bytes = refl }

  pub part_read : 0 < count → now ≡ take count (drop ((s - 1) * segment_bytes w.mib + at) (shown w)) ++ drop count before → IsPartRead w s at before now count
  part_read some is =
      let t = length-take (segment_bytes w.mib) (drop ((s - 1) * segment_bytes w.mib) (shown w)) in
      record {
        counted = omega (arith, few);
        bytes = is ∙ ap (λ (l : List ℕ). l ++ drop count before) (sym (part_from (segment_bytes w.mib) ((s - 1) * segment_bytes w.mib) at count (shown w) (omega (arith, few, some, t))));
      }

-- as a copy of a run leaves it
pub part_done : (w : Span) (s at count from lead : ℕ) (before old new : List ℕ) → segment_bytes w.mib ≤ w.base → count ≡ min (length (segment_part w.mib (shown w) s) - at) (length before) → 0 < count → lead ≡ w.base - segment_bytes w.mib → from ≡ (s - 1) * segment_bytes w.mib + at → length old ≡ count → ((zeros : ℕ) → from + length old ≤ lead + (length w.bytes + zeros) → new ≡ take (length old) (drop from (run lead w.bytes zeros))) → IsPartRead w s at before (new ++ drop count before) count
part_done w s at count from lead before old new least few some lead_is from_is long copies =
    let fits = part_fits w s at count before before few some in
    let size = shown_size w least in
    let copied = copies w.zeros (omega (arith, fits, size, lead_is, from_is, long)) in
    part_read w s at count before (new ++ drop count before) few some
    (ap (λ (l : List ℕ). l ++ drop count before)
    (copied
    ∙ (ap (λ (n : ℕ). take n (drop from (run lead w.bytes w.zeros))) long
    ∙ (ap (λ (x : ℕ). take count (drop x (run lead w.bytes w.zeros))) from_is
    ∙ ap (λ (x : ℕ). take count (drop ((s - 1) * segment_bytes w.mib + at) (run x w.bytes w.zeros))) lead_is))))

-- a read of a file with these bytes
pub file_read : (w : Span) (name before now : List ℕ) (s at count : ℕ) → get (span_files w) name ≡ Some (segment_part w.mib (shown w) s) → IsPartRead w s at before now count → IsRead (span_files w) name at before now count
file_read w name before now s at count there is =
    let held : bytes_of (span_files w) name ≡ segment_part w.mib (shown w) s = ap (λ (o : Option (List ℕ)). unwrap_or o []) there in
    record {
      counted = is.counted ∙ ap (λ (b : List ℕ). min (length before) (length b - at)) (sym held);
      bytes = is.bytes ∙ ap (λ (b : List ℕ). take count (drop at b) ++ drop count before) (sym held);
    }

-- what isn't there has no bytes
pub missing_read : (w : Span) (name before : List ℕ) (at : ℕ) → get (span_files w) name ≡ None → IsRead (span_files w) name at before before 0
missing_read w name before at none =
    let held : bytes_of (span_files w) name ≡ [] = ap (λ (o : Option (List ℕ)). unwrap_or o []) none in
    record {
      counted = let few : 0 ≡ min (length before) (0 - at) = omega arith in few ∙ ap (λ (b : List ℕ). min (length before) (length b - at)) (sym held);
      bytes = refl;
    }

-- ---- names of files

pub part_there : (w : Span) (name : List ℕ) (s : ℕ) → is_segment s ≡ true → name ≡ segment_name_bytes s w.mib → s ≤ span_segments w → NamesPart w name (Some s)
part_there w name s is named le =
    let range = segment_range s is in
    (range.0, le, subst (λ (n : List ℕ). get (span_files w) n ≡ Some (segment_part w.mib (shown w) s)) (sym named) (files_stand w.mib s (shown w) range.0 le))

pub none_there : (w : Span) (name : List ℕ) → ((s : ℕ) → is_segment s ≡ true → name ≡ segment_name_bytes s w.mib → ⊥) → NamesPart w name None
none_there w name never = none_else w.mib (shown w) name (λ s low high e. never s (segment_by s low (omega (arith, high))) e)

pub none_behind : (w : Span) (name : List ℕ) (s : ℕ) → is_segment s ≡ true → name ≡ segment_name_bytes s w.mib → span_segments w < s → NamesPart w name None
none_behind w name s is named past =
    let range = segment_range s is in
    let most = range.1 in
    none_else w.mib (shown w) name (λ t low high e.
    let same : t ≡ s = names_differ w.mib t s (omega (arith, high)) (omega (arith, most)) (sym e ∙ named) in
    absurd (omega (arith, same, high, past)))

pub one_name_more : (mib seg : ℕ) (names : List (List ℕ)) (name : List ℕ) (now : List (List ℕ)) → 1 ≤ seg → names ≡ map (λ s. segment_name_bytes s mib) (range_with_len 1 (seg - 1)) → name ≡ segment_name_bytes seg mib → now ≡ names ++ (name ∷ []) → now ≡ map (λ s. segment_name_bytes s mib) (range_with_len 1 (seg + 1 - 1))
one_name_more mib seg names name now least so_far is pushed =
    let count : seg - 1 + 1 ≡ seg + 1 - 1 = omega (arith, least) in
    pushed
    ∙ (ap (λ (l : List (List ℕ)). l ++ (name ∷ [])) so_far
    ∙ (ap (λ (n : List ℕ). map (λ s. segment_name_bytes s mib) (range_with_len 1 (seg - 1)) ++ (n ∷ [])) is
    ∙ (sym (map-range_with_len_more (λ s. segment_name_bytes s mib) 1 (seg - 1) seg (omega (arith, least)))
    ∙ ap (λ (n : ℕ). map (λ s. segment_name_bytes s mib) (range_with_len 1 n)) count)))

pub names_there : (w : Span) (names : List (List ℕ)) (count : ℕ) → 1 ≤ w.mib → w.mib ≤ 1024 → count ≡ span_segments w → names ≡ map (λ s. segment_name_bytes s w.mib) (range_with_len 1 count) → names ≡ keys (span_files w)
names_there w names count some most counted is =
    is ∙ (ap (λ (n : ℕ). map (λ s. segment_name_bytes s w.mib) (range_with_len 1 n)) counted ∙ sym (names_stand w.mib (shown w) some most))
