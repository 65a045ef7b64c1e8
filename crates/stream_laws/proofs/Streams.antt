-- The archive of a stream's files has the stream's bytes.
use Rattle.std.proofs.Common.{◌≡◌, ℕ, zero, suc, ◌+◌, ◌-◌, ◌*◌, ◌/◌, ◌%◌, ◌<◌, ◌≤◌, Bool, true, false, cond, ◌&&◌, inl, inr, List, [], map, length, take, drop, get_or, Option, Some, None, unwrap_or, refl, sym, ap, ap₂, ◌∙◌, arith}
use Rattle.std.specs.List.{AllByRecursion, list_any, range_with_len}
use Rattle.std.specs.FinMap.{empty, get-empty}
use Rattle.std.specs.Ordering.{nat_cmp}
use Rattle.std.specs.Cmp.Lexicographic.{slice_cmp}
use Rattle.std.proofs.lemmas.Bool.{cases_lt, lt-ltb, le-ltb, le-leb}
use Rattle.std.proofs.lemmas.Nat.{div-add-mod'}
use Rattle.std.proofs.Math.Nat.{le-div_iff_mul-le, div-mul-le_self, mod-lt}
use Rattle.std.proofs.lemmas.List.{length-take, length-drop, get_or-take, get_or-drop, take_all, drop_all}
use Rattle.lsn_core.proofs.AnyAll.{all_range, any_range}
use Rattle.lsn_core.proofs.StoreFiles.{get_with_files, same_name, name_itself}
use Rattle.lsn_core.specs.Files.{Files}
use Rattle.lsn_core.specs.Names.{segment_name_bytes}
use Rattle.lsn_core.specs.Segment.{segment_bytes}
use Rattle.lsn_core.specs.Sizes.{most_segments}
use Rattle.vault.specs.Area.{bytes_of}
use Rattle.wal_archive.specs.Archive.{archive_of, is_segment, held_in, byte_of, nth}
use Rattle.wal_archive.proofs.Files.{files_archive, segment_range, nth_held}
use Rattle.wal_archive.proofs.Names.{names_differ}
use Rattle.stream_laws.specs.Waiting.{IsSolid}
use Rattle.stream_laws.specs.Streams.{segments_begun, segment_part, stream_files, stream_byte, IsStreamed, StreamsAreArchives}

abbrev Named : Type 0
Named = List ℕ × List ℕ

-- ---- the file of a segment

file_at : ℕ → List ℕ → ℕ → Named
file_at mib bytes seg = (segment_name_bytes seg mib, segment_part mib bytes seg)

by_any : (there : Bool) (part : List ℕ) → (there ≡ false → part ≡ []) → unwrap_or (cond there (Some part) None) [] ≡ part
by_any true part none = refl
by_any false part none = sym (none refl)

behind_all : (size n k len : ℕ) → 1 ≤ size → n ≡ (len + (size - 1)) / size → n < suc k → len ≤ k * size
behind_all size n k len some is lt =
    elim (cases_lt (k * size) len) [
      | inl more ↦
          let low : suc k * size ≤ len + (size - 1) = omega (arith, more, some) in
          let high : suc k ≤ (len + (size - 1)) / size = (le-div_iff_mul-le {k = size} some).1 low in
          absurd (omega (arith, high, is, lt))
      | inr le ↦ le
    ]

split_low : (size q r x : ℕ) → 1 ≤ q → q * size + r ≡ x → x - size ≡ (q - 1) * size + r
split_low size zero r x some e = absurd (omega (arith, some))
split_low size (suc k) r x some e =
    let one : suc k - 1 ≡ k = omega arith in
    let low : x - size ≡ k * size + r = omega (arith, e) in
    low ∙ sym (ap (λ (n : ℕ). n * size + r) one)

take_nil : (n : ℕ) → take {A = ℕ} n [] ≡ []
take_nil n = take_all n [] (omega arith)

nth_nil : (i : ℕ) → nth [] i ≡ None
nth_nil i = rw (le-ltb i 0 (omega arith)) refl

in_range : (s : ℕ) → 1 ≤ s → s ≤ most_segments → is_segment s ≡ true
unfolding is_segment
in_range s low high = ap₂ (λ (a b : Bool). a && b) (le-leb 1 s low) (le-leb s most_segments high)

module _ (mib : ℕ) (bytes : List ℕ) (some : 1 ≤ mib) where
  abbrev size : ℕ
  size = segment_bytes mib

  abbrev files : Files
  files = stream_files mib bytes

  no_part : (s : ℕ) → s ≤ most_segments → segments_begun mib bytes < s → segment_part mib bytes s ≡ []
  no_part s fits lt =
      let past = behind_all size ((length bytes + (size - 1)) / size) (s - 1) (length bytes) (omega (arith, some)) refl (omega (arith, lt, fits)) in
      ap (take size) (drop_all ((s - 1) * size) bytes past) ∙ take_nil size

  file_bytes : (s : ℕ) → is_segment s ≡ true → bytes_of files (segment_name_bytes s mib) ≡ segment_part mib bytes s
  file_bytes s is =
      let range = segment_range s is in
      let name = segment_name_bytes s mib in
      let part = segment_part mib bytes s in
      let own : List Named = map (λ seg. (segment_name_bytes seg mib, segment_part mib bytes seg)) (range_with_len 1 (segments_begun mib bytes)) in
      let all : AllByRecursion (λ f. name ≡ f.0 → f.1 ≡ part) own =
      all_range (λ (f : Named). name ≡ f.0 → f.1 ≡ part) (λ seg. (segment_name_bytes seg mib, segment_part mib bytes seg)) 1 (segments_begun mib bytes)
      (λ k least less e. ap (segment_part mib bytes) (names_differ mib k s (omega (arith, less)) (omega (arith, range.1)) (sym e))) in
      let there = get_with_files empty name part own all ∙ ap (λ (o : Option (List ℕ)). cond (list_any (λ f. same_name name f.0) own) (Some part) o) (get-empty (slice_cmp nat_cmp) name) in
      ap (λ (o : Option (List ℕ)). unwrap_or o []) there
      ∙ by_any (list_any (λ f. same_name name f.0) own) part (λ none. elim (cases_lt (segments_begun mib bytes) s) [
        | inl lt ↦ no_part s range.1 lt
        | inr le ↦
            let found = any_range (λ (f : Named). same_name name f.0) (λ seg. (segment_name_bytes seg mib, segment_part mib bytes seg)) 1 (segments_begun mib bytes) s range.0 (omega (arith, le)) (name_itself name) in
            absurd (let never : true ≡ false = sym found ∙ none in cc)
      ])

  -- ---- a byte

  held_part : (s : ℕ) → is_segment s ≡ true → held_in mib files s ≡ segment_part mib bytes s
  unfolding held_in
  held_part s is = ap (λ (b : Bool). cond b (take size (bytes_of files (segment_name_bytes s mib))) []) is ∙ (ap (take size) (file_bytes s is) ∙ taken size (drop ((s - 1) * size) bytes))
    where
      taken : (n : ℕ) (l : List ℕ) → take n (take n l) ≡ take n l
      taken n l = let long = length-take n l in take_all n (take n l) (omega (arith, long))

  held_none : (s : ℕ) → is_segment s ≡ false → held_in mib files s ≡ []
  unfolding held_in
  held_none s is = ap (λ (b : Bool). cond b (take size (bytes_of files (segment_name_bytes s mib))) []) is

  nth_part : (s i : ℕ) → i < size → nth (segment_part mib bytes s) i ≡ nth bytes ((s - 1) * size + i)
  nth_part s i lt =
      let cut = drop ((s - 1) * size) bytes in
      let long = length-drop ((s - 1) * size) bytes in
      let part = length-take size cut in
      elim (cases_lt ((s - 1) * size + i) (length bytes)) [
        | inl within ↦
            rw (lt-ltb i (length (take size cut)) (omega (arith, part, long, lt, within)), lt-ltb ((s - 1) * size + i) (length bytes) within)
            (ap (λ (b : ℕ). Some b) (get_or-take size cut i 0 lt ∙ get_or-drop ((s - 1) * size) bytes i 0))
        | inr past ↦
            rw (le-ltb i (length (take size cut)) (omega (arith, part, long, past)), le-ltb ((s - 1) * size + i) (length bytes) past) refl
      ]

  byte_is : (x : ℕ) → byte_of mib files x ≡ stream_byte mib bytes x
  unfolding byte_of
  byte_is x =
      elim (is_segment (x / size)) as (λ b. is_segment (x / size) ≡ b → nth (held_in mib files (x / size)) (x % size) ≡ cond b (nth bytes (x - size)) None) [
        | true ↦ λ is.
            let range = segment_range (x / size) is in
            let split = div-add-mod' x size in
            let small = mod-lt x {m = size} (omega (arith, some)) in
            let low : x - size ≡ (x / size - 1) * size + x % size = split_low size (x / size) (x % size) x range.0 split in
            ap (λ (l : List ℕ). nth l (x % size)) (held_part (x / size) is)
            ∙ (nth_part (x / size) (x % size) small ∙ ap (nth bytes) (sym low))
        | false ↦ λ is. ap (λ (l : List ℕ). nth l (x % size)) (held_none (x / size) is) ∙ nth_nil (x % size)
      ] refl

  -- ---- no gap

  is_some_byte : (x b : ℕ) → stream_byte mib bytes x ≡ Some b → (is_segment (x / size) ≡ true) × (x - size < length bytes)
  is_some_byte x b e =
      elim (is_segment (x / size)) as (λ s. is_segment (x / size) ≡ s → cond s (nth bytes (x - size)) None ≡ Some b → (is_segment (x / size) ≡ true) × (x - size < length bytes)) [
        | true ↦ λ is f. (
          is,
          elim (cases_lt (x - size) (length bytes)) [
            | inl lt ↦ lt
            | inr le ↦ absurd (let none : nth bytes (x - size) ≡ None = rw (le-ltb (x - size) (length bytes) le) refl in let never : None ≡ Some b = sym none ∙ f in cc)
          ],
        )
        | false ↦ λ is f. absurd cc
      ] refl e

  no_gap : IsSolid (archive_of mib files) size
  no_gap = record {
    ends = λ x least none.
        let a = archive_of mib files in
        let arch = files_archive mib files some in
        elim (cases_lt x a.top) [
          | inl lt ↦
              let last = arch.top_held (omega (arith, lt)) in
              let there = is_some_byte (a.top - 1) last.0 (sym (byte_is (a.top - 1)) ∙ last.1) in
              let high = segment_range ((a.top - 1) / size) there.0 in
              let up : x / size ≤ (a.top - 1) / size = (let d = div-mul-le_self x size in (le-div_iff_mul-le {k = size} (omega (arith, some))).1 (omega (arith, d, lt))) in
              let one : 1 ≤ x / size = (le-div_iff_mul-le {k = size} (omega (arith, some))).1 (omega (arith, least)) in
              let is = in_range (x / size) one (omega (arith, up, high.1)) in
              let within : x - size < length bytes = (let w = there.1 in omega (arith, w, lt)) in
              let here : stream_byte mib bytes x ≡ Some (get_or bytes (x - size) 0) =
              ap (λ (b : Bool). cond b (nth bytes (x - size)) None) is ∙ nth_held bytes (x - size) within in
              absurd (let never : None ≡ Some (get_or bytes (x - size) 0) = sym none ∙ (byte_is x ∙ here) in cc)
          | inr le ↦ le
        ];
  }

  pub streamed : IsStreamed mib bytes (archive_of mib files)
  streamed = record { archive = files_archive mib files some; byte = byte_is; solid = no_gap }

pub streams_are_archives : StreamsAreArchives
streams_are_archives mib bytes some = streamed mib bytes some
