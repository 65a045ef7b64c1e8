-- What a look at one file tells of the ends of the archive, and what a look at all tells.
use Rattle.std.proofs.Common.{◌≡◌, ℕ, zero, suc, ◌+◌, ◌-◌, ◌*◌, ◌/◌, ◌<◌, ◌≤◌, min, Bool, true, false, cond, ltb, leb, eqb, not, ◌&&◌, List, [], ◌∷◌, length, get_or, take, drop, Option, Some, None, IfSome, refl, sym, ap, subst, ◌∙◌, arith, inl, inr}
use Rattle.std.specs.Prelude.{is_some, unwrap_or, nat_lt}
use Rattle.std.specs.Option.{option_map}
use Rattle.std.specs.FinMap.{get, keys}
use Rattle.std.proofs.lemmas.Bool.{cases_lt, lt-ltb, le-ltb, lt-leb, le-leb, ltb-true, ltb-false, cond-true, cond-false, ne_eqb, eq-eqb}
use Rattle.std.proofs.lemmas.List.{length-take}
use Rattle.lsn_core.specs.byte_words.Told.{when_told, when_both_told}
use Rattle.lsn_core.specs.Files.{Files}
use Rattle.lsn_core.specs.Segment.{segment_bytes}
use Rattle.lsn_core.specs.Names.{segment_name_bytes}
use Rattle.vault.specs.Area.{bytes_of, IsSizeIn}
use Rattle.wal_archive.specs.Archive.{is_segment, held_in, nonzero_end, end_at, has_segment, top_of, mark_of}
use Rattle.wal_archive.specs.Scanning.{TellsSegment, TellsHeld, TellsPast, IsScanned, held_end, marked_end, all_zero, TellsZeros}
use Rattle.wal_archive.specs.Archive.{archive_of}
use Rattle.wal_archive.specs.Rules.{broken_at, missing, not_held}
use Rattle.wal_archive.specs.declared.fault.Broken.TheVariants.{Torn, SegSize}
use Rattle.wal_archive.proofs.Files.{segment_range, held_short, end_at_pos, nonzero_there}
use Rattle.wal_archive.proofs.Writes.{held_old, segment_names_differ}
use Rattle.wal_archive.proofs.RunLaws.{all_told}
use Rattle.wal_archive.proofs.Scan.{top_scanned, mark_scanned, top_reached, mark_reached}

-- ---- the file of a segment

no_segment : (mib : ℕ) (m : Files) (s : ℕ) → is_segment s ≡ false → has_segment mib m s ≡ false
unfolding has_segment
no_segment mib m s e = rw e refl

pub held_outside : (o : Option Files) (mib s : ℕ) → is_segment s ≡ false
    → IfSome o (λ m. TellsHeld mib m s None)
held_outside o mib s e = all_told o (λ m. TellsHeld mib m s None) (λ m. no_segment mib m s e)

held_by : (mib : ℕ) (m : Files) (s : ℕ) (name : List ℕ) (size : Option ℕ) → is_segment s ≡ true
    → name ≡ segment_name_bytes s mib → size ≡ option_map length (get m name)
    → TellsHeld mib m s (option_map (λ n. min n (segment_bytes mib)) size)
unfolding has_segment
held_by mib m s name size is own told =
    found (get m name) refl
  where
    file : (l : Option (List ℕ)) → get m name ≡ l
        → held_in mib m s ≡ take (segment_bytes mib) (unwrap_or l [])
    file l e = held_old mib m s is ∙ ap (λ n. take (segment_bytes mib) (bytes_of m n)) (sym own)
        ∙ ap (λ (x : Option (List ℕ)). take (segment_bytes mib) (unwrap_or x [])) e

    has : (l : Option (List ℕ)) → get m name ≡ l → has_segment mib m s ≡ is_some l
    has l e = rw is (ap (λ n. is_some (get m n)) (sym own) ∙ ap is_some e)

    found : (l : Option (List ℕ)) → get m name ≡ l
        → TellsHeld mib m s (option_map (λ n. min n (segment_bytes mib)) size)
    found None e =
        subst (λ (z : Option ℕ). TellsHeld mib m s (option_map (λ n. min n (segment_bytes mib)) z))
        (sym (told ∙ ap (option_map length) e)) (has None e)
    found (Some l) e =
        let size_is : length (held_in mib m s) ≡ length (take (segment_bytes mib) l) =
        ap length (file (Some l) e) in
        let t = length-take (segment_bytes mib) l in
        subst (λ (z : Option ℕ). TellsHeld mib m s (option_map (λ n. min n (segment_bytes mib)) z))
        (sym (told ∙ ap (option_map length) e)) (has (Some l) e, omega (arith, size_is, t))

pub held_told : (o : Option Files) (mib s : ℕ) (name : List ℕ) (size : Option ℕ)
    → is_segment s ≡ true → name ≡ segment_name_bytes s mib → IsSizeIn o name size
    → IfSome o (λ m. TellsHeld mib m s (option_map (λ n. min n (segment_bytes mib)) size))
held_told o mib s name size is own told =
    when_told o (λ m. size ≡ option_map length (get m name))
    (λ m. TellsHeld mib m s (option_map (λ n. min n (segment_bytes mib)) size))
    (λ m e. held_by mib m s name size is own e) told

pub held_some_told : (o : Option Files) (mib s count bytes least : ℕ) (name : List ℕ)
    (size : Option ℕ)
    → is_segment s ≡ true → name ≡ segment_name_bytes s mib → size ≡ Some count
    → bytes ≡ segment_bytes mib → least ≡ min count bytes → IsSizeIn o name size
    → IfSome o (λ m. TellsHeld mib m s (Some least))
held_some_told o mib s count bytes least name size is own size_is bytes_is least_is told =
    subst (λ (z : Option ℕ). IfSome o (λ m. TellsHeld mib m s z))
    (ap (option_map (λ n. min n (segment_bytes mib))) size_is
    ∙ ap (λ n. some n) (sym (least_is ∙ ap (min count) bytes_is)))
    (held_told o mib s name size is own told)
  where
    some : ℕ → Option ℕ
    some n = Some n

pub held_none_told : (o : Option Files) (mib s : ℕ) (name : List ℕ) (size : Option ℕ)
    → is_segment s ≡ true → name ≡ segment_name_bytes s mib → size ≡ None → IsSizeIn o name size
    → IfSome o (λ m. TellsHeld mib m s None)
held_none_told o mib s name size is own size_is told =
    subst (λ (z : Option ℕ). IfSome o
    (λ m. TellsHeld mib m s (option_map (λ n. min n (segment_bytes mib)) z))) size_is
    (held_told o mib s name size is own told)

-- ---- one file

-- of a segment's file its own end tells
past_own : (ends : ℕ → ℕ) (mib x number : ℕ) (name : List ℕ) (b : Bool) → is_segment number ≡ true
    → name ≡ segment_name_bytes number mib → (b ≡ true → x < ends number)
    → (b ≡ false → ends number ≤ x) → TellsPast ends mib x name b
past_own ends mib x number name true is own reach stop = (number, is, reach refl)
past_own ends mib x number name false is own reach stop = λ s here named.
    let same : s ≡ number = segment_names_differ mib s number here is (sym named ∙ own) in
    let le = stop refl in
    let e : ends s ≡ ends number = ap ends same in
    omega (arith, le, e)

end_at_le : (mib s count : ℕ) → end_at mib s count ≤ s * segment_bytes mib + count
end_at_le mib s count =
    elim (cases_lt 0 (end_at mib s count)) [
      | inl some ↦ (let e = (end_at_pos mib s count some).1 in omega (arith, e))
      | inr none ↦ omega (arith, none)
    ]

end_at_some : (mib s count : ℕ) → 0 < count → end_at mib s count ≡ s * segment_bytes mib + count
end_at_some mib s count some = cond-false (eqb count 0) 0 (s * segment_bytes mib + count)
    (ne_eqb count 0 (λ e. omega (arith, e, some)))

-- a segment before the place
pub past_before : (o : Option Files) (mib x number : ℕ) (name : List ℕ)
    → TellsSegment mib name (Some number) → number * segment_bytes mib + segment_bytes mib ≤ x
    → IfSome o (λ m. TellsPast (held_end mib m) mib x name false)
past_before o mib x number name tells before =
    all_told o (λ m. TellsPast (held_end mib m) mib x name false) (λ m.
    past_own (held_end mib m) mib x number name false tells.0 tells.1 (λ e. absurd cc)
    (λ e. (let a = end_at_le mib number (length (held_in mib m number)) in
    let b = held_short mib m number in omega (arith, a, b, before))))

past_is : (mib x s count : ℕ) (b : Bool)
    → b ≡ (nat_lt 0 count && nat_lt x (s * segment_bytes mib + count))
    → (b ≡ true → x < end_at mib s count) × (b ≡ false → end_at mib s count ≤ x)
past_is mib x s count b is =
    elim (cases_lt 0 count) [
      | inr none ↦
          let z : count ≡ 0 = omega (arith, none) in
          let e : end_at mib s count ≡ 0 =
          cond-true (eqb count 0) 0 (s * segment_bytes mib + count) (eq-eqb count 0 z) in
          let f : b ≡ false = is ∙ rw (le-ltb 0 count none) refl in
          (λ t. absurd cc, λ t. omega (arith, e))
      | inl some ↦
          let e = end_at_some mib s count some in
          let f : b ≡ ltb x (s * segment_bytes mib + count) = is ∙ rw (lt-ltb 0 count some) refl in (
            λ t. (let lt = ltb-true x (s * segment_bytes mib + count) (sym f ∙ t) in
                omega (arith, lt, e)),
            λ t. (let le = ltb-false x (s * segment_bytes mib + count) (sym f ∙ t) in
                omega (arith, le, e)),
          )
    ]

-- a segment that has a file
pub past_held : (o : Option Files) (mib x number count end : ℕ) (name : List ℕ) (b : Bool)
    → TellsSegment mib name (Some number) → IfSome o (λ m. TellsHeld mib m number (Some count))
    → end ≡ number * segment_bytes mib + count → b ≡ (nat_lt 0 count && nat_lt x end)
    → IfSome o (λ m. TellsPast (held_end mib m) mib x name b)
past_held o mib x number count end name b tells told end_is is =
    when_told o (λ m. TellsHeld mib m number (Some count))
    (λ m. TellsPast (held_end mib m) mib x name b)
    (λ m held.
    let e : b ≡ (nat_lt 0 (length (held_in mib m number)) && nat_lt x
    (number * segment_bytes mib + length (held_in mib m number))) =
    is ∙ ap (λ n. nat_lt 0 count && nat_lt x n) end_is
    ∙ ap (λ n. nat_lt 0 n && nat_lt x (number * segment_bytes mib + n)) held.1 in
    let both = past_is mib x number (length (held_in mib m number)) b e in
    past_own (held_end mib m) mib x number name b tells.0 tells.1 both.0 both.1) told

-- one that has none holds nothing
none_held : (mib : ℕ) (m : Files) (s : ℕ) (name : List ℕ) → is_segment s ≡ true
    → has_segment mib m s ≡ false → length (held_in mib m s) ≡ 0
unfolding has_segment
none_held mib m s name is none =
    lacking (get m (segment_name_bytes s mib)) refl
  where
    lacking : (l : Option (List ℕ)) → get m (segment_name_bytes s mib) ≡ l
        → length (held_in mib m s) ≡ 0
    lacking None e =
        let t : held_in mib m s ≡ take (segment_bytes mib) [] = held_old mib m s is
        ∙ ap (λ (x : Option (List ℕ)). take (segment_bytes mib) (unwrap_or x [])) e in
        let z = length-take {A = ℕ} (segment_bytes mib) [] in
        let y : length (held_in mib m s) ≡ length (take {A = ℕ} (segment_bytes mib) []) =
        ap length t in
        omega (arith, y, z)
    lacking (Some l) e =
        let t : (is_segment s && is_some (get m (segment_name_bytes s mib))) ≡ true =
        rw (is, e) refl in
        absurd cc

pub past_missing : (o : Option Files) (mib x number : ℕ) (name : List ℕ)
    → TellsSegment mib name (Some number) → IfSome o (λ m. TellsHeld mib m number None)
    → IfSome o (λ m. TellsPast (held_end mib m) mib x name false)
past_missing o mib x number name tells told =
    when_told o (λ m. TellsHeld mib m number None)
    (λ m. TellsPast (held_end mib m) mib x name false)
    (λ m none. past_own (held_end mib m) mib x number name false tells.0 tells.1 (λ e. absurd cc)
    (λ e. (let z = none_held mib m number name tells.0 none in
    let f : end_at mib number (length (held_in mib m number)) ≡ 0 =
    cond-true (eqb (length (held_in mib m number)) 0) 0 _ (eq-eqb _ _ z) in omega (arith, f))))
    told

pub past_held_by : (o : Option Files) (mib x number count end : ℕ) (name : List ℕ) (b : Bool)
    (size : Option ℕ)
    → size ≡ Some count → TellsSegment mib name (Some number)
    → IfSome o (λ m. TellsHeld mib m number size)
    → end ≡ number * segment_bytes mib + count → b ≡ (nat_lt 0 count && nat_lt x end)
    → IfSome o (λ m. TellsPast (held_end mib m) mib x name b)
past_held_by o mib x number count end name b size is tells told end_is b_is =
    past_held o mib x number count end name b tells
    (subst (λ (z : Option ℕ). IfSome o (λ m. TellsHeld mib m number z)) is told) end_is b_is

pub past_missing_by : (o : Option Files) (mib x number : ℕ) (name : List ℕ) (size : Option ℕ)
    → size ≡ None
    → TellsSegment mib name (Some number) → IfSome o (λ m. TellsHeld mib m number size)
    → IfSome o (λ m. TellsPast (held_end mib m) mib x name false)
past_missing_by o mib x number name size is tells told =
    past_missing o mib x number name tells
    (subst (λ (z : Option ℕ). IfSome o (λ m. TellsHeld mib m number z)) is told)

-- ---- zeros

record NonzeroCons (c : ℕ) (l : List ℕ) : Type 0 where
  more : 0 < nonzero_end l → nonzero_end (c ∷ l) ≡ nonzero_end l + 1
  none : nonzero_end l ≤ 0 → c ≡ 0 → nonzero_end (c ∷ l) ≡ 0
  one : nonzero_end l ≤ 0 → 0 < c → nonzero_end (c ∷ l) ≡ 1

nonzero_cons : (c : ℕ) (l : List ℕ) → NonzeroCons c l
nonzero_cons c l =
    let n : ℕ = nonzero_end l in
    record {
      more = λ some. cond-true (ltb 0 n) (n + 1) (cond (eqb c 0) 0 1) (lt-ltb 0 n some);
      none = λ le e. cond-false (ltb 0 n) (n + 1) (cond (eqb c 0) 0 1) (le-ltb 0 n le)
          ∙ cond-true (eqb c 0) 0 1 (eq-eqb c 0 e);
      one = λ le some. cond-false (ltb 0 n) (n + 1) (cond (eqb c 0) 0 1) (le-ltb 0 n le)
          ∙ cond-false (eqb c 0) 0 1 (ne_eqb c 0 (λ e. omega (arith, e, some)));
    }

-- whether all bytes from a place on are zero tells whether those other than zero end before it
record EndsBy (l : List ℕ) (from : ℕ) (b : Bool) : Type 0 where
  yes_is : b ≡ true → nonzero_end l ≤ from
  no_is : b ≡ false → from < nonzero_end l

zero_end : (l : List ℕ) (from : ℕ) (b : Bool) → b ≡ all_zero (drop from l) → EndsBy l from b
zero_end [] zero b is = record { yes_is = λ e. omega arith; no_is = λ e. absurd cc }
zero_end [] (suc n) b is = record { yes_is = λ e. omega arith; no_is = λ e. absurd cc }
zero_end (c ∷ l) (suc n) b is =
    let i = zero_end l n b is in
    let k = nonzero_cons c l in
    record {
      yes_is = λ e. elim (cases_lt 0 (nonzero_end l)) [
        | inl some ↦ omega (arith, i.yes_is e, k.more some)
        | inr none ↦ elim (cases_lt 0 c) [
          | inl lt ↦ omega (arith, k.one none lt)
          | inr le ↦ omega (arith, k.none none (omega (arith, le)))
        ]
      ];
      no_is = λ e. (let lt = i.no_is e in omega (arith, lt, k.more (omega (arith, lt))));
    }
zero_end (c ∷ l) zero b is =
    let i = zero_end l zero (all_zero l) refl in
    let k = nonzero_cons c l in
    elim (cases_lt 0 c) [
      | inl some ↦
          let f : b ≡ false = is ∙ rw (ne_eqb c 0 (λ e. omega (arith, e, some))) refl in
          record {
            yes_is = λ e. absurd cc;
            no_is = λ e. elim (cases_lt 0 (nonzero_end l)) [
              | inl more ↦ omega (arith, k.more more)
              | inr none ↦ omega (arith, k.one none some)
            ];
          }
      | inr none ↦
          let z : c ≡ 0 = omega (arith, none) in
          let f : b ≡ all_zero l = is ∙ rw (eq-eqb c 0 z) refl in
          record {
            yes_is = λ e. (let le = i.yes_is (sym f ∙ e) in omega (arith, k.none le z));
            no_is = λ e. (let lt = i.no_is (sym f ∙ e) in omega (arith, lt, k.more lt));
          }
    ]

held_file : (mib : ℕ) (m : Files) (s limit : ℕ) (name : List ℕ) → is_segment s ≡ true
    → name ≡ segment_name_bytes s mib → limit ≡ segment_bytes mib
    → held_in mib m s ≡ take limit (bytes_of m name)
held_file mib m s limit name is own limit_is = held_old mib m s is
    ∙ ap (λ n. take n (bytes_of m (segment_name_bytes s mib))) (sym limit_is)
    ∙ ap (λ n. take limit (bytes_of m n)) (sym own)

not_true : (b zeros : Bool) → b ≡ not zeros → b ≡ true → zeros ≡ false
not_true b true is e = absurd cc
not_true b false is e = refl

not_false : (b zeros : Bool) → b ≡ not zeros → b ≡ false → zeros ≡ true
not_false b true is e = refl
not_false b false is e = absurd cc

-- the bytes other than zero of a segment's file
pub past_marked : (o : Option Files) (mib x number from limit : ℕ) (name : List ℕ) (zeros b : Bool)
    → TellsSegment mib name (Some number) → limit ≡ segment_bytes mib
    → from ≡ x - number * segment_bytes mib → TellsZeros o name from limit zeros → b ≡ not zeros
    → IfSome o (λ m. TellsPast (marked_end mib m) mib x name b)
past_marked o mib x number from limit name zeros b tells limit_is from_is told is =
    when_told o (λ m. zeros ≡ all_zero (drop from (take limit (bytes_of m name))))
    (λ m. TellsPast (marked_end mib m) mib x name b)
    (λ m z.
    let l : List ℕ = held_in mib m number in
    let e = zero_end l from zeros (z
    ∙ ap (λ (k : List ℕ). all_zero (drop from k))
    (sym (held_file mib m number limit name tells.0 tells.1 limit_is))) in
    past_own (marked_end mib m) mib x number name b tells.0 tells.1
    (λ t. (let lt = e.no_is (not_true b zeros is t) in
    let k = end_at_some mib number (nonzero_end l) (omega (arith, lt)) in
    omega (arith, k, lt, from_is)))
    (λ t. elim (cases_lt 0 (end_at mib number (nonzero_end l))) [
      | inl some ↦ (let k = end_at_pos mib number (nonzero_end l) some in
          let le = e.yes_is (not_false b zeros is t) in omega (arith, k.0, k.1, le, from_is))
      | inr none ↦ omega (arith, none)
    ])) told

pub past_marks_before : (o : Option Files) (mib x number from limit : ℕ) (name : List ℕ)
    → TellsSegment mib name (Some number) → limit ≡ segment_bytes mib
    → from ≡ x - number * segment_bytes mib → limit ≤ from
    → IfSome o (λ m. TellsPast (marked_end mib m) mib x name false)
past_marks_before o mib x number from limit name tells limit_is from_is before =
    all_told o (λ m. TellsPast (marked_end mib m) mib x name false) (λ m.
    let l : List ℕ = held_in mib m number in
    past_own (marked_end mib m) mib x number name false tells.0 tells.1 (λ e. absurd cc)
    (λ t. elim (cases_lt 0 (end_at mib number (nonzero_end l))) [
      | inl some ↦ (let k = end_at_pos mib number (nonzero_end l) some in
          let n = nonzero_there l k.0 in let short = held_short mib m number in
          omega (arith, k.0, k.1, n.0, short, from_is, before, limit_is))
      | inr none ↦ omega (arith, none)
    ]))

-- ---- all files

-- of the names so far none shows an end behind x
abbrev pub ScannedTo : (ℕ → ℕ) → ℕ → ℕ → List (List ℕ) → ℕ → Type 0
ScannedTo ends mib x names count =
    (i : ℕ) → i < count → IsScanned ends mib x (get_or names i [])

pub held_scanned : (o : Option Files) (mib x : ℕ) (names : List (List ℕ)) (count : ℕ)
    → length names ≤ count
    → IfSome o (λ m. names ≡ keys m) → IfSome o (λ m. ScannedTo (held_end mib m) mib x names count)
    → IfSome o (λ m. false ≡ nat_lt x (top_of mib m))
held_scanned o mib x names count all named told =
    when_both_told o (λ m. names ≡ keys m) (λ m. ScannedTo (held_end mib m) mib x names count)
    (λ m. false ≡ nat_lt x (top_of mib m))
    (λ m is scanned.
    let size : length names ≡ length (keys m) = ap length is in
    sym (le-ltb x (top_of mib m) (top_scanned mib m x
    (λ i lt. subst (λ (l : List (List ℕ)). IsScanned (held_end mib m) mib x (get_or l i [])) is
    (scanned i (omega (arith, lt, all, size))))))) named told

pub marked_scanned : (o : Option Files) (mib x : ℕ) (names : List (List ℕ)) (count : ℕ)
    → length names ≤ count
    → IfSome o (λ m. names ≡ keys m)
    → IfSome o (λ m. ScannedTo (marked_end mib m) mib x names count)
    → IfSome o (λ m. false ≡ nat_lt x (mark_of mib m))
marked_scanned o mib x names count all named told =
    when_both_told o (λ m. names ≡ keys m) (λ m. ScannedTo (marked_end mib m) mib x names count)
    (λ m. false ≡ nat_lt x (mark_of mib m))
    (λ m is scanned.
    let size : length names ≡ length (keys m) = ap length is in
    sym (le-ltb x (mark_of mib m) (mark_scanned mib m x
    (λ i lt. subst (λ (l : List (List ℕ)). IsScanned (marked_end mib m) mib x (get_or l i []))
    is (scanned i (omega (arith, lt, all, size))))))) named told

pub held_reached : (o : Option Files) (mib x : ℕ) (name : List ℕ)
    → IfSome o (λ m. TellsPast (held_end mib m) mib x name true)
    → IfSome o (λ m. true ≡ nat_lt x (top_of mib m))
held_reached o mib x name told =
    when_told o (λ m. TellsPast (held_end mib m) mib x name true)
    (λ m. true ≡ nat_lt x (top_of mib m))
    (λ m t. (let range = segment_range t.0 t.1 in
    sym (lt-ltb x (top_of mib m) (top_reached mib m x t.0 range.0 range.1 t.2)))) told

pub marked_reached : (o : Option Files) (mib x : ℕ) (name : List ℕ)
    → IfSome o (λ m. TellsPast (marked_end mib m) mib x name true)
    → IfSome o (λ m. true ≡ nat_lt x (mark_of mib m))
marked_reached o mib x name told =
    when_told o (λ m. TellsPast (marked_end mib m) mib x name true)
    (λ m. true ≡ nat_lt x (mark_of mib m))
    (λ m t. (let range = segment_range t.0 t.1 in
    sym (lt-ltb x (mark_of mib m) (mark_reached mib m x t.0 range.0 range.1 t.2)))) told

pub held_reached_by : (o now : Option Files) (mib x : ℕ) (name : List ℕ) (b : Bool) → now ≡ o
    → b ≡ true
    → IfSome now (λ m. TellsPast (held_end mib m) mib x name b)
    → IfSome o (λ m. true ≡ nat_lt x (top_of mib m))
held_reached_by o now mib x name b same is told =
    held_reached o mib x name (subst
    (λ (k : Option Files). IfSome k (λ m. TellsPast (held_end mib m) mib x name true)) same
    (subst (λ (k : Bool). IfSome now (λ m. TellsPast (held_end mib m) mib x name k)) is told))

pub marked_reached_by : (o now : Option Files) (mib x : ℕ) (name : List ℕ) (b : Bool) → now ≡ o
    → b ≡ true
    → IfSome now (λ m. TellsPast (marked_end mib m) mib x name b)
    → IfSome o (λ m. true ≡ nat_lt x (mark_of mib m))
marked_reached_by o now mib x name b same is told =
    marked_reached o mib x name (subst
    (λ (k : Option Files). IfSome k (λ m. TellsPast (marked_end mib m) mib x name true)) same
    (subst (λ (k : Bool). IfSome now (λ m. TellsPast (marked_end mib m) mib x name k)) is told))

-- ---- why a byte isn't held

pub why_torn : (o : Option Files) (mib begin x : ℕ) (b : Bool) → b ≡ false
    → IfSome o (λ m. b ≡ nat_lt x (top_of mib m))
    → IfSome o (λ m. broken_at begin Torn ≡ not_held (archive_of mib m) mib begin x)
unfolding not_held
why_torn o mib begin x b is told =
    when_told o (λ m. b ≡ nat_lt x (top_of mib m))
    (λ m. broken_at begin Torn ≡ not_held (archive_of mib m) mib begin x)
    (λ m e. (let t : leb (top_of mib m) x ≡ true =
    le-leb _ _ (ltb-false x (top_of mib m) (sym e ∙ is)) in rw t refl)) told

pub why_short : (o now : Option Files) (mib begin x number bytes count : ℕ) (b : Bool)
    (size : Option ℕ) → now ≡ o → b ≡ true
    → number ≡ x / segment_bytes mib → bytes ≡ segment_bytes mib → size ≡ Some count
    → IfSome o (λ m. b ≡ nat_lt x (top_of mib m)) → IfSome now (λ m. TellsHeld mib m number size)
    → IfSome o (λ m. broken_at (number * bytes + count) SegSize
    ≡ not_held (archive_of mib m) mib begin x)
unfolding not_held
why_short o now mib begin x number bytes count b size same is number_is bytes_is size_is top told =
    when_both_told o (λ m. b ≡ nat_lt x (top_of mib m)) (λ m. TellsHeld mib m number (Some count))
    (λ m. broken_at (number * bytes + count) SegSize ≡ not_held (archive_of mib m) mib begin x)
    (λ m e held.
    let t : leb (top_of mib m) x ≡ false = lt-leb _ _ (ltb-true x (top_of mib m) (sym e ∙ is)) in
    let f : has_segment mib m (x / segment_bytes mib) ≡ true =
    ap (has_segment mib m) (sym number_is) ∙ held.0 in
    let z : number * bytes + count ≡ x / segment_bytes mib * segment_bytes mib + length
    (held_in mib m (x / segment_bytes mib)) =
    ap (λ n. number * n + count) bytes_is ∙ ap (λ n. number * segment_bytes mib + n) held.1
    ∙ ap (λ n. n * segment_bytes mib + length (held_in mib m n)) number_is in
    rw (t, f) (ap (λ n. broken_at n SegSize) z))
    top (subst (λ (k : Option Files). IfSome k (λ m. TellsHeld mib m number (Some count))) same
    (subst (λ (z : Option ℕ). IfSome now (λ m. TellsHeld mib m number z)) size_is told))

pub why_gone : (o now : Option Files) (mib begin x number : ℕ) (b : Bool) (size : Option ℕ)
    → now ≡ o → b ≡ true
    → number ≡ x / segment_bytes mib → size ≡ None
    → IfSome o (λ m. b ≡ nat_lt x (top_of mib m)) → IfSome now (λ m. TellsHeld mib m number size)
    → IfSome o (λ m. missing number ≡ not_held (archive_of mib m) mib begin x)
unfolding not_held
why_gone o now mib begin x number b size same is number_is size_is top told =
    when_both_told o (λ m. b ≡ nat_lt x (top_of mib m)) (λ m. TellsHeld mib m number None)
    (λ m. missing number ≡ not_held (archive_of mib m) mib begin x)
    (λ m e none.
    let t : leb (top_of mib m) x ≡ false = lt-leb _ _ (ltb-true x (top_of mib m) (sym e ∙ is)) in
    let f : has_segment mib m (x / segment_bytes mib) ≡ false =
    ap (has_segment mib m) (sym number_is) ∙ none in
    rw (t, f) (ap missing number_is))
    top (subst (λ (k : Option Files). IfSome k (λ m. TellsHeld mib m number None)) same
    (subst (λ (z : Option ℕ). IfSome now (λ m. TellsHeld mib m number z)) size_is told))
