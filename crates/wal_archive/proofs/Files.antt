-- The archive of files is an archive, and what a write makes of it.
use Rattle.std.proofs.Common.{◌≡◌, ℕ, zero, suc, ◌+◌, ◌-◌, ◌*◌, ◌/◌, ◌%◌, ◌<◌, ◌≤◌, true, false, cond, ltb, leb, eqb, List, [], ◌∷◌, length, get_or, take, Option, Some, None, refl, sym, ap, ◌∙◌, arith, inl, inr}
use Rattle.std.specs.Prelude.{is_some, unwrap_or}
use Rattle.std.specs.FinMap.{get, contains_key}
use Rattle.std.proofs.lemmas.Bool.{cases_lt, cases_eq, lt-ltb, le-ltb, leb-true, cond-true, cond-false, and_parts, and_from, eq-eqb, ne_eqb}
use Rattle.std.proofs.lemmas.Nat.{div-mul-add, mod-mul-add, div-add-mod'}
use Rattle.std.proofs.lemmas.List.{length-take}
use Rattle.lsn_core.specs.Files.{Files}
use Rattle.lsn_core.specs.Sizes.{most_segments}
use Rattle.lsn_core.specs.Segment.{segment_bytes}
use Rattle.lsn_core.specs.Names.{segment_name_bytes}
use Rattle.vault.specs.Area.{bytes_of}
use Rattle.wal_archive.specs.Archive.{is_segment, held_in, nth, nonzero_end, end_at, greatest, top_of, mark_of, byte_of, has_segment, archive_of, IsArchive}

-- the greatest of some values is at least each of them, and one of them or 0
pub greatest_least : (f : ℕ → ℕ) (n i : ℕ) → 1 ≤ i → i ≤ n → f i ≤ greatest f n
unfolding greatest
greatest_least f zero i least most = absurd (omega (arith, least, most))
greatest_least f (suc n) i least most =
    elim (cases_eq i (suc n)) [
      | inl e ↦ (let s : f i ≡ f (suc n) = ap f e in omega (arith, s))
      | inr ne ↦ (let lt : i ≤ n = elim (cases_lt n i)
          [ inr le ↦ le | inl over ↦ absurd (ne (omega (arith, over, most))) ] in
          let h = greatest_least f n i least lt in omega (arith, h))
    ]

pub greatest_one : (f : ℕ → ℕ) (n : ℕ) → 0 < greatest f n
    → (i : ℕ) × (f i ≡ greatest f n) × (1 ≤ i) × (i ≤ n)
unfolding greatest
greatest_one f zero some = absurd (omega (arith, some))
greatest_one f (suc n) some =
    elim (cases_lt (greatest f n) (f (suc n))) [
      | inl lt ↦ (suc n, omega (arith, lt), omega arith, omega arith)
      | inr le ↦ (let h = greatest_one f n (omega (arith, le, some)) in
          (h.0, omega (arith, h.1, le), h.2, omega (arith, h.3)))
    ]

-- a byte is held where it is within its segment's bytes
nth_some : (l : List ℕ) (i b : ℕ) → nth l i ≡ Some b → (i < length l) × (b ≡ get_or l i 0)
nth_some l i b e =
    elim (cases_lt i (length l)) [
      | inl lt ↦ (
        lt,
        (let is : nth l i ≡ Some (get_or l i 0) =
            cond-true (ltb i (length l)) (Some (get_or l i 0)) None (lt-ltb i (length l) lt) in
            same (sym e ∙ is)),
      )
      | inr le ↦ absurd (none (sym e
          ∙ cond-false (ltb i (length l)) (Some (get_or l i 0)) None (le-ltb i (length l) le)))
    ]
  where
    same : {x y : ℕ} → ◌≡◌ {A = Option ℕ} (Some x) (Some y) → x ≡ y
    same e = cc

    none : {x : ℕ} → ◌≡◌ {A = Option ℕ} (Some x) None → ⊥
    none e = absurd cc

pub nth_held : (l : List ℕ) (i : ℕ) → i < length l → nth l i ≡ Some (get_or l i 0)
nth_held l i lt = cond-true (ltb i (length l)) (Some (get_or l i 0)) None (lt-ltb i (length l) lt)

-- the end of the bytes other than zero
abbrev bit : ℕ → ℕ
bit b = cond (eqb b 0) 0 1

nonzero_le : (l : List ℕ) (i : ℕ) → 0 < get_or l i 0 → i < nonzero_end l
nonzero_le [] i some = absurd (omega (arith, some))
nonzero_le (b ∷ l) zero some =
    elim (cases_lt 0 (nonzero_end l)) [
      | inl more ↦ (let e : ltb 0 (nonzero_end l) ≡ true = lt-ltb _ _ more in
          let g : nonzero_end (b ∷ l) ≡ nonzero_end l + 1 =
          cond-true (ltb 0 (nonzero_end l)) (nonzero_end l + 1) (bit b) e in omega (arith, g))
      | inr none ↦ (let e : ltb 0 (nonzero_end l) ≡ false = le-ltb _ _ none in
          let f : eqb b 0 ≡ false = ne_eqb b 0 (λ z. omega (arith, some, z)) in
          let g : nonzero_end (b ∷ l) ≡ bit b =
          cond-false (ltb 0 (nonzero_end l)) (nonzero_end l + 1) (bit b) e in
          let k : bit b ≡ 1 = cond-false (eqb b 0) 0 1 f in omega (arith, g, k))
    ]
nonzero_le (b ∷ l) (suc i) some =
    let h = nonzero_le l i some in
    let e : ltb 0 (nonzero_end l) ≡ true = lt-ltb _ _ (omega (arith, h)) in
    let g : nonzero_end (b ∷ l) ≡ nonzero_end l + 1 =
    cond-true (ltb 0 (nonzero_end l)) (nonzero_end l + 1) (bit b) e in omega (arith, g, h)

pub nonzero_there : (l : List ℕ) → 0 < nonzero_end l
    → (nonzero_end l ≤ length l) × (0 < get_or l (nonzero_end l - 1) 0)
nonzero_there [] some = absurd (omega (arith, some))
nonzero_there (b ∷ l) some =
    elim (cases_lt 0 (nonzero_end l)) [
      | inl more ↦
          let e : ltb 0 (nonzero_end l) ≡ true = lt-ltb _ _ more in
          let g : nonzero_end (b ∷ l) ≡ nonzero_end l + 1 =
          cond-true (ltb 0 (nonzero_end l)) (nonzero_end l + 1) (bit b) e in
          let h = nonzero_there l more in
          let at : get_or (b ∷ l) (nonzero_end (b ∷ l) - 1) 0 ≡ get_or l (nonzero_end l - 1) 0 =
          ap (λ n. get_or (b ∷ l) n 0) (let z : nonzero_end (b ∷ l) - 1
          ≡ suc (nonzero_end l - 1) = omega (arith, g, more) in z) in
          (omega (arith, g, h.0), omega (arith, at, h.1))
      | inr none ↦
          let e : ltb 0 (nonzero_end l) ≡ false = le-ltb _ _ none in
          let g : nonzero_end (b ∷ l) ≡ bit b =
          cond-false (ltb 0 (nonzero_end l)) (nonzero_end l + 1) (bit b) e in
          elim (cases_eq b 0) [
            | inl z ↦ absurd (let f : bit b ≡ 0 = cond-true (eqb b 0) 0 1 (eq-eqb _ _ z) in
                omega (arith, g, f, some))
            | inr nz ↦
                let f : bit b ≡ 1 = cond-false (eqb b 0) 0 1 (ne_eqb _ _ nz) in
                let at : get_or (b ∷ l) (nonzero_end (b ∷ l) - 1) 0 ≡ b =
                ap (λ n. get_or (b ∷ l) n 0) (let z : nonzero_end (b ∷ l) - 1 ≡ 0 =
                omega (arith, g, f) in z) in (
                  omega (arith, g, f),
                  elim (cases_lt 0 b)
                      [ inl lt ↦ omega (arith, at, lt) | inr le ↦ absurd (nz (omega (arith, le))) ],
                )
          ]
    ]

-- only segments hold bytes, and no more than a segment's size
pub held_short : (mib : ℕ) (files : Files) (s : ℕ)
    → length (held_in mib files s) ≤ segment_bytes mib
unfolding held_in
held_short mib files s = elim (is_segment s) as
    (λ b. length (cond b (take (segment_bytes mib) (bytes_of files (segment_name_bytes s mib))) [])
    ≤ segment_bytes mib) [
      | true ↦ (let l =
          length-take (segment_bytes mib) (bytes_of files (segment_name_bytes s mib)) in
          omega (arith, l))
      | false ↦ omega arith
    ]

pub segment_of_held : (mib : ℕ) (files : Files) (s : ℕ) → 0 < length (held_in mib files s)
    → is_segment s ≡ true
unfolding held_in
segment_of_held mib files s some =
    elim (is_segment s) as (λ b. 0 < length
    (cond b (take (segment_bytes mib) (bytes_of files (segment_name_bytes s mib))) []) → b ≡ true)
    [ true ↦ λ h. refl | false ↦ λ h. absurd (omega (arith, h)) ] some

pub segment_range : (s : ℕ) → is_segment s ≡ true → (1 ≤ s) × (s ≤ most_segments)
unfolding is_segment
segment_range s e = let p = and_parts (leb 1 s) (leb s most_segments) e in
    (leb-true _ _ p.0, leb-true _ _ p.1)

end_at_some : (mib s count : ℕ) → 0 < count → end_at mib s count ≡ s * segment_bytes mib + count
end_at_some mib s count some = cond-false (eqb count 0) 0 (s * segment_bytes mib + count)
    (ne_eqb _ _ (λ z. omega (arith, some, z)))

pub end_at_pos : (mib s count : ℕ) → 0 < end_at mib s count
    → (0 < count) × (end_at mib s count ≡ s * segment_bytes mib + count)
end_at_pos mib s count some =
    elim (cases_lt 0 count) [
      | inl lt ↦ (lt, end_at_some mib s count lt)
      | inr le ↦ absurd (let z : end_at mib s count ≡ 0 =
          cond-true (eqb count 0) 0 (s * segment_bytes mib + count) (eq-eqb _ _ (omega (arith, le)))
          in omega (arith, z, some))
    ]

-- the byte before an end within a segment
byte_before : (mib : ℕ) (files : Files) (s count : ℕ) → 1 ≤ mib → 0 < count
    → count ≤ length (held_in mib files s) → byte_of mib files (s * segment_bytes mib + count - 1)
    ≡ Some (get_or (held_in mib files s) (count - 1) 0)
unfolding byte_of
byte_before mib files s count some long within =
    let short = held_short mib files s in
    let x : ℕ = s * segment_bytes mib + count - 1 in
    let is : x ≡ s * segment_bytes mib + (count - 1) = omega (arith, long) in
    let d : x / segment_bytes mib ≡ s = ap (λ n. n / segment_bytes mib) is
    ∙ div-mul-add s (segment_bytes mib) (count - 1) (omega (arith, long, within, short)) in
    let m : x % segment_bytes mib ≡ count - 1 = ap (λ n. n % segment_bytes mib) is
    ∙ mod-mul-add s (segment_bytes mib) (count - 1) (omega (arith, long, within, short)) in
    ap (λ n. nth (held_in mib files n) (x % segment_bytes mib)) d ∙ ap (nth (held_in mib files s)) m
    ∙ nth_held (held_in mib files s) (count - 1) (omega (arith, long, within))

some_name : (o : Option (List ℕ)) → 0 < length (unwrap_or o []) → is_some o ≡ true
some_name None some = absurd (omega (arith, some))
some_name (Some l) some = refl

pub there : (mib : ℕ) (files : Files) (s : ℕ) → 0 < length (held_in mib files s)
    → is_some (get files (segment_name_bytes s mib)) ≡ true
unfolding held_in
there mib files s some =
    elim (is_segment s) as (λ b. 0 < length
    (cond b (take (segment_bytes mib) (bytes_of files (segment_name_bytes s mib))) [])
    → is_some (get files (segment_name_bytes s mib)) ≡ true) [
      | true ↦ λ h. some_name (get files (segment_name_bytes s mib))
          (let l = length-take (segment_bytes mib) (bytes_of files (segment_name_bytes s mib)) in
          omega (arith, l, h))
      | false ↦ λ h. absurd (omega (arith, h))
    ] some

pub files_archive : (mib : ℕ) (files : Files) → 1 ≤ mib → IsArchive mib (archive_of mib files)
unfolding top_of mark_of byte_of has_segment
files_archive mib files some =
    let tops : ℕ → ℕ = λ s. end_at mib s (length (held_in mib files s)) in
    let marks : ℕ → ℕ = λ s. end_at mib s (nonzero_end (held_in mib files s)) in
    record {
      held = λ x b e.
          let s : ℕ = x / segment_bytes mib in
          let n = nth_some (held_in mib files s) (x % segment_bytes mib) b e in
          let r = segment_range s (segment_of_held mib files s (omega (arith, n.0))) in
          let g = greatest_least tops most_segments s r.0 r.1 in
          let t = end_at_some mib s (length (held_in mib files s)) (omega (arith, n.0)) in
          let whole = div-add-mod' x (segment_bytes mib) in
          omega (arith, g, t, whole, n.0);
      top_held = λ pos.
          let g = greatest_one tops most_segments pos in
          let p = end_at_pos mib g.0 (length (held_in mib files g.0)) (omega (arith, g.1, pos)) in
          let at = byte_before mib files g.0 (length (held_in mib files g.0)) some p.0 (omega arith)
          in (
            get_or (held_in mib files g.0) (length (held_in mib files g.0) - 1) 0,
            ap (byte_of mib files) (let z : top_of mib files - 1
                ≡ g.0 * segment_bytes mib + length (held_in mib files g.0) - 1 =
                omega (arith, g.1, p.1) in z) ∙ at,
          );
      marked = λ x b e nonzero.
          let s : ℕ = x / segment_bytes mib in
          let n = nth_some (held_in mib files s) (x % segment_bytes mib) b e in
          let r = segment_range s (segment_of_held mib files s (omega (arith, n.0))) in
          let z = nonzero_le (held_in mib files s) (x % segment_bytes mib)
          (omega (arith, n.1, nonzero)) in
          let g = greatest_least marks most_segments s r.0 r.1 in
          let t = end_at_some mib s (nonzero_end (held_in mib files s)) (omega (arith, z)) in
          let whole = div-add-mod' x (segment_bytes mib) in
          omega (arith, g, t, whole, z);
      mark_held = λ pos.
          let g = greatest_one marks most_segments pos in
          let p = end_at_pos mib g.0 (nonzero_end (held_in mib files g.0)) (omega (arith, g.1, pos))
          in
          let n = nonzero_there (held_in mib files g.0) p.0 in
          let at = byte_before mib files g.0 (nonzero_end (held_in mib files g.0)) some p.0 n.0 in (
            get_or (held_in mib files g.0) (nonzero_end (held_in mib files g.0) - 1) 0,
            ap (byte_of mib files) (let z : mark_of mib files - 1
                ≡ g.0 * segment_bytes mib + nonzero_end (held_in mib files g.0) - 1 =
                omega (arith, g.1, p.1) in z) ∙ at,
            n.1,
          );
      filed = λ x b e.
          let s : ℕ = x / segment_bytes mib in
          let n = nth_some (held_in mib files s) (x % segment_bytes mib) b e in
          and_from (is_segment s) (contains_key files (segment_name_bytes s mib))
          (segment_of_held mib files s (omega (arith, n.0)))
          (there mib files s (omega (arith, n.0)));
    }
