-- The walk over an entry's pages reads the flat bytes from a number on, and no others; and where
-- these stand it reads them.
use Rattle.std.proofs.Common.{◌≡◌, ℕ, zero, suc, ◌+◌, ◌-◌, ◌%◌, ◌<◌, ◌≤◌, min, true, false, leb, List, [], ◌∷◌, ◌++◌, length, get_or, take, drop, Option, Some, None, refl, sym, ap, subst, ◌∙◌, arith, inl, inr}
use Rattle.std.specs.Prelude.{Ok}
use Rattle.std.proofs.lemmas.Bool.{cases_lt, cases_eq, le-leb, lt-leb, cond-true, cond-false}
use Rattle.std.proofs.lemmas.List.{length-take-le, length-drop, length-append, get_or-take, get_or-drop, take-append-drop, get_or_append_left, get_or-append_right}
use Rattle.wal_pages.specs.Places.{place, flat_before, head_size, IsBehindHead}
use Rattle.wal_pages.specs.declared.heads.HeadFault.{HeadFault}
use Rattle.wal_pages.proofs.Splits.{flat_on, flat_head, place_le, place_flat, head_bounds, head_on, head_behind}
use Rattle.wal_archive.specs.Archive.{Archive}
use Rattle.wal_archive.specs.Rules.{bytes_at, head_said, head_at, entry_bytes}
use Rattle.wal_archive.specs.Stands.{HasHead}
use Rattle.wal_archive.proofs.Runs.{Holds, bytes_held, held_bytes, ok, ok_bind, ok_same}

-- heads: held and passing, against the function that tests them
pub head_again : (a : Archive) (mib system begin page size : ℕ) → HasHead a mib system page size
    → (r : ℕ) × (head_at a mib system begin page (Some size) ≡ Ok r)
unfolding head_at
head_again a mib system begin page size h =
    let run : bytes_at a mib begin page (head_size mib page) ≡ Ok h.bytes =
    bytes_held a mib begin page (head_size mib page) h.bytes h.len
    (λ i lt. h.held i (omega (arith, lt, h.len))) in
    (0, rw (run, h.passes) refl)

head_said_ok : (page : ℕ) (o : Option HeadFault) (r : ℕ) → head_said page o ≡ Ok r → o ≡ None
head_said_ok page None r e = refl
head_said_ok page (Some why) r e = absurd cc

pub head_held : (a : Archive) (mib system begin page size r : ℕ)
    → head_at a mib system begin page (Some size) ≡ Ok r → HasHead a mib system page size
unfolding head_at
head_held a mib system begin page size r e =
    let s = ok_bind (bytes_at a mib begin page (head_size mib page)) _ r e in
    let run = held_bytes a mib begin page (head_size mib page) s.0 s.1 in
    record {
      bytes = s.0;
      len = run.len;
      held = λ i lt.
          run.held i (omega (arith, lt, run.len));
      passes = head_said_ok page _ r s.2;
    }

-- flat bytes from a number on
abbrev pub HasFlat : Archive → ℕ → ℕ → List ℕ → Type 0
HasFlat a mib f l = (i : ℕ) → i < length l → a.byte (place mib (f + i)) ≡ Some (get_or l i 0)

-- the heads from a place on, before the place behind so many flat bytes
abbrev pub HasHeads : Archive → ℕ → ℕ → ℕ → ℕ → Type 0
HasHeads a mib system x count = (p : ℕ) → p % 8192 ≡ 0 → x ≤ p
    → p < place mib (flat_before mib x + count - 1) + 1
    → HasHead a mib system p (flat_before mib x + count - flat_before mib p)

-- the flat bytes on the rest of the page of a place behind its head are the bytes there
pub run_of_flat : (a : Archive) (mib x n : ℕ) (l : List ℕ) → 1 ≤ mib → IsBehindHead mib x
    → length l ≡ n → x % 8192 + n ≤ 8192 → HasFlat a mib (flat_before mib x) l → Holds a x l
run_of_flat a mib x n l some behind len fits h i lt =
    let f : flat_before mib (x + i) ≡ flat_before mib x + i =
    flat_on mib x i some behind (omega (arith, fits, lt, len)) in
    let p : place mib (flat_before mib x + i) ≡ x + i = ap (place mib) (sym f)
    ∙ place_flat mib (x + i) some (head_on mib x i some behind (omega (arith, fits, lt, len)))
    in
    ap a.byte (sym p) ∙ h i lt

pub flat_of_run : (a : Archive) (mib x n : ℕ) (l : List ℕ) → 1 ≤ mib → IsBehindHead mib x
    → length l ≡ n → x % 8192 + n ≤ 8192 → Holds a x l → HasFlat a mib (flat_before mib x) l
flat_of_run a mib x n l some behind len fits h i lt =
    let f : flat_before mib (x + i) ≡ flat_before mib x + i =
    flat_on mib x i some behind (omega (arith, fits, lt, len)) in
    let p : place mib (flat_before mib x + i) ≡ x + i = ap (place mib) (sym f)
    ∙ place_flat mib (x + i) some (head_on mib x i some behind (omega (arith, fits, lt, len)))
    in
    ap a.byte p ∙ h i lt

-- what a walk that goes over a page's end meets there
record Turn (mib x room p y : ℕ) : Type 0 where
  room_is : room ≡ 8192 - x % 8192
  some_room : 0 < room
  p_is : p ≡ x + room
  starts : p % 8192 ≡ 0
  flat_p : flat_before mib p ≡ flat_before mib x + room
  y_is : y ≡ p + head_size mib p
  behind : IsBehindHead mib y
  flat_y : flat_before mib y ≡ flat_before mib p
  head : (24 ≤ head_size mib p) × (head_size mib p ≤ 40)

turn : (mib x : ℕ) → 1 ≤ mib → IsBehindHead mib x
    → Turn mib x (8192 - x % 8192) (x + (8192 - x % 8192))
    (x + (8192 - x % 8192) + head_size mib (x + (8192 - x % 8192)))
turn mib x some behind =
    let p : ℕ = x + (8192 - x % 8192) in
    let starts : p % 8192 ≡ 0 = omega arith in
    let b = head_bounds mib p in
    record {
      room_is = refl;
      some_room = omega arith;
      p_is = refl;
      starts = starts;
      flat_p = flat_on mib x (8192 - x % 8192) some behind (omega arith);
      y_is = refl;
      behind = head_behind mib p some starts;
      flat_y = flat_head mib p (head_size mib p) some starts (omega arith);
      head = b;
    }

-- where the bytes stand, the walk reads them
pub walk_reads : (a : Archive) (mib system begin fuel x count : ℕ) (l : List ℕ) → 1 ≤ mib
    → IsBehindHead mib x → length l ≡ count → count ≤ fuel → HasFlat a mib (flat_before mib x) l
    → HasHeads a mib system x count → entry_bytes a mib system begin fuel x count ≡ Ok l
unfolding entry_bytes
walk_reads a mib system begin zero x count [] some behind len enough flat heads = refl
walk_reads a mib system begin zero x count (b ∷ l) some behind len enough flat heads =
    absurd (omega (arith, len, enough))
walk_reads a mib system begin (suc fuel) x count l some behind len enough flat heads =
    elim (cases_lt (8192 - x % 8192) count) [
      | inr small ↦
          let n_is : min count (8192 - x % 8192) ≡ count = omega (arith, small) in
          let run : bytes_at a mib begin x (min count (8192 - x % 8192)) ≡ Ok l =
          ap (bytes_at a mib begin x) n_is
          ∙ bytes_held a mib begin x count l len
          (run_of_flat a mib x count l some behind len (omega (arith, small)) flat) in
          let test : leb count (8192 - x % 8192) ≡ true = le-leb _ _ small in
          rw (run, test) refl
      | inl big ↦
          let t = turn mib x some behind in
          let room : ℕ = 8192 - x % 8192 in
          let p : ℕ = x + room in
          let y : ℕ = p + head_size mib p in
          let n_is : min count room ≡ room = omega (arith, big) in
          let front_len : length (take room l) ≡ room =
          length-take-le room l (omega (arith, big, len)) in
          let front_flat : HasFlat a mib (flat_before mib x) (take room l) = λ i lt.
          flat i (omega (arith, lt, front_len, big, len))
          ∙ ap Some (sym (get_or-take room l i 0 (omega (arith, lt, front_len)))) in
          let run : bytes_at a mib begin x (min count room) ≡ Ok (take room l) =
          ap (bytes_at a mib begin x) n_is
          ∙ bytes_held a mib begin x room (take room l) front_len
          (run_of_flat a mib x room (take room l) some behind front_len (omega arith)
          front_flat) in
          let test : leb count room ≡ false = lt-leb _ _ big in
          let reach : y ≤ place mib (flat_before mib x + count - 1) =
          subst (λ n. n ≤ place mib (flat_before mib x + count - 1))
          (place_flat mib y some t.behind)
          (place_le mib (flat_before mib y) (flat_before mib x + count - 1) some
          (omega (arith, t.flat_y, t.flat_p, big))) in
          let size : flat_before mib x + count - flat_before mib p ≡ count - room =
          omega (arith, t.flat_p) in
          let head = head_again a mib system begin p (count - room)
          (subst (λ n. HasHead a mib system p n) size
          (heads p t.starts (omega arith) (omega (arith, reach, t.head.0)))) in
          let same : flat_before mib y + (count - room) ≡ flat_before mib x + count =
          omega (arith, t.flat_y, t.flat_p, big) in
          let rest_flat : HasFlat a mib (flat_before mib y) (drop room l) = λ i lt.
          ap (λ n. a.byte (place mib n))
          (let e : flat_before mib y + i ≡ flat_before mib x + (room + i) =
          omega (arith, t.flat_y, t.flat_p) in e)
          ∙ flat (room + i) (omega (arith, lt, length-drop room l))
          ∙ ap Some (sym (get_or-drop room l i 0)) in
          let rest_heads : HasHeads a mib system y (count - room) = λ q start from below.
          subst (λ n. HasHead a mib system q n) (ap (λ n. n - flat_before mib q) (sym same))
          (heads q start (omega (arith, from))
          (subst (λ n. q < place mib (n - 1) + 1) same below)) in
          let more : entry_bytes a mib system begin fuel y (count - room) ≡ Ok (drop room l) =
          walk_reads a mib system begin fuel y (count - room) (drop room l) some t.behind
          (omega (arith, length-drop room l, len)) (omega (arith, enough, t.some_room, big))
          rest_flat rest_heads in
          rw (run, test, head.1, more) (ap ok (take-append-drop room l))
    ]

-- what a walk reads stands there
pub record IsWalk (a : Archive) (mib system x count : ℕ) (l : List ℕ) : Type 0 where
  pub len : length l ≡ count
  pub flat : HasFlat a mib (flat_before mib x) l
  pub heads : HasHeads a mib system x count

pub reads_walk : (a : Archive) (mib system begin fuel x count : ℕ) (l : List ℕ) → 1 ≤ mib
    → IsBehindHead mib x → 0 < count → count ≤ fuel
    → entry_bytes a mib system begin fuel x count ≡ Ok l → IsWalk a mib system x count l
unfolding entry_bytes
reads_walk a mib system begin zero x count l some behind long enough e =
    absurd (omega (arith, long, enough))
reads_walk a mib system begin (suc fuel) x count l some behind long enough e =
    let room : ℕ = 8192 - x % 8192 in
    let s = ok_bind (bytes_at a mib begin x (min count room)) _ l e in
    let front = s.0 in
    let run = held_bytes a mib begin x (min count room) front s.1 in
    elim (cases_lt room count) [
      | inr small ↦
          let test : leb count room ≡ true = le-leb _ _ small in
          let is : front ≡ l = ok_same front l (sym (cond-true _ _ _ test) ∙ s.2) in
          let len : length front ≡ count = omega (arith, run.len, small) in
          let last : place mib (flat_before mib x + count - 1) ≡ x + (count - 1) =
          ap (place mib) (let f = flat_on mib x (count - 1) some behind (omega (arith, small))
          in let e : flat_before mib x + count - 1 ≡ flat_before mib (x + (count - 1)) =
          omega (arith, f, long) in e) ∙ place_flat mib (x + (count - 1)) some
          (head_on mib x (count - 1) some behind (omega (arith, small, long))) in
          let b = head_bounds mib x in
          subst (λ k. IsWalk a mib system x count k) is (record {
            len = len;
            flat = flat_of_run a mib x count front some behind len (omega (arith, small)) run.held;
            heads = λ p start from below. absurd
                (omega (arith, last, below, start, from, small, b.0, behind, long));
          })
      | inl big ↦
          let test : leb count room ≡ false = lt-leb _ _ big in
          let t = turn mib x some behind in
          let p : ℕ = x + room in
          let y : ℕ = p + head_size mib p in
          let u = ok_bind (head_at a mib system begin p (Some (count - room))) _ l
          (sym (cond-false _ _ _ test) ∙ s.2) in
          let v = ok_bind (entry_bytes a mib system begin fuel y (count - room)) _ l u.2 in
          let more = v.0 in
          let rec = reads_walk a mib system begin fuel y (count - room) more some t.behind
          (omega (arith, big)) (omega (arith, enough, t.some_room, big)) v.1 in
          let is : front ++ more ≡ l = ok_same (front ++ more) l v.2 in
          let front_len : length front ≡ room = omega (arith, run.len, big) in
          let front_flat = flat_of_run a mib x room front some behind front_len (omega arith)
          run.held in
          let same : flat_before mib y + (count - room) ≡ flat_before mib x + count =
          omega (arith, t.flat_y, t.flat_p, big) in
          let b = head_bounds mib x in
          subst (λ k. IsWalk a mib system x count k) is (record {
            len = omega (arith, length-append front more, front_len, rec.len, big);
            flat = λ i lt. elim (cases_lt i room) [
              | inl lo ↦ front_flat i (omega (arith, lo, front_len))
                  ∙ ap Some (sym (get_or_append_left front more 0 i (omega (arith, lo, front_len))))
              | inr hi ↦ ap (λ n. a.byte (place mib n))
                  (let e : flat_before mib x + i ≡ flat_before mib y + (i - room) =
                  omega (arith, t.flat_y, t.flat_p, hi) in e)
                  ∙ rec.flat (i - room) (omega (arith, lt, length-append front more, front_len, hi))
                  ∙ ap Some (sym (get_or-append_right front more room i 0 front_len hi))
            ];
            heads = λ q start from below. elim (cases_eq q p) [
              | inl e ↦ subst (λ n. HasHead a mib system n
                  (flat_before mib x + count - flat_before mib n)) (sym e)
                  (subst (λ n. HasHead a mib system p n)
                  (let e : count - room ≡ flat_before mib x + count - flat_before mib p =
                  omega (arith, t.flat_p) in e) (head_held a mib system begin p (count - room) u.0
                  u.1))
              | inr ne ↦
                  let later : y ≤ q = elim (cases_lt q p) [
                    | inl lo ↦ absurd (omega (arith, lo, from, start, b.0, behind))
                    | inr hi ↦ elim (cases_lt p q) [
                      | inl over ↦ omega (arith, over, start, t.starts, t.head.1)
                      | inr under ↦ absurd (ne (omega (arith, hi, under)))
                    ]
                  ] in
                  subst (λ n. HasHead a mib system q n) (ap (λ n. n - flat_before mib q) same)
                  (rec.heads q start later (subst (λ n. q < place mib (n - 1) + 1) (sym same)
                  below))
            ];
          })
    ]
