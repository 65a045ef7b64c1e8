-- What the rules say of an end and of a place where a cursor is set, step by step.
use Rattle.std.proofs.Common.{◌≡◌, ℕ, ◌+◌, ◌-◌, ◌*◌, ◌/◌, ◌%◌, ◌^◌, ◌<◌, ◌≤◌, Bool, true, false, cond, leb, eqb, not, ◌&&◌, ◌||◌, List, length, get_or, Option, Some, None, refl, sym, ap, subst, ◌∙◌, arith, inl, inr}
use Rattle.std.specs.Prelude.{Result, Ok, Err, IfSome, nat_le, ◌==◌}
use Rattle.std.proofs.lemmas.Bool.{cases_lt, cases_eq, cases_Bool, le-leb, lt-leb, leb-true, eq-eqb, ne_eqb, and_parts, and_from, cond-true, cond-false}
use Rattle.std.proofs.Math.Nat.{mul-le-mul, mul_assoc}
use Rattle.lsn_core.specs.byte_words.Numbers.{u32_in}
use Rattle.lsn_core.specs.byte_words.Told.{when_told, when_both_told}
use Rattle.lsn_core.specs.Files.{Files}
use Rattle.lsn_core.specs.Sizes.{most_segments}
use Rattle.lsn_core.specs.Segment.{segment_bytes}
use Rattle.wal_pages.specs.Places.{head_size, IsBehindHead, flat_before, start_after}
use Rattle.wal_pages.proofs.Splits.{split, byte_split, div_split, mod_split, split_on, head_bounds, place_after, place_flat, place_behind, start_page}
use Rattle.wal_pages.proofs.Starts.{in_head, start_eight}
use Rattle.wal_archive.specs.Archive.{Archive, archive_of, IsArchive, held_in, end_at, greatest, top_of}
use Rattle.wal_archive.specs.declared.fault.Damage.{Damage}
use Rattle.wal_archive.specs.declared.fault.Broken.TheVariants.{Place}
use Rattle.wal_archive.specs.Rules.{◌>>=◌, broken_at, is_ok, head_at, first_head, entry_at, ends_at, next_bytes, set_heads, set_bytes}
use Rattle.wal_archive.specs.Reading.{IsFront, ReadsFront, zeros_from, ends_with_head, ended, entry_behind, shows_more, front_place}
use Rattle.wal_archive.proofs.RunLaws.{all_told}
use Rattle.wal_archive.proofs.Files.{files_archive, greatest_one, end_at_pos, held_short}

-- ---- places

-- a start behind an end is on the same page
pub record StartBehind (mib e start : ℕ) : Type 0 where
  pub after : e ≤ start
  pub near : start ≤ e + 40
  pub behind : IsBehindHead mib start
  pub segment : start / segment_bytes mib ≡ e / segment_bytes mib

pub start_near : (mib e start : ℕ) → 1 ≤ mib → start ≡ start_after mib e → StartBehind mib e start
unfolding start_after
start_near mib e start some is =
    let after = place_after mib e some in
    let behind = subst (IsBehindHead mib) (sym is) (place_behind mib (flat_before mib e) some) in
    elim (cases_lt (e % 8192) (head_size mib e)) [
      | inr past ↦
          let same : start ≡ e = is ∙ place_flat mib e some past in
          record {
            after = omega (arith, same);
            near = omega (arith, same);
            behind =
                behind;
            segment = ap (λ n. n / segment_bytes mib) same;
          }
      | inl within ↦
          let i = in_head mib e some within in
          let b = head_bounds mib e in
          let c = split mib e some in
          let o = byte_split mib e c.s c.p c.o c.split in
          let there : start ≡ e + (head_size mib e - c.o) = is ∙ i.start
          ∙ omega (arith, o, within) in
          let on = split_on mib e c.s c.p c.o (head_size mib e - c.o) c.split
          (omega (arith, o, within, b.1)) in
          record {
            after = omega (arith, is, after);
            near = omega (arith, there, b.1);
            behind = behind;
            segment = ap (λ n. n / segment_bytes mib) there
                ∙ div_split mib (e + (head_size mib e - c.o)) c.s c.p
                (c.o + (head_size mib e - c.o)) on ∙ sym (div_split mib e c.s c.p c.o c.split);
          }
    ]

pub start_at_page : (mib e start : ℕ) → 1 ≤ mib → e % 8192 ≡ 0 → start ≡ start_after mib e
    → start ≡ e + head_size mib e
start_at_page mib e start some page is = is ∙ start_page mib e some page

pub start_is_eight : (mib e start : ℕ) → 1 ≤ mib → e % 8 ≡ 0 → start ≡ start_after mib e
    → start % 8 ≡ 0
unfolding start_after
start_is_eight mib e start some eight is = ap (λ n. n % 8) is ∙ start_eight mib e some eight

-- the front of an end's page begins at the end or at the start behind it
pub place_page : (end start : ℕ) → end % 8192 ≡ 0 → front_place end start ≡ end
place_page end start e = cond-true (eqb (end % 8192) 0) end start (eq-eqb (end % 8192) 0 e)

pub place_start : (end start : ℕ) → (end % 8192 ≡ 0 → ⊥) → front_place end start ≡ start
place_start end start ne = cond-false (eqb (end % 8192) 0) end start (ne_eqb (end % 8192) 0 ne)

pub place_le_start : (end start : ℕ) → end ≤ start → front_place end start ≤ start
place_le_start end start le =
    elim (cases_eq (end % 8192) 0) [
      | inl e ↦ (let p = place_page end start e in omega (arith, p, le))
      | inr ne ↦ (let p = place_start end start ne in omega (arith, p))
    ]

pub place_ge_end : (end start : ℕ) → end ≤ start → end ≤ front_place end start
place_ge_end end start le =
    elim (cases_eq (end % 8192) 0) [
      | inl e ↦ (let p = place_page end start e in omega (arith, p))
      | inr ne ↦ (let p = place_start end start ne in omega (arith, p, le))
    ]

-- ---- an entry that is seen

shown_some : (l : List ℕ) (at : ℕ) → shows_more l at ≡ true
    → (at + 4 ≤ length l) × (0 < u32_in l at)
shown_some l at e =
    let both = and_parts (nat_le (at + 4) (length l)) (not (u32_in l at == 0)) e in (
      leb-true (at + 4) (length l) both.0,
      elim (cases_lt 0 (u32_in l at)) [
        | inl lt ↦ lt
        | inr le ↦ absurd
            (let t : not (u32_in l at == 0) ≡ false =
            ap not (eq-eqb (u32_in l at) 0 (omega (arith, le))) in
            let z : true ≡ false = sym both.1 ∙ t in cc)
      ],
    )

-- one of four bytes isn't zero, where their number isn't
record SomeByte (l : List ℕ) (at : ℕ) : Type 0 where
  i : ℕ
  lt : i < 4
  some : 0 < get_or l (at + i) 0

some_byte : (l : List ℕ) (at : ℕ) → 0 < u32_in l at → SomeByte l at
some_byte l at some =
    let z : get_or l (at + 0) 0 ≡ get_or l at 0 =
    ap (λ n. get_or l n 0) (let e : at + 0 ≡ at = omega arith in e) in
    let t : get_or l (at + 3) 0 ≡ get_or l (at + 2 + 1) 0 =
    ap (λ n. get_or l n 0) (let e : at + 3 ≡ at + 2 + 1 = omega arith in e) in
    elim (cases_lt 0 (get_or l (at + 0) 0)) [
      | inl a ↦ record { i = 0; lt = omega arith; some = a }
      | inr a ↦ elim (cases_lt 0 (get_or l (at + 1) 0)) [
        | inl b ↦ record { i = 1; lt = omega arith; some = b }
        | inr b ↦ elim (cases_lt 0 (get_or l (at + 2) 0)) [
          | inl c ↦ record { i = 2; lt = omega arith; some = c }
          | inr c ↦ elim (cases_lt 0 (get_or l (at + 3) 0)) [
            | inl d ↦ record { i = 3; lt = omega arith; some = d }
            | inr d ↦ absurd (omega (arith, some, a, b, c, d, z, t))
          ]
        ]
      ]
    ]

-- the archive goes on at a place
record GoesOnAt (mib : ℕ) (a : Archive) (start : ℕ) : Type 0 where
  top : start < a.top
  mark : start < a.mark
  filed : a.has_file (start / segment_bytes mib) ≡ true

more_ahead : (mib : ℕ) (a : Archive) (x room start : ℕ) (bytes : List ℕ) → IsArchive mib a
    → IsFront a x room bytes → x ≤ start → shows_more bytes (start - x) ≡ true
    → GoesOnAt mib a start
more_ahead mib a x room start bytes is f order shown =
    let s = shown_some bytes (start - x) shown in
    let b = some_byte bytes (start - x) s.1 in
    let first : a.byte start ≡ Some (get_or bytes (start - x) 0) =
    ap a.byte (let e : start ≡ x + (start - x) = omega (arith, order) in e)
    ∙ f.held (start - x) (omega (arith, s.0)) in
    let one = f.held (start - x + b.i) (omega (arith, s.0, b.lt)) in
    let m = is.marked (x + (start - x + b.i)) (get_or bytes (start - x + b.i) 0) one b.some in
    record {
      top = is.held start (get_or bytes (start - x) 0) first;
      mark = omega (arith, m, order);
      filed = is.filed start (get_or bytes (start - x) 0) first;
    }

zeros_false : (mib : ℕ) (a : Archive) (e start : ℕ) → e ≤ start
    → start / segment_bytes mib ≡ e / segment_bytes mib → GoesOnAt mib a start
    → zeros_from a mib e ≡ Ok false
zeros_false mib a e start after same on =
    let t : leb a.top e ≡ false = lt-leb _ _ (omega (arith, on.top, after)) in
    let m : leb a.mark e ≡ false = lt-leb _ _ (omega (arith, on.mark, after)) in
    let f : a.has_file (e / segment_bytes mib) ≡ true = ap a.has_file (sym same) ∙ on.filed in
    rw (t, f, m) refl

and_false : (b : Bool) → (b && false) ≡ false
and_false true = refl
and_false false = refl

head_false : (mib system : ℕ) (a : Archive) (e start : ℕ) → 1 ≤ mib → start ≡ start_after mib e
    → GoesOnAt mib a start → ends_with_head a mib system e ≡ false
head_false mib system a e start some is on =
    elim (cases_eq (e % 8192) 0) [
      | inr ne ↦ (let t : eqb (e % 8192) 0 ≡ false = ne_eqb _ _ ne in rw t refl)
      | inl page ↦
          let at = start_at_page mib e start some page is in
          let m : leb a.mark (e + head_size mib e) ≡ false =
          lt-leb _ _ (omega (arith, on.mark, at)) in
          let t : eqb (e % 8192) 0 ≡ true = eq-eqb _ _ page in
          rw (t, m) (and_false (is_ok (head_at a mib system e e (Some 0))))
    ]

pub seen_ended : (o : Option Files) (mib system e start room : ℕ) (front : List ℕ) → 1 ≤ mib
    → start ≡ start_after mib e → shows_more front (start - front_place e start) ≡ true
    → ReadsFront mib o (front_place e start) room front
    → IfSome o (λ m. ended (archive_of mib m) mib system e ≡ Ok false)
seen_ended o mib system e start room front some is shown read =
    when_told o (λ m. IsFront (archive_of mib m) (front_place e start) room front)
    (λ m. ended (archive_of mib m) mib system e ≡ Ok false)
    (λ m f.
    let s = start_near mib e start some is in
    let on = more_ahead mib (archive_of mib m) (front_place e start) room start front
    (files_archive mib m some) f (place_le_start e start s.after) shown in
    let z = zeros_false mib (archive_of mib m) e start s.after s.segment on in
    let h = head_false mib system (archive_of mib m) e start some is on in
    rw (z, h) refl) read

pub seen_set : (o : Option Files) (mib from room : ℕ) (front : List ℕ) → 1 ≤ mib
    → shows_more front 0 ≡ true
    → ReadsFront mib o from room front
    → IfSome o (λ m. zeros_from (archive_of mib m) mib from ≡ Ok false)
seen_set o mib from room front some shown read =
    when_told o (λ m. IsFront (archive_of mib m) from room front)
    (λ m. zeros_from (archive_of mib m) mib from ≡ Ok false)
    (λ m f.
    let on = more_ahead mib (archive_of mib m) from room from front (files_archive mib m some) f
    (omega arith) (ap (shows_more front) (let e : from - from ≡ 0 = omega arith in e) ∙ shown)
    in
    zeros_false mib (archive_of mib m) from from (omega arith) refl on) read

-- ---- no archive is so long

top_bound : (mib : ℕ) (m : Files) → mib ≤ 1024 → top_of mib m ≤ 2 ^ 51
unfolding top_of
top_bound mib m most =
    let f : ℕ → ℕ = λ s. end_at mib s (length (held_in mib m s)) in
    elim (cases_lt 0 (greatest f most_segments)) [
      | inr none ↦ omega (arith, none)
      | inl some ↦
          let g = greatest_one f most_segments some in
          let p = end_at_pos mib g.0 (length (held_in mib m g.0)) (omega (arith, g.1, some)) in
          let short = held_short mib m g.0 in
          let high : g.0 * segment_bytes mib ≤ 1048576 * 1073741824 =
          mul-le-mul g.3 (let z : segment_bytes mib ≤ 1073741824 = omega (arith, most) in z) in
          omega (arith, g.1, p.1, short, high, most)
    ]

abbrev pub may_start : ℕ → ℕ → Bool
may_start mib from = (from % 8 == 0) && nat_le (head_size mib from) (from % 8192)

next_end : (a : Archive) (mib system e : ℕ) → a.top ≤ e → next_bytes a mib system e ≡ Ok None
unfolding next_bytes
next_end a mib system e le = (let t : leb a.top e ≡ true = le-leb _ _ le in rw t refl)

pub beyond_next : (o : Option Files) (mib system e : ℕ) → mib ≤ 1024 → 2 ^ 51 < e
    → IfSome o (λ m. next_bytes (archive_of mib m) mib system e ≡ Ok None)
beyond_next None mib system e most far = tt
beyond_next (Some m) mib system e most far =
    next_end (archive_of mib m) mib system e (let b = top_bound mib m most in omega (arith, b, far))

set_end : (a : Archive) (mib system from : ℕ) → may_start mib from ≡ true → a.top ≤ from
    → set_bytes a mib system from ≡ Ok None
unfolding set_bytes
set_end a mib system from may le =
    (let t : leb a.top from ≡ true = le-leb _ _ le in rw (may, t) refl)

pub beyond_set : (o : Option Files) (mib from system : ℕ) → mib ≤ 1024 → 2 ^ 51 < from
    → may_start mib from ≡ true
    → IfSome o (λ m. set_bytes (archive_of mib m) mib system from ≡ Ok None)
beyond_set None mib from system most far may = tt
beyond_set (Some m) mib from system most far may =
    set_end (archive_of mib m) mib system from may
    (let b = top_bound mib m most in omega (arith, b, far))

pub no_start : (o : Option Files) (mib from system : ℕ) → may_start mib from ≡ false
    → IfSome o (λ m. set_bytes (archive_of mib m) mib system from ≡ Err (broken_at from Place))
unfolding set_bytes
no_start None mib from system may = tt
no_start (Some m) mib from system may = rw may refl

pub starts_there : (mib from : ℕ) → from % 8 ≡ 0 → IsBehindHead mib from → may_start mib from ≡ true
starts_there mib from eight behind =
    and_from (from % 8 == 0) (nat_le (head_size mib from) (from % 8192)) (eq-eqb (from % 8) 0 eight)
    (le-leb (head_size mib from) (from % 8192) behind)

-- ---- the rules step by step

abbrev pub found_or : Result (List ℕ) Damage → Bool → Result (Option (List ℕ)) Damage
found_or entry zeros = cond zeros (Ok None) (entry >>= λ bytes. Ok (Some bytes))

abbrev some_ok : Option (List ℕ) → Result (Option (List ℕ)) Damage
some_ok l = Ok l

assoc : (r : Result ℕ Damage) (s : Result (List ℕ) Damage)
    → (r >>= λ h. (s >>= λ bytes. some_ok (Some bytes)))
    ≡ ((r >>= λ h. s) >>= λ bytes. some_ok (Some bytes))
assoc (Ok h) s = refl
assoc (Err d) s = refl

pub next_is : (a : Archive) (mib system e : ℕ) → next_bytes a mib system e
    ≡ (ended a mib system e >>= λ zeros. found_or (entry_behind a mib system e) zeros)
unfolding next_bytes ends_at
next_is a mib system e =
    elim (cases_Bool (leb a.top e)) [
      | inl t ↦ rw t refl
      | inr t ↦ elim (cases_Bool (a.has_file (e / segment_bytes mib))) [
        | inr f ↦ rw (t, f) refl
        | inl f ↦ rw (t, f) (ap (λ r. cond (leb a.mark e || ends_with_head a mib system e)
            (some_ok None) r) (assoc (first_head a mib system e)
            (entry_at a mib system (start_after mib e))))
      ]
    ]

-- the own bytes of the entry that starts where a cursor is set, where the archive goes on there
abbrev entry_set : Archive → ℕ → ℕ → ℕ → Result (List ℕ) Damage
entry_set a mib system from = set_heads a mib system from >>= λ h. entry_at a mib system from

pub set_is : (a : Archive) (mib system from : ℕ) → may_start mib from ≡ true
    → set_bytes a mib system from ≡
    (zeros_from a mib from >>= λ zeros. found_or (entry_set a mib system from) zeros)
unfolding set_bytes
set_is a mib system from may =
    elim (cases_Bool (leb a.top from)) [
      | inl t ↦ rw (may, t) refl
      | inr t ↦ elim (cases_Bool (a.has_file (from / segment_bytes mib))) [
        | inr f ↦ rw (may, t, f) refl
        | inl f ↦ rw (may, t, f) (ap (λ r. cond (leb a.mark from) (some_ok None) r)
            (assoc (set_heads a mib system from) (entry_at a mib system from)))
      ]
    ]

-- ---- the same over an area that may not tell

abbrev pub zero_for : Unit {0} → ℕ
zero_for done = 0

pub next_stop : (o : Option Files) (mib system e : ℕ)
    → IfSome o (λ m. (d : Damage) → ended (archive_of mib m) mib system e ≡ Err d
    → next_bytes (archive_of mib m) mib system e ≡ Err d)
next_stop o mib system e = all_told o
    (λ m. (d : Damage) → ended (archive_of mib m) mib system e ≡ Err d
    → next_bytes (archive_of mib m) mib system e ≡ Err d)
    (λ m d is. next_is (archive_of mib m) mib system e ∙ rw is refl)

ended_is : (a : Archive) (mib system e : ℕ) (b : Bool) → ended a mib system e ≡ Ok b
    → next_bytes a mib system e ≡ found_or (entry_behind a mib system e) b
ended_is a mib system e b is = next_is a mib system e ∙ rw is refl

pub next_ends : (o now : Option Files) (mib system e : ℕ) (b : Bool) → now ≡ o → b ≡ true
    → IfSome now (λ m. ended (archive_of mib m) mib system e ≡ Ok b)
    → IfSome o (λ m. next_bytes (archive_of mib m) mib system e ≡ Ok None)
next_ends o now mib system e b same is told =
    when_told o (λ m. ended (archive_of mib m) mib system e ≡ Ok b)
    (λ m. next_bytes (archive_of mib m) mib system e ≡ Ok None)
    (λ m z. ended_is (archive_of mib m) mib system e b z ∙ rw is refl)
    (subst (λ (k : Option Files). IfSome k (λ m. ended (archive_of mib m) mib system e ≡ Ok b))
    same told)

pub next_wrong : (o now : Option Files) (mib system e : ℕ) (b : Bool) → now ≡ o → b ≡ false
    → IfSome now (λ m. ended (archive_of mib m) mib system e ≡ Ok b)
    → IfSome o (λ m. (d : Damage) → entry_behind (archive_of mib m) mib system e ≡ Err d
    → next_bytes (archive_of mib m) mib system e ≡ Err d)
next_wrong o now mib system e b same is told =
    when_told o (λ m. ended (archive_of mib m) mib system e ≡ Ok b)
    (λ m. (d : Damage) → entry_behind (archive_of mib m) mib system e ≡ Err d
    → next_bytes (archive_of mib m) mib system e ≡ Err d)
    (λ m z d wrong. ended_is (archive_of mib m) mib system e b z ∙ rw (is, wrong) refl)
    (subst (λ (k : Option Files). IfSome k (λ m. ended (archive_of mib m) mib system e ≡ Ok b))
    same told)

pub next_some : (o now later : Option Files) (mib system e : ℕ) (b : Bool) (l : List ℕ) → now ≡ o
    → later ≡ o → b ≡ false → IfSome now (λ m. ended (archive_of mib m) mib system e ≡ Ok b)
    → IfSome later (λ m. entry_behind (archive_of mib m) mib system e ≡ Ok l)
    → IfSome o (λ m. next_bytes (archive_of mib m) mib system e ≡ Ok (Some l))
next_some o now later mib system e b l same after is told entry =
    when_both_told o (λ m. ended (archive_of mib m) mib system e ≡ Ok b)
    (λ m. entry_behind (archive_of mib m) mib system e ≡ Ok l)
    (λ m. next_bytes (archive_of mib m) mib system e ≡ Ok (Some l))
    (λ m z right. ended_is (archive_of mib m) mib system e b z ∙ rw (is, right) refl)
    (subst (λ (k : Option Files). IfSome k (λ m. ended (archive_of mib m) mib system e ≡ Ok b)) same
    told)
    (subst (λ (k : Option Files). IfSome k
    (λ m. entry_behind (archive_of mib m) mib system e ≡ Ok l)) after entry)

zeros_is : (a : Archive) (mib system from : ℕ) (b : Bool) → may_start mib from ≡ true
    → zeros_from a mib from ≡ Ok b → set_bytes a mib system from
    ≡ found_or (entry_set a mib system from) b
zeros_is a mib system from b may is = set_is a mib system from may ∙ rw is refl

pub set_stop : (o : Option Files) (mib system from : ℕ) → may_start mib from ≡ true
    → IfSome o (λ m. (d : Damage) → zeros_from (archive_of mib m) mib from ≡ Err d
    → set_bytes (archive_of mib m) mib system from ≡ Err d)
set_stop o mib system from may =
    all_told o (λ m. (d : Damage) → zeros_from (archive_of mib m) mib from ≡ Err d
    → set_bytes (archive_of mib m) mib system from ≡ Err d)
    (λ m d is. set_is (archive_of mib m) mib system from may ∙ rw is refl)

pub set_ends : (o now : Option Files) (mib system from : ℕ) (b : Bool) → may_start mib from ≡ true
    → now ≡ o → b ≡ true → IfSome now (λ m. zeros_from (archive_of mib m) mib from ≡ Ok b)
    → IfSome o (λ m. set_bytes (archive_of mib m) mib system from ≡ Ok None)
set_ends o now mib system from b may same is told =
    when_told o (λ m. zeros_from (archive_of mib m) mib from ≡ Ok b)
    (λ m. set_bytes (archive_of mib m) mib system from ≡ Ok None)
    (λ m z. zeros_is (archive_of mib m) mib system from b may z ∙ rw is refl)
    (subst (λ (k : Option Files). IfSome k (λ m. zeros_from (archive_of mib m) mib from ≡ Ok b))
    same told)

pub set_heads_wrong : (o now : Option Files) (mib system from : ℕ) (b : Bool)
    → may_start mib from ≡ true → now ≡ o → b ≡ false
    → IfSome now (λ m. zeros_from (archive_of mib m) mib from ≡ Ok b)
    → IfSome o (λ m. (d : Damage) → set_heads (archive_of mib m) mib system from ≡ Err d
    → set_bytes (archive_of mib m) mib system from ≡ Err d)
set_heads_wrong o now mib system from b may same is told =
    when_told o (λ m. zeros_from (archive_of mib m) mib from ≡ Ok b)
    (λ m. (d : Damage) → set_heads (archive_of mib m) mib system from ≡ Err d
    → set_bytes (archive_of mib m) mib system from ≡ Err d)
    (λ m z d wrong. zeros_is (archive_of mib m) mib system from b may z ∙ rw (is, wrong) refl)
    (subst (λ (k : Option Files). IfSome k (λ m. zeros_from (archive_of mib m) mib from ≡ Ok b))
    same told)

-- where the heads pass the entry decides
heads_pass : (o now heads : Option Files) (mib system from : ℕ) (b : Bool)
    → may_start mib from ≡ true → now ≡ o → heads ≡ o → b ≡ false
    → IfSome now (λ m. zeros_from (archive_of mib m) mib from ≡ Ok b)
    → IfSome heads (λ m. set_heads (archive_of mib m) mib system from ≡ Ok 0)
    → IfSome o (λ m. set_bytes (archive_of mib m) mib system from
    ≡ (entry_at (archive_of mib m) mib system from >>= λ bytes. some_ok (Some bytes)))
heads_pass o now heads mib system from b may same after is told passed =
    when_both_told o (λ m. zeros_from (archive_of mib m) mib from ≡ Ok b)
    (λ m. set_heads (archive_of mib m) mib system from ≡ Ok 0)
    (λ m. set_bytes (archive_of mib m) mib system from
    ≡ (entry_at (archive_of mib m) mib system from >>= λ bytes. some_ok (Some bytes)))
    (λ m z h. zeros_is (archive_of mib m) mib system from b may z ∙ rw (is, h) refl)
    (subst (λ (k : Option Files). IfSome k (λ m. zeros_from (archive_of mib m) mib from ≡ Ok b))
    same told)
    (subst (λ (k : Option Files). IfSome k
    (λ m. set_heads (archive_of mib m) mib system from ≡ Ok 0)) after passed)

pub set_wrong : (o now heads : Option Files) (mib system from : ℕ) (b : Bool)
    → may_start mib from ≡ true → now ≡ o → heads ≡ o → b ≡ false
    → IfSome now (λ m. zeros_from (archive_of mib m) mib from ≡ Ok b)
    → IfSome heads (λ m. set_heads (archive_of mib m) mib system from ≡ Ok 0)
    → IfSome o (λ m. (d : Damage) → entry_at (archive_of mib m) mib system from ≡ Err d
    → set_bytes (archive_of mib m) mib system from ≡ Err d)
set_wrong o now heads mib system from b may same after is told passed =
    when_told o (λ m. set_bytes (archive_of mib m) mib system from
    ≡ (entry_at (archive_of mib m) mib system from >>= λ bytes. some_ok (Some bytes)))
    (λ m. (d : Damage) → entry_at (archive_of mib m) mib system from ≡ Err d
    → set_bytes (archive_of mib m) mib system from ≡ Err d)
    (λ m e d wrong. e ∙ rw wrong refl)
    (heads_pass o now heads mib system from b may same after is told passed)

pub set_some : (o now heads later : Option Files) (mib system from : ℕ) (b : Bool) (l : List ℕ)
    → may_start mib from ≡ true → now ≡ o → heads ≡ o → later ≡ o → b ≡ false
    → IfSome now (λ m. zeros_from (archive_of mib m) mib from ≡ Ok b)
    → IfSome heads (λ m. set_heads (archive_of mib m) mib system from ≡ Ok 0)
    → IfSome later (λ m. entry_at (archive_of mib m) mib system from ≡ Ok l)
    → IfSome o (λ m. set_bytes (archive_of mib m) mib system from ≡ Ok (Some l))
set_some o now heads later mib system from b l may same after last is told passed entry =
    when_both_told o (λ m. set_bytes (archive_of mib m) mib system from
    ≡ (entry_at (archive_of mib m) mib system from >>= λ bytes. some_ok (Some bytes)))
    (λ m. entry_at (archive_of mib m) mib system from ≡ Ok l)
    (λ m. set_bytes (archive_of mib m) mib system from ≡ Ok (Some l))
    (λ m e right. e ∙ rw right refl)
    (heads_pass o now heads mib system from b may same after is told passed)
    (subst (λ (k : Option Files). IfSome k
    (λ m. entry_at (archive_of mib m) mib system from ≡ Ok l)) last entry)

pub segment_page : (mib from : ℕ) → 1 ≤ mib → (from - from % segment_bytes mib) % 8192 ≡ 0
segment_page mib from some =
    let c = split mib from some in
    let m = mod_split mib from c.s c.p c.o c.split in
    let e : c.s * segment_bytes mib ≡ c.s * mib * 1048576 = sym (mul_assoc c.s mib 1048576) in
    omega (arith, c.split.is, m, e)
