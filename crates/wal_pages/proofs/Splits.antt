-- A place as a segment, a page of it and a byte of that, and what the words on places say of these three.
use Rattle.std.proofs.Common.{◌≡◌, ℕ, zero, suc, ◌+◌, ◌-◌, ◌*◌, ◌/◌, ◌%◌, ◌<◌, ◌≤◌, ◌⊎◌, true, false, cond, ltb, refl, sym, ap, ◌∙◌, arith, inl, inr}
use Rattle.std.proofs.lemmas.Bool.{cases_lt, cases_eq, cases_order, lt-ltb, le-ltb}
use Rattle.std.proofs.lemmas.Nat.{div-mul-add, mod-mul-add, div-add-mod', mod_below}
use Rattle.std.proofs.Math.Nat.{add-mul, mul_assoc, mul-le-mul_right}
use Rattle.lsn_core.specs.Segment.{segment_bytes}
use Rattle.wal_pages.specs.Places.{segment_flat, place, flat_before, head_size, IsBehindHead, start_after, stop_of}
use Rattle.wal_pages.specs.Heads.{is_first_page}

pub record IsSplit (mib x s p o : ℕ) : Type 0 where
  pub is : x ≡ s * segment_bytes mib + (p * 8192 + o)
  pub page : p < mib * 128
  pub byte : o < 8192

pub record Split (mib x : ℕ) : Type 0 where
  pub s : ℕ
  pub p : ℕ
  pub o : ℕ
  pub split : IsSplit mib x s p o

pub split : (mib x : ℕ) → 1 ≤ mib → Split mib x
split mib x some =
    let e : x / segment_bytes mib * segment_bytes mib + x % segment_bytes mib ≡ x =
    div-add-mod' x (segment_bytes mib) in
    let lt : x % segment_bytes mib < segment_bytes mib =
    mod_below x (segment_bytes mib) (omega (arith, some)) in
    record {
      s = x / segment_bytes mib;
      p = x % segment_bytes mib / 8192;
      o = x % segment_bytes mib % 8192;
      split = record { is = omega (arith, e); page = omega (arith, lt); byte = omega arith };
    }

pub div_split : (mib x s p o : ℕ) → IsSplit mib x s p o → x / segment_bytes mib ≡ s
div_split mib x s p o i = ap (λ n. n / segment_bytes mib) i.is
    ∙ div-mul-add s (segment_bytes mib) (p * 8192 + o) (omega (arith, i.page, i.byte))

pub mod_split : (mib x s p o : ℕ) → IsSplit mib x s p o → x % segment_bytes mib ≡ p * 8192 + o
mod_split mib x s p o i = ap (λ n. n % segment_bytes mib) i.is
    ∙ mod-mul-add s (segment_bytes mib) (p * 8192 + o) (omega (arith, i.page, i.byte))

pub byte_split : (mib x s p o : ℕ) → IsSplit mib x s p o → x % 8192 ≡ o
byte_split mib x s p o i =
    let e : s * segment_bytes mib ≡ s * mib * 1048576 = sym (mul_assoc s mib 1048576) in
    omega (arith, e, i.is, i.byte)

pub flat_split : (mib x s p o : ℕ) → IsSplit mib x s p o
    → flat_before mib x ≡ s * segment_flat mib + (p * 8168 + (o - 24) - 16)
unfolding flat_before
flat_split mib x s p o i =
    let d = div_split mib x s p o i in
    let m = mod_split mib x s p o i in
    let a : x / segment_bytes mib * segment_flat mib ≡ s * segment_flat mib =
    ap (λ n. n * segment_flat mib) d in
    omega (arith, a, m, i.byte)

pub head_first : (mib x s o : ℕ) → IsSplit mib x s 0 o → head_size mib x ≡ 40
unfolding head_size
head_first mib x s o i = let e : ltb (x % segment_bytes mib) 8192 ≡ true =
    lt-ltb _ _ (omega (arith, mod_split mib x s 0 o i, i.byte)) in rw e refl

pub head_later : (mib x s p o : ℕ) → 0 < p → IsSplit mib x s p o → head_size mib x ≡ 24
unfolding head_size
head_later mib x s p o some i = let e : ltb (x % segment_bytes mib) 8192 ≡ false =
    le-ltb _ _ (omega (arith, mod_split mib x s p o i, some)) in rw e refl

-- the head of a page, 40 or 24 bytes
pub record IsHeadSize (p h : ℕ) : Type 0 where
  pub first : p ≡ 0 → h ≡ 40
  pub later : 0 < p → h ≡ 24

pub head_split : (mib x s p o : ℕ) → IsSplit mib x s p o → IsHeadSize p (head_size mib x)
head_split mib x s zero o i = record
    { first = λ e. head_first mib x s o i; later = λ some. absurd (omega (arith, some)) }
head_split mib x s (suc p) o i =
    record {
      first = λ e. absurd (omega (arith, e));
      later = λ some.
          head_later mib x s (suc p) o some i;
    }

-- a place further on, on the same page
pub split_on : (mib x s p o i : ℕ) → IsSplit mib x s p o → o + i < 8192
    → IsSplit mib (x + i) s p (o + i)
split_on mib x s p o i h lt = record { is = omega (arith, h.is); page = h.page; byte = lt }

-- the page behind a page: the next one of the segment, or the first one of the next segment
pub split_next : (mib x s p o : ℕ) → IsSplit mib x s p o
    → IsSplit mib (x + (8192 - o)) s (p + 1) 0
    ⊎ ((p + 1 ≡ mib * 128) × IsSplit mib (x + (8192 - o)) (s + 1) 0 0)
split_next mib x s p o i =
    elim (cases_lt (p + 1) (mib * 128)) [
      | inl lt ↦ inl (record { is = omega (arith, i.is, i.byte); page = lt; byte = omega arith })
      | inr le ↦
          let e : (s + 1) * segment_bytes mib ≡ s * segment_bytes mib + 1 * segment_bytes mib =
          add-mul s 1 (segment_bytes mib) in
          inr (
            omega (arith, le, i.page),
            record {
              is = omega (arith, e, le, i.is, i.byte, i.page);
              page =
                  omega (arith, i.page);
              byte = omega arith;
            },
          )
    ]

-- flat bytes behind a head are numbered in order, also over the page's end
pub flat_on : (mib x i : ℕ) → 1 ≤ mib → IsBehindHead mib x → x % 8192 + i ≤ 8192
    → flat_before mib (x + i) ≡ flat_before mib x + i
flat_on mib x i some behind fits =
    let c = split mib x some in
    let o = byte_split mib x c.s c.p c.o c.split in
    let h = head_split mib x c.s c.p c.o c.split in
    let here = flat_split mib x c.s c.p c.o c.split in
    let small : 24 ≤ c.o = elim (cases_order c.p 0) [
      | inl e ↦ omega (arith, h.first e, behind, o)
      | inr other ↦
          elim other [
            | inl lt ↦ absurd (omega (arith, lt))
            | inr lt ↦ omega (arith, h.later lt, behind, o)
          ]
    ] in
    let first : c.p ≡ 0 → 40 ≤ c.o = λ e. omega (arith, h.first e, behind, o) in
    let room : 16 ≤ c.p * 8168 + (c.o - 24) =
    elim (cases_eq c.p 0) [
      | inl e ↦ omega (arith, first e)
      | inr ne ↦ elim (cases_lt 0 c.p) [
        | inl lt ↦ omega (arith, lt)
        | inr le ↦ absurd (ne (omega (arith, le)))
      ]
    ] in
    elim (cases_lt (c.o + i) 8192) [
      | inl lt ↦ omega (
        arith,
        flat_split mib (x + i) c.s c.p (c.o + i)
            (split_on mib x c.s c.p c.o i c.split lt),
        here,
        small,
        room,
      )
      | inr le ↦
          let all : i ≡ 8192 - c.o = omega (arith, le, fits, o) in
          let there : x + (8192 - c.o) ≡ x + i = omega (arith, all) in
          elim (split_next mib x c.s c.p c.o c.split) [
            | inl n ↦ omega (
              arith,
              ap (flat_before mib) there,
              flat_split mib (x + (8192 - c.o)) c.s (c.p + 1) 0 n,
              here,
              small,
              room,
              all,
              c.split.byte,
            )
            | inr n ↦
                let e : (c.s + 1) * segment_flat mib
                ≡ c.s * segment_flat mib + 1 * segment_flat mib =
                add-mul c.s 1 (segment_flat mib) in
                omega (
                  arith,
                  ap (flat_before mib) there,
                  flat_split mib (x + (8192 - c.o)) (c.s + 1) 0 0 n.1,
                  e,
                  n.0,
                  here,
                  small,
                  room,
                  all,
                  c.split.byte,
                )
          ]
    ]

-- the bytes of a head are none of the flat ones
pub flat_head : (mib x i : ℕ) → 1 ≤ mib → x % 8192 ≡ 0 → i ≤ head_size mib x
    → flat_before mib (x + i) ≡ flat_before mib x
flat_head mib x i some start fits =
    let c = split mib x some in
    let o = byte_split mib x c.s c.p c.o c.split in
    let h = head_split mib x c.s c.p c.o c.split in
    let here = flat_split mib x c.s c.p c.o c.split in
    elim (cases_lt 0 c.p) [
      | inl lt ↦
          let there = flat_split mib (x + i) c.s c.p (c.o + i)
          (split_on mib x c.s c.p c.o i c.split (omega (arith, h.later lt, fits, start, o))) in
          omega (arith, here, there, start, o, h.later lt, fits, lt)
      | inr le ↦
          let there = flat_split mib (x + i) c.s c.p (c.o + i)
          (split_on mib x c.s c.p c.o i c.split
          (omega (arith, h.first (omega (arith, le)), fits, start, o))) in
          omega (arith, here, there, start, o, h.first (omega (arith, le)), fits, le)
    ]

-- where a flat byte stands, as segment, page and byte
pub split_place : (mib f : ℕ) → 1 ≤ mib
    → IsSplit mib (place mib f) (f / segment_flat mib) ((f % segment_flat mib + 16) / 8168)
    (24 + (f % segment_flat mib + 16) % 8168)
unfolding place
split_place mib f some =
    let lt : f % segment_flat mib < segment_flat mib =
    mod_below f (segment_flat mib) (omega (arith, some)) in
    record { is = refl; page = omega (arith, lt); byte = omega arith }

pub flat_place : (mib f : ℕ) → 1 ≤ mib → flat_before mib (place mib f) ≡ f
flat_place mib f some =
    let e : f / segment_flat mib * segment_flat mib + f % segment_flat mib ≡ f =
    div-add-mod' f (segment_flat mib) in
    omega (arith, flat_split mib (place mib f) _ _ _ (split_place mib f some), e)

pub place_behind : (mib f : ℕ) → 1 ≤ mib → IsBehindHead mib (place mib f)
place_behind mib f some =
    let i = split_place mib f some in
    let o = byte_split mib (place mib f) _ _ _ i in
    let h = head_split mib (place mib f) _ _ _ i in
    elim (cases_lt 0 ((f % segment_flat mib + 16) / 8168)) [
      | inl lt ↦ omega (arith, h.later lt, o)
      | inr le ↦ omega (arith, h.first (omega (arith, le)), o, le)
    ]

pub place_flat : (mib x : ℕ) → 1 ≤ mib → IsBehindHead mib x → place mib (flat_before mib x) ≡ x
unfolding place
place_flat mib x some behind =
    let c = split mib x some in
    let o = byte_split mib x c.s c.p c.o c.split in
    let h = head_split mib x c.s c.p c.o c.split in
    let here = flat_split mib x c.s c.p c.o c.split in
    let g : ℕ = c.p * 8168 + (c.o - 24) - 16 in
    let small : 24 ≤ c.o = elim (cases_lt 0 c.p) [
      | inl lt ↦ omega (arith, h.later lt, behind, o)
      | inr le ↦ omega (arith, h.first (omega (arith, le)), behind, o)
    ] in
    let room : 16 ≤ c.p * 8168 + (c.o - 24) =
    elim (cases_lt 0 c.p) [
      | inl lt ↦ omega (arith, lt)
      | inr le ↦ omega (arith, h.first (omega (arith, le)), behind, o)
    ] in
    let within : g < segment_flat mib = omega (arith, c.split.page, c.split.byte, small, room) in
    let d : flat_before mib x / segment_flat mib ≡ c.s = ap (λ n. n / segment_flat mib) here
    ∙ div-mul-add c.s (segment_flat mib) g within in
    let m : flat_before mib x % segment_flat mib ≡ g = ap (λ n. n % segment_flat mib) here
    ∙ mod-mul-add c.s (segment_flat mib) g within in
    let a : flat_before mib x / segment_flat mib * segment_bytes mib ≡ c.s * segment_bytes mib =
    ap (λ n. n * segment_bytes mib) d in
    omega (arith, a, m, c.split.is, small, room, c.split.byte)

-- places rise with the numbers of their flat bytes
pub place_rises : (mib f g : ℕ) → 1 ≤ mib → f < g → place mib f < place mib g
place_rises mib f g some lt =
    let i = split_place mib f some in
    let j = split_place mib g some in
    let e : f / segment_flat mib * segment_flat mib + f % segment_flat mib ≡ f =
    div-add-mod' f (segment_flat mib) in
    let k : g / segment_flat mib * segment_flat mib + g % segment_flat mib ≡ g =
    div-add-mod' g (segment_flat mib) in
    let under : f % segment_flat mib < segment_flat mib =
    mod_below f (segment_flat mib) (omega (arith, some)) in
    let under_g : g % segment_flat mib < segment_flat mib =
    mod_below g (segment_flat mib) (omega (arith, some)) in
    elim (cases_order (f / segment_flat mib) (g / segment_flat mib)) [
      | inl same ↦
          let a : f / segment_flat mib * segment_flat mib
          ≡ g / segment_flat mib * segment_flat mib = ap (λ n. n * segment_flat mib) same in
          let b : f / segment_flat mib * segment_bytes mib
          ≡ g / segment_flat mib * segment_bytes mib = ap (λ n. n * segment_bytes mib) same in
          omega (arith, i.is, j.is, a, b, e, k, lt)
      | inr other ↦ elim other [
        | inl less ↦
            let up : (f / segment_flat mib + 1) * segment_bytes mib ≤ g / segment_flat mib *
            segment_bytes mib = mul-le-mul_right (segment_bytes mib) (omega (arith, less)) in
            let one : (f / segment_flat mib + 1) * segment_bytes mib
            ≡ f / segment_flat mib * segment_bytes mib + 1 * segment_bytes mib =
            add-mul (f / segment_flat mib) 1 (segment_bytes mib) in
            omega (arith, i.is, j.is, up, one, i.page, i.byte)
        | inr more ↦
            let up : (g / segment_flat mib + 1) * segment_flat mib ≤ f / segment_flat mib *
            segment_flat mib = mul-le-mul_right (segment_flat mib) (omega (arith, more)) in
            let one : (g / segment_flat mib + 1) * segment_flat mib
            ≡ g / segment_flat mib * segment_flat mib + 1 * segment_flat mib =
            add-mul (g / segment_flat mib) 1 (segment_flat mib) in
            absurd (omega (arith, up, one, e, k, lt, under_g))
      ]
    ]

pub head_bounds : (mib x : ℕ) → (24 ≤ head_size mib x) × (head_size mib x ≤ 40)
unfolding head_size
head_bounds mib x = elim (ltb (x % segment_bytes mib) 8192) as
    (λ b. (24 ≤ cond b 40 24) × (cond b 40 24 ≤ 40))
    [ true ↦ (omega arith, omega arith) | false ↦ (omega arith, omega arith) ]

-- behind a head on the same page
pub head_on : (mib x i : ℕ) → 1 ≤ mib → IsBehindHead mib x → x % 8192 + i < 8192
    → IsBehindHead mib (x + i)
head_on mib x i some behind fits =
    let c = split mib x some in
    let o = byte_split mib x c.s c.p c.o c.split in
    let there = split_on mib x c.s c.p c.o i c.split (omega (arith, fits, o)) in
    let oi = byte_split mib (x + i) c.s c.p (c.o + i) there in
    let h = head_split mib x c.s c.p c.o c.split in
    let hi = head_split mib (x + i) c.s c.p (c.o + i) there in
    elim (cases_lt 0 c.p) [
      | inl lt ↦ omega (arith, h.later lt, hi.later lt, behind, o, oi)
      | inr le ↦ omega (
        arith,
        h.first (omega (arith, le)),
        hi.first (omega (arith, le)),
        behind,
        o,
        oi,
      )
    ]

pub head_behind : (mib p : ℕ) → 1 ≤ mib → p % 8192 ≡ 0 → IsBehindHead mib (p + head_size mib p)
head_behind mib p some start =
    let c = split mib p some in
    let o = byte_split mib p c.s c.p c.o c.split in
    let b = head_bounds mib p in
    let there = split_on mib p c.s c.p c.o (head_size mib p) c.split
    (omega (arith, b.0, b.1, o, start)) in
    let oi = byte_split mib (p + head_size mib p) c.s c.p (c.o + head_size mib p) there in
    let h = head_split mib p c.s c.p c.o c.split in
    let hi = head_split mib (p + head_size mib p) c.s c.p (c.o + head_size mib p) there in
    elim (cases_lt 0 c.p) [
      | inl lt ↦ omega (arith, h.later lt, hi.later lt, start, o, oi)
      | inr le ↦ omega (
        arith,
        h.first (omega (arith, le)),
        hi.first (omega (arith, le)),
        start,
        o,
        oi,
      )
    ]

pub place_le : (mib f g : ℕ) → 1 ≤ mib → f ≤ g → place mib f ≤ place mib g
place_le mib f g some le = elim (cases_lt f g) [
  | inl lt ↦ (let r = place_rises mib f g some lt in omega (arith, r))
  | inr ge ↦ (let e : f ≡ g = omega (arith, le, ge) in
      let p : place mib f ≡ place mib g = ap (place mib) e in omega (arith, p))
]

pub head_same : (mib p i : ℕ) → 1 ≤ mib → p % 8192 ≡ 0 → i < 8192
    → head_size mib (p + i) ≡ head_size mib p
head_same mib p i some start fits =
    let c = split mib p some in
    let o = byte_split mib p c.s c.p c.o c.split in
    let there = split_on mib p c.s c.p c.o i c.split (omega (arith, fits, o, start)) in
    let h = head_split mib p c.s c.p c.o c.split in
    let hi = head_split mib (p + i) c.s c.p (c.o + i) there in
    elim (cases_lt 0 c.p) [
      | inl lt ↦ omega (arith, h.later lt, hi.later lt)
      | inr le ↦ omega (arith, h.first (omega (arith, le)), hi.first (omega (arith, le)))
    ]

-- a place that begins no page and is not behind its head lies in that head
pub place_after : (mib y : ℕ) → 1 ≤ mib → y ≤ place mib (flat_before mib y)
place_after mib y some =
    elim (cases_lt (y % 8192) (head_size mib y)) [
      | inr behind ↦ (let e = place_flat mib y some behind in omega (arith, e))
      | inl within ↦
          let p : ℕ = y - y % 8192 in
          let start : p % 8192 ≡ 0 = omega arith in
          let back : p + y % 8192 ≡ y = omega arith in
          let same : head_size mib (p + y % 8192) ≡ head_size mib p =
          head_same mib p (y % 8192) some start (omega arith) in
          let h : head_size mib y ≡ head_size mib p = ap (head_size mib) (sym back) ∙ same in
          let f : flat_before mib y ≡ flat_before mib p = ap (flat_before mib) (sym back)
          ∙ flat_head mib p (y % 8192) some start (omega (arith, within, h)) in
          let g : flat_before mib (p + head_size mib p) ≡ flat_before mib p =
          flat_head mib p (head_size mib p) some start (omega arith) in
          let e : place mib (flat_before mib y) ≡ p + head_size mib p = ap (place mib) (f ∙ sym g)
          ∙ place_flat mib (p + head_size mib p) some (head_behind mib p some start) in
          omega (arith, e, within, h, back)
    ]

pub flat_rises : (mib x y : ℕ) → 1 ≤ mib → IsBehindHead mib x → x < y
    → flat_before mib x < flat_before mib y
flat_rises mib x y some behind lt =
    elim (cases_lt (flat_before mib x) (flat_before mib y)) [
      | inl less ↦ less
      | inr le ↦
          let a = place_after mib y some in
          let b = place_le mib (flat_before mib y) (flat_before mib x) some le in
          let c = place_flat mib x some behind in
          absurd (omega (arith, a, b, c, lt))
    ]

-- where an entry starts behind an end
pub start_behind : (mib e : ℕ) → 1 ≤ mib → IsBehindHead mib e → start_after mib e ≡ e
unfolding start_after
start_behind mib e some behind = place_flat mib e some behind

pub start_page : (mib e : ℕ) → 1 ≤ mib → e % 8192 ≡ 0 → start_after mib e ≡ e + head_size mib e
unfolding start_after
start_page mib e some start = ap (place mib)
    (sym (flat_head mib e (head_size mib e) some start (omega arith)))
    ∙ place_flat mib (e + head_size mib e) some (head_behind mib e some start)

pub start_behind_head : (mib e : ℕ) → 1 ≤ mib → IsBehindHead mib (start_after mib e)
unfolding start_after
start_behind_head mib e some = place_behind mib (flat_before mib e) some

pub flat_start : (mib e : ℕ) → 1 ≤ mib → flat_before mib (start_after mib e) ≡ flat_before mib e
unfolding start_after
flat_start mib e some = flat_place mib (flat_before mib e) some

pub stop_is : (mib e total : ℕ) → stop_of mib e total
    ≡ place mib (flat_before mib e + total - 1) + 1
unfolding stop_of
stop_is mib e total = refl

pub stop_start : (mib e total : ℕ) → 1 ≤ mib → stop_of mib (start_after mib e) total
    ≡ stop_of mib e total
unfolding stop_of
stop_start mib e total some = ap (λ n. place mib (n + total - 1) + 1) (flat_start mib e some)

-- what is behind a head and past a page's start is past that page's head
pub page_passed : (mib x p : ℕ) → 1 ≤ mib → IsBehindHead mib x → p % 8192 ≡ 0 → p ≤ x
    → p + head_size mib p ≤ x
page_passed mib x p some behind start le =
    let b = head_bounds mib p in
    elim (cases_lt x (p + head_size mib p)) [
      | inr ge ↦ ge
      | inl lt ↦
          let d : p + (x - p) ≡ x = omega (arith, le) in
          let h : head_size mib x ≡ head_size mib p = ap (head_size mib) (sym d)
          ∙ head_same mib p (x - p) some start (omega (arith, lt, b.1)) in
          absurd (omega (arith, h, behind, lt, le, start, b.1))
    ]

-- a page is its segment's first one where its head is long
pub first_long : (mib p : ℕ) → head_size mib p ≡ cond (is_first_page mib p) 40 24
unfolding head_size is_first_page
first_long mib p = refl

-- an entry starts and ends at a multiple of 8
pub place_eight : (mib f : ℕ) → 1 ≤ mib → place mib f % 8 ≡ f % 8
place_eight mib f some =
    let i = split_place mib f some in
    let s : ℕ = f / segment_flat mib in
    let e : s * segment_flat mib + f % segment_flat mib ≡ f = div-add-mod' f (segment_flat mib) in
    let k : ℕ = mib * 130688 - 2 in
    let a : s * segment_flat mib ≡ s * k * 8 =
    ap (λ n. s * n) (let z : segment_flat mib ≡ k * 8 = omega (arith, some) in z)
    ∙ sym (mul_assoc s k 8) in
    let b : s * segment_bytes mib ≡ s * (mib * 131072) * 8 =
    ap (λ n. s * n) (let z : segment_bytes mib ≡ mib * 131072 * 8 = omega arith in z)
    ∙ sym (mul_assoc s (mib * 131072) 8) in
    omega (arith, i.is, e, a, b)

pub head_eight : (mib x : ℕ) → head_size mib x % 8 ≡ 0
unfolding head_size
head_eight mib x = elim (ltb (x % segment_bytes mib) 8192) as (λ b. cond b 40 24 % 8 ≡ 0)
    [ true ↦ refl | false ↦ refl ]
