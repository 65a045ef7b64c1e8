-- A head that is written passes.
use Rattle.std.proofs.Common.{◌≡◌, ℕ, ◌+◌, ◌/◌, ◌%◌, ◌^◌, ◌<◌, ◌≤◌, Bool, true, false, cond, eqb, length, Some, None, refl, sym, ap, ◌∙◌, arith}
use Rattle.std.specs.Prelude.{nat_lt, ◌==◌, ◌&&◌}
use Rattle.std.proofs.lemmas.Bool.{eq-eqb}
use Rattle.lsn_core.specs.byte_words.Numbers.{u16_in, u32_in, u64_in}
use Rattle.lsn_core.specs.Segment.{segment_bytes}
use Rattle.wal_pages.specs.Places.{head_size}
use Rattle.wal_pages.specs.Heads.{is_first_page, head_flags, long_part, head_bytes, page_head, info_fits, long_fault, first_fault, head_fault}
use Rattle.wal_pages.proofs.Splits.{first_long}

-- the numbers of a written head
record IsHead (first : Bool) (mib system page size : ℕ) : Type 0 where
  magic : u16_in (head_bytes first mib system page size) 0 ≡ 0xD116
  info : u16_in (head_bytes first mib system page size) 2 ≡ head_flags first size
  timeline : u32_in (head_bytes first mib system page size) 4 ≡ 1
  address : u64_in (head_bytes first mib system page size) 8 ≡ page
  rest_is : u32_in (head_bytes first mib system page size) 16 ≡ size
  len : length (head_bytes first mib system page size) ≡ cond first 40 24

small_flags : (first : Bool) (size : ℕ) → head_flags first size < 4
small_flags true size = elim (eqb size 0) as (λ c. cond c 0 1 + 2 < 4)
    [ true ↦ omega arith | false ↦ omega arith ]
small_flags false size = elim (eqb size 0) as (λ c. cond c 0 1 + 0 < 4)
    [ true ↦ omega arith | false ↦ omega arith ]

is_head : (first : Bool) (mib system page size : ℕ) → page < 2 ^ 64 → size < 2 ^ 32
    → IsHead first mib system page size
unfolding head_bytes long_part
is_head true mib system page size fits small = record {
  magic = refl;
  info = (let f = small_flags true size in omega (arith, f));
  timeline = refl;
  address = omega (arith, fits);
  rest_is = omega (arith, small);
  len = refl;
}
is_head false mib system page size fits small = record {
  magic = refl;
  info = (let f = small_flags false size in omega (arith, f));
  timeline = refl;
  address = omega (arith, fits);
  rest_is = omega (arith, small);
  len = refl;
}

info_written : (first : Bool) (size : ℕ) → info_fits first (Some size) (head_flags first size)
    ≡ true
info_written true size = elim (eqb size 0) as
    (λ c. nat_lt (cond c 0 1 + 2) 8 &&
    ((((cond c 0 1 + 2) / 2 % 2) == 1) && (((cond c 0 1 + 2) % 2) == cond c 0 1)) ≡ true)
    [ true ↦ refl | false ↦ refl ]
info_written false size = elim (eqb size 0) as
    (λ c. nat_lt (cond c 0 1 + 0) 8 &&
    ((((cond c 0 1 + 0) / 2 % 2) == 0) && (((cond c 0 1 + 0) % 2) == cond c 0 1)) ≡ true)
    [ true ↦ refl | false ↦ refl ]

long_written : (first : Bool) (mib system page size : ℕ) → mib ≤ 1024 → system < 2 ^ 64
    → long_fault first mib system (head_bytes first mib system page size) ≡ None
unfolding head_bytes long_part
long_written false mib system page size most fits = refl
long_written true mib system page size most fits =
    let s : u64_in (head_bytes true mib system page size) 24 ≡ system = omega (arith, fits) in
    let g : u32_in (head_bytes true mib system page size) 32 ≡ segment_bytes mib =
    omega (arith, most) in
    let p : u32_in (head_bytes true mib system page size) 36 ≡ 8192 = refl in
    let se : eqb (u64_in (head_bytes true mib system page size) 24) system ≡ true = eq-eqb _ _ s in
    let ge : eqb (u32_in (head_bytes true mib system page size) 32) (segment_bytes mib) ≡ true =
    eq-eqb _ _ g in
    rw (se, ge) refl

pub head_written : (mib system page size : ℕ) → mib ≤ 1024 → system < 2 ^ 64 → page < 2 ^ 64
    → size < 2 ^ 32 → head_fault mib system page (Some size) (page_head mib system page size) ≡ None
unfolding first_fault
head_written mib system page size most known fits small =
    let first : Bool = is_first_page mib page in
    let h = is_head first mib system page size fits small in
    let m : eqb (u16_in (head_bytes first mib system page size) 0) 0xD116 ≡ true =
    eq-eqb _ _ h.magic in
    let i : info_fits first (Some size) (u16_in (head_bytes first mib system page size) 2) ≡ true =
    ap (info_fits first (Some size)) h.info ∙ info_written first size in
    let t : eqb (u32_in (head_bytes first mib system page size) 4) 1 ≡ true =
    eq-eqb _ _ h.timeline in
    let a : eqb (u64_in (head_bytes first mib system page size) 8) page ≡ true =
    eq-eqb _ _ h.address in
    let l = long_written first mib system page size most known in
    let r : eqb (u32_in (head_bytes first mib system page size) 16) size ≡ true =
    eq-eqb _ _ h.rest_is in
    rw (m, i, t, a, l, r) refl

pub length_head : (mib system page size : ℕ) → page < 2 ^ 64 → size < 2 ^ 32
    → length (page_head mib system page size) ≡ head_size mib page
length_head mib system page size fits small =
    (is_head (is_first_page mib page) mib system page size fits small).len
    ∙ sym (first_long mib page)
