-- Where entries start and end, and that numbers rise with places.
use Rattle.std.proofs.Common.{◌≡◌, ℕ, ◌+◌, ◌-◌, ◌%◌, ◌<◌, ◌≤◌, min, sym, ap, subst, ◌∙◌, arith, inl, inr}
use Rattle.std.proofs.lemmas.Bool.{cases_lt}
use Rattle.lsn_core.specs.byte_words.Numbers.{aligned}
use Rattle.wal_pages.specs.Places.{place, flat_before, head_size, IsBehindHead, page_of, start_after, stop_of, end_of}
use Rattle.wal_pages.specs.Laws.{IsStart}
use Rattle.wal_pages.proofs.Splits.{flat_on, flat_head, flat_place, place_behind, place_flat, place_rises, place_le, place_after, place_eight, page_passed, head_same, head_behind, head_bounds, head_eight}

-- a place within its page's head
pub record IsInHead (mib x : ℕ) : Type 0 where
  pub head : head_size mib x ≡ head_size mib (page_of x)
  pub number : flat_before mib x ≡ flat_before mib (page_of x)
  pub start : place mib (flat_before mib x) ≡ page_of x + head_size mib x

pub in_head : (mib x : ℕ) → 1 ≤ mib → x % 8192 < head_size mib x → IsInHead mib x
in_head mib x some lt =
    let p : ℕ = page_of x in
    let start : p % 8192 ≡ 0 = omega arith in
    let back : p + x % 8192 ≡ x = omega arith in
    let same : head_size mib (p + x % 8192) ≡ head_size mib p =
    head_same mib p (x % 8192) some start (omega arith) in
    let h : head_size mib x ≡ head_size mib p = ap (head_size mib) (sym back) ∙ same in
    let f : flat_before mib x ≡ flat_before mib p =
    ap (flat_before mib) (sym back)
    ∙ flat_head mib p (x % 8192) some start (omega (arith, lt, h)) in
    let g : flat_before mib (p + head_size mib p) ≡ flat_before mib p =
    flat_head mib p (head_size mib p) some start (omega arith) in
    let e : place mib (flat_before mib x) ≡ p + head_size mib p =
    ap (place mib) (f ∙ sym g)
    ∙ place_flat mib (p + head_size mib p) some (head_behind mib p some start) in
    record { head = h; number = f; start = omega (arith, e, h) }

-- behind the head of a place's page
pub behind_head : (mib x : ℕ) → 1 ≤ mib → x % 8192 < head_size mib x
    → IsBehindHead mib (page_of x + head_size mib x)
behind_head mib x some lt =
    let i = in_head mib x some lt in
    let e : page_of x + head_size mib (page_of x) ≡ page_of x + head_size mib x =
    ap (λ n. page_of x + n) (sym i.head) in
    subst (IsBehindHead mib) e (head_behind mib (page_of x) some (omega arith))

-- a head begun before a place behind a head ends before it
pub head_before : (mib x y : ℕ) → 1 ≤ mib → x % 8192 < head_size mib x → IsBehindHead mib y
    → x ≤ y → page_of x + head_size mib x ≤ y
head_before mib x y some lt behind le =
    let i = in_head mib x some lt in
    let d = page_passed mib y (page_of x) some behind (omega arith) (omega (arith, le)) in
    omega (arith, d, i.head)

pub flat_le : (mib x y : ℕ) → 1 ≤ mib → x ≤ y → flat_before mib x ≤ flat_before mib y
flat_le mib x y some le =
    elim (cases_lt (flat_before mib y) (flat_before mib x)) [
      | inr ge ↦ ge
      | inl lt ↦
          let b = place_rises mib (flat_before mib y) (flat_before mib x) some lt in
          let c = place_after mib y some in
          elim (cases_lt (x % 8192) (head_size mib x)) [
            | inr behind ↦ (let e = place_flat mib x some behind in
                absurd (omega (arith, e, b, c, le)))
            | inl within ↦
                let i = in_head mib x some within in
                let h = head_bounds mib x in
                let p : ℕ = page_of x in
                let back : p + (y - p) ≡ y = omega (arith, le) in
                let small : y - p ≤ head_size mib p =
                omega (arith, i.start, i.head, b, c, le) in
                let e : flat_before mib y ≡ flat_before mib p =
                ap (flat_before mib) (sym back)
                ∙ flat_head mib p (y - p) some (omega arith) small in
                absurd (omega (arith, e, i.number, lt))
          ]
    ]

-- an end that is a multiple of 8 has a start that is one
pub start_eight : (mib end : ℕ) → 1 ≤ mib → end % 8 ≡ 0 → place mib (flat_before mib end) % 8 ≡ 0
start_eight mib end some eight =
    elim (cases_lt (end % 8192) (head_size mib end)) [
      | inr behind ↦ (let e = place_flat mib end some behind in omega (arith, e, eight))
      | inl within ↦
          let i = in_head mib end some within in
          let h = head_eight mib end in
          omega (arith, i.start, h)
    ]

pub starts_aligned : (mib end : ℕ) → 1 ≤ mib → end % 8 ≡ 0 → IsStart mib end (start_after mib end)
unfolding start_after
starts_aligned mib end some eight = record {
  eight = start_eight mib end some eight;
  behind = place_behind mib (flat_before mib end) some;
  past = place_after mib end some;
}

pub ends_aligned : (mib end total : ℕ) → 1 ≤ mib → end % 8 ≡ 0 → 0 < total
    → end_of mib (start_after mib end) total % 8 ≡ 0
unfolding start_after stop_of
ends_aligned mib end total some eight least =
    let f : ℕ = flat_before mib end in
    let n : ℕ = flat_before mib (place mib f) in
    let same : n ≡ f = flat_place mib f some in
    let a = start_eight mib end some eight in
    let b = place_eight mib f some in
    let c = place_eight mib (n + aligned total - 1) some in
    omega (arith, same, a, b, c, least)

pub ends_numbered : (mib start total : ℕ) → 1 ≤ mib → 0 < total
    → flat_before mib (end_of mib start total) ≡ flat_before mib start + aligned total
unfolding stop_of
ends_numbered mib start total some least =
    let last : ℕ = flat_before mib start + aligned total - 1 in
    let on = flat_on mib (place mib last) 1 some (place_behind mib last some) (omega arith) in
    let same = flat_place mib last some in
    omega (arith, on, same, least)

-- an entry ends behind the place from which it is cut
pub end_past : (mib before total : ℕ) → 1 ≤ mib → 0 < total → before ≤ end_of mib before total
unfolding stop_of
end_past mib before total some least =
    let f : ℕ = flat_before mib before in
    let a = place_after mib before some in
    let b = place_le mib f (f + aligned total - 1) some (omega (arith, least)) in
    omega (arith, a, b)

-- a head begun before an entry's end ends before it, and before its page's end
pub head_until : (mib before total at until : ℕ) → 1 ≤ mib
    → until ≡ min (end_of mib before total) (at - at % 8192 + 8192) → at < end_of mib before total
    → at % 8192 < head_size mib at → page_of at + head_size mib at ≤ until
unfolding stop_of
head_until mib before total at until some is less lt =
    let last : ℕ = flat_before mib before + aligned total - 1 in
    let b = head_bounds mib at in
    let h = head_before mib at (place mib last) some lt (place_behind mib last some)
    (omega (arith, less)) in
    omega (arith, h, b.1, is)
