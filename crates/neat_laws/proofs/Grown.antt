-- The pages of files that follow one another, each full before the next.
use Rattle.std.proofs.Common.{◌≡◌, ℕ, zero, suc, ◌+◌, ◌-◌, ◌*◌, ◌/◌, ◌%◌, ◌<◌, ◌≤◌, inl, inr, min, List, [], ◌∷◌, ◌++◌, length, take, drop, Option, Some, None, unwrap_or, refl, sym, ap, subst, ◌∙◌, arith, append-nil, length-take, length-drop, length-append}
use Rattle.std.proofs.lemmas.Bool.{cases_lt}
use Rattle.std.proofs.lemmas.List.{take-append-drop, take_at, take_all, drop_all}
use Rattle.std.proofs.lemmas.Nat.{div-mul-add, div-add-mod'}
use Rattle.std.proofs.Math.Nat.{mod-lt}
use Rattle.std.proofs.Math.Seq.{drop-append-add}
use Rattle.lsn_core.specs.Store.{ForkPages}
use Rattle.rel_files.proofs.Pages.{HeldBy, flat, bytes_filled}
use Rattle.rel_files.proofs.Segments.{below, in_segment, held_in}

-- ---- the pages of one file

abbrev pages_in : ℕ → ℕ → List ℕ → ForkPages
pages_in size zero bytes = []
pages_in size (suc n) bytes = take size bytes ∷ pages_in size n (drop size bytes)

count_in : (size n : ℕ) (bytes : List ℕ) → length (pages_in size n bytes) ≡ n
count_in size zero bytes = refl
count_in size (suc n) bytes = ap suc (count_in size n (drop size bytes))

whole_in : (size n : ℕ) (bytes : List ℕ) → length bytes ≡ n * size → HeldBy size n (pages_in size n bytes)
whole_in size zero bytes e = tt
whole_in size (suc n) bytes e =
    let front = length-take size bytes in
    let rest = length-drop size bytes in
    (omega (arith, front, e), whole_in size n (drop size bytes) (omega (arith, rest, e)))

none_of : (bytes : List ℕ) → length bytes ≡ 0 → [] ≡ bytes
none_of [] e = refl
none_of (x ∷ bytes) e = absurd (omega (arith, e))

flat_in : (size n : ℕ) (bytes : List ℕ) → length bytes ≡ n * size → flat (pages_in size n bytes) ≡ bytes
flat_in size zero bytes e = none_of bytes (omega (arith, e))
flat_in size (suc n) bytes e =
    let rest = length-drop size bytes in
    ap (λ (l : List ℕ). take size bytes ++ l) (flat_in size n (drop size bytes) (omega (arith, rest, e))) ∙ take-append-drop size bytes

held_append : (size b w n : ℕ) (front more : ForkPages) → n ≡ b + w → HeldBy size b front → length front ≡ b → HeldBy size w more → HeldBy size n (front ++ more)
held_append size zero w n [] more is h e k = let same : w ≡ n = omega (arith, is) in subst (λ (m : ℕ). HeldBy size m more) same k
held_append size zero w n (p ∷ front) more is h e k = absurd (omega (arith, e))
held_append size (suc b) w n [] more is h e k = absurd h
held_append size (suc b) w zero (p ∷ front) more is h e k = absurd (omega (arith, is))
held_append size (suc b) w (suc n) (p ∷ front) more is h e k = (h.0, held_append size b w n front more (omega (arith, is)) h.1 (omega (arith, e)) k)

-- ---- the pages of many

abbrev pub bytes_in : Option (List ℕ) → List ℕ
bytes_in o = unwrap_or o []

abbrev grow_on : ℕ → Option (List ℕ) → ForkPages → ForkPages
grow_on size None more = []
grow_on size (Some bytes) more = pages_in size (length bytes / size) bytes ++ more

-- the pages of so many files, up to one that is missing
abbrev pub grow : ℕ → (ℕ → Option (List ℕ)) → ℕ → ForkPages
grow size files zero = []
grow size files (suc n) = grow_on size (files 0) (grow size (λ k. files (suc k)) n)

-- each file has whole blocks, at most so many; each but the first has some, and stands behind a full
-- one
pub record AreInTurn (size relseg n : ℕ) (files : ℕ → Option (List ℕ)) : Type 0 where
  pub part : (k : ℕ) (bytes : List ℕ) → k < n → files k ≡ Some bytes → (b : ℕ) × ((length bytes ≡ b * size) × (b ≤ relseg))
  pub later : (k : ℕ) (bytes : List ℕ) → suc k < n → files (suc k) ≡ Some bytes → (0 < length bytes) × (relseg * size ≤ length (bytes_in (files k)))

-- so their pages are whole, and each file has those of its segment
pub record Grown (size relseg n : ℕ) (files : ℕ → Option (List ℕ)) (pages : ForkPages) : Type 0 where
  pub held : HeldBy size (length pages) pages
  pub content : (k : ℕ) → k < n → flat (in_segment relseg k pages) ≡ bytes_in (files k)

module _ (size relseg : ℕ) (one : 0 < size) (some : 0 < relseg) where
  room : 0 < relseg * size
  room = let h = below 0 relseg size some in omega (arith, h, one)

  -- behind a file that isn't full none is there
  next_none : (n : ℕ) (files : ℕ → Option (List ℕ)) (k : ℕ) → AreInTurn size relseg n files → suc k < n → length (bytes_in (files k)) < relseg * size → (o : Option (List ℕ)) → files (suc k) ≡ o → files (suc k) ≡ None
  next_none n files k neat less short None e = e
  next_none n files k neat less short (Some bytes) e = let full = (neat.later k bytes less e).1 in absurd (omega (arith, full, short))

  pub none_on : (n : ℕ) (files : ℕ → Option (List ℕ)) → AreInTurn size relseg n files → files 0 ≡ None → (k : ℕ) → k < n → files k ≡ None
  none_on n files neat none zero less = none
  none_on n files neat none (suc k) less =
      let before = none_on n files neat none k (omega (arith, less)) in
      let empty : length (bytes_in (files k)) ≡ 0 = ap (λ (o : Option (List ℕ)). length (bytes_in o)) before in
      next_none n files k neat less (omega (arith, empty, room)) (files (suc k)) refl

  rest_of : (n : ℕ) (files : ℕ → Option (List ℕ)) → AreInTurn size relseg (suc n) files → AreInTurn size relseg n (λ k. files (suc k))
  rest_of n files neat = record {
    part = λ k bytes less e. neat.part (suc k) bytes (omega (arith, less)) e;
    later = λ k bytes less e. neat.later (suc k) bytes (omega (arith, less)) e;
  }

  no_pages : (n : ℕ) (files : ℕ → Option (List ℕ)) → (0 < n → files 0 ≡ None) → grow size files n ≡ []
  no_pages zero files none = refl
  no_pages (suc n) files none = ap (λ (o : Option (List ℕ)). grow_on size o (grow size (λ k. files (suc k)) n)) (none (omega arith))

  nothing : (k : ℕ) → flat (in_segment relseg k []) ≡ []
  nothing k = ap (λ (l : ForkPages). flat (take relseg l)) (drop_all (k * relseg) [] (omega arith)) ∙ ap flat (take_all relseg [] (omega arith))

  empty_grown : (n : ℕ) (files : ℕ → Option (List ℕ)) → ((k : ℕ) → k < n → files k ≡ None) → Grown size relseg n files []
  empty_grown n files none = record {
    held = tt;
    content = λ k less. nothing k ∙ sym (ap bytes_in (none k less));
  }

  -- a file that is full, and the pages of those behind it
  full_grown : (n b : ℕ) (files : ℕ → Option (List ℕ)) (bytes : List ℕ) (more : ForkPages) → files 0 ≡ Some bytes → length bytes ≡ b * size → b ≡ relseg → Grown size relseg n (λ k. files (suc k)) more
      → Grown size relseg (suc n) files (pages_in size b bytes ++ more)
  full_grown n b files bytes more e size_is full grown =
      let front = pages_in size b bytes in
      let count = count_in size b bytes in
      let all : length (front ++ more) ≡ b + length more = length-append front more ∙ ap (λ (m : ℕ). m + length more) count in
      record {
        held = held_append size b (length more) (length (front ++ more)) front more all (whole_in size b bytes size_is) count grown.held;
        content = at;
      }
    where
      at : (k : ℕ) → k < suc n → flat (in_segment relseg k (pages_in size b bytes ++ more)) ≡ bytes_in (files k)
      at zero less =
          let front = pages_in size b bytes in
          let start : 0 * relseg ≡ 0 = omega arith in
          ap (λ (m : ℕ). flat (take relseg (drop m (front ++ more)))) start
          ∙ ap flat (take_at front more relseg (count_in size b bytes ∙ full))
          ∙ flat_in size b bytes size_is ∙ sym (ap bytes_in e)
      at (suc k) less =
          let front = pages_in size b bytes in
          let count = count_in size b bytes in
          let place : suc k * relseg ≡ length front + k * relseg = omega (arith, count, full) in
          ap (λ (m : ℕ). flat (take relseg (drop m (front ++ more)))) place
          ∙ ap (λ (l : ForkPages). flat (take relseg l)) (drop-append-add front more (k * relseg))
          ∙ grown.content k (omega (arith, less))

  -- the last file
  last_grown : (n b : ℕ) (files : ℕ → Option (List ℕ)) (bytes : List ℕ) → files 0 ≡ Some bytes → length bytes ≡ b * size → b ≤ relseg → ((k : ℕ) → suc k < suc n → files (suc k) ≡ None) → Grown size relseg (suc n) files (pages_in size b bytes)
  last_grown n b files bytes e size_is few none = record {
    held = subst (λ (m : ℕ). HeldBy size m (pages_in size b bytes)) (sym (count_in size b bytes)) (whole_in size b bytes size_is);
    content = at;
  }
    where
      at : (k : ℕ) → k < suc n → flat (in_segment relseg k (pages_in size b bytes)) ≡ bytes_in (files k)
      at zero less =
          let front = pages_in size b bytes in
          let count = count_in size b bytes in
          let start : 0 * relseg ≡ 0 = omega arith in
          ap (λ (m : ℕ). flat (take relseg (drop m front))) start
          ∙ ap flat (take_all relseg front (omega (arith, count, few)))
          ∙ flat_in size b bytes size_is ∙ sym (ap bytes_in e)
      at (suc k) less =
          let front = pages_in size b bytes in
          let count = count_in size b bytes in
          let past : length front ≤ suc k * relseg = omega (arith, count, few) in
          ap (λ (l : ForkPages). flat (take relseg l)) (drop_all (suc k * relseg) front past)
          ∙ ap flat (take_all relseg [] (omega arith))
          ∙ sym (ap bytes_in (none k less))

  -- the first file, and the pages of those behind it
  first_grown : (n b : ℕ) (files : ℕ → Option (List ℕ)) (bytes : List ℕ) → AreInTurn size relseg (suc n) files → files 0 ≡ Some bytes → length bytes ≡ b * size → b ≤ relseg → Grown size relseg n (λ k. files (suc k)) (grow size (λ k. files (suc k)) n)
      → Grown size relseg (suc n) files (pages_in size b bytes ++ grow size (λ k. files (suc k)) n)
  first_grown n b files bytes neat e size_is few more =
      elim (cases_lt b relseg) [
        | inl less ↦
            let over = below b relseg size less in
            let long : length (bytes_in (files 0)) ≡ b * size = ap (λ (o : Option (List ℕ)). length (bytes_in o)) e ∙ size_is in
            let none : 0 < n → files 1 ≡ None = λ h. next_none (suc n) files 0 neat (omega (arith, h)) (omega (arith, long, over, one)) (files 1) refl in
            let all : (k : ℕ) → suc k < suc n → files (suc k) ≡ None = λ k h. none_on n (λ j. files (suc j)) (rest_of n files neat) (none (omega (arith, h))) k (omega (arith, h)) in
            let nil : pages_in size b bytes ++ grow size (λ k. files (suc k)) n ≡ pages_in size b bytes =
            ap (λ (l : ForkPages). pages_in size b bytes ++ l) (no_pages n (λ k. files (suc k)) none) ∙ append-nil (pages_in size b bytes) in
            subst (Grown size relseg (suc n) files) (sym nil) (last_grown n b files bytes e size_is few all)
        | inr le ↦ full_grown n b files bytes (grow size (λ k. files (suc k)) n) e size_is (omega (arith, le, few)) more
      ]

  on_grown : (n : ℕ) (files : ℕ → Option (List ℕ)) → AreInTurn size relseg (suc n) files → Grown size relseg n (λ k. files (suc k)) (grow size (λ k. files (suc k)) n) → (o : Option (List ℕ)) → files 0 ≡ o
      → Grown size relseg (suc n) files (grow_on size (files 0) (grow size (λ k. files (suc k)) n))
  on_grown n files neat more None e =
      subst (λ (o : Option (List ℕ)). Grown size relseg (suc n) files (grow_on size o (grow size (λ k. files (suc k)) n))) (sym e) (empty_grown (suc n) files (none_on (suc n) files neat e))
  on_grown n files neat more (Some bytes) e =
      let p = neat.part 0 bytes (omega arith) e in
      let sum : length bytes ≡ p.0 * size + 0 = omega (arith, p.1.0) in
      let blocks : length bytes / size ≡ p.0 = ap (λ (x : ℕ). x / size) sum ∙ div-mul-add p.0 size 0 one in
      subst (λ (o : Option (List ℕ)). Grown size relseg (suc n) files (grow_on size o (grow size (λ k. files (suc k)) n))) (sym e)
      (subst (λ (m : ℕ). Grown size relseg (suc n) files (pages_in size m bytes ++ grow size (λ k. files (suc k)) n)) (sym blocks) (first_grown n p.0 files bytes neat e p.1.0 p.1.1 more))

  pub grown : (n : ℕ) (files : ℕ → Option (List ℕ)) → AreInTurn size relseg n files → Grown size relseg n files (grow size files n)
  grown zero files neat = empty_grown 0 files (λ k less. absurd (omega (arith, less)))
  grown (suc n) files neat = on_grown n files neat (grown n (λ k. files (suc k)) (rest_of n files neat)) (files 0) refl

-- ---- how many there are

module _ (relseg n : ℕ) (files : ℕ → Option (List ℕ)) (pages : ForkPages) (some : 0 < relseg) (grown : Grown 8192 relseg n files pages) where
  -- a file has the pages of its segment, as many as there are
  pub fills : (k : ℕ) → k < n → k * relseg ≤ length pages → min relseg (length pages - k * relseg) * 8192 ≤ length (bytes_in (files k))
  fills k less within =
      let here = held_in 8192 relseg k (length pages) pages grown.held within in
      let filled = bytes_filled 8192 here.count (in_segment relseg k pages) (omega arith) here.held in
      let size = ap length (grown.content k less) in
      omega (arith, here.counted, filled.least, size)

  -- and none where the pages end before it
  pub empty : (k : ℕ) → k < n → length pages ≤ k * relseg → length (bytes_in (files k)) ≡ 0
  empty k less past =
      sym (ap length (grown.content k less))
      ∙ ap (λ (l : ForkPages). length (flat (take relseg l))) (drop_all (k * relseg) pages past)
      ∙ ap (λ (l : ForkPages). length (flat l)) (take_all relseg [] (omega arith))

  -- where a file ends within a segment, all pages do
  pub ends : (limit : ℕ) → limit / relseg < n → length (bytes_in (files (limit / relseg))) ≤ limit % relseg * 8192 → length pages ≤ limit
  ends limit less lacks =
      elim (cases_lt limit (length pages)) [
        | inl past ↦
            let parts = div-add-mod' limit relseg in
            let small = mod-lt limit some in
            let full = fills (limit / relseg) less (omega (arith, parts, past)) in
            absurd (omega (arith, parts, small, past, full, lacks))
        | inr le ↦ le
      ]
