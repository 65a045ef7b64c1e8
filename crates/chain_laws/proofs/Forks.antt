-- Where the blocks of a fork stand in its segment files.
use Rattle.std.proofs.Common.{◌≡◌, ℕ, zero, suc, ◌+◌, ◌-◌, ◌*◌, ◌<◌, ◌≤◌, min, inl, inr, true, false, cond, List, [], ◌∷◌, ◌++◌, length, take, Option, Some, None, refl, sym, ap, ◌∙◌, arith}
use Rattle.std.specs.Prelude.{slice_get}
use Rattle.std.specs.List.{flat_map, range_with_len}
use Rattle.std.proofs.Math.Nat.{mul-le-mul_right}
use Rattle.std.proofs.lemmas.Bool.{true≢false, cases_lt, cases_order}
use Rattle.std.proofs.lemmas.Option.{slice_get_within}
use Rattle.std.proofs.lemmas.List.{length-append, length-take}
use Rattle.lsn_core.specs.Store.{ForkPages}
use Rattle.chain_files.specs.Held.{most_pages, pages_taken, is_full, pages_up_to, IsForkOf}
use Rattle.backup_restore.proofs.Directories.{long_taken, up_to_longer, up_to_more, full_long, all_full}

-- ---- places in lists

front : {X : Type 0} (xs ys : List X) (i : ℕ) → i < length xs → slice_get (xs ++ ys) i ≡ slice_get xs i
front [] ys i h = absurd (omega (arith, h))
front (x ∷ xs) ys zero h = refl
front (x ∷ xs) ys (suc i) h = front xs ys i (omega (arith, h))

behind : {X : Type 0} (xs ys : List X) (n i : ℕ) → length xs ≡ n → slice_get (xs ++ ys) (n + i) ≡ slice_get ys i
behind [] ys zero i e = ap (slice_get ys) (let z : 0 + i ≡ i = omega arith in z)
behind [] ys (suc n) i e = absurd (omega (arith, e))
behind (x ∷ xs) ys zero i e = absurd (omega (arith, e))
behind (x ∷ xs) ys (suc n) i e = ap (slice_get (x ∷ (xs ++ ys))) (let z : suc n + i ≡ suc (n + i) = omega arith in z) ∙ behind xs ys n i (omega (arith, e))

taken_front : {X : Type 0} (n : ℕ) (xs : List X) (i : ℕ) → i < n → slice_get (take n xs) i ≡ slice_get xs i
taken_front zero xs i h = absurd (omega (arith, h))
taken_front (suc n) [] i h = refl
taken_front (suc n) (x ∷ xs) zero h = refl
taken_front (suc n) (x ∷ xs) (suc i) h = taken_front n xs i (omega (arith, h))

taken_found : {X : Type 0} (n : ℕ) (xs : List X) (i : ℕ) (x : X) → slice_get (take n xs) i ≡ Some x → slice_get xs i ≡ Some x
taken_found zero xs i x e = absurd cc
taken_found (suc n) [] i x e = e
taken_found (suc n) (y ∷ xs) zero x e = e
taken_found (suc n) (y ∷ xs) (suc i) x e = taken_found n xs i x e

-- ---- the pages of files

-- a file has a page at a place
pub record IsFoundAt (o : Option ForkPages) (i : ℕ) (page : List ℕ) : Type 0 where
  pub pages : ForkPages
  pub is : o ≡ Some pages
  pub at : slice_get pages i ≡ Some page

module _ (relseg : ℕ) (segments : ℕ → Option ForkPages) where
  abbrev taken : ℕ → ForkPages
  taken seg = pages_taken relseg (segments seg)

  abbrev from_on : ℕ → ℕ → ForkPages
  from_on seg count = flat_map (λ s. pages_taken relseg (segments s)) (range_with_len seg count)

  up_to_few : (count : ℕ) → length (pages_up_to relseg segments count) ≤ count * relseg
  up_to_few zero = omega arith
  up_to_few (suc count) =
      let next : pages_up_to relseg segments (suc count) ≡ pages_up_to relseg segments count ++ taken count = ap (pages_up_to relseg segments) (let z : suc count ≡ count + 1 = omega arith in z) ∙ up_to_more relseg segments count in
      let long : length (pages_up_to relseg segments (suc count)) ≡ length (pages_up_to relseg segments count) + length (taken count) = ap length next ∙ length-append (pages_up_to relseg segments count) (taken count) in
      omega (arith, long, up_to_few count, long_taken relseg (segments count))

  abbrev pub AreFullBelow : ℕ → Type 0
  AreFullBelow count = (seg : ℕ) → seg < count → is_full relseg (segments seg) ≡ true

  -- behind full files stands what the next ones have
  up_to_at : (seg more i : ℕ) → AreFullBelow seg → slice_get (pages_up_to relseg segments (seg + suc more)) (seg * relseg + i) ≡ slice_get (taken seg ++ from_on (seg + 1) more) i
  up_to_at seg more i full =
      ap (λ (l : ForkPages). slice_get l (seg * relseg + i)) (up_to_longer relseg segments seg (suc more))
      ∙ behind (pages_up_to relseg segments seg) (taken seg ++ from_on (seg + 1) more) (seg * relseg) i (all_full relseg segments seg full)

  -- ---- a block by its file

  taken_is : (o : Option ForkPages) (i : ℕ) (page : List ℕ) → slice_get (pages_taken relseg o) i ≡ Some page → IsFoundAt o i page
  taken_is None i page e = absurd cc
  taken_is (Some pages) i page e = record { pages = pages; is = refl; at = taken_found relseg pages i page e }

  module _ (pages : ForkPages) (fork : IsForkOf relseg segments pages) where
    -- a block of a file behind full ones
    pub at_segment : (seg i : ℕ) (own : ForkPages) (page : List ℕ) → i < relseg → seg * relseg + i < most_pages → AreFullBelow seg → segments seg ≡ Some own → slice_get own i ≡ Some page → slice_get pages (seg * relseg + i) ≡ Some page
    at_segment seg i own page within few full is at = elim (cases_lt fork.full seg) [
      | inl past ↦ elim fork.stops [
        | inl short ↦ absurd (true≢false (sym (full fork.full past) ∙ short))
        | inr enough ↦ absurd (let most : (fork.full + 1) * relseg ≤ seg * relseg = mul-le-mul_right relseg (let le : fork.full + 1 ≤ seg = omega (arith, past) in le) in omega (arith, enough, few, most, up_to_few (fork.full + 1)))
      ]
      | inr there ↦
          let more : ℕ = fork.full - seg in
          let all : fork.full + 1 ≡ seg + suc more = omega (arith, there) in
          let long : length (take relseg own) ≡ min relseg (length own) = length-take relseg own in
          let room : i < length own = slice_get_within own i page at in
          ap (λ (l : ForkPages). slice_get l (seg * relseg + i)) fork.are
          ∙ taken_front most_pages (pages_up_to relseg segments (fork.full + 1)) (seg * relseg + i) few
          ∙ ap (λ (n : ℕ). slice_get (pages_up_to relseg segments n) (seg * relseg + i)) all
          ∙ up_to_at seg more i full
          ∙ ap (λ (o : Option ForkPages). slice_get (pages_taken relseg o ++ from_on (seg + 1) more) i) is
          ∙ front (take relseg own) (from_on (seg + 1) more) i (omega (arith, long, room, within))
          ∙ taken_front relseg own i within ∙ at
    ]

    -- a block that is there stands in its file
    pub of_segment : (seg i : ℕ) (page : List ℕ) → i < relseg → slice_get pages (seg * relseg + i) ≡ Some page → IsFoundAt (segments seg) i page
    of_segment seg i page within at =
        let all : slice_get (pages_up_to relseg segments (fork.full + 1)) (seg * relseg + i) ≡ Some page = taken_found most_pages (pages_up_to relseg segments (fork.full + 1)) (seg * relseg + i) page (sym (ap (λ (l : ForkPages). slice_get l (seg * relseg + i)) fork.are) ∙ at) in
        let room : seg * relseg + i < length (pages_up_to relseg segments (fork.full + 1)) = slice_get_within (pages_up_to relseg segments (fork.full + 1)) (seg * relseg + i) page all in
        elim (cases_order seg fork.full) [
          | inl same ↦ taken_is (segments seg) i page (
              sym (behind (pages_up_to relseg segments seg) (taken seg) (seg * relseg) i (all_full relseg segments seg (λ s less. fork.before s (omega (arith, less, same)))))
              ∙ sym (ap (λ (l : ForkPages). slice_get l (seg * relseg + i)) (up_to_more relseg segments seg))
              ∙ ap (λ (n : ℕ). slice_get (pages_up_to relseg segments (n + 1)) (seg * relseg + i)) same ∙ all)
          | inr (inl less) ↦
              let more : ℕ = fork.full - seg in
              let sum : seg + suc more ≡ fork.full + 1 = omega (arith, less) in
              let here : slice_get (taken seg ++ from_on (seg + 1) more) i ≡ Some page = sym (up_to_at seg more i (λ s lt. fork.before s (omega (arith, lt, less)))) ∙ ap (λ (n : ℕ). slice_get (pages_up_to relseg segments n) (seg * relseg + i)) sum ∙ all in
              taken_is (segments seg) i page (sym (front (taken seg) (from_on (seg + 1) more) i (omega (arith, within, full_long relseg segments (segments seg) (fork.before seg less)))) ∙ here)
          | inr (inr past) ↦ absurd (let most : (fork.full + 1) * relseg ≤ seg * relseg = mul-le-mul_right relseg (let le : fork.full + 1 ≤ seg = omega (arith, past) in le) in omega (arith, room, most, up_to_few (fork.full + 1)))
        ]

    -- a fork has no more pages than are read
    pub no_more : length pages ≤ most_pages
    no_more = let long : length pages ≡ min most_pages (length (pages_up_to relseg segments (fork.full + 1))) = ap length fork.are ∙ length-take most_pages (pages_up_to relseg segments (fork.full + 1)) in omega (arith, long)

-- ---- a fork of given files

-- the first file from one on that isn't full, of so many
abbrev pub first_short : ℕ → (ℕ → Option ForkPages) → ℕ → ℕ → ℕ
first_short relseg segments seg zero = seg
first_short relseg segments seg (suc more) = cond (is_full relseg (segments seg)) (first_short relseg segments (seg + 1) more) seg

record IsFirstShort (relseg : ℕ) (segments : ℕ → Option ForkPages) (seg found : ℕ) : Type 0 where
  before : (s : ℕ) → seg ≤ s → s < found → is_full relseg (segments s) ≡ true
  short : is_full relseg (segments found) ≡ false

first_is : (relseg : ℕ) (segments : ℕ → Option ForkPages) (seg more : ℕ) → is_full relseg (segments (seg + more)) ≡ false → IsFirstShort relseg segments seg (first_short relseg segments seg more)
first_is relseg segments seg zero e = record {
  before = λ s le less. absurd (omega (arith, le, less));
  short = ap (λ (n : ℕ). is_full relseg (segments n)) (let z : seg ≡ seg + zero = omega arith in z) ∙ e;
}
first_is relseg segments seg (suc more) e =
    elim (is_full relseg (segments seg)) as (λ b. is_full relseg (segments seg) ≡ b → IsFirstShort relseg segments seg (cond b (first_short relseg segments (seg + 1) more) seg)) [
      | true ↦ λ k.
          let rest = first_is relseg segments (seg + 1) more (ap (λ (n : ℕ). is_full relseg (segments n)) (let z : (seg + 1) + more ≡ seg + suc more = omega arith in z) ∙ e) in
          record {
            before = λ s le less. elim (cases_lt seg s) [
              | inl past ↦ rest.before s (omega (arith, past)) less
              | inr low ↦ ap (λ (n : ℕ). is_full relseg (segments n)) (let z : s ≡ seg = omega (arith, le, low) in z) ∙ k
            ];
            short = rest.short;
          }
      | false ↦ λ k. record { before = λ s le less. absurd (omega (arith, le, less)); short = k }
    ] refl

-- the pages of a fork of these files, of which the one behind so many isn't full
abbrev pub fork_pages : ℕ → (ℕ → Option ForkPages) → ℕ → ForkPages
fork_pages relseg segments count = take most_pages (pages_up_to relseg segments (first_short relseg segments 0 count + 1))

pub fork_made : (relseg : ℕ) (segments : ℕ → Option ForkPages) (count : ℕ) → is_full relseg (segments count) ≡ false → IsForkOf relseg segments (fork_pages relseg segments count)
fork_made relseg segments count e =
    let first = first_is relseg segments 0 count (ap (λ (n : ℕ). is_full relseg (segments n)) (let z : 0 + count ≡ count = omega arith in z) ∙ e) in
    record {
      full = first_short relseg segments 0 count;
      before = λ s less. first.before s (omega arith) less;
      stops = inl first.short;
      are = refl;
    }
