-- The head of a plan may be written.
use Rattle.std.proofs.Common.{◌≡◌, ℕ, ◌+◌, ◌-◌, ◌<◌, ◌≤◌, ◌&&◌, ◌||◌, Bool, true, false, cond, List, [], ◌∷◌, map, length, take, Option, Some, None, refl, sym, ap, subst, ◌∙◌, arith, inl, inr}
use Rattle.std.specs.Prelude.{nat_lt, nat_le, ◌==◌}
use Rattle.std.specs.List.{filter, All}
use Rattle.std.specs.List.Sorted.{IsStrictlyIncreasing}
use Rattle.std.proofs.lemmas.Bool.{cases_lt, cases_eq, eq-eqb, ne_eqb, lt-ltb, le-ltb, le-leb, leb-true, ltb-true, and_parts, and_from}
use Rattle.std.proofs.lemmas.List.{length-map, get_or-map, take_all}
use Rattle.std.proofs.lemmas.List.Kept.{IsStrictlyIncreasing-filter}
use Rattle.lsn_core.specs.Segment.{IsRelseg}
use Rattle.incr_file.specs.declared.plan.FilePlan.TheVariants.{Whole, Incr}
use Rattle.incr_file.specs.Head.{head_with}
use Rattle.incr_file.specs.Plan.{has_block, listed_in, truncation_length, is_sent_whole, planned_head, plan_at, IsPlannedHead, IsPlan}
use Rattle.incr_file.proofs.Rising.{is_within, both_pass, within_bounds, relative_rising, length_within}

-- the truncation length is one of the segment's
record IsRaised (relseg count raised : ℕ) : Type 0 where
  least : count ≤ raised
  most : raised ≤ relseg

raised : (relseg first count : ℕ) (limit : Option ℕ) → count ≤ relseg → IsRaised relseg count (truncation_length relseg first count limit)
raised relseg first count None fit = record { least = omega arith; most = fit }
raised relseg first count (Some limit) fit = record { least = omega arith; most = omega arith }

-- listed blocks are planned ones
pub listed_below : (first count : ℕ) (blocks : List ℕ) → All (λ b. b < count) (listed_in first count blocks)
listed_below first count blocks k d within =
    let kept = filter (is_within first count) blocks in
    let long = length-map kept (λ b. b - first) in
    let at = get_or-map (λ b. b - first) kept k 0 d (omega arith) in
    let bounds = within_bounds first count blocks k 0 (omega arith) in
    let low = bounds.0 in
    let high = bounds.1 in
    omega arith

pub listed_rising : (first count : ℕ) (blocks : List ℕ) → IsStrictlyIncreasing blocks → IsStrictlyIncreasing (listed_in first count blocks)
listed_rising first count blocks up =
    relative_rising first (filter (is_within first count) blocks) (IsStrictlyIncreasing-filter (is_within first count) blocks up) (λ k d lt. (within_bounds first count blocks k d lt).0)

pub planned_written : (relseg first count : ℕ) (limit : Option ℕ) (blocks : List ℕ) → IsRelseg relseg → count ≤ relseg → IsStrictlyIncreasing blocks → IsPlannedHead count (planned_head relseg first count limit blocks)
planned_written relseg first count limit blocks seg fit up =
    let length = raised relseg first count limit fit in
    let most = seg.most in
    record {
      written = record {
        length_fits = omega arith;
        blocks_fit = λ k d lt. omega (arith, listed_below first count blocks k d lt);
        rising = listed_rising first count blocks up;
      };
      kept = length.least;
      below = listed_below first count blocks;
    }

pub plan_written : (relseg first count : ℕ) (limit : Option ℕ) (blocks : List ℕ) (known : Bool) → IsRelseg relseg → count ≤ relseg → IsStrictlyIncreasing blocks → IsPlan count (plan_at relseg first count limit blocks known)
plan_written relseg first count limit blocks known seg fit up =
    elim (is_sent_whole first count limit (length (listed_in first count blocks)) known) as (λ s. IsPlan count (cond s Whole (Incr (planned_head relseg first count limit blocks)))) [
      | true ↦ tt
      | false ↦ planned_written relseg first count limit blocks seg fit up
    ]

-- the same of a head whose parts are told
pub told_written : (relseg first count : ℕ) (limit : Option ℕ) (blocks kept list : List ℕ) (truncation : ℕ) → IsRelseg relseg → count ≤ relseg → IsStrictlyIncreasing blocks → truncation ≡ truncation_length relseg first count limit → kept ≡ filter (is_within first count) blocks → list ≡ map (λ b. b - first) kept → IsPlannedHead count (head_with truncation list)
told_written relseg first count limit blocks kept list truncation seg fit up e f g =
    subst (λ (n : ℕ). IsPlannedHead count (head_with n list)) (sym e)
    (subst (λ (l : List ℕ). IsPlannedHead count (head_with (truncation_length relseg first count limit) l)) (sym (g ∙ ap (map (λ b. b - first)) f)) (planned_written relseg first count limit blocks seg fit up))

-- what is found of a segment's blocks, in two steps
pub record AreListed (first count : ℕ) (blocks found : List ℕ) : Type 0 where
  pub are : found ≡ filter (is_within first count) blocks
  pub rising : IsStrictlyIncreasing found
  pub behind : All (λ b. first ≤ b) found
  pub most : length found ≤ count

pub listed_found : (first count end : ℕ) (blocks back found : List ℕ) → IsStrictlyIncreasing blocks → end ≡ first + count → back ≡ filter (λ b. nat_le first b) blocks → found ≡ filter (λ b. nat_lt b end) back → AreListed first count blocks found
listed_found first count end blocks back found up e f g =
    let are : found ≡ filter (is_within first count) blocks =
    g ∙ ap (λ (n : ℕ). filter (λ b. nat_lt b n) back) e ∙ ap (filter (λ b. nat_lt b (first + count))) f ∙ both_pass (λ b. nat_le first b) (λ b. nat_lt b (first + count)) blocks in
    let rising : IsStrictlyIncreasing (filter (is_within first count) blocks) = IsStrictlyIncreasing-filter (is_within first count) blocks up in
    let behind : All (λ b. first ≤ b) (filter (is_within first count) blocks) = λ k d lt. (within_bounds first count blocks k d lt).0 in
    record {
      are = are;
      rising = subst IsStrictlyIncreasing (sym are) rising;
      behind = subst (λ (l : List ℕ). All (λ b. first ≤ b) l) (sym are) behind;
      most = subst (λ (l : List ℕ). length l ≤ count) (sym are) (length_within (filter (is_within first count) blocks) first count rising behind (λ k d lt. (within_bounds first count blocks k d lt).1));
    }

-- blocks that were counted from a first one, up to the last, rise
pub counted_rising : (items blocks : List ℕ) (first i : ℕ) → items ≡ map (λ b. b - first) (take i blocks) → length blocks ≤ i → IsStrictlyIncreasing blocks → All (λ b. first ≤ b) blocks → IsStrictlyIncreasing items
counted_rising items blocks first i e all up low =
    subst IsStrictlyIncreasing (sym (e ∙ ap (map (λ b. b - first)) (take_all i blocks all))) (relative_rising first blocks up low)

-- ---- which blocks a plan lists

-- a block that stands in the segment
one_within : (first count b i : ℕ) (others : Bool) → first ≤ b → b < first + count → (((b - first) == i) || (nat_lt i count && others)) ≡ (nat_lt i count && ((b == (first + i)) || others))
one_within first count b i others low high =
    elim (cases_eq b (first + i)) [
      | inl same ↦ rw (eq-eqb (b - first) i (omega arith), eq-eqb b (first + i) same, lt-ltb i count (omega arith)) refl
      | inr apart ↦ rw (ne_eqb (b - first) i (λ is. apart (omega arith)), ne_eqb b (first + i) apart) refl
    ]

-- and one that doesn't
one_outside : (first count b i : ℕ) (others : Bool) → is_within first count b ≡ false → (nat_lt i count && others) ≡ (nat_lt i count && ((b == (first + i)) || others))
one_outside first count b i others out =
    elim (cases_lt i count) [
      | inl lt ↦ rw (ne_eqb b (first + i) (λ same. let into = and_from (nat_le first b) (nat_lt b (first + count)) (le-leb first b (omega arith)) (lt-ltb b (first + count) (omega arith)) in cc)) refl
      | inr ge ↦ rw (le-ltb i count ge) refl
    ]

pub listed_exactly : (first count : ℕ) (blocks : List ℕ) (i : ℕ) → has_block (listed_in first count blocks) i ≡ (nat_lt i count && has_block blocks (first + i))
listed_exactly first count [] i = elim (nat_lt i count) as (λ s. false ≡ (s && false)) [ true ↦ refl | false ↦ refl ]
listed_exactly first count (b ∷ blocks) i =
    let rest = listed_exactly first count blocks i in
    elim (is_within first count b) as (λ s. is_within first count b ≡ s
    → has_block (map (λ x. x - first) (cond s (b ∷ filter (is_within first count) blocks) (filter (is_within first count) blocks))) i
    ≡ (nat_lt i count && ((b == (first + i)) || has_block blocks (first + i)))) [
      | true ↦ λ k. let p = and_parts _ _ k in ap (λ r. ((b - first) == i) || r) rest ∙ one_within first count b i (has_block blocks (first + i)) (leb-true first b p.0) (ltb-true b (first + count) p.1)
      | false ↦ λ k. rest ∙ one_outside first count b i (has_block blocks (first + i)) k
    ] refl
