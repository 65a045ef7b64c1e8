-- Runs of rising numbers are apart, and have these numbers.
use Rattle.std.proofs.Common.{◌≡◌, ℕ, ◌+◌, ◌<◌, ◌≤◌, ◌==◌, ◌&&◌, ◌||◌, Bool, true, false, List, [], ◌∷◌, nat_le, refl, sym, ap, subst, ◌∙◌, arith, if◌then◌else◌}
use Rattle.std.specs.List.{list_any, AllByRecursion}
use Rattle.std.specs.List.Sorted.{IsStrictlySortedBy}
use Rattle.std.specs.Ordering.{nat_cmp}
use Rattle.std.specs.declared.cmp.Ordering.TheVariants.{Less}
use Rattle.std.proofs.lemmas.Cmp.{ranked}
use Rattle.std.proofs.lemmas.Bool.{eqb-true, eqb-false}
use Rattle.std.proofs.lemmas.Bool.Decides.{leb_tells, eqb_tells}
use Rattle.std.proofs.lemmas.Map.Keys.{sorted_tail, sorted_head}
use Rattle.history.proofs.Stores.{by_test}
use Rattle.summary_text.specs.declared.runs.BlockRun.{BlockRun}
use Rattle.summary_text.specs.Runs.{single, begun_by, runs_of, has_number, AreApart}
use Rattle.summary_text.specs.Laws.{RunsHaveTheBlocks, RunsAreApart}

-- numbers at a place or past it, that rise
abbrev Rises : ℕ → List ℕ → Type 0
Rises low [] = Unit
Rises low (n ∷ ns) = (low ≤ n) × Rises (n + 1) ns

all_past : (n : ℕ) (ns : List ℕ) → AllByRecursion (λ y. nat_cmp n y ≡ Less) ns → AllByRecursion (λ y. n + 1 ≤ y) ns
all_past n [] below = tt
all_past n (y ∷ ys) below = (let h = ranked n y Less (sym below.0) in omega (arith, h), all_past n ys below.1)

rises_past : (low : ℕ) (ns : List ℕ) → AllByRecursion (λ y. low ≤ y) ns → IsStrictlySortedBy nat_cmp ns → Rises low ns
rises_past low [] above sorted = tt
rises_past low (n ∷ ns) above sorted =
    (above.0, rises_past (n + 1) ns (all_past n ns (sorted_head nat_cmp n ns sorted)) (sorted_tail nat_cmp n ns sorted))

all_from : (ns : List ℕ) → AllByRecursion (λ y. 0 ≤ y) ns
all_from [] = tt
all_from (n ∷ ns) = (omega arith, all_from ns)

rises : (ns : List ℕ) → IsStrictlySortedBy nat_cmp ns → Rises 0 ns
rises ns sorted = rises_past 0 ns (all_from ns) sorted

-- ---- one number before runs

abbrev begun_when : Bool → ℕ → BlockRun → List BlockRun → List BlockRun
begun_when t n run runs = if t then record { first = n; last = run.last } ∷ runs else single n ∷ (run ∷ runs)

begun_apart : (low n : ℕ) (runs : List BlockRun) → low ≤ n → AreApart (n + 1) runs → AreApart low (begun_by n runs)
begun_apart low n [] later apart = (later, omega arith, tt)
begun_apart low n (run ∷ runs) later apart =
    let first = apart.0 in
    let last = apart.1 in
    by_test (n + 1 == run.first)
    (λ is. subst (λ (t : Bool). AreApart low (begun_when t n run runs)) (sym is) (later, omega (arith, first, last), apart.2))
    (λ is. subst (λ (t : Bool). AreApart low (begun_when t n run runs)) (sym is) (later, omega arith, (let other = eqb-false (n + 1) run.first is in omega (arith, first, other), last, apart.2)))

apart_from : (low : ℕ) (ns : List ℕ) → Rises low ns → AreApart low (runs_of ns)
apart_from low [] up = tt
apart_from low (n ∷ ns) up = begun_apart low n (runs_of ns) up.0 (apart_from (n + 1) ns up.1)

-- a run has its own first number, or is the run from the next one on
first_or : (n q last : ℕ) → n ≤ last → (nat_le n q && nat_le q last) ≡ ((q == n) || (nat_le (n + 1) q && nat_le q last))
first_or n q last some = grind (arith, leb_tells n q, leb_tells q last, leb_tells (n + 1) q, eqb_tells q n, some)

first_alone : (n q : ℕ) → (nat_le n q && nat_le q n) ≡ (q == n)
first_alone n q = grind (arith, leb_tells n q, leb_tells q n, eqb_tells q n)

or_more : (a b c : Bool) → ((a || b) || c) ≡ (a || (b || c))
or_more true b c = refl
or_more false b c = refl

begun_has : (q n : ℕ) (runs : List BlockRun) → AreApart (n + 1) runs → list_any (has_number q) (begun_by n runs) ≡ ((q == n) || list_any (has_number q) runs)
begun_has q n [] apart = ap (λ (t : Bool). t || false) (first_alone n q)
begun_has q n (run ∷ runs) apart =
    let rest = list_any (has_number q) runs in
    by_test (n + 1 == run.first)
    (λ is. ap (λ (t : Bool). list_any (has_number q) (begun_when t n run runs)) is
    ∙ (ap (λ (t : Bool). t || rest) (first_or n q run.last (let first = apart.0 in let last = apart.1 in omega (arith, first, last)))
    ∙ (or_more (q == n) (nat_le (n + 1) q && nat_le q run.last) rest
    ∙ ap (λ (f : ℕ). (q == n) || ((nat_le f q && nat_le q run.last) || rest)) (eqb-true (n + 1) run.first is))))
    (λ is. ap (λ (t : Bool). list_any (has_number q) (begun_when t n run runs)) is ∙ ap (λ (t : Bool). t || (has_number q run || rest)) (first_alone n q))

has_same : (low q : ℕ) (ns : List ℕ) → Rises low ns → list_any (has_number q) (runs_of ns) ≡ list_any (λ b. q == b) ns
has_same low q [] up = refl
has_same low q (n ∷ ns) up =
    begun_has q n (runs_of ns) (apart_from (n + 1) ns up.1) ∙ ap (λ (t : Bool). (q == n) || t) (has_same (n + 1) q ns up.1)

pub runs_are_apart : RunsAreApart
runs_are_apart blocks sorted = apart_from 0 blocks (rises blocks sorted)

pub runs_have_the_blocks : RunsHaveTheBlocks
runs_have_the_blocks blocks q sorted = has_same 0 q blocks (rises blocks sorted)
