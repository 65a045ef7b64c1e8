-- What kept summaries cover.
use Rattle.std.proofs.Common.{◌≡◌, ℕ, zero, suc, ◌+◌, ◌-◌, ◌<◌, ◌≤◌, Bool, true, false, cond, ◌&&◌, ◌||◌, List, [], ◌∷◌, fold, length, take, drop, get_or, refl, sym, ap, subst, ◌∙◌, arith}
use Rattle.std.specs.Prelude.{nat_le, nat_lt}
use Rattle.std.specs.List.{filter}
use Rattle.std.specs.List.Sorted.{IsNonDecreasingBy, IsPartitionPoint}
use Rattle.std.proofs.lemmas.Bool.{le-leb, lt-leb, leb-true, leb-false, ltb-true, ltb-false, lt-ltb, le-ltb, or_from, and_parts, or_left, or_right}
use Rattle.wal_summary.specs.declared.summary.Summary.{Summary}
use Rattle.wal_summary.specs.Summary.{AreSorted}
use Rattle.wal_summary.specs.Kept.{covers, is_covered, IsGap, AreInOrder, overlapping}
use Rattle.wal_summary.specs.Inside.{past}

and_no_first : (a b : Bool) → a ≡ false → (a && b) ≡ false
and_no_first true b e = absurd cc
and_no_first false b e = refl

pub and_no_second : (a b : Bool) → b ≡ false → (a && b) ≡ false
and_no_second true b e = e
and_no_second false b e = refl

covers_from : (s : Summary) (p : ℕ) → covers p s ≡ true → s.start.0 ≤ p
covers_from s p e = leb-true s.start.0 p (and_parts (nat_le s.start.0 p) (nat_lt p s.end.0) e).0

covers_to : (s : Summary) (p : ℕ) → covers p s ≡ true → p < s.end.0
covers_to s p e = ltb-true p s.end.0 (and_parts (nat_le s.start.0 p) (nat_lt p s.end.0) e).1

within : (s : Summary) (p : ℕ) → s.start.0 ≤ p → p < s.end.0 → covers p s ≡ true
within s p a b = ap (λ t. t && nat_lt p s.end.0) (le-leb s.start.0 p a) ∙ lt-ltb p s.end.0 b

not_yet : (s : Summary) (p : ℕ) → p < s.start.0 → covers p s ≡ false
not_yet s p a = and_no_first (nat_le s.start.0 p) (nat_lt p s.end.0) (lt-leb s.start.0 p a)

over : (s : Summary) (p : ℕ) → s.end.0 ≤ p → covers p s ≡ false
over s p a = and_no_second (nat_le s.start.0 p) (nat_lt p s.end.0) (le-ltb p s.end.0 a)

-- below the first range nothing is reached
stays : (low from : ℕ) (kept : List Summary) → AreInOrder low kept → from < low → fold past from kept ≡ from
stays low from [] h lt = refl
stays low from (s ∷ ss) h lt =
    ap (λ t. fold past (cond t s.end.0 from) ss) (not_yet s from (let a = h.0 in omega arith)) ∙ stays s.end.0 from ss h.3 (let a = h.0 in let b = h.1 in omega arith)

record Reached (kept : List Summary) (from place : ℕ) : Type 0 where
  later : from ≤ place
  uncovered : is_covered kept place ≡ false
  before : (p : ℕ) → from ≤ p → p < place → is_covered kept p ≡ true

reached : (low from : ℕ) (kept : List Summary) → AreInOrder low kept → Reached kept from (fold past from kept)
reached low from [] h = record { later = omega arith; uncovered = refl; before = λ p a b. absurd (omega (arith, a, b)) }
reached low from (s ∷ ss) h =
    elim (covers from s) as (λ t. covers from s ≡ t → Reached (s ∷ ss) from (fold past (cond t s.end.0 from) ss)) [
      | true ↦ λ k.
          let place = fold past s.end.0 ss in
          let r = reached s.end.0 s.end.0 ss h.3 in
          let start = covers_from s from k in
          let end = covers_to s from k in
          let later = r.later in
          record {
            later = omega (arith, later, end);
            uncovered = or_from (covers place s) (is_covered ss place) (over s place later) r.uncovered;
            before = λ p a b.
                elim (nat_lt p s.end.0) as (λ t. nat_lt p s.end.0 ≡ t → (covers p s || is_covered ss p) ≡ true) [
                  | true ↦ λ j. or_left (covers p s) (is_covered ss p) (within s p (omega (arith, start, a)) (ltb-true p s.end.0 j))
                  | false ↦ λ j. or_right (covers p s) (is_covered ss p) (r.before p (ltb-false p s.end.0 j) b)
                ] refl;
          }
      | false ↦ λ k.
          let place = fold past from ss in
          let r = reached s.end.0 from ss h.3 in
          let later = r.later in
          record {
            later = later;
            uncovered = or_from (covers place s) (is_covered ss place)
                (elim (nat_lt from s.end.0) as (λ t. nat_lt from s.end.0 ≡ t → covers place s ≡ false) [
                  | true ↦ λ j. ap (λ p. covers p s) (stays s.end.0 from ss h.3 (ltb-true from s.end.0 j)) ∙ k
                  | false ↦ λ j. over s place (let e = ltb-false from s.end.0 j in omega (arith, later, e))
                ] refl)
                r.uncovered;
            before = λ p a b. or_right (covers p s) (is_covered ss p) (r.before p a b);
          }
    ] refl

pub gap : (from to : ℕ) (kept : List Summary) (place : ℕ) → AreInOrder 0 kept → place ≡ fold past from kept → place < to → IsGap kept from to place
gap from to kept place order is lt =
    let r : Reached kept from place = subst (Reached kept from) (sym is) (reached 0 from kept order) in
    record { later = r.later; below = lt; uncovered = r.uncovered; before = r.before }

pub no_gap : (from to : ℕ) (kept : List Summary) (place : ℕ) → AreInOrder 0 kept → place ≡ fold past from kept → to ≤ place → (p : ℕ) → from ≤ p → p < to → is_covered kept p ≡ true
no_gap from to kept place order is le p a b =
    let r : Reached kept from place = subst (Reached kept from) (sym is) (reached 0 from kept order) in
    r.before p a (omega (arith, b, le))

-- kept summaries have their forks in order
pub sorted_at : (low : ℕ) (kept : List Summary) (i : ℕ) (d : Summary) → AreInOrder low kept → i < length kept → AreSorted (get_or kept i d).forks
sorted_at low [] i d h lt = absurd (omega (arith, lt))
sorted_at low (s ∷ ss) zero d h lt = h.2
sorted_at low (s ∷ ss) (suc i) d h lt = sorted_at s.end.0 ss i d h.3 (omega (arith, lt))

-- what stands from a place on stands from a lower one
pub in_order_from : (low next : ℕ) (kept : List Summary) → low ≤ next → AreInOrder next kept → AreInOrder low kept
in_order_from low next [] le h = tt
in_order_from low next (s ∷ ss) le h = (let a = h.0 in omega arith, h.1, h.2, h.3)

-- some of those in order are in order
pub some_in_order : (p : Summary → Bool) (low : ℕ) (kept : List Summary) → AreInOrder low kept → AreInOrder low (filter p kept)
some_in_order p low [] h = tt
some_in_order p low (s ∷ ss) h =
    let rest = some_in_order p s.end.0 ss h.3 in
    elim (p s) as (λ t. AreInOrder low (cond t (s ∷ filter p ss) (filter p ss))) [
      | true ↦ (h.0, h.1, h.2, rest)
      | false ↦ in_order_from low s.end.0 (filter p ss) (let a = h.0 in let b = h.1 in omega arith) rest
    ]

-- each starts past a place, and ends past it
starts_above : (low : ℕ) (kept : List Summary) (i : ℕ) (d : Summary) → AreInOrder low kept → i < length kept → low ≤ (get_or kept i d).start.0
starts_above low [] i d h lt = absurd (omega (arith, lt))
starts_above low (s ∷ ss) zero d h lt = h.0
starts_above low (s ∷ ss) (suc i) d h lt = let a = h.0 in let b = h.1 in let c = starts_above s.end.0 ss i d h.3 (omega (arith, lt)) in omega arith

pub not_empty : (low : ℕ) (kept : List Summary) (i : ℕ) (d : Summary) → AreInOrder low kept → i < length kept → (get_or kept i d).start.0 < (get_or kept i d).end.0
not_empty low [] i d h lt = absurd (omega (arith, lt))
not_empty low (s ∷ ss) zero d h lt = h.1
not_empty low (s ∷ ss) (suc i) d h lt = not_empty s.end.0 ss i d h.3 (omega (arith, lt))

-- a list rises where its first element is below the others, and they rise
rise_cons : (n : Summary → ℕ) (s : Summary) (ss : List Summary) → ((j : ℕ) (d : Summary) → j < length ss → n s ≤ n (get_or ss j d)) → IsNonDecreasingBy n ss → IsNonDecreasingBy n (s ∷ ss)
rise_cons n s ss first rest = each
  where
    each : (i j : ℕ) (d : Summary) → i ≤ j → j < suc (length ss) → n (get_or (s ∷ ss) i d) ≤ n (get_or (s ∷ ss) j d)
    each zero zero d le lt = omega arith
    each zero (suc j) d le lt = first j d (omega (arith, lt))
    each (suc i) zero d le lt = absurd (omega (arith, le))
    each (suc i) (suc j) d le lt = rest i j d (omega (arith, le)) (omega (arith, lt))

-- ends and starts rise
pub ends_rise : (low : ℕ) (kept : List Summary) → AreInOrder low kept → IsNonDecreasingBy (λ s. s.end.0) kept
ends_rise low [] h = λ i j d le lt. absurd (omega (arith, lt))
ends_rise low (s ∷ ss) h = rise_cons (λ x. x.end.0) s ss (λ j d lt. let a = starts_above s.end.0 ss j d h.3 lt in let b = not_empty s.end.0 ss j d h.3 lt in omega arith) (ends_rise s.end.0 ss h.3)

pub starts_rise : (low : ℕ) (kept : List Summary) → AreInOrder low kept → IsNonDecreasingBy (λ s. s.start.0) kept
starts_rise low [] h = λ i j d le lt. absurd (omega (arith, lt))
starts_rise low (s ∷ ss) h = rise_cons (λ x. x.start.0) s ss (λ j d lt. let a = starts_above s.end.0 ss j d h.3 lt in let b = h.1 in omega arith) (starts_rise s.end.0 ss h.3)

-- the elements between two partition points are those that pass both tests
none_pass : {X : Type 0} (p q : X → Bool) (xs : List X) → ((k : ℕ) (d : X) → k < length xs → q (get_or xs k d) ≡ false) → filter (λ x. p x && q x) xs ≡ []
none_pass p q [] h = refl
none_pass p q (x ∷ xs) h =
    ap (λ t. cond t (x ∷ filter (λ y. p y && q y) xs) (filter (λ y. p y && q y) xs)) (and_no_second (p x) (q x) (h 0 x (omega arith)))
    ∙ none_pass p q xs (λ k d lt. h (suc k) d (omega (arith, lt)))

between_pass : {X : Type 0} (p q : X → Bool) (xs : List X) (i n : ℕ) → i + n ≤ length xs
    → ((k : ℕ) (d : X) → k < i → p (get_or xs k d) ≡ false) → ((k : ℕ) (d : X) → i ≤ k → k < length xs → p (get_or xs k d) ≡ true)
    → ((k : ℕ) (d : X) → k < i + n → q (get_or xs k d) ≡ true) → ((k : ℕ) (d : X) → i + n ≤ k → k < length xs → q (get_or xs k d) ≡ false)
    → take n (drop i xs) ≡ filter (λ x. p x && q x) xs
between_pass p q xs zero zero len a b c d = sym (none_pass p q xs (λ k x lt. d k x (omega arith) lt))
between_pass p q [] zero (suc n) len a b c d = absurd (omega (arith, len))
between_pass p q (x ∷ xs) zero (suc n) len a b c d =
    let pass : (p x && q x) ≡ true = ap (λ t. t && q x) (b 0 x (omega arith) (omega arith)) ∙ c 0 x (omega arith) in
    let rest = between_pass p q xs zero n (omega (arith, len)) (λ k y lt. absurd (omega (arith, lt))) (λ k y ge lt. b (suc k) y (omega arith) (omega (arith, lt)))
    (λ k y lt. c (suc k) y (omega (arith, lt))) (λ k y ge lt. d (suc k) y (omega (arith, ge)) (omega (arith, lt))) in
    ap (λ l. x ∷ l) rest ∙ ap (λ t. cond t (x ∷ filter (λ y. p y && q y) xs) (filter (λ y. p y && q y) xs)) (sym pass)
between_pass p q [] (suc i) n len a b c d = absurd (omega (arith, len))
between_pass p q (x ∷ xs) (suc i) n len a b c d =
    let fail : (p x && q x) ≡ false = ap (λ t. t && q x) (a 0 x (omega arith)) in
    let rest = between_pass p q xs i n (omega (arith, len)) (λ k y lt. a (suc k) y (omega (arith, lt))) (λ k y ge lt. b (suc k) y (omega (arith, ge)) (omega (arith, lt)))
    (λ k y lt. c (suc k) y (omega (arith, lt))) (λ k y ge lt. d (suc k) y (omega (arith, ge)) (omega (arith, lt))) in
    rest ∙ ap (λ t. cond t (x ∷ filter (λ y. p y && q y) xs) (filter (λ y. p y && q y) xs)) (sym fail)

-- the kept summaries from the first that ends past a place up to the last that starts below another
pub parts_overlap : (from to : ℕ) (kept : List Summary) (i j : ℕ) → i ≤ j → j ≤ length kept
    → IsPartitionPoint (λ s. nat_le s.end.0 from ≡ true) (λ s. nat_le s.end.0 from ≡ false) kept i → IsPartitionPoint (λ s. nat_lt s.start.0 to ≡ true) (λ s. nat_lt s.start.0 to ≡ false) kept j
    → take (j - i) (drop i kept) ≡ overlapping from to kept
parts_overlap from to kept i j le len p q =
    between_pass (λ s. nat_lt from s.end.0) (λ s. nat_lt s.start.0 to) kept i (j - i) (omega (arith, le, len))
    (λ k d lt. le-ltb from (get_or kept k d).end.0 (leb-true (get_or kept k d).end.0 from (p.0 k d (omega arith) lt))) (λ k d ge lt. lt-ltb from (get_or kept k d).end.0 (leb-false (get_or kept k d).end.0 from (p.1 k d ge lt)))
    (λ k d lt. q.0 k d (omega arith) (omega (arith, lt, le))) (λ k d ge lt. q.1 k d (omega (arith, ge, le)) lt)

-- those that ended are no more than those that have begun
pub points_rise : (from to : ℕ) (kept : List Summary) (i j : ℕ) → from < to → AreInOrder 0 kept → i ≤ length kept
    → IsPartitionPoint (λ s. nat_le s.end.0 from ≡ true) (λ s. nat_le s.end.0 from ≡ false) kept i → IsPartitionPoint (λ s. nat_lt s.start.0 to ≡ true) (λ s. nat_lt s.start.0 to ≡ false) kept j → i ≤ j
points_rise from to [] i j range order len p q = omega arith
points_rise from to (d ∷ ds) i j range order len p q =
    elim (nat_le i j) as (λ t. nat_le i j ≡ t → i ≤ j) [
      | true ↦ λ k. leb-true i j k
      | false ↦ λ k.
          let lt : j < i = leb-false i j k in
          let ended = leb-true (get_or (d ∷ ds) j d).end.0 from (p.0 j d (omega arith) lt) in
          let later = ltb-false (get_or (d ∷ ds) j d).start.0 to (q.1 j d (omega arith) (omega arith)) in
          let some = not_empty 0 (d ∷ ds) j d order (omega arith) in
          absurd (omega (arith, ended, later, some, range))
    ] refl
