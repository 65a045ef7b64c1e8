-- A history in two parts: the entries before a place or flushed, and the others, behind them.
use Rattle.std.proofs.Common.{◌≡◌, arith, ℕ, ◌<◌, ◌≤◌, Bool, true, false, cond, ◌&&◌, ◌||◌, true≢false, List, [], ◌∷◌, ◌++◌, refl, sym, ap, subst, ◌∙◌, append-nil}
use Rattle.std.specs.Prelude.{nat_lt, nat_le, not}
use Rattle.std.specs.List.{All, list_any, filter}
use Rattle.std.proofs.lemmas.Bool.{and_parts, or_parts, lt-ltb, le-leb, ltb-true, ltb-false, leb-false, leb-true}
use Rattle.std.proofs.lemmas.List.Elements.{filter-append, All-nil, All-cons}
use Rattle.history.specs.Entry.{Entry}
use Rattle.history.proofs.Stores.{by_test}
use Rattle.history.specs.fuzzy_copies.Orderly.{IsOrderly}
use Rattle.history.specs.fuzzy_copies.Sound.{entries_before}
use Rattle.history.specs.fuzzy_copies.Taken.{since}
use Rattle.history.specs.partitions.Parts.{concerns}
use Rattle.core_stops.specs.Machine.{is_known, is_later, is_late}

abbrev pub knowns : ℕ → ℕ → List Entry → List Entry
knowns from flushed es = filter (is_known from flushed) es

abbrev pub laters : ℕ → ℕ → List Entry → List Entry
laters from flushed es = filter (is_later from flushed) es

-- ---- one entry

pub known_first : (from flushed : ℕ) (e : Entry) (es : List Entry) → is_known from flushed e ≡ true → (knowns from flushed (e ∷ es) ≡ e ∷ knowns from flushed es) × (laters from flushed (e ∷ es) ≡ laters from flushed es)
known_first from flushed e es is = (ap (λ (b : Bool). cond b (e ∷ knowns from flushed es) (knowns from flushed es)) is, ap (λ (b : Bool). cond (not b) (e ∷ laters from flushed es) (laters from flushed es)) is)

pub later_first : (from flushed : ℕ) (e : Entry) (es : List Entry) → is_known from flushed e ≡ false → (knowns from flushed (e ∷ es) ≡ knowns from flushed es) × (laters from flushed (e ∷ es) ≡ e ∷ laters from flushed es)
later_first from flushed e es is = (ap (λ (b : Bool). cond b (e ∷ knowns from flushed es) (knowns from flushed es)) is, ap (λ (b : Bool). cond (not b) (e ∷ laters from flushed es) (laters from flushed es)) is)

-- an entry that starts at a place or past it, and ends past another, is later
pub is_not_known : (from flushed : ℕ) (e : Entry) → from ≤ e.start → flushed < e.end → is_known from flushed e ≡ false
is_not_known from flushed e start end = ap (λ (b : Bool). b || nat_le e.end flushed) (not_lt e.start from start) ∙ not_le e.end flushed end
  where
    not_lt : (a b : ℕ) → b ≤ a → nat_lt a b ≡ false
    not_lt a b le = by_test (nat_lt a b) (λ some. absurd (apart (ltb-true a b some))) (λ no. no)
      where
        apart : a < b → ⊥
        apart l = omega (arith, l, le)

    not_le : (a b : ℕ) → b < a → nat_le a b ≡ false
    not_le a b less = by_test (nat_le a b) (λ some. absurd (apart (leb-true a b some))) (λ no. no)
      where
        apart : a ≤ b → ⊥
        apart l = omega (arith, l, less)

pub starts_late : (from flushed : ℕ) (e : Entry) → is_known from flushed e ≡ false → from ≤ e.start
starts_late from flushed e is = ltb-false e.start from (or_parts (nat_lt e.start from) (nat_le e.end flushed) is).0

pub ends_late : (from flushed : ℕ) (e : Entry) → is_known from flushed e ≡ false → flushed < e.end
ends_late from flushed e is = let l = leb-false e.end flushed (or_parts (nat_lt e.start from) (nat_le e.end flushed) is).1 in omega (arith, l)

-- ---- both parts

-- behind a later entry all are later
none_known : (from flushed last : ℕ) (es : List Entry) → from ≤ last → flushed ≤ last → IsOrderly last es → (knowns from flushed es ≡ []) × (laters from flushed es ≡ es)
none_known from flushed last [] f m orderly = (refl, refl)
none_known from flushed last (e ∷ es) f m orderly =
    let start = orderly.0 in
    let long = orderly.1 in
    let one = later_first from flushed e es (is_not_known from flushed e (omega (arith, f, start)) (omega (arith, m, start, long))) in
    let rest = none_known from flushed e.end es (omega (arith, f, start, long)) (omega (arith, m, start, long)) orderly.3 in
    (one.0 ∙ rest.0, one.1 ∙ ap (λ (l : List Entry). e ∷ l) rest.1)

pub all_later : (from flushed : ℕ) (e : Entry) (es : List Entry) → is_known from flushed e ≡ false → IsOrderly e.end es → e.start < e.end → (knowns from flushed (e ∷ es) ≡ []) × (laters from flushed (e ∷ es) ≡ e ∷ es)
all_later from flushed e es is orderly long =
    let one = later_first from flushed e es is in
    let start = starts_late from flushed e is in
    let end = ends_late from flushed e is in
    let rest = none_known from flushed e.end es (omega (arith, start, long)) (omega (arith, end)) orderly in
    (one.0 ∙ rest.0, one.1 ∙ ap (λ (l : List Entry). e ∷ l) rest.1)

pub parted : (from flushed last : ℕ) (es : List Entry) → IsOrderly last es → knowns from flushed es ++ laters from flushed es ≡ es
parted from flushed last [] orderly = refl
parted from flushed last (e ∷ es) orderly =
    by_test (is_known from flushed e)
    (λ is. let one = known_first from flushed e es is in
    ap (λ (l : List Entry). l ++ laters from flushed (e ∷ es)) one.0 ∙ ap (λ (l : List Entry). e ∷ (knowns from flushed es ++ l)) one.1 ∙ ap (λ (l : List Entry). e ∷ l) (parted from flushed e.end es orderly.3))
    (λ is. let all = all_later from flushed e es is orderly.3 orderly.1 in
    ap (λ (l : List Entry). l ++ laters from flushed (e ∷ es)) all.0 ∙ all.1)

-- the known ones have all that start below the place
pub before_known : (from flushed : ℕ) (es : List Entry) → entries_before (knowns from flushed es) from ≡ entries_before es from
before_known from flushed [] = refl
before_known from flushed (e ∷ es) =
    by_test (nat_lt e.start from)
    (λ below.
    let one = known_first from flushed e es (ap (λ (b : Bool). b || nat_le e.end flushed) below) in
    ap (λ (l : List Entry). entries_before l from) one.0
    ∙ ap (λ (b : Bool). cond b (e ∷ entries_before (knowns from flushed es) from) (entries_before (knowns from flushed es) from)) below
    ∙ ap (λ (l : List Entry). e ∷ l) (before_known from flushed es)
    ∙ sym (ap (λ (b : Bool). cond b (e ∷ entries_before es from) (entries_before es from)) below))
    (λ past.
    let both : entries_before (knowns from flushed (e ∷ es)) from ≡ entries_before (knowns from flushed es) from = either (is_known from flushed e) past in
    both ∙ before_known from flushed es ∙ sym (ap (λ (b : Bool). cond b (e ∷ entries_before es from) (entries_before es from)) past))
  where
    either : (b : Bool) → nat_lt e.start from ≡ false → entries_before (cond b (e ∷ knowns from flushed es) (knowns from flushed es)) from ≡ entries_before (knowns from flushed es) from
    either true past = ap (λ (c : Bool). cond c (e ∷ entries_before (knowns from flushed es) from) (entries_before (knowns from flushed es) from)) past
    either false past = refl

-- the later ones start there or past it, and end past the other place
pub late : (from flushed : ℕ) (es : List Entry) → entries_before (laters from flushed es) from ≡ []
late from flushed [] = refl
late from flushed (e ∷ es) =
    by_test (is_known from flushed e)
    (λ is. ap (λ (l : List Entry). entries_before l from) (known_first from flushed e es is).1 ∙ late from flushed es)
    (λ is.
    let past = (or_parts (nat_lt e.start from) (nat_le e.end flushed) is).0 in
    ap (λ (l : List Entry). entries_before l from) (later_first from flushed e es is).1
    ∙ ap (λ (b : Bool). cond b (e ∷ entries_before (laters from flushed es) from) (entries_before (laters from flushed es) from)) past
    ∙ late from flushed es)

pub ends : (from flushed : ℕ) (es : List Entry) → All (λ e. flushed < e.end) (laters from flushed es)
ends from flushed [] = All-nil (λ (e : Entry). flushed < e.end)
ends from flushed (e ∷ es) =
    by_test (is_known from flushed e)
    (λ is. subst (All (λ (x : Entry). flushed < x.end)) (sym (known_first from flushed e es is).1) (ends from flushed es))
    (λ is. subst (All (λ (x : Entry). flushed < x.end)) (sym (later_first from flushed e es is).1) (All-cons (λ (x : Entry). flushed < x.end) e (laters from flushed es) (ends_late from flushed e is) (ends from flushed es)))

-- ---- places that are raised

-- entries become known that were later
pub record ArePassed (from flushed raised further : ℕ) (es : List Entry) : Type 0 where
  pub passed : List Entry
  pub known : knowns raised further es ≡ knowns from flushed es ++ passed
  pub later : passed ++ laters raised further es ≡ laters from flushed es

still_known : (from flushed raised further : ℕ) (e : Entry) → from ≤ raised → flushed ≤ further → is_known from flushed e ≡ true → is_known raised further e ≡ true
still_known from flushed raised further e f m is =
    by_test (is_known raised further e) (λ so. so) (λ out. absurd (true≢false (sym is ∙ is_not_known from flushed e (below out) (above out))))
  where
    below : is_known raised further e ≡ false → from ≤ e.start
    below out = let l = starts_late raised further e out in omega (arith, l, f)

    above : is_known raised further e ≡ false → flushed < e.end
    above out = let l = ends_late raised further e out in omega (arith, l, m)

pub pass : (from flushed raised further last : ℕ) (es : List Entry) → from ≤ raised → flushed ≤ further → IsOrderly last es → ArePassed from flushed raised further es
pass from flushed raised further last [] f m orderly = record { passed = []; known = refl; later = refl }
pass from flushed raised further last (e ∷ es) f m orderly =
    by_test (is_known from flushed e)
    (λ is.
    let old = known_first from flushed e es is in
    let new = known_first raised further e es (still_known from flushed raised further e f m is) in
    let rest = pass from flushed raised further e.end es f m orderly.3 in
    record {
      passed = rest.passed;
      known = new.0 ∙ ap (λ (l : List Entry). e ∷ l) rest.known ∙ sym (ap (λ (l : List Entry). l ++ rest.passed) old.0);
      later = ap (λ (l : List Entry). rest.passed ++ l) new.1 ∙ rest.later ∙ sym old.1;
    })
    (λ is.
    let old = all_later from flushed e es is orderly.3 orderly.1 in
    record {
      passed = knowns raised further (e ∷ es);
      known = sym (ap (λ (l : List Entry). l ++ knowns raised further (e ∷ es)) old.0);
      later = parted raised further last (e ∷ es) orderly ∙ sym old.1;
    })

-- ---- one entry more

pub push_known : (from flushed : ℕ) (es : List Entry) (e : Entry) → from ≤ e.start → flushed < e.end → knowns from flushed (es ++ (e ∷ [])) ≡ knowns from flushed es
push_known from flushed es e start end =
    filter-append (is_known from flushed) es (e ∷ []) ∙ ap (λ (l : List Entry). knowns from flushed es ++ l) (later_first from flushed e [] (is_not_known from flushed e start end)).0 ∙ append-nil (knowns from flushed es)

pub push_later : (from flushed : ℕ) (es : List Entry) (e : Entry) → from ≤ e.start → flushed < e.end → laters from flushed (es ++ (e ∷ [])) ≡ laters from flushed es ++ (e ∷ [])
push_later from flushed es e start end =
    filter-append (is_later from flushed) es (e ∷ []) ∙ ap (λ (l : List Entry). laters from flushed es ++ l) (later_first from flushed e [] (is_not_known from flushed e start end)).1

-- ---- what is lost where a stop comes

-- an entry of the partition starts below a place and isn't flushed
abbrev pub is_lost : ℕ → ℕ → ℕ → Entry → Bool
is_lost q from flushed e = concerns q e && (nat_lt e.start from && nat_lt flushed e.end)

pub none_weaker : (t u : Entry → Bool) (es : List Entry) → ((e : Entry) → u e ≡ true → t e ≡ true) → list_any t es ≡ false → list_any u es ≡ false
none_weaker t u [] leads none = refl
none_weaker t u (e ∷ es) leads none =
    let p = or_parts (t e) (list_any t es) none in
    let here : u e ≡ false = by_test (u e) (λ so. absurd (true≢false (sym (leads e so) ∙ p.0))) (λ not_so. not_so) in
    ap (λ (b : Bool). b || list_any u es) here ∙ none_weaker t u es leads p.1

pub none_filtered : (t p : Entry → Bool) (es : List Entry) → list_any t es ≡ false → list_any t (filter p es) ≡ false
none_filtered t p [] none = none
none_filtered t p (e ∷ es) none =
    let both = or_parts (t e) (list_any t es) none in
    let rest = none_filtered t p es both.1 in
    by_test (p e)
    (λ kept. ap (λ (b : Bool). list_any t (cond b (e ∷ filter p es) (filter p es))) kept ∙ ap (λ (b : Bool). b || list_any t (filter p es)) both.0 ∙ rest)
    (λ gone. ap (λ (b : Bool). list_any t (cond b (e ∷ filter p es) (filter p es))) gone ∙ rest)

three : (a b c : Bool) → a ≡ true → b ≡ true → c ≡ true → (a && (b && c)) ≡ true
three a b c x y z = ap (λ (d : Bool). d && (b && c)) x ∙ (ap (λ (d : Bool). d && c) y ∙ z)

-- with more flushed fewer are lost
pub lost_before : (q from flushed further : ℕ) → flushed ≤ further → (e : Entry) → is_lost q from further e ≡ true → is_lost q from flushed e ≡ true
lost_before q from flushed further rises e so =
    let p = and_parts (concerns q e) (nat_lt e.start from && nat_lt further e.end) so in
    let r = and_parts (nat_lt e.start from) (nat_lt further e.end) p.1 in
    three (concerns q e) (nat_lt e.start from) (nat_lt flushed e.end) p.0 r.0 (lt-ltb flushed e.end (less (ltb-true further e.end r.1)))
  where
    less : further < e.end → flushed < e.end
    less l = omega (arith, l, rises)

-- those that start there or past it aren't
pub none_lost : (q from flushed : ℕ) (es : List Entry) → entries_before es from ≡ [] → list_any (is_lost q from flushed) es ≡ false
none_lost q from flushed [] none = refl
none_lost q from flushed (e ∷ es) none =
    by_test (nat_lt e.start from)
    (λ below. absurd (never (entries_before es from) (sym (ap (λ (b : Bool). cond b (e ∷ entries_before es from) (entries_before es from)) below) ∙ none)))
    (λ past.
    let rest : entries_before es from ≡ [] = sym (ap (λ (b : Bool). cond b (e ∷ entries_before es from) (entries_before es from)) past) ∙ none in
    ap (λ (b : Bool). b || list_any (is_lost q from flushed) es) (no_one (concerns q e) (nat_lt e.start from) (nat_lt flushed e.end) past) ∙ none_lost q from flushed es rest)
  where
    never : (l : List Entry) → e ∷ l ≡ [] → ⊥
    never l k = cc

    no_one : (a b c : Bool) → b ≡ false → (a && (b && c)) ≡ false
    no_one true b c h = ap (λ (d : Bool). d && c) h
    no_one false b c h = refl

-- where nothing of the partition is lost or later, nothing is lost as of a later place
pub raised_lost : (q from flushed raised : ℕ) (es : List Entry) → list_any (is_lost q from flushed) (knowns from flushed es) ≡ false → list_any (concerns q) (laters from flushed es) ≡ false → list_any (is_lost q raised flushed) es ≡ false
raised_lost q from flushed raised [] known later = refl
raised_lost q from flushed raised (e ∷ es) known later =
    by_test (is_known from flushed e)
    (λ is.
    let one = known_first from flushed e es is in
    let p = or_parts (is_lost q from flushed e) (list_any (is_lost q from flushed) (knowns from flushed es)) (sym (ap (list_any (is_lost q from flushed)) one.0) ∙ known) in
    ap (λ (b : Bool). b || list_any (is_lost q raised flushed) es) (not_here is p.0) ∙ raised_lost q from flushed raised es p.1 (sym (ap (list_any (concerns q)) one.1) ∙ later))
    (λ is.
    let one = later_first from flushed e es is in
    let p = or_parts (concerns q e) (list_any (concerns q) (laters from flushed es)) (sym (ap (list_any (concerns q)) one.1) ∙ later) in
    ap (λ (b : Bool). b || list_any (is_lost q raised flushed) es) (ap (λ (b : Bool). b && (nat_lt e.start raised && nat_lt flushed e.end)) p.0) ∙ raised_lost q from flushed raised es (sym (ap (list_any (is_lost q from flushed)) one.0) ∙ known) p.1)
  where
    below_or : (a b c : Bool) → (a || b) ≡ true → c ≡ true → (c ≡ true → b ≡ false) → a ≡ true
    below_or true b c h k f = refl
    below_or false b c h k f = absurd (true≢false (sym h ∙ f k))

    not_flushed : nat_lt flushed e.end ≡ true → nat_le e.end flushed ≡ false
    not_flushed past = by_test (nat_le e.end flushed) (λ so. absurd (apart (ltb-true flushed e.end past) (leb-true e.end flushed so))) (λ not_so. not_so)
      where
        apart : flushed < e.end → e.end ≤ flushed → ⊥
        apart l m = omega (arith, l, m)

    not_here : is_known from flushed e ≡ true → is_lost q from flushed e ≡ false → is_lost q raised flushed e ≡ false
    not_here is none =
        by_test (is_lost q raised flushed e)
        (λ so.
        let p = and_parts (concerns q e) (nat_lt e.start raised && nat_lt flushed e.end) so in
        let r = and_parts (nat_lt e.start raised) (nat_lt flushed e.end) p.1 in
        absurd (true≢false (sym (three (concerns q e) (nat_lt e.start from) (nat_lt flushed e.end) p.0 (below_or (nat_lt e.start from) (nat_le e.end flushed) (nat_lt flushed e.end) is r.1 not_flushed) r.1) ∙ none)))
        (λ not_so. not_so)

-- ---- what was done is flushed

or_first : (a b : Bool) → a ≡ true → (a || b) ≡ true
or_first true b k = refl
or_first false b k = absurd (true≢false (sym k))

or_last : (a b : Bool) → b ≡ true → (a || b) ≡ true
or_last true b k = refl
or_last false b k = k

of_either : (a b : Bool) → (a || b) ≡ true → a ≡ false → b ≡ true
of_either true b k none = absurd (true≢false none)
of_either false b k none = k

-- an entry that is later starts at the place or past it, and isn't flushed
module _ (from flushed : ℕ) (did : Entry → Bool) where
  quiet_entry : (e : Entry) → is_known from flushed e ≡ false → is_late did flushed e ≡ false → did e ≡ false
  quiet_entry e is none = by_test (did e) (λ some. absurd (true≢false (sym (ap (λ (b : Bool). b && nat_lt flushed e.end) some ∙ lt-ltb flushed e.end (ends_late from flushed e is)) ∙ none))) (λ no. no)

  since_first : (e : Entry) (es : List Entry) → nat_le from e.start ≡ true → since from (e ∷ es) ≡ e ∷ since from es
  since_first e es is = ap (λ (b : Bool). cond b (e ∷ since from es) (since from es)) is

  since_rest : (e : Entry) (es : List Entry) → nat_le from e.start ≡ false → since from (e ∷ es) ≡ since from es
  since_rest e es is = ap (λ (b : Bool). cond b (e ∷ since from es) (since from es)) is

  -- no later entry did what is flushed
  pub none_later : (es : List Entry) → list_any (is_late did flushed) (since from es) ≡ false → list_any did (laters from flushed es) ≡ false
  none_later [] none = refl
  none_later (e ∷ es) none =
      by_test (is_known from flushed e)
      (λ is. ap (list_any did) (known_first from flushed e es is).1 ∙ none_later es (less none))
      (λ is.
      let start = le-leb from e.start (starts_late from flushed e is) in
      let p = or_parts (is_late did flushed e) (list_any (is_late did flushed) (since from es)) (sym (ap (list_any (is_late did flushed)) (since_first e es start)) ∙ none) in
      ap (list_any did) (later_first from flushed e es is).1 ∙ ap (λ (b : Bool). b || list_any did (laters from flushed es)) (quiet_entry e is p.0) ∙ none_later es p.1)
    where
      less : list_any (is_late did flushed) (since from (e ∷ es)) ≡ false → list_any (is_late did flushed) (since from es) ≡ false
      less none = by_test (nat_le from e.start)
          (λ start. (or_parts (is_late did flushed e) (list_any (is_late did flushed) (since from es)) (sym (ap (list_any (is_late did flushed)) (since_first e es start)) ∙ none)).1)
          (λ below. sym (ap (list_any (is_late did flushed)) (since_rest e es below)) ∙ none)

  -- so a known one did it
  pub some_known : (es : List Entry) → list_any did (since from es) ≡ true → list_any (is_late did flushed) (since from es) ≡ false → list_any did (since from (knowns from flushed es)) ≡ true
  some_known [] some none = some
  some_known (e ∷ es) some none =
      by_test (nat_le from e.start)
      (λ start.
      let p = or_parts (is_late did flushed e) (list_any (is_late did flushed) (since from es)) (sym (ap (list_any (is_late did flushed)) (since_first e es start)) ∙ none) in
      let now : (did e || list_any did (since from es)) ≡ true = sym (ap (list_any did) (since_first e es start)) ∙ some in
      by_test (is_known from flushed e)
      (λ is.
      ap (λ (l : List Entry). list_any did (since from l)) (known_first from flushed e es is).0 ∙ ap (list_any did) (since_first e (knowns from flushed es) start)
      ∙ by_test (did e) (λ here. or_first (did e) (list_any did (since from (knowns from flushed es))) here)
      (λ away. or_last (did e) (list_any did (since from (knowns from flushed es))) (some_known es (of_either (did e) (list_any did (since from es)) now away) p.1)))
      (λ is.
      ap (λ (l : List Entry). list_any did (since from l)) (later_first from flushed e es is).0
      ∙ some_known es (of_either (did e) (list_any did (since from es)) now (quiet_entry e is p.0)) p.1))
      (λ below.
      let rest = some_known es (sym (ap (list_any did) (since_rest e es below)) ∙ some) (sym (ap (list_any (is_late did flushed)) (since_rest e es below)) ∙ none) in
      either (is_known from flushed e) below rest)
    where
      either : (b : Bool) → nat_le from e.start ≡ false → list_any did (since from (knowns from flushed es)) ≡ true → list_any did (since from (cond b (e ∷ knowns from flushed es) (knowns from flushed es))) ≡ true
      either true below rest = ap (list_any did) (since_rest e (knowns from flushed es) below) ∙ rest
      either false below rest = rest
