-- Ranges of entries that rise.
use Rattle.std.proofs.Common.{◌≡◌, ℕ, ◌<◌, ◌≤◌, Bool, true, false, cond, ◌&&◌, List, [], ◌∷◌, ◌++◌, refl, sym, ap, subst, ◌∙◌, arith}
use Rattle.std.specs.Prelude.{◌==◌, nat_lt, nat_le}
use Rattle.std.specs.List.{All, list_any, filter}
use Rattle.std.proofs.lemmas.List.Elements.{All-nil, All-cons}
use Rattle.std.proofs.lemmas.Bool.{eqb-true, ltb-true, ltb-false, lt-leb, le-leb, le-ltb}
use Rattle.history.specs.Entry.{Entry}
use Rattle.history.proofs.Pushes.{all_first, all_rest}
use Rattle.history.specs.fuzzy_copies.Orderly.{IsOrderly, AllEndBy}
use Rattle.history.specs.fuzzy_copies.Sound.{window}
use Rattle.history.proofs.fuzzy_copies.Completed.{or_second}

-- no entry reaches over a place
abbrev pub IsBoundary : ℕ → List Entry → Type 0
IsBoundary x [] = Unit
IsBoundary x (e ∷ es) = (e.start < x → e.end ≤ x) × IsBoundary x es

late : (x last : ℕ) (es : List Entry) → IsOrderly last es → x ≤ last → IsBoundary x es
late x last [] r h = tt
late x last (e ∷ es) r h = (λ k. absurd (let a = r.0 in omega arith), late x e.end es r.3 (let a = r.0 in let b = r.1 in omega arith))

pub start_behind : (x last : ℕ) (es : List Entry) → IsOrderly last es → list_any (λ e. e.start == x) es ≡ true → last ≤ x
start_behind x last [] r h = absurd cc
start_behind x last (e ∷ es) r h =
    elim (e.start == x) as (λ b. (e.start == x) ≡ b → last ≤ x) [
      | true ↦ λ k. let i : e.start ≡ x = eqb-true e.start x k in let a = r.0 in omega arith
      | false ↦ λ k. let i = start_behind x e.end es r.3 (or_second (e.start == x) (list_any (λ d. d.start == x) es) h k) in let a = r.0 in let b = r.1 in omega arith
    ] refl

pub end_behind : (x last : ℕ) (es : List Entry) → IsOrderly last es → list_any (λ e. e.end == x) es ≡ true → last < x
end_behind x last [] r h = absurd cc
end_behind x last (e ∷ es) r h =
    elim (e.end == x) as (λ b. (e.end == x) ≡ b → last < x) [
      | true ↦ λ k. let i : e.end ≡ x = eqb-true e.end x k in let a = r.0 in let b = r.1 in omega arith
      | false ↦ λ k. let i = end_behind x e.end es r.3 (or_second (e.end == x) (list_any (λ d. d.end == x) es) h k) in let a = r.0 in let b = r.1 in omega arith
    ] refl

-- where an entry starts, and where one ends, no entry reaches over
pub boundary_start : (x last : ℕ) (es : List Entry) → IsOrderly last es → list_any (λ e. e.start == x) es ≡ true → IsBoundary x es
boundary_start x last [] r h = tt
boundary_start x last (e ∷ es) r h =
    elim (e.start == x) as (λ b. (e.start == x) ≡ b → IsBoundary x (e ∷ es)) [
      | true ↦ λ k. let i : e.start ≡ x = eqb-true e.start x k in (λ l. absurd (omega arith), late x e.end es r.3 (let b = r.1 in omega arith))
      | false ↦ λ k. let rest = or_second (e.start == x) (list_any (λ d. d.start == x) es) h k in (λ l. start_behind x e.end es r.3 rest, boundary_start x e.end es r.3 rest)
    ] refl

pub boundary_end : (x last : ℕ) (es : List Entry) → IsOrderly last es → list_any (λ e. e.end == x) es ≡ true → IsBoundary x es
boundary_end x last [] r h = tt
boundary_end x last (e ∷ es) r h =
    elim (e.end == x) as (λ b. (e.end == x) ≡ b → IsBoundary x (e ∷ es)) [
      | true ↦ λ k. let i : e.end ≡ x = eqb-true e.end x k in (λ l. omega arith, late x e.end es r.3 (omega arith))
      | false ↦ λ k. let rest = or_second (e.end == x) (list_any (λ d. d.end == x) es) h k in (λ l. let m = end_behind x e.end es r.3 rest in omega arith, boundary_end x e.end es r.3 rest)
    ] refl

-- entries that rise, cut at a place
none_below : (x : ℕ) (t : Entry → Bool) (last : ℕ) (es : List Entry) → IsOrderly last es → x ≤ last → filter (λ e. nat_lt e.start x && t e) es ≡ []
none_below x t last [] r h = refl
none_below x t last (e ∷ es) r h =
    subst (λ s. cond (s && t e) (e ∷ filter (λ d. nat_lt d.start x && t d) es) (filter (λ d. nat_lt d.start x && t d) es) ≡ []) (sym (le-ltb e.start x (let a = r.0 in omega arith)))
    (none_below x t e.end es r.3 (let a = r.0 in let b = r.1 in omega arith))

all_above : (x : ℕ) (t : Entry → Bool) (last : ℕ) (es : List Entry) → IsOrderly last es → x ≤ last → filter t es ≡ filter (λ e. nat_le x e.start && t e) es
all_above x t last [] r h = refl
all_above x t last (e ∷ es) r h =
    subst (λ s. cond (t e) (e ∷ filter t es) (filter t es) ≡ cond (s && t e) (e ∷ filter (λ d. nat_le x d.start && t d) es) (filter (λ d. nat_le x d.start && t d) es)) (sym (le-leb x e.start (let a = r.0 in omega arith)))
    (ap (λ (l : List Entry). cond (t e) (e ∷ l) l) (all_above x t e.end es r.3 (let a = r.0 in let b = r.1 in omega arith)))

front_step : (c : Bool) (e : Entry) (whole front back : List Entry) → whole ≡ front ++ back → cond c (e ∷ whole) whole ≡ cond (true && c) (e ∷ front) front ++ cond (false && c) (e ∷ back) back
front_step true e whole front back h = ap (λ (l : List Entry). e ∷ l) h
front_step false e whole front back h = h

back_step : (c : Bool) (e : Entry) (whole front back : List Entry) → front ≡ [] → whole ≡ back → cond c (e ∷ whole) whole ≡ cond (false && c) (e ∷ front) front ++ cond (true && c) (e ∷ back) back
back_step c e whole front back none h = ap (λ (l : List Entry). cond c (e ∷ l) l) h ∙ ap (λ (l : List Entry). l ++ cond c (e ∷ back) back) (sym none)

pub cut_at : (x : ℕ) (t : Entry → Bool) (last : ℕ) (es : List Entry) → IsOrderly last es → filter t es ≡ filter (λ e. nat_lt e.start x && t e) es ++ filter (λ e. nat_le x e.start && t e) es
cut_at x t last [] r = refl
cut_at x t last (e ∷ es) r =
    let all = filter t es in let below = filter (λ d. nat_lt d.start x && t d) es in let above = filter (λ d. nat_le x d.start && t d) es in
    elim (nat_lt e.start x) as (λ s. nat_lt e.start x ≡ s → cond (t e) (e ∷ all) all ≡ cond (s && t e) (e ∷ below) below ++ cond (nat_le x e.start && t e) (e ∷ above) above) [
      | true ↦ λ k. subst (λ s. cond (t e) (e ∷ all) all ≡ cond (true && t e) (e ∷ below) below ++ cond (s && t e) (e ∷ above) above) (sym (lt-leb x e.start (ltb-true e.start x k)))
          (front_step (t e) e all below above (cut_at x t e.end es r.3))
      | false ↦ λ k. let h : x ≤ e.start = ltb-false e.start x k in
          subst (λ s. cond (t e) (e ∷ all) all ≡ cond (false && t e) (e ∷ below) below ++ cond (s && t e) (e ∷ above) above) (sym (le-leb x e.start h))
          (back_step (t e) e all below above (none_below x t e.end es r.3 (let b = r.1 in omega arith)) (all_above x t e.end es r.3 (let b = r.1 in omega arith)))
    ] refl

pub and_false : (t : Bool) → (t && false) ≡ false
and_false true = refl
and_false false = refl

-- at a boundary a bound on ends adds nothing
bound_idle : (x place : ℕ) (e : Entry) (t : Bool) → (e.start < x → e.end ≤ x) → x ≤ place → (nat_lt e.start x && (t && nat_le e.end place)) ≡ (t && nat_lt e.start x)
bound_idle x place e t b h =
    elim (nat_lt e.start x) as (λ s. nat_lt e.start x ≡ s → (s && (t && nat_le e.end place)) ≡ (t && s)) [
      | true ↦ λ k. let f = b (ltb-true e.start x k) in ap (λ s. t && s) (le-leb e.end place (omega arith))
      | false ↦ λ k. sym (and_false t)
    ] refl

pub before_boundary : (x place : ℕ) (es : List Entry) → IsBoundary x es → x ≤ place → filter (λ e. nat_lt e.start x && nat_le e.end place) es ≡ filter (λ e. nat_lt e.start x) es
before_boundary x place [] b h = refl
before_boundary x place (e ∷ es) b h =
    let same = bound_idle x place e true b.0 h in let rest = before_boundary x place es b.1 h in cc

pub window_boundary : (from to place : ℕ) (es : List Entry) → IsBoundary to es → to ≤ place → filter (λ e. nat_lt e.start to && (nat_le from e.start && nat_le e.end place)) es ≡ window es from to
window_boundary from to place [] b h = refl
window_boundary from to place (e ∷ es) b h =
    let same = bound_idle to place e (nat_le from e.start) b.0 h in let rest = window_boundary from to place es b.1 h in cc

-- entries that are left out leave the others orderly
lower : (a b : ℕ) (es : List Entry) → a ≤ b → IsOrderly b es → IsOrderly a es
lower a b [] h r = tt
lower a b (e ∷ es) h r = (let k = r.0 in omega arith, r.1, r.2, r.3)

pub rising_filter : (p : Entry → Bool) (last : ℕ) (es : List Entry) → IsOrderly last es → IsOrderly last (filter p es)
rising_filter p last [] r = tt
rising_filter p last (e ∷ es) r =
    let rest = rising_filter p e.end es r.3 in
    elim (p e) as (λ b. IsOrderly last (cond b (e ∷ filter p es) (filter p es))) [ true ↦ (r.0, r.1, r.2, rest) | false ↦ lower last e.end (filter p es) (let a = r.0 in let b = r.1 in omega arith) rest ]

pub rising_from : (p : Entry → Bool) (x last : ℕ) (es : List Entry) → ((e : Entry) → p e ≡ true → x ≤ e.start) → IsOrderly last es → IsOrderly x (filter p es)
rising_from p x last [] above r = tt
rising_from p x last (e ∷ es) above r =
    elim (p e) as (λ b. p e ≡ b → IsOrderly x (cond b (e ∷ filter p es) (filter p es))) [ true ↦ λ k. (above e k, r.1, r.2, rising_filter p e.end es r.3) | false ↦ λ k. rising_from p x e.end es above r.3 ] refl

pub all_end_by : (p : Entry → Bool) (x : ℕ) (es : List Entry) → ((e : Entry) → p e ≡ true → e.start < x) → IsBoundary x es → AllEndBy x (filter p es)
all_end_by p x [] below b = All-nil (λ (e : Entry). e.end ≤ x)
all_end_by p x (e ∷ es) below b =
    let rest = all_end_by p x es below b.1 in
    elim (p e) as (λ c. p e ≡ c → AllEndBy x (cond c (e ∷ filter p es) (filter p es))) [ true ↦ λ k. All-cons (λ (d : Entry). d.end ≤ x) e (filter p es) (b.0 (below e k)) rest | false ↦ λ k. rest ] refl

-- what holds of all entries holds of each
pub all_at : (P : Entry → Type 0) (before : List Entry) (e : Entry) (later : List Entry) → All P (before ++ (e ∷ later)) → P e
all_at P [] e later all = all_first P e later all
all_at P (x ∷ before) e later all = all_at P before e later (all_rest P x (before ++ (e ∷ later)) all)

-- where an entry of a filtered list stands in the list
pub record IsFoundIn (p : Entry → Bool) (es front : List Entry) (e : Entry) : Type 0 where
  pub before : List Entry
  pub later : List Entry
  pub split : es ≡ before ++ (e ∷ later)
  pub kept : filter p before ≡ front
  pub passes : p e ≡ true

pub first_of_lists : (x y : Entry) (xs ys : List Entry) → ◌≡◌ {A = List Entry} (x ∷ xs) (y ∷ ys) → (x ≡ y) × (xs ≡ ys)
first_of_lists x y xs ys e = (cc, cc)

pub found_in : (p : Entry → Bool) (es front : List Entry) (e : Entry) (back : List Entry) → filter p es ≡ front ++ (e ∷ back) → IsFoundIn p es front e
found_in p [] [] e back h = absurd cc
found_in p [] (y ∷ front) e back h = absurd cc
found_in p (x ∷ es) front e back h =
    elim (p x) as (λ b. p x ≡ b → cond b (x ∷ filter p es) (filter p es) ≡ front ++ (e ∷ back) → IsFoundIn p (x ∷ es) front e) [
      | true ↦ λ k g. elim front as (λ f. x ∷ filter p es ≡ f ++ (e ∷ back) → IsFoundIn p (x ∷ es) f e) [
        | [] ↦ λ i. let s = first_of_lists x e (filter p es) back i in record { before = []; later = es; split = ap (λ (d : Entry). d ∷ es) s.0; kept = refl; passes = sym (ap p s.0) ∙ k }
        | y ∷ rest ↦ λ i. let s = first_of_lists x y (filter p es) (rest ++ (e ∷ back)) i in
            let f = found_in p es rest e back s.1 in
            record {
              before = x ∷ f.before;
              later = f.later;
              split = ap (λ (l : List Entry). x ∷ l) f.split;
              kept = ap (λ b. cond b (x ∷ filter p f.before) (filter p f.before)) k ∙ ap (λ (l : List Entry). x ∷ l) f.kept ∙ ap (λ (d : Entry). d ∷ rest) s.0;
              passes = f.passes;
            }
      ] g
      | false ↦ λ k g. let f = found_in p es front e back g in
          record { before = x ∷ f.before; later = f.later; split = ap (λ (l : List Entry). x ∷ l) f.split; kept = ap (λ b. cond b (x ∷ filter p f.before) (filter p f.before)) k ∙ f.kept; passes = f.passes }
    ] refl h
