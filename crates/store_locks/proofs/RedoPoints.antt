-- Redo points of a history, and what comes behind them.
use Rattle.std.proofs.Common.{◌≡◌, ℕ, ◌<◌, ◌≤◌, ◌&&◌, ◌||◌, Bool, true, false, cond, List, [], ◌∷◌, ◌++◌, length, Option, Some, is_some, refl, sym, ap, subst, ◌∙◌, arith}
use Rattle.std.specs.Prelude.{◌==◌}
use Rattle.std.specs.List.{list_any}
use Rattle.std.proofs.lemmas.Bool.{and_parts, eqb-true}
use Rattle.std.proofs.lemmas.List.Folds.{list_any-append}
use Rattle.lsn_core.specs.Tip.{Tip}
use Rattle.wal_record.specs.Tips.{first_tip}
use Rattle.wal_writer.specs.Log.{Log, IsLog}
use Rattle.history.specs.Entry.{Entry, is_of_run}
use Rattle.history.specs.Written.{is_redo, tip_past, tip_over, tip_of}
use Rattle.history.specs.fuzzy_copies.Orderly.{IsOrderly, AreOwnFrom}
use Rattle.history.specs.fuzzy_copies.Covers.{AreTidyFrom}
use Rattle.history.proofs.fuzzy_copies.Completed.{or_second}
use Rattle.history.proofs.fuzzy_copies.Taken.{any_weaker}
use Rattle.journal.specs.Lawful.{IsLawful}
use Rattle.journal.specs.Journal.{EndsWith}
use Rattle.journal.proofs.Stands.{lawful_orderly, own_places}
use Rattle.page_pool.specs.Facts.{history_end}
use Rattle.store_locks.specs.Copied.{is_redo_at, HasRedoPoint, RedoPointsStay, RedoPointsRun}
use Rattle.store_locks.proofs.Keeping.{end_at}

-- ---- an entry that passes a test

record Passes (p : Entry → Bool) (es : List Entry) : Type 0 where
  front : List Entry
  entry : Entry
  behind : List Entry
  split : es ≡ front ++ (entry ∷ behind)
  passes : p entry ≡ true

found : (p : Entry → Bool) (es : List Entry) → list_any p es ≡ true → Passes p es
found p [] any = absurd cc
found p (e ∷ es) any =
    elim (p e) as (λ b. p e ≡ b → Passes p (e ∷ es)) [
      | true ↦ λ is. record { front = []; entry = e; behind = es; split = refl; passes = is }
      | false ↦ λ not.
          let rest = found p es (or_second (p e) (list_any p es) any not) in
          record { front = e ∷ rest.front; entry = rest.entry; behind = rest.behind; split = ap (λ (l : List Entry). e ∷ l) rest.split; passes = rest.passes }
    ] refl

some_found : (p : Entry → Bool) (es : List Entry) → list_any p es ≡ true → 0 < length es
some_found p [] any = absurd cc
some_found p (e ∷ es) any = omega arith

starts_there : (place : ℕ) (e : Entry) → is_redo_at place e ≡ true → (e.start ≡ place) × (is_redo e.act ≡ true) × (is_of_run e ≡ true)
starts_there place e is =
    let own = and_parts ((e.start == place) && is_redo e.act) (is_of_run e) is in
    let redo = and_parts (e.start == place) (is_redo e.act) own.0 in
    (eqb-true e.start place redo.0, redo.1, own.1)

-- ---- from a redo point on

pub own_since : (mib place : ℕ) (history : List Entry) → IsLawful mib history → HasRedoPoint history place → AreOwnFrom place history × AreTidyFrom place history
own_since mib place history lawful has =
    let f = found (is_redo_at place) history has in
    let is = starts_there place f.entry f.passes in
    subst (λ (n : ℕ). AreOwnFrom n history × AreTidyFrom n history) is.0 (own_places mib history f.front f.behind f.entry lawful f.split is.2)

pub redo_runs : RedoPointsRun
redo_runs mib place history lawful has = record {
  orderly = lawful_orderly mib history lawful;
  store = lawful.store;
  defined = lawful.made;
  redo = any_weaker (λ (e : Entry). (e.start == place) && is_redo e.act) is_of_run history has;
  own = (own_since mib place history lawful has).0;
}

pub redo_stays : RedoPointsStay
redo_stays place old new has p =
    ap (list_any (is_redo_at place)) (sym p.1) ∙ (list_any-append (is_redo_at place) old p.0 ∙ ap (λ b. b || list_any (is_redo_at place) p.0) has)

some_own : (o : Option ℕ) (worker : ℕ) → o ≡ Some worker → is_some o ≡ true
some_own o worker e = ap (λ (x : Option ℕ). is_some x) e

all_three : (a b c : Bool) → a ≡ true → b ≡ true → c ≡ true → ((a && b) && c) ≡ true
all_three a b c e f g = rw (e, f, g) refl

any_second : (a b c : Bool) → b ≡ true → (a || (b || c)) ≡ true
any_second true b c e = refl
any_second false b c e = rw e refl

-- ---- the latest redo point

past_between : (b : Bool) (redo start end : ℕ) → redo ≤ start → start < end → (redo ≤ cond b start redo) × (cond b start redo ≤ end)
past_between true redo start end le lt = (omega (arith, le), omega (arith, lt))
past_between false redo start end le lt = (omega arith, omega (arith, le, lt))

rises : (tip : Tip) (last : ℕ) (es : List Entry) → tip.redo ≤ last → IsOrderly last es → tip.redo ≤ (tip_over tip es).redo
rises tip last [] le orderly = omega arith
rises tip last (e ∷ es) le orderly =
    let first = past_between ((tip.count == 0) || is_redo e.act) tip.redo e.start e.end (omega (arith, le, orderly.0)) orderly.1 in
    let rest = rises (tip_past tip e) e.end es first.1 orderly.3 in
    omega (arith, first.0, rest)

-- it is at or past each one
at_latest : (place : ℕ) (tip : Tip) (last : ℕ) (es : List Entry) → tip.redo ≤ last → IsOrderly last es → HasRedoPoint es place → place ≤ (tip_over tip es).redo
at_latest place tip last [] le orderly has = absurd cc
at_latest place tip last (e ∷ es) le orderly has =
    let first = past_between ((tip.count == 0) || is_redo e.act) tip.redo e.start e.end (omega (arith, le, orderly.0)) orderly.1 in
    elim (is_redo_at place e) as (λ b. is_redo_at place e ≡ b → place ≤ (tip_over tip (e ∷ es)).redo) [
      | true ↦ λ here.
          let is = starts_there place e here in
          let redo : (tip_past tip e).redo ≡ e.start = marks (tip.count == 0) (is_redo e.act) is.1 in
          let rest = rises (tip_past tip e) e.end es first.1 orderly.3 in
          omega (arith, is.0, redo, rest)
      | false ↦ λ not. at_latest place (tip_past tip e) e.end es first.1 orderly.3 (or_second (is_redo_at place e) (list_any (is_redo_at place) es) has not)
    ] refl
  where
    marks : (a b : Bool) → b ≡ true → cond (a || b) e.start tip.redo ≡ e.start
    marks true b is = refl
    marks false b is = ap (λ (c : Bool). cond c e.start tip.redo) is

pub redo_by_latest : (mib place : ℕ) (tip : Tip) (history : List Entry) → IsLawful mib history → tip ≡ tip_of mib history → HasRedoPoint history place → place ≤ tip.redo
redo_by_latest mib place tip history lawful is has =
    subst (λ (t : Tip). place ≤ t.redo) (sym is) (at_latest place (first_tip mib) 0 history (omega arith) (lawful_orderly mib history lawful) has)

pub latest_within : (log : Log) (history : List Entry) (place : ℕ) → IsLog log → EndsWith log history → HasRedoPoint history place → log.tip.redo ≤ history_end history
latest_within log history place is ends has = omega (arith, is.within.redo, ends.end, end_at log.mib history (some_found (is_redo_at place) history has))
