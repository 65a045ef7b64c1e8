-- Summaries that a stop left are honest for the entries that survived.
use Rattle.std.proofs.Common.{◌≡◌, ℕ, ◌<◌, ◌≤◌, ◌⊎◌, Bool, true, cond, ◌==◌, List, [], ◌∷◌, ◌++◌, map, append-nil, sym, ap, subst, ◌∙◌, arith, inl, inr}
use Rattle.std.specs.List.{list_any}
use Rattle.std.proofs.lemmas.Bool.{or_cases, or_left, or_right, eqb-true}
use Rattle.std.proofs.lemmas.List.{map-append}
use Rattle.std.proofs.lemmas.List.Elements.{filter-append}
use Rattle.lsn_core.specs.Files.{Files}
use Rattle.wal_record.specs.declared.record.Record.{Record}
use Rattle.history.specs.Entry.{Entry}
use Rattle.history.specs.Laws.{AreWrittenInPlace}
use Rattle.history.specs.Whole.{entry_of}
use Rattle.history.specs.Written.{Before, behind, next_record, wal_of, written}
use Rattle.history.specs.fuzzy_copies.Logged.{history_of, found_before, log_of, StartInPlace, AreLogged}
use Rattle.history.specs.fuzzy_copies.Orderly.{IsOrderly, RecordsRise}
use Rattle.history.specs.fuzzy_copies.Sound.{is_in, window}
use Rattle.history.specs.fuzzy_copies.Summary.{table_of, summed}
use Rattle.history.proofs.fuzzy_copies.ReadBack.{log_is_written}
use Rattle.history.proofs.fuzzy_copies.Repeats.{kind_fresh}
use Rattle.journal.specs.Lawful.{IsLawful}
use Rattle.journal.proofs.Stands.{lawful_orderly}
use Rattle.wal_summary.specs.declared.summary.Summary.{Summary}
use Rattle.wal_summary.specs.Summary.{IsSummary}
use Rattle.summary_store.specs.Honest.{is_redo_start, is_redo_point, IsHonest, IsHonestSummary}
use Rattle.shared_summaries.proofs.summary_publish.Honest.{redo_below}
use Rattle.shared_summaries.proofs.summary_publish.Ranges.{stop, stop_later, orderly_front, orderly_behind, none_past}
use Rattle.store_restart.specs.Survivors.{has_start}
use Rattle.run_command.proofs.OwnEntries.{AreOwn}
use Rattle.backup_laws.specs.Stops.{KeepsOrPublishes}
use Rattle.backup_laws.proofs.SoundRuns.{log_alike}
use Rattle.backup_laws.proofs.Survived.{summary_on}
use Rattle.backup_laws.proofs.OwnLeft.{summary_read}

-- ---- entries that start at a place

abbrev starts_at : ℕ → Entry → Bool
starts_at place e = e.start == place

any_parts : (t : Entry → Bool) (xs ys : List Entry) → list_any t (xs ++ ys) ≡ true → (list_any t xs ≡ true) ⊎ (list_any t ys ≡ true)
any_parts t [] ys is = inr is
any_parts t (x ∷ xs) ys is = elim (or_cases (t x) (list_any t (xs ++ ys)) is) [
  | inl here ↦ inl (or_left (t x) (list_any t xs) here)
  | inr more ↦ elim (any_parts t xs ys more) [ inl front ↦ inl (or_right (t x) (list_any t xs) front) | inr later ↦ inr later ]
]

-- the same of records, of which more come behind
starts_on : (place : ℕ) (rs more : List Record) → has_start rs place ≡ true → list_any (starts_at place) (map entry_of (rs ++ more)) ≡ true
starts_on place [] more is = absurd cc
starts_on place (r ∷ rs) more is = elim (or_cases (r.start.0 == place) (has_start rs place) is) [
  | inl here ↦ or_left (r.start.0 == place) (list_any (starts_at place) (map entry_of (rs ++ more))) here
  | inr later ↦ or_right (r.start.0 == place) (list_any (starts_at place) (map entry_of (rs ++ more))) (starts_on place rs more later)
]

-- one that starts there ends past it
start_below : (low place : ℕ) (es : List Entry) → IsOrderly low es → list_any (starts_at place) es ≡ true → place < stop low es
start_below low place [] order is = absurd cc
start_below low place (e ∷ es) order is =
    let up : e.start < e.end = order.1 in
    elim (or_cases (e.start == place) (list_any (starts_at place) es) is) [
      | inl here ↦ (let later : e.end ≤ stop e.end es = stop_later e.end es order.3 in omega (arith, up, later, eqb-true e.start place here))
      | inr more ↦ start_below e.end place es order.3 more
    ]

-- ---- what is honest for entries is so for the first of them, if one of these starts where it ends

point_back : (place : ℕ) (es more : List Entry) → IsOrderly 0 (es ++ more) → place < stop 0 es → is_redo_point (es ++ more) place ≡ true → is_redo_point es place ≡ true
point_back place [] more order below is = absurd (omega (arith, below))
point_back place (e ∷ es) more order below is =
    let t : Entry → Bool = is_redo_start place in
    elim (or_cases (e.start == place) (list_any t ((e ∷ es) ++ more)) is) [
      | inl here ↦ or_left (e.start == place) (list_any t (e ∷ es)) here
      | inr redo ↦ elim (any_parts t (e ∷ es) more redo) [
        | inl front ↦ or_right (e.start == place) (list_any t (e ∷ es)) front
        | inr later ↦
            let past : stop 0 (e ∷ es) ≤ place = (redo_below (stop 0 (e ∷ es)) place more (orderly_behind 0 (e ∷ es) more order) later).0 in
            absurd (omega (arith, past, below))
      ]
    ]

summary_back : (es more : List Entry) (sum : Summary) → IsOrderly 0 (es ++ more) → list_any (starts_at sum.end.0) es ≡ true → sum.start.0 < sum.end.0 → IsHonestSummary (es ++ more) sum → IsHonestSummary es sum
summary_back es more sum order there less honest =
    let from : ℕ = sum.start.0 in
    let to : ℕ = sum.end.0 in
    let below : to < stop 0 es = start_below 0 to es (orderly_front 0 es more order) there in
    let none : window more from to ≡ [] = none_past from to (stop 0 es) more (omega (arith, below)) (orderly_behind 0 es more order) in
    record {
      starts = point_back from es more order (omega (arith, below, less)) honest.starts;
      ends = point_back to es more order below honest.ends;
      says = subst (λ (l : List Entry). IsSummary (summed (map table_of l)) sum.forks)
          (filter-append (is_in from to) es more ∙ ap (λ (l : List Entry). window es from to ++ l) none ∙ append-nil (window es from to))
          honest.says;
    }

-- ---- the entries of a log are in order

own_rise : (last mib : ℕ) (b : Before) (own : List Entry) → StartInPlace mib b own → AreWrittenInPlace mib b own → IsOrderly last own → IsOrderly last (map entry_of (written mib b own))
own_rise last mib b [] starts placed order = tt
own_rise last mib b (e ∷ es) starts placed order =
    let r : Record = next_record mib b e.act in
    let more : List Record = written mib (behind b e) es in
    let start : e.start ≡ r.start.0 = starts.0 in
    let end : e.end ≡ r.end.0 = placed.1.0 in
    subst (λ c. IsOrderly last (map entry_of (cond c (r ∷ more) more))) (sym placed.0) (
      omega (arith, order.0, start),
      omega (arith, order.1, start, end),
      kind_fresh r.kind,
      subst (λ (n : ℕ). IsOrderly n (map entry_of more)) end (own_rise e.end mib (behind b e) es starts.1 placed.1.1.1.1 order.3),
    )

rise_with : (last : ℕ) (es xs ys : List Entry) → ((n : ℕ) → IsOrderly n xs → IsOrderly n ys) → IsOrderly last (es ++ xs) → IsOrderly last (es ++ ys)
rise_with last [] xs ys with order = with last order
rise_with last (e ∷ es) xs ys with order = (order.0, order.1, order.2, rise_with e.end es xs ys with order.3)

log_orderly : (mib : ℕ) (found : List Record) (own : List Entry) → AreLogged mib found own → IsOrderly 0 (history_of found own) → IsOrderly 0 (map entry_of (log_of mib found own))
log_orderly mib found own logged order =
    let b : Before = found_before mib found in
    let ls : List Entry = map entry_of (written mib b own) in
    let parts : map entry_of (log_of mib found own) ≡ map entry_of found ++ ls = ap (map entry_of) (log_is_written mib found own) ∙ map-append entry_of found (written mib b own) in
    subst (IsOrderly 0) (sym parts) (rise_with 0 (map entry_of found) own ls (λ n rise. own_rise n mib b own logged.starts logged.written rise) order)

-- ---- what a stop left

module _ (mib : ℕ) (found : List Record) (own history : List Entry) (law : IsLawful mib history) (grown : history ≡ map entry_of found ++ own) (owns : AreOwn own) where
  -- a summary that is honest for a history and ends where one of the records starts that survived
  published_left : (records lost flushed rest : List Record) (sum : Summary) → found ++ wal_of mib history ≡ records ++ lost → records ≡ flushed ++ rest → has_start flushed sum.end.0 ≡ true → sum.start.0 < sum.end.0 → IsHonestSummary history sum → IsHonestSummary (map entry_of records) sum
  published_left records lost flushed rest sum all is starts less honest =
      let log : List Entry = map entry_of (log_of mib law.found law.own) in
      let parts : log ≡ map entry_of records ++ map entry_of lost = log_alike mib found own history law grown owns ∙ (ap (map entry_of) all ∙ map-append entry_of records lost) in
      let order : IsOrderly 0 log = log_orderly mib law.found law.own law.logged (subst (IsOrderly 0) law.grown (lawful_orderly mib history law)) in
      let read : IsHonestSummary log sum = summary_read mib law.found law.own sum law.some law.logged (subst (λ (es : List Entry). IsHonestSummary es sum) law.grown honest) in
      let there : list_any (starts_at sum.end.0) (map entry_of records) ≡ true =
      subst (λ (rs : List Record). list_any (starts_at sum.end.0) (map entry_of rs) ≡ true) (sym is) (starts_on sum.end.0 flushed rest starts) in
      summary_back (map entry_of records) (map entry_of lost) sum (subst (IsOrderly 0) parts order) there less (subst (λ (es : List Entry). IsHonestSummary es sum) parts read)

  -- an area of summaries was honest for the entries that were found: what stands there now was there, or
  -- was published
  pub honest_left : (records lost more flushed rest : List Record) (old new : Files) → RecordsRise 0 records → found ++ wal_of mib history ≡ records ++ lost → records ≡ found ++ more → records ≡ flushed ++ rest → IsHonest (map entry_of found) old → KeepsOrPublishes history flushed old new → IsHonest (map entry_of records) new
  honest_left records lost more flushed rest old new rise all was is honest keeps = λ name bytes sum there named file.
      elim (keeps name bytes sum there named file) [
        | inl stood ↦ summary_on found more records sum rise was (honest name bytes sum stood named file)
        | inr so ↦ published_left records lost flushed rest sum all is so.1 file.writable.rises so.0
      ]
