-- The records of the machine's WAL tell of what stays what its entries do.
use Rattle.std.proofs.Common.{◌≡◌, arith, ℕ, ◌<◌, ◌≤◌, Bool, true, false, cond, ◌||◌, true≢false, List, [], ◌∷◌, ◌++◌, map, Some, refl, sym, ap, subst, ◌∙◌, eqb-true, append-nil}
use Rattle.std.specs.Prelude.{◌==◌, nat_lt, nat_le}
use Rattle.std.specs.List.{All, list_any, filter}
use Rattle.std.specs.FinMap.{empty}
use Rattle.std.proofs.lemmas.Bool.{ltb-true, ltb-false, le-leb, lt-leb, or_left}
use Rattle.std.proofs.lemmas.List.{map-append}
use Rattle.std.proofs.lemmas.List.Elements.{filter-append, All-nil, All-cons}
use Rattle.std.proofs.lemmas.List.Folds.{list_any-append}
use Rattle.lsn_core.specs.declared.ids.ForkId.{ForkId}
use Rattle.lsn_core.specs.Files.{Files}
use Rattle.lsn_core.specs.Store.{Store}
use Rattle.wal_record.specs.declared.record.Record.{Record}
use Rattle.history.specs.Entry.{Act, Create, Truncate, Change, Drop, Mark, Entry}
use Rattle.history.specs.Apply.{apply_all}
use Rattle.history.specs.Whole.{entry_of}
use Rattle.history.specs.Written.{Before, behind, written, next_record, wal_of}
use Rattle.history.specs.Laws.{AreWrittenInPlace}
use Rattle.history.proofs.Stores.{by_test}
use Rattle.history.proofs.Pushes.{all_first, all_rest}
use Rattle.history.specs.fuzzy_copies.Touches.{resets, settles}
use Rattle.history.specs.fuzzy_copies.Orderly.{IsOrderly}
use Rattle.history.specs.fuzzy_copies.Sound.{state_before, entries_before}
use Rattle.history.specs.fuzzy_copies.Taken.{since}
use Rattle.history.specs.fuzzy_copies.Logged.{history_of, found_before, log_of, StartInPlace, AreLogged}
use Rattle.history.proofs.fuzzy_copies.Logged.{said_act, act_back, act_resets, act_settles_same}
use Rattle.history.proofs.fuzzy_copies.ReadBack.{log_is_written}
use Rattle.history.proofs.fuzzy_copies.Ranges.{IsBoundary, boundary_start}
use Rattle.history.proofs.fuzzy_copies.Records.{filter_entries}
use Rattle.history.proofs.fuzzy_copies.Repeats.{kind_fresh}
use Rattle.history.proofs.fuzzy_copies.Restored.{logs_whole}
use Rattle.history.proofs.fuzzy_copies.Taken.{none_early}
use Rattle.store_core.specs.State.{State, first_record, records_of}
use Rattle.store_core.proofs.Runs.{IsRun, first}
use Rattle.stop_areas.proofs.Held.{less_stays}
use Rattle.stop_laws.specs.Window.{window_base}
use Rattle.core_stops.specs.Survivors.{act_names, names, IsLeftForAll, IsLeftForRecords}
use Rattle.core_stops.proofs.Kept.{second_empty}

-- ---- entries as they are written

-- a record's entry stands where the entry does that it was written for, changes and settles the same, and names the same redo point
record IsWrittenAs (e l : Entry) : Type 0 where
  start : l.start ≡ e.start
  end : l.end ≡ e.end
  same : (fork : ForkId) (block : ℕ) → resets fork block l ≡ resets fork block e
  settled : (fork : ForkId) → settles fork l ≡ settles fork e
  named : (from : ℕ) → names from l ≡ names from e

abbrev AreWrittenAs : List Entry → List Record → Type 0
AreWrittenAs [] [] = Unit {0}
AreWrittenAs [] (r ∷ rs) = ⊥
AreWrittenAs (e ∷ es) [] = ⊥
AreWrittenAs (e ∷ es) (r ∷ rs) = IsWrittenAs e (entry_of r) × AreWrittenAs es rs

said_names : (store : Store) (redo from : ℕ) (act : Act) → act_names from (said_act store redo act) ≡ act_names from act
said_names store redo from (Create made) = refl
said_names store redo from (Truncate rel count) = refl
said_names store redo from (Change items) = refl
said_names store redo from (Drop []) = refl
said_names store redo from (Drop (rel ∷ rels)) = refl
said_names store redo from (Mark marking) = refl

own_as : (mib : ℕ) (b : Before) (own : List Entry) → StartInPlace mib b own → AreWrittenInPlace mib b own → AreWrittenAs own (written mib b own)
own_as mib b [] starts placed = tt
own_as mib b (e ∷ es) starts placed =
    let r : Record = next_record mib b e.act in
    let more : List Record = written mib (behind b e) es in
    let fresh = placed.1.1.1.0.0 in
    subst (λ (c : Bool). AreWrittenAs (e ∷ es) (cond c (r ∷ more) more)) (sym placed.0) (
      record {
        start = sym starts.0;
        end = sym placed.1.0;
        same = λ fork block. act_resets b.store b.tip.redo fork block e.act fresh;
        settled = λ fork. act_settles_same b.store b.tip.redo fork e.act fresh;
        named = λ from. ap (act_names from) (act_back b.store b.tip.redo e.act fresh) ∙ said_names b.store b.tip.redo from e.act;
      },
      own_as mib (behind b e) es starts.1 placed.1.1.1.1,
    )

log_as : (mib : ℕ) (own : List Entry) → AreLogged mib (first mib) own → AreWrittenAs (history_of (first mib) own) (log_of mib (first mib) own)
log_as mib own logged =
    subst (AreWrittenAs (history_of (first mib) own)) (sym (log_is_written mib (first mib) own))
    (record { start = refl; end = refl; same = λ fork block. refl; settled = λ fork. refl; named = λ from. refl }, own_as mib (found_before mib (first mib)) own logged.starts logged.written)

-- ---- what they tell

abbrev Tells : (Entry → Bool) → Type 0
Tells t = (e l : Entry) → IsWrittenAs e l → t l ≡ t e

any_as : (t : Entry → Bool) → Tells t → (es : List Entry) (rs : List Record) → AreWrittenAs es rs → list_any t (map entry_of rs) ≡ list_any t es
any_as t tells [] [] told = refl
any_as t tells [] (r ∷ rs) told = absurd told
any_as t tells (e ∷ es) [] told = absurd told
any_as t tells (e ∷ es) (r ∷ rs) told = ap (λ (b : Bool). b || list_any t (map entry_of rs)) (tells e (entry_of r) told.0) ∙ ap (λ (b : Bool). t e || b) (any_as t tells es rs told.1)

since_as : (from : ℕ) (t : Entry → Bool) → Tells t → (es : List Entry) (rs : List Record) → AreWrittenAs es rs → list_any t (since from (map entry_of rs)) ≡ list_any t (since from es)
since_as from t tells [] [] told = refl
since_as from t tells [] (r ∷ rs) told = absurd told
since_as from t tells (e ∷ es) [] told = absurd told
since_as from t tells (e ∷ es) (r ∷ rs) told =
    let rest = since_as from t tells es rs told.1 in
    let l = entry_of r in
    ap (λ (n : ℕ). list_any t (cond (nat_le from n) (l ∷ since from (map entry_of rs)) (since from (map entry_of rs)))) told.0.start ∙ either (nat_le from e.start) rest (tells e l told.0)
  where
    either : (b : Bool) → list_any t (since from (map entry_of rs)) ≡ list_any t (since from es) → t (entry_of r) ≡ t e
        → list_any t (cond b (entry_of r ∷ since from (map entry_of rs)) (since from (map entry_of rs))) ≡ list_any t (cond b (e ∷ since from es) (since from es))
    either true rest here = ap (λ (c : Bool). c || list_any t (since from (map entry_of rs))) here ∙ ap (λ (c : Bool). t e || c) rest
    either false rest here = rest

-- the first records are those of the first entries
record AreFirstOf (es : List Entry) (front back : List Record) : Type 0 where
  kept : List Entry
  lost : List Entry
  parts : es ≡ kept ++ lost
  kept_as : AreWrittenAs kept front
  lost_as : AreWrittenAs lost back

first_of : (es : List Entry) (front back : List Record) → AreWrittenAs es (front ++ back) → AreFirstOf es front back
first_of es [] back told = record { kept = []; lost = es; parts = refl; kept_as = tt; lost_as = told }
first_of [] (r ∷ front) back told = absurd told
first_of (e ∷ es) (r ∷ front) back told =
    let rest = first_of es front back told.1 in
    record { kept = e ∷ rest.kept; lost = rest.lost; parts = ap (λ (l : List Entry). e ∷ l) rest.parts; kept_as = (told.0, rest.kept_as); lost_as = rest.lost_as }

ends_as : (flushed : ℕ) (es : List Entry) (rs : List Record) → AreWrittenAs es rs → All (λ r. flushed < r.end.0) rs → All (λ e. flushed < e.end) es
ends_as flushed [] [] told all = All-nil (λ (e : Entry). flushed < e.end)
ends_as flushed [] (r ∷ rs) told all = absurd told
ends_as flushed (e ∷ es) [] told all = absurd told
ends_as flushed (e ∷ es) (r ∷ rs) told all =
    All-cons (λ (x : Entry). flushed < x.end) e es (subst (λ (n : ℕ). flushed < n) told.0.end (all_first (λ (x : Record). flushed < x.end.0) r rs all)) (ends_as flushed es rs told.1 (all_rest (λ (x : Record). flushed < x.end.0) r rs all))

rise_as : (last : ℕ) (es : List Entry) (rs : List Record) → AreWrittenAs es rs → IsOrderly last es → IsOrderly last (map entry_of rs)
rise_as last [] [] told rise = tt
rise_as last [] (r ∷ rs) told rise = absurd told
rise_as last (e ∷ es) [] told rise = absurd told
rise_as last (e ∷ es) (r ∷ rs) told rise =
    let start = told.0.start in
    let end = told.0.end in
    let a = rise.0 in
    let b = rise.1 in (
      omega (arith, a, start),
      omega (arith, b, start, end),
      kind_fresh r.kind,
      subst (λ (n : ℕ). IsOrderly n (map entry_of rs)) (sym end) (rise_as e.end es rs told.1 rise.3),
    )

-- ---- the store at a place where an entry starts

ended_before : (x last : ℕ) (es : List Entry) → IsOrderly last es → IsBoundary x es → entries_before es x ≡ filter (λ e. nat_le e.end x) es
ended_before x last [] r b = refl
ended_before x last (e ∷ es) r b =
    let rest = ended_before x e.end es r.3 b.1 in
    by_test (nat_lt e.start x)
    (λ below.
    ap (λ (c : Bool). cond c (e ∷ entries_before es x) (entries_before es x)) below ∙ ap (λ (l : List Entry). e ∷ l) rest
    ∙ sym (ap (λ (c : Bool). cond c (e ∷ filter (λ (d : Entry). nat_le d.end x) es) (filter (λ (d : Entry). nat_le d.end x) es)) (le-leb e.end x (b.0 (ltb-true e.start x below)))))
    (λ past.
    ap (λ (c : Bool). cond c (e ∷ entries_before es x) (entries_before es x)) past ∙ rest
    ∙ sym (ap (λ (c : Bool). cond c (e ∷ filter (λ (d : Entry). nat_le d.end x) es) (filter (λ (d : Entry). nat_le d.end x) es)) (lt-leb e.end x (less (ltb-false e.start x past)))))
  where
    less : x ≤ e.start → x < e.end
    less h = let c = r.1 in omega (arith, h, c)

none_behind_start : (from last : ℕ) (xs ys : List Entry) → IsOrderly last (xs ++ ys) → list_any (λ e. e.start == from) xs ≡ true → entries_before ys from ≡ []
none_behind_start from last [] ys rise some = absurd (true≢false (sym some))
none_behind_start from last (x ∷ xs) ys rise some =
    by_test (x.start == from)
    (λ here. second_empty (entries_before xs from) (entries_before ys from) (sym (filter-append (λ (e : Entry). nat_lt e.start from) xs ys) ∙ none_early from x.end (xs ++ ys) rise.3 (reach (eqb-true x.start from here))))
    (λ away. none_behind_start from x.end xs ys rise.3 (sym (ap (λ (b : Bool). b || list_any (λ e. e.start == from) xs) away) ∙ some))
  where
    reach : x.start ≡ from → from ≤ x.end
    reach is = let long = rise.1 in omega (arith, is, long)

before_front : (from : ℕ) (xs ys : List Entry) → IsOrderly 0 (xs ++ ys) → list_any (λ e. e.start == from) xs ≡ true → state_before (xs ++ ys) from ≡ state_before xs from
before_front from xs ys rise some =
    ap (apply_all empty) (filter-append (λ (e : Entry). nat_lt e.start from) xs ys ∙ ap (λ (l : List Entry). entries_before xs from ++ l) (none_behind_start from 0 xs ys rise some) ∙ append-nil (entries_before xs from))

starts_tell : (from : ℕ) → Tells (λ e. e.start == from)
starts_tell from e l told = ap (λ (n : ℕ). n == from) told.start

-- ---- the law

module _ (q relseg mib flushed : ℕ) (own : List Entry) (now : Store) (files : Files) (rise : IsOrderly 0 (history_of (first mib) own)) (logged : AreLogged mib (first mib) own) (made : apply_all empty (history_of (first mib) own) ≡ Some now)
    (left : IsLeftForAll q relseg (history_of (first mib) own) flushed files) where
  abbrev history : List Entry
  history = history_of (first mib) own

  abbrev records : List Record
  records = log_of mib (first mib) own

  -- the WAL's records and the entries make the same store at a place where one starts
  same_before : (from : ℕ) → list_any (λ e. e.start == from) (map entry_of records) ≡ true → state_before (map entry_of records) from ≡ state_before history from
  same_before from starts =
      let told = log_as mib own logged in
      let back = rise_as 0 history records told rise in
      let own_starts : list_any (λ e. e.start == from) history ≡ true = sym (any_as (λ e. e.start == from) (starts_tell from) history records told) ∙ starts in
      ap (apply_all empty) (ended_before from 0 (map entry_of records) back (boundary_start from 0 (map entry_of records) back starts))
      ∙ ap (apply_all empty) (filter_entries (λ e. nat_le e.end from) (λ r. nat_le r.end.0 from) (λ r. refl) records)
      ∙ logs_whole mib (first mib) own now from rise logged made
      ∙ ap (apply_all empty) (sym (ended_before from 0 history rise (boundary_start from 0 history rise own_starts)))

  pub records_left : IsLeftForRecords q relseg records flushed files
  records_left front back from base parts late named starts there =
      let told = log_as mib own logged in
      let f = first_of history front back (subst (AreWrittenAs history) parts told) in
      let back_rise = subst (IsOrderly 0) (ap (map entry_of) parts ∙ map-append entry_of front back) (rise_as 0 history records told rise) in
      let all_starts : list_any (λ e. e.start == from) (map entry_of records) ≡ true =
      ap (list_any (λ e. e.start == from)) (ap (map entry_of) parts ∙ map-append entry_of front back) ∙ (list_any-append (λ e. e.start == from) (map entry_of front) (map entry_of back) ∙ or_left (list_any (λ e. e.start == from) (map entry_of front)) (list_any (λ e. e.start == from) (map entry_of back)) starts) in
      let kept_starts : list_any (λ e. e.start == from) f.kept ≡ true = sym (any_as (λ e. e.start == from) (starts_tell from) f.kept front f.kept_as) ∙ starts in
      let same : state_before f.kept from ≡ Some base =
      sym (ap (λ (l : List Entry). state_before l from) f.parts ∙ before_front from f.kept f.lost (subst (IsOrderly 0) f.parts rise) kept_starts)
      ∙ (sym (same_before from all_starts)
      ∙ (ap (λ (l : List Entry). state_before l from) (ap (map entry_of) parts ∙ map-append entry_of front back) ∙ (before_front from (map entry_of front) (map entry_of back) back_rise starts ∙ there))) in
      let kept_names : list_any (names from) f.kept ≡ true = sym (any_as (names from) (λ e l w. w.named from) f.kept front f.kept_as) ∙ named in
      less_stays relseg (window_base q from f.kept base) (window_base q from (map entry_of front) base) files
      (record {
        ours = refl;
        store = refl;
        changed = λ fork block none. sym (since_as from (resets fork block) (λ e l w. w.same fork block) f.kept front f.kept_as) ∙ none;
        settled = λ fork none. sym (since_as from (settles fork) (λ e l w. w.settled fork) f.kept front f.kept_as) ∙ none;
      })
      (left f.kept from base (record { lost = f.lost; parts = f.parts; late = ends_as flushed f.lost back f.lost_as late }) kept_names same)

-- of a machine
pub machine_records : (s : State) (q relseg flushed : ℕ) (files : Files) (run : IsRun s.mib s.history) → IsLeftForAll q relseg s.history flushed files → IsLeftForRecords q relseg (records_of s) flushed files
machine_records s q relseg flushed files run left =
    subst (λ (h : List Entry). IsLeftForRecords q relseg (first_record s.mib ∷ wal_of s.mib h) flushed files) (sym run.grown)
    (records_left q relseg s.mib flushed run.own run.store files (subst (IsOrderly 0) run.grown run.orderly) run.logged (ap (apply_all empty) (sym run.grown) ∙ run.made)
    (subst (λ (h : List Entry). IsLeftForAll q relseg h flushed files) run.grown left))
