-- With a run's records the log follows the image rule still, from where replay starts on.
use Rattle.std.proofs.Common.{◌≡◌, ℕ, ◌<◌, ◌≤◌, ◌⊎◌, inl, inr, Bool, true, false, cond, true≢false, ◌&&◌, ◌||◌, List, [], ◌∷◌, ◌++◌, map, Option, Some, None, IfSome, refl, sym, ap, subst, ◌∙◌, arith, append_assoc, append-nil, eq-eqb}
use Rattle.std.specs.Prelude.{◌==◌, nat_le, nat_lt}
use Rattle.std.specs.List.{list_any}
use Rattle.std.specs.FinMap.{empty}
use Rattle.std.proofs.lemmas.Bool.{and_parts, and_from, or_left, or_right, leb-true, ltb-true, lt-ltb}
use Rattle.std.proofs.lemmas.List.{map-append}
use Rattle.std.proofs.lemmas.List.Elements.{All-nil, All-cons}
use Rattle.std.proofs.lemmas.List.Folds.{list_any-append}
use Rattle.lsn_core.specs.declared.ids.ForkId.{ForkId}
use Rattle.lsn_core.specs.declared.lsn.Lsn.{Lsn}
use Rattle.lsn_core.specs.Store.{Store}
use Rattle.wal_record.specs.declared.record.Kind.{Kind}
use Rattle.wal_record.specs.declared.record.Record.{Record}
use Rattle.history.specs.Entry.{Entry, is_of_run}
use Rattle.history.specs.Apply.{apply_all}
use Rattle.history.specs.Whole.{act_of, entry_of}
use Rattle.history.specs.Written.{Before, behind, is_redo, next_record, written, wal_of}
use Rattle.history.specs.Laws.{AreWrittenInPlace}
use Rattle.history.specs.fuzzy_copies.Touches.{act_patches, patches, resets}
use Rattle.history.specs.fuzzy_copies.Logged.{history_of, found_before, log_of, StartInPlace, AreLogged}
use Rattle.history.specs.fuzzy_copies.Orderly.{IsOrderly}
use Rattle.history.specs.fuzzy_copies.Sound.{state_before, window, is_in, IsSoundCopy, IsWrittenAsDelta}
use Rattle.history.specs.fuzzy_copies.Taken.{since}
use Rattle.history.proofs.Pushes.{all_first, all_rest}
use Rattle.history.proofs.Stores.{by_test}
use Rattle.history.proofs.fuzzy_copies.Completed.{or_second}
use Rattle.history.proofs.fuzzy_copies.Ranges.{start_behind}
use Rattle.history.proofs.fuzzy_copies.ReadBack.{log_is_written}
use Rattle.history.proofs.fuzzy_copies.Repeats.{kind_fresh}
use Rattle.history.proofs.fuzzy_copies.Replay.{applied_in_two}
use Rattle.history.proofs.fuzzy_copies.Restored.{logged_sound}
use Rattle.history.proofs.fuzzy_copies.Taken.{rest_rising, rising_front, two_parts}
use Rattle.history.proofs.fuzzy_copies.View.{middle}
use Rattle.restart_laws.specs.Restart.{DeltasFollow}
use Rattle.store_restart.specs.Survivors.{has_start, if_started, last_named, later_named, named_by, replay_start}
use Rattle.comeback_laws.specs.Restorable.{DeltasFollowRedo}
use Rattle.comeback_laws.proofs.Survived.{entries_start, starts_there}
use Rattle.stop_comebacks.specs.Deltas.{is_mark_at, IsRedoPlace, NameOwnPlaces}
use Rattle.stop_comebacks.specs.Laws.{FirstRecordsFollow, NewLogsFollow, RunsKeepDeltasFollowing}
use Rattle.stop_comebacks.proofs.Deltas.{own_delta, window_all}
use Rattle.stop_comebacks.proofs.Logs.{IsAlike, AreAlike, logs_alike, own_alike}
use Rattle.stop_comebacks.proofs.Survivors.{started_is}

-- ---- lists

record InFirst (xs ys before : List Entry) (e : Entry) (later : List Entry) : Type 0 where
  mid : List Entry
  all : xs ≡ before ++ (e ∷ mid)
  rest : later ≡ mid ++ ys

record InSecond (xs ys before : List Entry) (e : Entry) (later : List Entry) : Type 0 where
  front : List Entry
  before_is : before ≡ xs ++ front
  all : ys ≡ front ++ (e ∷ later)

first_of : (a b : Entry) (xs ys : List Entry) → ◌≡◌ {A = List Entry} (a ∷ xs) (b ∷ ys) → a ≡ b
first_of a b xs ys e = cc

rest_of : (a b : Entry) (xs ys : List Entry) → ◌≡◌ {A = List Entry} (a ∷ xs) (b ∷ ys) → xs ≡ ys
rest_of a b xs ys e = cc

split_at : (xs ys before : List Entry) (e : Entry) (later : List Entry) → xs ++ ys ≡ before ++ (e ∷ later) → InFirst xs ys before e later ⊎ InSecond xs ys before e later
split_at [] ys before e later is = inr (record { front = before; before_is = refl; all = is })
split_at (x ∷ xs) ys [] e later is =
    inl (record { mid = xs; all = ap (λ (y : Entry). y ∷ xs) (first_of x e (xs ++ ys) later is); rest = sym (rest_of x e (xs ++ ys) later is) })
split_at (x ∷ xs) ys (b ∷ before) e later is =
    let same : x ≡ b = first_of x b (xs ++ ys) (before ++ (e ∷ later)) is in
    elim (split_at xs ys before e later (rest_of x b (xs ++ ys) (before ++ (e ∷ later)) is)) [
      | inl f ↦ inl (record { mid = f.mid; all = ap (λ (y : Entry). y ∷ xs) same ∙ ap (λ (l : List Entry). b ∷ l) f.all; rest = f.rest })
      | inr f ↦ inr (record { front = f.front; before_is = ap (λ (l : List Entry). b ∷ l) f.before_is ∙ ap (λ (y : Entry). y ∷ (xs ++ f.front)) (sym same); all = f.all })
    ]

first_record : (a b : Record) (xs ys : List Record) → ◌≡◌ {A = List Record} (a ∷ xs) (b ∷ ys) → a ≡ b
first_record a b xs ys e = cc

rest_records : (a b : Record) (xs ys : List Record) → ◌≡◌ {A = List Record} (a ∷ xs) (b ∷ ys) → xs ≡ ys
rest_records a b xs ys e = cc

record Cut (found news records lost : List Record) : Type 0 where
  rest : List Record
  all : found ≡ records ++ rest

record On (found news records lost : List Record) : Type 0 where
  front : List Record
  all : records ≡ found ++ front
  rest : news ≡ front ++ lost

cut_or_on : (found news records lost : List Record) → found ++ news ≡ records ++ lost → Cut found news records lost ⊎ On found news records lost
cut_or_on [] news records lost is = inr (record { front = records; all = refl; rest = is })
cut_or_on (x ∷ found) news [] lost is = inl (record { rest = x ∷ found; all = refl })
cut_or_on (x ∷ found) news (r ∷ records) lost is =
    let same : x ≡ r = first_record x r (found ++ news) (records ++ lost) is in
    elim (cut_or_on found news records lost (rest_records x r (found ++ news) (records ++ lost) is)) [
      | inl c ↦ inl (record { rest = c.rest; all = ap (λ (y : Record). y ∷ found) same ∙ ap (λ (l : List Record). r ∷ l) c.all })
      | inr o ↦ inr (record { front = o.front; all = ap (λ (y : Record). y ∷ records) (sym same) ∙ ap (λ (l : List Record). x ∷ l) o.all; rest = o.rest })
    ]

same_rest : (xs ys zs : List Record) → xs ++ ys ≡ xs ++ zs → ys ≡ zs
same_rest [] ys zs e = e
same_rest (x ∷ xs) ys zs e = same_rest xs ys zs (rest_records x x (xs ++ ys) (xs ++ zs) e)

-- ---- a run's first entries

record Front (mib : ℕ) (b : Before) (own : List Entry) (front : List Record) : Type 0 where
  first : List Entry
  rest : List Entry
  all : own ≡ first ++ rest
  is : front ≡ written mib b first

front_of : (mib : ℕ) (b : Before) (own : List Entry) (front lost : List Record) → AreWrittenInPlace mib b own → written mib b own ≡ front ++ lost → Front mib b own front
front_of mib b own [] lost placed is = record { first = []; rest = own; all = refl; is = refl }
front_of mib b [] (x ∷ front) lost placed is = absurd (never is)
  where
    never : ◌≡◌ {A = List Record} [] (x ∷ (front ++ lost)) → ⊥
    never e = cc
front_of mib b (e ∷ es) (x ∷ front) lost placed is =
    let r : Record = next_record mib b e.act in
    let more : List Record = written mib (behind b e) es in
    let here : ◌≡◌ {A = List Record} (r ∷ more) (x ∷ (front ++ lost)) = sym (ap (λ (c : Bool). cond c (r ∷ more) more) placed.0) ∙ is in
    let f = front_of mib (behind b e) es front lost placed.1.1.1.1 (rest_records r x more (front ++ lost) here) in
    let told : List Record = written mib (behind b e) f.first in
    record {
      first = e ∷ f.first;
      rest = f.rest;
      all = ap (λ (l : List Entry). e ∷ l) f.all;
      is = ap (λ (y : Record). y ∷ front) (sym (first_record r x more (front ++ lost) here)) ∙ ap (λ (l : List Record). r ∷ l) f.is ∙ sym (ap (λ (c : Bool). cond c (r ∷ told) told) placed.0);
    }

start_front : (mib : ℕ) (b : Before) (xs ys : List Entry) → StartInPlace mib b (xs ++ ys) → StartInPlace mib b xs
start_front mib b [] ys starts = tt
start_front mib b (x ∷ xs) ys starts = (starts.0, start_front mib (behind b x) xs ys starts.1)

written_front : (mib : ℕ) (b : Before) (xs ys : List Entry) → AreWrittenInPlace mib b (xs ++ ys) → AreWrittenInPlace mib b xs
written_front mib b [] ys placed = tt
written_front mib b (x ∷ xs) ys placed = (placed.0, (placed.1.0, (placed.1.1.0, (placed.1.1.1.0, written_front mib (behind b x) xs ys placed.1.1.1.1))))

own_at : (mib : ℕ) (b : Before) (front : List Entry) (e : Entry) (later : List Entry) → AreWrittenInPlace mib b (front ++ (e ∷ later)) → is_of_run e ≡ true
own_at mib b [] e later placed = placed.0
own_at mib b (x ∷ front) e later placed = own_at mib (behind b x) front e later placed.1.1.1.1

-- ---- alike entries

any_alike : (t : Entry → Bool) → ((e l : Entry) → IsAlike e l → t l ≡ t e) → (es : List Entry) (rs : List Record) → AreAlike es rs → list_any t (map entry_of rs) ≡ list_any t es
any_alike t tells [] [] a = refl
any_alike t tells [] (r ∷ rs) a = absurd a
any_alike t tells (e ∷ es) [] a = absurd a
any_alike t tells (e ∷ es) (r ∷ rs) a = ap (λ (b : Bool). b || list_any t (map entry_of rs)) (tells e (entry_of r) a.0) ∙ ap (λ (b : Bool). t e || b) (any_alike t tells es rs a.1)

orderly_alike : (last : ℕ) (es : List Entry) (rs : List Record) → AreAlike es rs → IsOrderly last es → IsOrderly last (map entry_of rs)
orderly_alike last [] [] a h = tt
orderly_alike last [] (r ∷ rs) a h = absurd a
orderly_alike last (e ∷ es) [] a h = absurd a
orderly_alike last (e ∷ es) (r ∷ rs) a h =
    let s = a.0.start in
    let t = a.0.end in
    let first = h.0 in
    let long = h.1 in (
      omega (arith, s, first),
      omega (arith, s, t, long),
      kind_fresh r.kind,
      subst (λ n. IsOrderly n (map entry_of rs)) (sym t) (orderly_alike e.end es rs a.1 h.3),
    )

place_alike : (from : ℕ) (es : List Entry) (rs : List Record) → AreAlike es rs → IsRedoPlace from (map entry_of rs) → IsRedoPlace from es
place_alike from [] [] a place = place
place_alike from [] (r ∷ rs) a place = absurd a
place_alike from (e ∷ es) [] a place = absurd a
place_alike from (e ∷ es) (r ∷ rs) a (inl is) = inl (sym a.0.start ∙ is)
place_alike from (e ∷ es) (r ∷ rs) a (inr any) =
    inr (sym (any_alike (is_mark_at from) (λ x l k. ap (λ (n : ℕ). (n == from) && is_redo l.act) k.start ∙ ap (λ (b : Bool). (x.start == from) && b) k.redo) (e ∷ es) (r ∷ rs) a) ∙ any)

-- ---- where replay starts

named_on : (o : Option Lsn) (xs ys : List Record) → last_named o (xs ++ ys) ≡ last_named (last_named o xs) ys
named_on o [] ys = refl
named_on o (x ∷ xs) ys = named_on (later_named o (named_by x.kind)) xs ys

module _ (found : List Record) (from : Lsn) where
  abbrev Elsewhere : Type 0
  Elsewhere = has_start found from.0 ≡ false

  later_or : (o named : Option Lsn) → IfSome named (λ at. has_start found at.0 ≡ false) → later_named o named ≡ Some from → (o ≡ Some from) ⊎ Elsewhere
  later_or o None none is = inl is
  later_or o (Some at) none is = let same : at ≡ from = one at from is in inr (ap (λ (l : Lsn). has_start found l.0) (sym same) ∙ none)
    where
      one : (a b : Lsn) → Some a ≡ Some b → a ≡ b
      one a b e = cc

  named_or : (o : Option Lsn) (front : List Record) → NameOwnPlaces found front → last_named o front ≡ Some from → (o ≡ Some from) ⊎ Elsewhere
  named_or o [] names is = inl is
  named_or o (r ∷ front) names is =
      elim (named_or (later_named o (named_by r.kind)) front (all_rest (λ (x : Record). IfSome (named_by x.kind) (λ at. has_start found at.0 ≡ false)) r front names) is) [
        | inl there ↦ later_or o (named_by r.kind) (all_first (λ (x : Record). IfSome (named_by x.kind) (λ at. has_start found at.0 ≡ false)) r front names) there
        | inr other ↦ inr other
      ]

-- ---- the found entries, and the run's

module _ (mib : ℕ) (found : List Record) (own : List Entry) (now : Store) (h : IsOrderly 0 (history_of found own)) (logged : AreLogged mib found own) (made : apply_all empty (history_of found own) ≡ Some now) (follow : DeltasFollowRedo found) (from : Lsn) where
  abbrev es : List Entry
  es = map entry_of found

  abbrev news : List Record
  news = written mib (found_before mib found) own

  alike : AreAlike (history_of found own) (log_of mib found own)
  alike = logs_alike mib found own logged.starts logged.written

  log_is : log_of mib found own ≡ found ++ news
  log_is = log_is_written mib found own

  module _ (names : NameOwnPlaces found news) (start : replay_start (log_of mib found own) ≡ Some from) (place : IsRedoPlace from.0 (map entry_of (log_of mib found own))) where
    start_on : replay_start (found ++ news) ≡ Some from
    start_on = ap replay_start (sym log_is) ∙ start

    -- none of the found entries starts there, so an own one does, behind all of them
    none_found : has_start found from.0 ≡ false → (before : List Entry) (e : Entry) (mid : List Entry) → es ≡ before ++ (e ∷ mid) → from.0 ≤ e.start → ⊥
    none_found other before e mid all le =
        let there : has_start (found ++ news) from.0 ≡ true = starts_there (found ++ news) from start_on in
        let in_entries : (list_any (λ d. d.start == from.0) es || list_any (λ d. d.start == from.0) (map entry_of news)) ≡ true =
        sym (list_any-append (λ (d : Entry). d.start == from.0) es (map entry_of news))
        ∙ ap (list_any (λ d. d.start == from.0)) (sym (map-append entry_of found news)) ∙ entries_start (found ++ news) from.0 ∙ there in
        let in_news = or_second (list_any (λ d. d.start == from.0) es) (list_any (λ d. d.start == from.0) (map entry_of news)) in_entries (entries_start found from.0 ∙ other) in
        let in_own : list_any (λ d. d.start == from.0) own ≡ true =
        sym (any_alike (λ d. d.start == from.0) (λ x l k. ap (λ (n : ℕ). n == from.0) k.start) own news (own_alike mib (found_before mib found) own logged.starts logged.written)) ∙ in_news in
        let here : IsOrderly 0 (before ++ (e ∷ (mid ++ own))) = subst (IsOrderly 0) (ap (λ (l : List Entry). l ++ own) all ∙ entries_assoc before (e ∷ mid) own) h in
        let one = rest_rising 0 before (e ∷ (mid ++ own)) here in
        let two = rest_rising e.end mid own one.orderly.3 in
        let past = start_behind from.0 two.at own two.orderly in_own in
        let long = one.orderly.1 in
        let later = two.later in
        omega (arith, past, long, later, le)
      where
        entries_assoc : (xs ys zs : List Entry) → (xs ++ ys) ++ zs ≡ xs ++ (ys ++ zs)
        entries_assoc xs ys zs = append_assoc xs ys zs

    found_delta : (fork : ForkId) (block to : ℕ) (before : List Entry) (e : Entry) (mid : List Entry) → es ≡ before ++ (e ∷ mid) → is_in from.0 to e ≡ true → IsWrittenAsDelta before e fork block → list_any (resets fork block) (window before from.0 to) ≡ true
    found_delta fork block to before e mid all within delta =
        let le : from.0 ≤ e.start = leb-true from.0 e.start (and_parts (nat_le from.0 e.start) (nat_lt e.start to) within).0 in
        let named : last_named (last_named None found) news ≡ Some from = sym (named_on None found news) ∙ started_is (found ++ news) (last_named None (found ++ news)) from start_on in
        elim (named_or found from (last_named None found) news names named) [
          | inl there ↦
              by_test (has_start found from.0)
              (λ starts.
              let begins : replay_start found ≡ Some from = ap (if_started found) there ∙ ap (λ (b : Bool). cond b (Some from) None) starts in
              follow found [] from to (sym (append-nil found)) begins fork block before e mid all within delta)
              (λ other. absurd (none_found other before e mid all le))
          | inr other ↦ absurd (none_found other before e mid all le)
        ]

    start_in : list_any (λ d. d.start == from.0) (history_of found own) ≡ true
    start_in =
        sym (any_alike (λ d. d.start == from.0) (λ x l k. ap (λ (n : ℕ). n == from.0) k.start) (history_of found own) (log_of mib found own) alike)
        ∙ entries_start (log_of mib found own) from.0 ∙ starts_there (log_of mib found own) from start

    -- a delta of the history
    each_delta : (fork : ForkId) (block to : ℕ) (before : List Entry) (e : Entry) (later : List Entry) → history_of found own ≡ before ++ (e ∷ later) → is_in from.0 to e ≡ true → IsWrittenAsDelta before e fork block → list_any (resets fork block) (window before from.0 to) ≡ true
    each_delta fork block to before e later is within delta =
        let parts = and_parts (nat_le from.0 e.start) (nat_lt e.start to) within in
        elim (split_at es own before e later is) [
          | inl f ↦ found_delta fork block to before e f.mid f.all within delta
          | inr f ↦
              let here = subst (IsOrderly 0) is h in
              ap (list_any (resets fork block)) (window_all from.0 to 0 before e later here (ltb-true e.start to parts.1))
              ∙ own_delta from.0 before e later fork block here (subst (IsRedoPlace from.0) is (place_alike from.0 (history_of found own) (log_of mib found own) alike place)) (leb-true from.0 e.start parts.0)
              (own_at mib (found_before mib found) f.front e later (subst (AreWrittenInPlace mib (found_before mib found)) f.all logged.written)) delta
        ]

    -- so the log's deltas follow
    log_follows : (to : ℕ) → DeltasFollow (map entry_of (log_of mib found own)) from.0 to
    log_follows to fork block before e later is within delta =
        let parts = and_parts (nat_le from.0 e.start) (nat_lt e.start to) within in
        let rising : IsOrderly 0 (before ++ (e ∷ later)) = subst (IsOrderly 0) is (orderly_alike 0 (history_of found own) (log_of mib found own) alike h) in
        let at = rest_rising 0 before (e ∷ later) rising in
        let long : e.start < e.end = at.orderly.1 in
        let low : from.0 ≤ e.start = leb-true from.0 e.start parts.0 in
        let ends : list_any (λ d. d.end == e.end) (history_of found own) ≡ true =
        sym (any_alike (λ d. d.end == e.end) (λ x l k. ap (λ (n : ℕ). n == e.end) k.end) (history_of found own) (log_of mib found own) alike)
        ∙ ap (list_any (λ d. d.end == e.end)) is ∙ list_any-append (λ (d : Entry). d.end == e.end) before (e ∷ later)
        ∙ or_right (list_any (λ d. d.end == e.end) before) (list_any (λ d. d.end == e.end) (e ∷ later)) (or_left (e.end == e.end) (list_any (λ d. d.end == e.end) later) (eq-eqb e.end e.end refl)) in
        middle (state_before (history_of found own) from.0) (λ t. apply_all t (since from.0 (history_of found own))) now (sym (two_parts from.0 (history_of found own) h) ∙ made) (λ base defined _.
        let sound : IsSoundCopy base (history_of found own) from.0 e.end = record {
          base = base;
          defined = defined;
          blocks = λ f b none. refl;
          forks = λ f none. refl;
          deltas = λ f b front d back split inside written_so. each_delta f b e.end front d back split inside written_so;
          starts = start_in;
          ends = ends;
          above = omega (arith, long, low);
        } in
        let done = logged_sound mib found own now base from.0 e.end h logged made sound in
        let inside : is_in from.0 e.end e ≡ true = and_from (nat_le from.0 e.start) (nat_lt e.start e.end) parts.0 (lt-ltb e.start e.end long) in
        ap (list_any (resets fork block)) (window_all from.0 to 0 before e later rising (ltb-true e.start to parts.1) ∙ sym (window_all from.0 e.end 0 before e later rising long))
        ∙ done.deltas fork block before e later is inside delta)

-- ---- runs

front_names : (found front lost : List Record) → NameOwnPlaces found (front ++ lost) → NameOwnPlaces found front
front_names found [] lost names = All-nil (λ (x : Record). IfSome (named_by x.kind) (λ at. has_start found at.0 ≡ false))
front_names found (r ∷ front) lost names =
    All-cons (λ (x : Record). IfSome (named_by x.kind) (λ at. has_start found at.0 ≡ false)) r front
    (all_first (λ (x : Record). IfSome (named_by x.kind) (λ at. has_start found at.0 ≡ false)) r (front ++ lost) names)
    (front_names found front lost (all_rest (λ (x : Record). IfSome (named_by x.kind) (λ at. has_start found at.0 ≡ false)) r (front ++ lost) names))

pub runs_follow : RunsKeepDeltasFollowing
runs_follow mib found own now h logged made places names follow records lost from to parts start =
    let b : Before = found_before mib found in
    let news : List Record = written mib b own in
    let log : log_of mib found own ≡ found ++ news = log_is_written mib found own in
    let own_news : NameOwnPlaces found news = subst (NameOwnPlaces found) (same_rest found (wal_of mib (history_of found own)) news log) names in
    elim (cut_or_on found news records lost (sym log ∙ parts)) [
      | inl c ↦ follow records c.rest from to c.all start
      | inr o ↦
          let f = front_of mib b own o.front lost logged.written o.rest in
          let split : history_of found own ≡ history_of found f.first ++ f.rest = ap (λ (l : List Entry). map entry_of found ++ l) f.all ∙ sym (append_assoc (map entry_of found) f.first f.rest) in
          let same : log_of mib found f.first ≡ records = log_is_written mib found f.first ∙ ap (λ (l : List Record). found ++ l) (sym f.is) ∙ sym o.all in
          let first_logged : AreLogged mib found f.first = record {
            starts = start_front mib b f.first f.rest (subst (StartInPlace mib b) f.all logged.starts);
            written = written_front mib b f.first f.rest (subst (AreWrittenInPlace mib b) f.all logged.written);
          } in
          middle (apply_all empty (history_of found f.first)) (λ t. apply_all t f.rest) now (sym (applied_in_two empty (history_of found f.first) f.rest) ∙ sym (ap (apply_all empty) split) ∙ made) (λ mid first _.
          subst (λ (rs : List Record). DeltasFollow (map entry_of rs) from.0 to) same
          (log_follows mib found f.first mid (rising_front 0 (history_of found f.first) f.rest (subst (IsOrderly 0) split h)) first_logged first follow from
          (subst (NameOwnPlaces found) f.is (front_names found o.front lost (subst (NameOwnPlaces found) o.rest own_news)))
          (ap replay_start same ∙ start)
          (subst (λ (rs : List Record). IsRedoPlace from.0 (map entry_of rs)) (sym same) (places records lost from parts start)) to))
    ]

-- ---- a new log

never_nothing : (before : List Entry) (e : Entry) (later : List Entry) → ◌≡◌ {A = List Entry} [] (before ++ (e ∷ later)) → ⊥
never_nothing [] e later is = cc
never_nothing (b ∷ before) e later is = cc

only_one : (x : Entry) (before : List Entry) (e : Entry) (later : List Entry) → ◌≡◌ {A = List Entry} (x ∷ []) (before ++ (e ∷ later)) → x ≡ e
only_one x [] e later is = first_of x e [] later is
only_one x (b ∷ before) e later is = absurd (never_nothing before e later (rest_of x b [] (before ++ (e ∷ later)) is))

none_first : (xs ys : List Record) → ◌≡◌ {A = List Record} [] (xs ++ ys) → xs ≡ []
none_first [] ys is = refl
none_first (x ∷ xs) ys is = absurd (never x (xs ++ ys) is)
  where
    never : (y : Record) (ys : List Record) → ◌≡◌ {A = List Record} [] (y ∷ ys) → ⊥
    never y ys e = cc

pub new_follows : NewLogsFollow
new_follows redo r is [] lost from to parts start fork block before e later split within delta = absurd (never_nothing before e later split)
new_follows redo r is (x ∷ records) lost from to parts start fork block before e later split within delta =
    let same : r ≡ x = first_record r x [] (records ++ lost) parts in
    let alone : records ≡ [] = none_first records lost (rest_records r x [] (records ++ lost) parts) in
    let one : entry_of x ≡ e = only_one (entry_of x) before e later (sym (ap (λ (l : List Record). entry_of x ∷ map entry_of l) alone) ∙ split) in
    let no_patch : patches fork block (entry_of x) ≡ false = ap (λ (y : Record). patches fork block (entry_of y)) (sym same) ∙ ap (λ (k : Kind). act_patches fork block (act_of k)) is in
    absurd (true≢false (sym delta.0 ∙ sym (ap (patches fork block) one) ∙ no_patch))

pub first_follow : FirstRecordsFollow
first_follow first rest follow records lost from to parts start =
    follow records (lost ++ rest) from to (ap (λ (l : List Record). l ++ rest) parts ∙ append_assoc records lost rest) start
