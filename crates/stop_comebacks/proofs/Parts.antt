-- What a stop leaves of a partition, by the records of the log.
use Rattle.std.proofs.Common.{◌≡◌, ℕ, ◌⊎◌, inl, inr, Bool, cond, List, [], ◌∷◌, ◌++◌, map, Option, Some, None, refl, sym, ap, subst, ◌∙◌, arith, append-nil}
use Rattle.std.specs.Prelude.{nat_lt}
use Rattle.std.specs.FinMap.{empty}
use Rattle.std.proofs.lemmas.Bool.{ltb-false}
use Rattle.std.proofs.lemmas.List.{map-append}
use Rattle.std.proofs.lemmas.List.Elements.{filter-append}
use Rattle.lsn_core.specs.byte_words.Numbers.{◌>>=◌}
use Rattle.lsn_core.specs.Files.{Files}
use Rattle.lsn_core.specs.Store.{Store}
use Rattle.vault.specs.Frame.{LeavesNow}
use Rattle.vault.specs.Stops.{Event}
use Rattle.wal_record.specs.declared.record.Record.{Record}
use Rattle.history.specs.Entry.{Entry}
use Rattle.history.specs.Apply.{apply_all}
use Rattle.history.specs.Whole.{entry_of}
use Rattle.history.specs.Written.{Before, written, at_first}
use Rattle.history.specs.fuzzy_copies.Orderly.{IsOrderly}
use Rattle.history.specs.fuzzy_copies.Sound.{entries_before, state_before}
use Rattle.history.specs.fuzzy_copies.Logged.{history_of, found_before, log_of, AreLogged}
use Rattle.history.proofs.Stores.{by_test}
use Rattle.history.proofs.fuzzy_copies.View.{middle}
use Rattle.history.proofs.fuzzy_copies.Replay.{applied_in_two}
use Rattle.history.proofs.fuzzy_copies.Taken.{Later, rest_rising}
use Rattle.history.proofs.fuzzy_copies.ReadBack.{log_is_written}
use Rattle.stop_areas.specs.Left.{ChangesMore, IsLeftOf}
use Rattle.stop_areas.proofs.Held.{less_stays}
use Rattle.stop_laws.specs.Window.{window_base}
use Rattle.stop_comebacks.specs.Stopped.{HasOwnFiles, IsPartLeft}
use Rattle.stop_comebacks.specs.Laws.{StopsLeaveParts}
use Rattle.stop_comebacks.proofs.Logs.{AreAlike, Parted, logs_alike, own_alike, own_before, found_store, late_none, none_before, ends_by, parted, resets_since, settles_since}

second_empty : (xs ys : List Entry) → xs ++ ys ≡ [] → ys ≡ []
second_empty [] ys e = e
second_empty (x ∷ xs) ys e = absurd cc

-- all of the first entries start below a place, or none of the others does
all_or_none : (place last : ℕ) (es own : List Entry) → IsOrderly last (es ++ own) → (entries_before es place ≡ es) ⊎ (entries_before own place ≡ [])
all_or_none place last [] own h = inl refl
all_or_none place last (e ∷ es) own h =
    by_test (nat_lt e.start place)
    (λ below. elim (all_or_none place e.end es own h.3) [
      | inl all ↦ inl (ap (λ (b : Bool). cond b (e ∷ entries_before es place) (entries_before es place)) below ∙ ap (λ (l : List Entry). e ∷ l) all)
      | inr none ↦ inr none
    ])
    (λ beyond.
    let long = h.1 in
    let from_here = ltb-false e.start place beyond in
    inr (second_empty (entries_before es place) (entries_before own place)
    (sym (filter-append (λ (x : Entry). nat_lt x.start place) es own) ∙ late_none place e.end (es ++ own) h.3 (omega (arith, long, from_here)))))

-- the store at each place is the same by the records
store_before : (mib : ℕ) (found : List Record) (own : List Entry) (now : Store) (place : ℕ) → IsOrderly 0 (history_of found own) → AreLogged mib found own → apply_all empty (history_of found own) ≡ Some now
    → state_before (map entry_of (log_of mib found own)) place ≡ state_before (history_of found own) place
store_before mib found own now place h logged made =
    let es : List Entry = map entry_of found in
    let b : Before = found_before mib found in
    let rs : List Record = written mib b own in
    let log : map entry_of (log_of mib found own) ≡ es ++ map entry_of rs = ap (map entry_of) (log_is_written mib found own) ∙ map-append entry_of found rs in
    let early : List Entry = entries_before es place in
    let said : List Entry = entries_before (map entry_of rs) place in
    let done : List Entry = entries_before own place in
    let same : apply_all empty (early ++ said) ≡ apply_all empty (early ++ done) =
    middle (apply_all empty es) (λ t. apply_all t own) now (sym (applied_in_two empty es own) ∙ made) (λ mid first rest.
    let store : b.store ≡ mid = found_store (at_first mib) es mid first in
    let later : Later 0 own = rest_rising 0 es own h in
    let alike : apply_all b.store said ≡ apply_all b.store done =
    own_before mib place later.at b own now later.orderly logged.starts logged.written (subst (λ (s : Store). apply_all s own ≡ Some now) (sym store) rest) in
    elim (all_or_none place 0 es own h) [
      | inl all ↦
          let begun : apply_all empty early ≡ Some b.store = ap (apply_all empty) all ∙ first ∙ ap (λ (s : Store). Some s) (sym store) in
          applied_in_two empty early said ∙ ap (λ (o : Option Store). o >>= λ s. apply_all s said) begun ∙ alike
          ∙ sym (applied_in_two empty early done ∙ ap (λ (o : Option Store). o >>= λ s. apply_all s done) begun)
      | inr none ↦
          ap (λ (l : List Entry). apply_all empty (early ++ l)) (none_before place own rs (own_alike mib b own logged.starts logged.written) none ∙ sym none)
    ]) in
    ap (λ (l : List Entry). state_before l place) log
    ∙ ap (apply_all empty) (filter-append (λ (e : Entry). nat_lt e.start place) es (map entry_of rs))
    ∙ same
    ∙ sym (ap (apply_all empty) (filter-append (λ (e : Entry). nat_lt e.start place) es own))

-- where none of the later entries starts below a place, the others make the store there
first_make : (place : ℕ) (known later : List Entry) → entries_before later place ≡ [] → state_before (known ++ later) place ≡ state_before known place
first_make place known later late =
    ap (apply_all empty) (filter-append (λ (e : Entry). nat_lt e.start place) known later ∙ ap (λ (l : List Entry). entries_before known place ++ l) late ∙ append-nil (entries_before known place))

both_now : (P Q R : Files → Type 0) (past : Option (List Event)) → ((c : Files) → P c → Q c → R c) → LeavesNow P past → LeavesNow Q past → LeavesNow R past
both_now P Q R None f p q = tt
both_now P Q R (Some events) f p q = λ c may. f c (p c may) (q c may)

pub parts_left : StopsLeaveParts
parts_left mib q flushed found own known later store mid now part h logged split parted_by w past keeps own_files =
    let log : List Record = log_of mib found own in
    let two : Parted known later log = parted known later log (subst (λ (es : List Entry). AreAlike es log) split (logs_alike mib found own logged.starts logged.written)) in
    let late = none_before part.point later two.rest two.later_alike w.late in
    let made : state_before (map entry_of two.front) part.point ≡ Some store =
    sym (ap (λ (l : List Entry). state_before l part.point) (ap (map entry_of) two.parts ∙ map-append entry_of two.front two.rest) ∙ first_make part.point (map entry_of two.front) (map entry_of two.rest) late)
    ∙ store_before mib found own now part.point h logged (ap (apply_all empty) split ∙ w.made)
    ∙ ap (λ (l : List Entry). state_before l part.point) split ∙ first_make part.point known later w.late ∙ w.defined in
    let more : ChangesMore (window_base q part.point known store) (window_base q part.point (map entry_of two.front) store) = record {
      ours = refl;
      store = refl;
      changed = λ fork block none. sym (resets_since fork block part.point known two.front two.known_alike) ∙ none;
      settled = λ fork none. sym (settles_since fork part.point known two.front two.known_alike) ∙ none;
    } in
    both_now (IsLeftOf part.relseg (window_base q part.point known store)) (HasOwnFiles part.relseg q) (IsPartLeft part.relseg q log flushed) part.past
    (λ c left has. record {
      known = two.front;
      later = two.rest;
      parts = two.parts;
      done = ends_by flushed known two.front two.known_alike parted_by.known_end;
      point = part.point;
      late = late;
      past = past;
      store = store;
      made = made;
      left = less_stays part.relseg (window_base q part.point known store) (window_base q part.point (map entry_of two.front) store) c more left;
      own = has;
    }) keeps.1 own_files
