-- What the log of a history makes, and copies that are restored with it.
use Rattle.std.proofs.Common.{◌≡◌, ℕ, ◌+◌, ◌<◌, ◌≤◌, true, false, cond, ◌||◌, List, [], ◌∷◌, ◌++◌, map, Option, Some, unwrap_or, inl, inr, ◌⊎◌, refl, sym, ap, subst, ◌∙◌, arith, append_assoc}
use Rattle.std.proofs.lemmas.List.{append-nil, map-append}
use Rattle.std.proofs.lemmas.List.Elements.{filter-append}
use Rattle.std.specs.Prelude.{◌==◌, nat_lt, nat_le, not}
use Rattle.std.specs.List.{filter}
use Rattle.std.specs.FinMap.{empty}
use Rattle.std.proofs.lemmas.Bool.{ltb-true, ltb-false, leb-false, le-leb, lt-leb, or_right}
use Rattle.lsn_core.specs.byte_words.Numbers.{◌>>=◌}
use Rattle.lsn_core.proofs.byte_words.Fields.{bind_some}
use Rattle.lsn_core.specs.declared.ids.ForkId.{ForkId}
use Rattle.lsn_core.specs.Store.{Store}
use Rattle.lsn_core.specs.Blocks.{block_of}
use Rattle.lsn_core.specs.Tip.{Tip, tip_with}
use Rattle.pg_page.specs.Header.{lsn_of}
use Rattle.wal_record.specs.declared.record.Record.{Record}
use Rattle.history.specs.Entry.{Entry, is_of_run}
use Rattle.history.specs.Apply.{apply, apply_all, page_at}
use Rattle.history.specs.Whole.{entry_of, whole}
use Rattle.history.specs.Written.{Before, tip_past, tip_over, is_redo, behind, behind_all, next_record, written, at_first}
use Rattle.history.specs.Laws.{AreWrittenInPlace}
use Rattle.history.proofs.Histories.{tip_over-append, apply_all-push}
use Rattle.history.proofs.WrittenLaws.{written_is_applied}
use Rattle.history.specs.fuzzy_copies.Orderly.{IsOrderly}
use Rattle.history.specs.fuzzy_copies.Sound.{entries_before, redo_point, block_lsn, lsn_after, is_logged_as_delta}
use Rattle.history.specs.fuzzy_copies.Logged.{history_of, found_before, log_of, StartInPlace, AreLogged}
use Rattle.history.specs.fuzzy_copies.Laws.{LogsAreWhole, LoggedCopiesAreSound, SoundCopiesAreRestored, TakenCopiesAreRestored}
use Rattle.history.proofs.fuzzy_copies.Pages.{page_by_block}
use Rattle.history.proofs.fuzzy_copies.View.{middle}
use Rattle.history.proofs.fuzzy_copies.OneBlock.{old_lsn}
use Rattle.history.proofs.fuzzy_copies.Ranges.{IsBoundary, boundary_start}
use Rattle.history.proofs.fuzzy_copies.Replay.{applied_in_two}
use Rattle.history.proofs.fuzzy_copies.Taken.{taken_sound}
use Rattle.history.proofs.fuzzy_copies.Records.{filter_entries, records_complete}
use Rattle.history.proofs.fuzzy_copies.Logged.{act_resets, act_settles_same, act_patch}
use Rattle.history.proofs.fuzzy_copies.ReadBack.{log_is_written, AreReadBack, any_same, sound_back, rising_back, records_back, found_back}

-- what is known before an entry is what the entries before it make
record Knows (prefix : List Entry) (b : Before) : Type 0 where
  store : apply_all empty prefix ≡ Some b.store
  redo : (tip_over (tip_with 0 0 0 0) prefix).redo ≡ b.tip.redo
  count : (tip_over (tip_with 0 0 0 0) prefix).count ≡ b.tip.count

behind_store : (b : Before) (e : Entry) (next : Store) → apply b.store e ≡ Some next → (behind b e).store ≡ next
behind_store b e next step = ap (λ (o : Option Store). unwrap_or o b.store) step

knows_more : (prefix : List Entry) (b : Before) (e : Entry) (next : Store) → Knows prefix b → apply b.store e ≡ Some next → Knows (prefix ++ (e ∷ [])) (behind b e)
knows_more prefix b e next k step =
    let t : Tip = tip_over (tip_with 0 0 0 0) prefix in
    let one : tip_over (tip_with 0 0 0 0) (prefix ++ (e ∷ [])) ≡ tip_past t e = tip_over-append (tip_with 0 0 0 0) prefix (e ∷ []) in
    record {
      store = apply_all-push empty prefix b.store e next k.store step ∙ ap (λ (s : Store). Some s) (sym (behind_store b e next step));
      redo = ap (λ (u : Tip). u.redo) one ∙ ap (λ n. cond ((n == 0) || is_redo e.act) e.start t.redo) k.count ∙ ap (λ n. cond ((b.tip.count == 0) || is_redo e.act) e.start n) k.redo;
      count = ap (λ (u : Tip). u.count) one ∙ ap (λ n. n + 1) k.count;
    }

knows_all : (prefix : List Entry) (b : Before) (es : List Entry) (last : Store) → Knows prefix b → apply_all b.store es ≡ Some last → Knows (prefix ++ es) (behind_all b es)
knows_all prefix b [] last k made = subst (λ p. Knows p b) (sym (append-nil prefix)) k
knows_all prefix b (e ∷ es) last k made =
    let found = bind_some (apply b.store e) (λ s. apply_all s es) last made in
    subst (λ p. Knows p (behind_all (behind b e) es)) (append_assoc prefix (e ∷ []) es)
    (knows_all (prefix ++ (e ∷ [])) (behind b e) es last (knows_more prefix b e found.0 k found.1)
    (subst (λ (s : Store). apply_all s es ≡ Some last) (sym (behind_store b e found.0 found.1)) found.2))

-- the LSN of a page, by its block
lsn_known : (prefix : List Entry) (b : Before) (fork : ForkId) (block : ℕ) → Knows prefix b → lsn_after prefix fork block ≡ lsn_of (page_at b.store (record { fork = fork; block = block }))
lsn_known prefix b fork block k =
    ap (λ (o : Option Store). block_lsn (o >>= λ s. block_of s fork block)) k.store
    ∙ sym (ap lsn_of (page_by_block b.store (record { fork = fork; block = block })) ∙ old_lsn (block_of b.store fork block))

delta_known : (prefix : List Entry) (b : Before) (e : Entry) (fork : ForkId) (block : ℕ) → Knows prefix b → nat_lt b.tip.redo (lsn_of (page_at b.store (record { fork = fork; block = block }))) ≡ true → is_logged_as_delta prefix e fork block ≡ true
delta_known prefix b e fork block k above =
    or_right (not (is_of_run e)) (nat_lt (redo_point prefix) (lsn_after prefix fork block))
    (ap (λ n. nat_lt n (lsn_after prefix fork block)) k.redo ∙ ap (nat_lt b.tip.redo) (lsn_known prefix b fork block k) ∙ above)

-- own entries are read back from what they are written as
own_back : (mib : ℕ) (prefix : List Entry) (b : Before) (own : List Entry) (last : Store) → Knows prefix b → apply_all b.store own ≡ Some last → StartInPlace mib b own → AreWrittenInPlace mib b own
    → AreReadBack prefix own (map entry_of (written mib b own))
own_back mib prefix b [] last k made starts placed = tt
own_back mib prefix b (e ∷ es) last k made starts placed =
    let r : Record = next_record mib b e.act in
    let more : List Record = written mib (behind b e) es in
    let fresh = placed.1.1.1.0.0 in
    let found = bind_some (apply b.store e) (λ s. apply_all s es) last made in
    subst (λ c. AreReadBack prefix (e ∷ es) (map entry_of (cond c (r ∷ more) more))) (sym placed.0) (
      record {
        start = sym starts.0;
        end = sym placed.1.0;
        same = λ fork block. act_resets b.store b.tip.redo fork block e.act fresh;
        made = λ fork. act_settles_same b.store b.tip.redo fork e.act fresh;
        delta = λ fork block p. let q = act_patch b.store b.tip.redo fork block e.act fresh p in (q.0, delta_known prefix b e fork block k q.1);
      },
      own_back mib (prefix ++ (e ∷ [])) (behind b e) es last (knows_more prefix b e found.0 k found.1)
          (subst (λ (s : Store). apply_all s es ≡ Some last) (sym (behind_store b e found.0 found.1)) found.2) starts.1 placed.1.1.1.1,
    )

-- the log of a history, beside it
record IsLog (mib : ℕ) (found : List Record) (own : List Entry) : Type 0 where
  first : apply_all empty (map entry_of found) ≡ Some (found_before mib found).store
  last : Store
  rest : apply_all (found_before mib found).store own ≡ Some last
  own_is : AreReadBack (map entry_of found) own (map entry_of (written mib (found_before mib found) own))
  all_is : AreReadBack [] (history_of found own) (map entry_of (log_of mib found own))

log_is : (mib : ℕ) (found : List Record) (own : List Entry) (store : Store) → AreLogged mib found own → apply_all empty (history_of found own) ≡ Some store → IsLog mib found own
log_is mib found own store logged made =
    let b = found_before mib found in
    let es = map entry_of found in
    middle (apply_all empty es) (λ t. apply_all t own) store (sym (applied_in_two empty es own) ∙ made) (λ t first rest.
    let k : Knows es b = knows_all [] (at_first mib) es t (record { store = refl; redo = refl; count = refl }) first in
    let same : t ≡ b.store = let f = k.store in cc in
    let tail : apply_all b.store own ≡ Some store = subst (λ (s : Store). apply_all s own ≡ Some store) same rest in
    let own_is = own_back mib es b own store k tail logged.starts logged.written in
    record {
      first = k.store;
      last = store;
      rest = tail;
      own_is = own_is;
      all_is = subst (AreReadBack [] (history_of found own)) (sym (ap (map entry_of) (log_is_written mib found own) ∙ map-append entry_of found (written mib b own))) (found_back [] found own (map entry_of (written mib b own)) own_is);
    })

-- where the last of entries ends
abbrev last_end : ℕ → List Entry → ℕ
last_end last [] = last
last_end last (e ∷ es) = last_end e.end es

ends_up : (last : ℕ) (es : List Entry) → IsOrderly last es → last ≤ last_end last es
ends_up last [] r = omega arith
ends_up last (e ∷ es) r = let k = ends_up e.end es r.3 in let a = r.0 in let b = r.1 in omega arith

rest_rises : (last : ℕ) (es more : List Entry) → IsOrderly last (es ++ more) → IsOrderly (last_end last es) more
rest_rises last [] more r = r
rest_rises last (e ∷ es) more r = rest_rises e.end es more r.3

front_rises : (last : ℕ) (es more : List Entry) → IsOrderly last (es ++ more) → IsOrderly last es
front_rises last [] more r = tt
front_rises last (e ∷ es) more r = (r.0, r.1, r.2, front_rises e.end es more r.3)

none_ended : (x last : ℕ) (es : List Entry) → IsOrderly last es → x ≤ last → filter (λ e. nat_le e.end x) es ≡ []
none_ended x last [] r h = refl
none_ended x last (e ∷ es) r h =
    subst (λ s. cond s (e ∷ filter (λ d. nat_le d.end x) es) (filter (λ d. nat_le d.end x) es) ≡ []) (sym (lt-leb e.end x (let a = r.0 in let b = r.1 in omega arith))) (none_ended x e.end es r.3 (let a = r.0 in let b = r.1 in omega arith))

-- all entries end by a place, or the last one ends past it
full_or_past : (x last : ℕ) (es : List Entry) → IsOrderly last es → (filter (λ e. nat_le e.end x) es ≡ es) ⊎ (x < last_end last es)
full_or_past x last [] r = inl refl
full_or_past x last (e ∷ es) r =
    let rest = filter (λ d. nat_le d.end x) es in
    elim (nat_le e.end x) as (λ b. nat_le e.end x ≡ b → (cond b (e ∷ rest) rest ≡ e ∷ es) ⊎ (x < last_end e.end es)) [
      | true ↦ λ k. elim (full_or_past x e.end es r.3) [ inl full ↦ inl (ap (λ (l : List Entry). e ∷ l) full) | inr past ↦ inr past ]
      | false ↦ λ k. inr (let a = leb-false e.end x k in let b = ends_up e.end es r.3 in omega arith)
    ] refl

in_front : (es xs ys : List Entry) (t : Store) → apply_all empty es ≡ Some t → apply_all t xs ≡ apply_all t ys → apply_all empty (es ++ xs) ≡ apply_all empty (es ++ ys)
in_front es xs ys t made same =
    applied_in_two empty es xs ∙ ap (λ (m : Option Store). m >>= λ s. apply_all s xs) made ∙ same
    ∙ sym (applied_in_two empty es ys ∙ ap (λ (m : Option Store). m >>= λ s. apply_all s ys) made)

pub logs_whole : LogsAreWhole
logs_whole mib found own store place orderly logged made =
    let log = log_is mib found own store logged made in
    let b = found_before mib found in
    let es = map entry_of found in
    let rs = written mib b own in
    let p = λ (e : Entry). nat_le e.end place in
    let q = λ (r : Record). nat_le r.end.0 place in
    let xs = map entry_of (filter q rs) in
    let parts : map entry_of (filter q (found ++ rs)) ≡ filter p es ++ xs =
    ap (map entry_of) (filter-append q found rs) ∙ map-append entry_of (filter q found) (filter q rs) ∙ ap (λ (l : List Entry). l ++ xs) (sym (filter_entries p q (λ r. refl) found)) in
    let whole_is : apply_all empty (filter p es ++ xs) ≡ apply_all empty (filter p es ++ filter p own) =
    elim (full_or_past place 0 es (front_rises 0 es own orderly)) [
      | inl full ↦ subst (λ (f : List Entry). apply_all empty (f ++ xs) ≡ apply_all empty (f ++ filter p own)) (sym full)
          (in_front es xs (filter p own) b.store log.first (written_is_applied mib b own log.last log.rest logged.written place))
      | inr past ↦
          let rest : IsOrderly (last_end 0 es) own = rest_rises 0 es own orderly in
          let none : xs ≡ [] = sym (filter_entries p q (λ r. refl) rs) ∙ none_ended place (last_end 0 es) (map entry_of rs) (rising_back (last_end 0 es) es own rs log.own_is rest) (omega arith) in
          let none_own : filter p own ≡ [] = none_ended place (last_end 0 es) own rest (omega arith) in
          ap (λ (l : List Entry). apply_all empty (filter p es ++ l)) (none ∙ sym none_own)
    ] in
    ap (λ (l : List Record). whole l place) (log_is_written mib found own) ∙ ap (apply_all empty) parts ∙ whole_is ∙ ap (apply_all empty) (sym (filter-append p es own))

-- at a boundary the entries that start before it are those that end by it
ended_before : (x last : ℕ) (es : List Entry) → IsOrderly last es → IsBoundary x es → entries_before es x ≡ filter (λ e. nat_le e.end x) es
ended_before x last [] r b = refl
ended_before x last (e ∷ es) r b =
    let rest = ended_before x e.end es r.3 b.1 in
    let same : nat_lt e.start x ≡ nat_le e.end x =
    elim (nat_lt e.start x) as (λ s. nat_lt e.start x ≡ s → s ≡ nat_le e.end x) [
      | true ↦ λ k. sym (le-leb e.end x (b.0 (ltb-true e.start x k)))
      | false ↦ λ k. sym (lt-leb e.end x (let h = ltb-false e.start x k in let c = r.1 in omega arith))
    ] refl in
    cc

pub logged_sound : LoggedCopiesAreSound
logged_sound mib found own store copy from to orderly logged made sound =
    let log = log_is mib found own store logged made in
    let es = history_of found own in
    let ls = map entry_of (log_of mib found own) in
    let back : IsOrderly 0 ls = rising_back 0 [] es (log_of mib found own) log.all_is orderly in
    let starts = any_same (λ e. e.start == from) (λ b e l k. ap (λ n. n == from) k.start) [] es ls log.all_is ∙ sound.starts in
    sound_back copy es ls from to log.all_is
    (ap (apply_all empty) (ended_before from 0 ls back (boundary_start from 0 ls back starts))
    ∙ ap (apply_all empty) (filter_entries (λ e. nat_le e.end from) (λ r. nat_le r.end.0 from) (λ r. refl) (log_of mib found own))
    ∙ logs_whole mib found own store from orderly logged made
    ∙ ap (apply_all empty) (sym (ended_before from 0 es orderly (boundary_start from 0 es orderly sound.starts))))
    sound

pub sound_restored : SoundCopiesAreRestored
sound_restored mib found own store copy from to place orderly logged made ends sound far =
    let log = log_is mib found own store logged made in
    records_complete copy (log_of mib found own) from to place (records_back 0 [] (history_of found own) (log_of mib found own) log.all_is orderly ends)
    (logged_sound mib found own store copy from to orderly logged made sound) far
    ∙ logs_whole mib found own store place orderly logged made

pub taken_restored : TakenCopiesAreRestored
taken_restored mib found own copy from to place running logged ends taken far =
    sound_restored mib found own running.store copy from to place running.orderly logged running.defined ends (taken_sound copy (history_of found own) from to running taken) far
