-- The history of a machine, and how it goes on.
use Rattle.std.proofs.Common.{◌≡◌, ℕ, ◌+◌, ◌-◌, ◌*◌, ◌/◌, ◌%◌, ◌<◌, ◌≤◌, true, false, cond, ◌||◌, List, [], ◌∷◌, ◌++◌, map, Option, Some, refl, sym, ap, subst, ◌∙◌, arith, append_assoc}
use Rattle.std.specs.Prelude.{◌==◌}
use Rattle.std.specs.Option.{unwrap_or}
use Rattle.std.specs.FinMap.{empty}
use Rattle.std.proofs.lemmas.List.Elements.{All-nil, All-push}
use Rattle.std.proofs.lemmas.Nat.{div-mul-add, mod-mul-add}
use Rattle.std.proofs.Math.Nat.{mod_self}
use Rattle.lsn_core.specs.byte_words.Numbers.{◌>>=◌, aligned}
use Rattle.lsn_core.proofs.byte_words.Fields.{bind_some}
use Rattle.lsn_core.specs.Segment.{segment_bytes}
use Rattle.lsn_core.specs.Store.{Store}
use Rattle.lsn_core.specs.Tip.{Tip}
use Rattle.wal_pages.specs.Places.{segment_flat, place, flat_before, start_after, stop_of, end_of}
use Rattle.wal_pages.proofs.Splits.{flat_place, place_le, place_after}
use Rattle.wal_record.specs.declared.record.Record.{Record}
use Rattle.wal_record.specs.declared.record.Kind.TheVariants as kind
use Rattle.wal_record.specs.Spelling.{total_of}
use Rattle.wal_record.specs.Tips.{first_tip, wal_limit}
use Rattle.history.specs.Entry.{Act, Entry, is_of_run}
use Rattle.history.specs.Apply.{apply, apply_act, apply_all}
use Rattle.history.specs.Op.{IsTidy}
use Rattle.history.specs.Whole.{entry_of}
use Rattle.history.specs.Written.{Before, behind, behind_all, at_first, record_of, next_record, is_redo, tip_past, tip_over, tip_of, redo_past}
use Rattle.history.specs.Laws.{IsFresh, HasGoodPages, AreWrittenInPlace}
use Rattle.history.proofs.Histories.{tip_over-append, apply_all-push}
use Rattle.history.specs.fuzzy_copies.Orderly.{IsOrderly, AreOwnFrom, AllEndBy}
use Rattle.history.specs.fuzzy_copies.Covers.{AreTidy}
use Rattle.history.specs.fuzzy_copies.Logged.{history_of, found_before, StartInPlace, AreLogged}
use Rattle.store_core.specs.State.{first_record}
use Rattle.store_core.specs.Steps.{entry_at}

-- ---- places

pub start_later : (mib e : ℕ) → 1 ≤ mib → e ≤ start_after mib e
unfolding start_after
start_later mib e some = place_after mib e some

pub end_later : (mib e total : ℕ) → 1 ≤ mib → 0 < total → start_after mib e < end_of mib (start_after mib e) total
unfolding start_after stop_of
end_later mib e total some least =
    let f : ℕ = flat_before mib e in
    let same : flat_before mib (place mib f) ≡ f = flat_place mib f some in
    let le = place_le mib f (flat_before mib (place mib f) + aligned total - 1) some (omega (arith, same, least)) in
    omega (arith, le)

-- ---- what is known behind a history

some_of : (o : Option Store) (store next : Store) → o ≡ Some next → unwrap_or o store ≡ next
some_of o store next e = rw e refl

known_behind : (before : Before) (h : List Entry) (store : Store) → apply_all before.store h ≡ Some store → ((behind_all before h).tip ≡ tip_over before.tip h) × ((behind_all before h).store ≡ store)
known_behind before [] store applied = (refl, cc)
known_behind before (e ∷ h) store applied =
    let b = bind_some (apply before.store e) (λ s. apply_all s h) store applied in
    let there : (behind before e).store ≡ b.0 = some_of (apply before.store e) before.store b.0 b.1 in
    known_behind (behind before e) h store (subst (λ (s : Store). apply_all s h ≡ Some store) (sym there) b.2)

behind_all-append : (before : Before) (es fs : List Entry) → behind_all before (es ++ fs) ≡ behind_all (behind_all before es) fs
behind_all-append before [] fs = refl
behind_all-append before (e ∷ es) fs = behind_all-append (behind before e) es fs

-- ---- one more entry

starts_push : (mib : ℕ) (before : Before) (es : List Entry) (e : Entry) → StartInPlace mib before es → e.start ≡ (next_record mib (behind_all before es) e.act).start.0 → StartInPlace mib before (es ++ (e ∷ []))
starts_push mib before [] e starts is = (is, tt)
starts_push mib before (f ∷ es) e starts is = (starts.0, starts_push mib (behind before f) es e starts.1 is)

in_place_push : (mib : ℕ) (before : Before) (es : List Entry) (e : Entry) → AreWrittenInPlace mib before es → is_of_run e ≡ true → e.end ≡ (next_record mib (behind_all before es) e.act).end.0
    → (behind_all before es).tip.end < e.end → IsFresh e.act → HasGoodPages e.act → AreWrittenInPlace mib before (es ++ (e ∷ []))
in_place_push mib before [] e placed own end later fresh good = (own, (end, (later, ((fresh, good), tt))))
in_place_push mib before (f ∷ es) e placed own end later fresh good =
    (placed.0, (placed.1.0, (placed.1.1.0, (placed.1.1.1.0, in_place_push mib (behind before f) es e placed.1.1.1.1 own end later fresh good))))

tidy_push : (base : Store) (es : List Entry) (e : Entry) → AreTidy base es → ((last : Store) → apply_all base es ≡ Some last → IsTidy last e.act) → AreTidy base (es ++ (e ∷ []))
tidy_push base [] e tidy one = (one base refl, λ next is. tt)
tidy_push base (f ∷ es) e tidy one =
    (tidy.0, λ next is. tidy_push next es e (tidy.1 next is) (λ last made. one last (ap (λ (o : Option Store). o >>= λ s. apply_all s es) is ∙ made)))

orderly_push : (last : ℕ) (tip : Tip) (es : List Entry) (e : Entry) → IsOrderly last es → last ≤ tip.end → (tip_over tip es).end ≤ e.start → e.start < e.end → IsFresh e.act → IsOrderly last (es ++ (e ∷ []))
orderly_push last tip [] e orderly le start long fresh = (omega (arith, le, start), long, fresh, tt)
orderly_push last tip (f ∷ es) e orderly le start long fresh = (orderly.0, orderly.1, orderly.2, orderly_push f.end (tip_past tip f) es e orderly.3 (omega arith) start long fresh)

-- ---- the history of a machine

-- the first record, as the only one that was found
abbrev pub first : ℕ → List Record
first mib = first_record mib ∷ []

-- a history that a machine may come to: behind the first entry its own entries, each in its place,
-- which find what they name and make a store
pub record IsRun (mib : ℕ) (history : List Entry) : Type 0 where
  pub own : List Entry
  pub grown : history ≡ history_of (first mib) own
  pub store : Store
  pub made : apply_all empty history ≡ Some store
  pub orderly : IsOrderly 0 history
  pub ours : AreOwnFrom (first_record mib).end.0 history
  pub tidy : AreTidy empty history
  pub logged : AreLogged mib (first mib) own
  pub within : AllEndBy (wal_limit mib) history
  pub late : (first_record mib).end.0 ≤ (tip_of mib history).end
  pub redo : (tip_of mib history).redo ≤ (tip_of mib history).end

-- one that makes this store
pub record IsRunTo (mib : ℕ) (history : List Entry) (store : Store) : Type 0 where
  pub run : IsRun mib history
  pub makes : run.store ≡ store

-- an act that may come next, written as this record
pub record ComesNext (mib : ℕ) (history : List Entry) (store : Store) (act : Act) (r : Record) : Type 0 where
  pub is : r ≡ record_of mib store (tip_of mib history) act
  pub tidy : IsTidy store act
  pub fresh : IsFresh act
  pub good : HasGoodPages act
  pub room : r.end.0 ≤ wal_limit mib
  pub next : Store
  pub done : apply_act r.end.0 store act ≡ Some next

-- where its record stands
pub record StandsBehind (mib : ℕ) (history : List Entry) (r : Record) : Type 0 where
  pub start : (tip_of mib history).end ≤ r.start.0
  pub long : r.start.0 < r.end.0

pub stands : (mib : ℕ) (history : List Entry) (store : Store) (act : Act) (r : Record) → 1 ≤ mib → r ≡ record_of mib store (tip_of mib history) act → StandsBehind mib history r
stands mib history store act r some is =
    let tip : Tip = tip_of mib history in
    subst (StandsBehind mib history) (sym is) (record {
      start = start_later mib tip.end some;
      long = end_later mib tip.end (total_of (record_of mib store tip act).kind) some (omega arith);
    })

-- the end of the WAL behind an entry
pub tip_push : (mib : ℕ) (history : List Entry) (e : Entry) → tip_of mib (history ++ (e ∷ [])) ≡ tip_past (tip_of mib history) e
tip_push mib history e = tip_over-append (first_tip mib) history (e ∷ [])

redo_low : (tip : Tip) (e : Entry) → tip.redo ≤ tip.end → tip.end ≤ e.start → e.start < e.end → redo_past tip e ≤ e.end
redo_low tip e low start long = elim ((tip.count == 0) || is_redo e.act) as (λ b. cond b e.start tip.redo ≤ e.end) [ true ↦ omega (arith, long) | false ↦ omega (arith, low, start, long) ]

same_some : (a b : Store) → Some a ≡ Some b → a ≡ b
same_some a b e = cc

pub next_is : (mib : ℕ) (history : List Entry) (store : Store) (act : Act) (r : Record) → apply_all empty history ≡ Some store → r ≡ record_of mib store (tip_of mib history) act → next_record mib (behind_all (at_first mib) history) act ≡ r
next_is mib history store act r made is =
    let known = known_behind (at_first mib) history store made in
    let b : Before = behind_all (at_first mib) history in
    ap (λ (t : Tip). record_of mib b.store t act) known.0 ∙ ap (λ (s : Store). record_of mib s (tip_of mib history) act) known.1 ∙ sym is

logged_push : (mib : ℕ) (history own : List Entry) (store : Store) (act : Act) (r : Record) (worker : ℕ) (seq : Option ℕ) → history ≡ history_of (first mib) own → apply_all empty history ≡ Some store → ComesNext mib history store act r → StandsBehind mib history r
    → AreLogged mib (first mib) own → AreLogged mib (first mib) (own ++ (entry_at r act worker seq ∷ []))
logged_push mib history own store act r worker seq grown made next stand logged =
    let e : Entry = entry_at r act worker seq in
    let before : Before = behind_all (found_before mib (first mib)) own in
    let same : behind_all (at_first mib) history ≡ before = ap (behind_all (at_first mib)) grown ∙ behind_all-append (at_first mib) (map entry_of (first mib)) own in
    let is : next_record mib before act ≡ r = sym (ap (λ (b : Before). next_record mib b act) same) ∙ next_is mib history store act r made next.is in
    let ends : before.tip.end ≡ (tip_of mib history).end = sym (ap (λ (b : Before). b.tip.end) same) ∙ ap (λ (t : Tip). t.end) (known_behind (at_first mib) history store made).0 in
    record {
      starts = starts_push mib (found_before mib (first mib)) own e logged.starts (ap (λ (x : Record). x.start.0) (sym is));
      written =
          in_place_push mib (found_before mib (first mib)) own e logged.written refl (ap (λ (x : Record). x.end.0) (sym is))
          (omega (arith, ends, stand.start, stand.long)) next.fresh next.good;
    }

-- the history goes on by the entry of an act that may come next
pub run_push : (mib : ℕ) (history : List Entry) (act : Act) (r : Record) (worker : ℕ) (seq : Option ℕ) → 1 ≤ mib → (run : IsRun mib history) → (next : ComesNext mib history run.store act r) → IsRunTo mib (history ++ (entry_at r act worker seq ∷ [])) next.next
run_push mib history act r worker seq some run next =
    let e : Entry = entry_at r act worker seq in
    let stand = stands mib history run.store act r some next.is in
    let tip : tip_of mib (history ++ (e ∷ [])) ≡ tip_past (tip_of mib history) e = tip_push mib history e in
    let end : (tip_of mib (history ++ (e ∷ []))).end ≡ r.end.0 = ap (λ (t : Tip). t.end) tip in
    let goes : IsRun mib (history ++ (e ∷ [])) = record {
      own = run.own ++ (e ∷ []);
      grown = ap (λ (h : List Entry). h ++ (e ∷ [])) run.grown ∙ append_assoc (map entry_of (first mib)) run.own (e ∷ []);
      store = next.next;
      made = apply_all-push empty history run.store e next.next run.made next.done;
      orderly = orderly_push 0 (first_tip mib) history e run.orderly (omega arith) stand.start stand.long next.fresh;
      ours = All-push (λ (x : Entry). (first_record mib).end.0 ≤ x.start → is_of_run x ≡ true) history e run.ours (λ later. refl);
      tidy = tidy_push empty history e run.tidy (λ last made. subst (λ (s : Store). IsTidy s act) (same_some run.store last (sym run.made ∙ made)) next.tidy);
      logged = logged_push mib history run.own run.store act r worker seq run.grown run.made next stand run.logged;
      within = All-push (λ (x : Entry). x.end ≤ wal_limit mib) history e run.within next.room;
      late = omega (arith, run.late, stand.start, stand.long, end);
      redo = omega (arith, end, ap (λ (t : Tip). t.redo) tip, redo_low (tip_of mib history) e run.redo stand.start stand.long);
    } in
    record { run = goes; makes = refl }

-- ---- the first entry

-- it stands in the first page of segment 1
pub first_places : (mib n : ℕ) → 1 ≤ mib → n < 1000 → place mib (flat_before mib (segment_bytes mib) + n) ≡ segment_bytes mib + (40 + n)
unfolding place flat_before
first_places mib n some small =
    let seg : ℕ = segment_bytes mib in
    let flat : ℕ = segment_flat mib in
    let once : seg ≡ 1 * seg + 0 = omega arith in
    let whole : seg / seg ≡ 1 = ap (λ (x : ℕ). x / seg) once ∙ div-mul-add 1 seg 0 (omega (arith, some)) in
    let none : seg % seg ≡ 0 = mod_self seg in
    let before : flat_before mib seg ≡ flat =
    ap (λ (x : ℕ). x * flat + (seg % seg / 8192 * 8168 + (seg % seg % 8192 - 24) - 16)) whole
    ∙ ap (λ (y : ℕ). 1 * flat + (y / 8192 * 8168 + (y % 8192 - 24) - 16)) none ∙ (omega arith) in
    let more : flat + n ≡ 1 * flat + n = omega arith in
    let page : (flat + n) / flat ≡ 1 = ap (λ (x : ℕ). x / flat) more ∙ div-mul-add 1 flat n (omega (arith, some, small)) in
    let rest : (flat + n) % flat ≡ n = ap (λ (x : ℕ). x % flat) more ∙ mod-mul-add 1 flat n (omega (arith, some, small)) in
    ap (λ (x : ℕ). place mib (x + n)) before
    ∙ ap (λ (x : ℕ). x * seg + (((flat + n) % flat + 16) / 8168 * 8192 + (24 + ((flat + n) % flat + 16) % 8168))) page
    ∙ ap (λ (y : ℕ). 1 * seg + ((y + 16) / 8168 * 8192 + (24 + (y + 16) % 8168))) rest ∙ (omega (arith, small))

shutdown_total : (x : ℕ) → total_of (kind.Shutdown (record { 0 = x })) ≡ 50
shutdown_total x = refl

pub first_end : (mib : ℕ) → 1 ≤ mib → (first_record mib).end.0 ≡ segment_bytes mib + 96
unfolding start_after stop_of
first_end mib some =
    let f : ℕ = flat_before mib (segment_bytes mib) in
    let k = kind.Shutdown (record { 0 = start_after mib (segment_bytes mib) }) in
    let total : aligned (total_of k) ≡ 56 = ap aligned (shutdown_total (start_after mib (segment_bytes mib))) in
    let same : flat_before mib (place mib f) ≡ f = flat_place mib f some in
    let last : flat_before mib (place mib f) + aligned (total_of k) - 1 ≡ f + 55 = omega (arith, total, same) in
    ap (λ (n : ℕ). place mib n + 1) last ∙ ap (λ (n : ℕ). n + 1) (first_places mib 55 some (omega arith)) ∙ (omega arith)

-- the history of a new store
pub run_first : (mib : ℕ) → 1 ≤ mib → IsRunTo mib (entry_of (first_record mib) ∷ []) empty
run_first mib some =
    let r : Record = first_record mib in
    let end = first_end mib some in
    let long : r.start.0 < r.end.0 = end_later mib (segment_bytes mib) (total_of r.kind) some (omega arith) in
    let new : IsRun mib (entry_of r ∷ []) = record {
      own = [];
      grown = refl;
      store = empty;
      made = refl;
      orderly = (omega arith, long, tt, tt);
      ours = All-push (λ (x : Entry). r.end.0 ≤ x.start → is_of_run x ≡ true) [] (entry_of r) (All-nil (λ (x : Entry). r.end.0 ≤ x.start → is_of_run x ≡ true)) (λ later. absurd (omega (arith, later, long)));
      tidy = (tt, λ next is. tt);
      logged = record { starts = tt; written = tt };
      within = All-push (λ (x : Entry). x.end ≤ wal_limit mib) [] (entry_of r) (All-nil (λ (x : Entry). x.end ≤ wal_limit mib)) (omega (arith, end, some));
      late = omega arith;
      redo = omega (arith, long);
    } in
    record { run = new; makes = refl }
