-- A lawful history with one more entry.
use Rattle.std.proofs.Common.{◌≡◌, ℕ, ◌+◌, ◌<◌, ◌≤◌, ◌^◌, Bool, true, cond, List, [], ◌∷◌, ◌++◌, map, Option, Some, refl, sym, ap, subst, ◌∙◌, arith, append_assoc}
use Rattle.std.specs.Prelude.{◌==◌, ◌||◌}
use Rattle.std.specs.Option.{unwrap_or}
use Rattle.std.specs.FinMap.{empty}
use Rattle.std.proofs.lemmas.List.Elements.{All-push}
use Rattle.lsn_core.specs.byte_words.Numbers.{◌>>=◌}
use Rattle.lsn_core.proofs.byte_words.Fields.{bind_some}
use Rattle.lsn_core.specs.Store.{Store}
use Rattle.lsn_core.specs.Tip.{Tip, tip_with}
use Rattle.wal_record.specs.declared.record.Record.{Record}
use Rattle.wal_record.specs.declared.record.Kind.{Kind}
use Rattle.wal_record.specs.Spelling.{total_of}
use Rattle.wal_record.specs.Tips.{first_tip, tip_after, is_redo_mark, record_at_tip}
use Rattle.history.specs.Entry.{Act, Entry, is_of_run}
use Rattle.history.specs.Apply.{apply, apply_all}
use Rattle.history.specs.Op.{IsTidy}
use Rattle.history.specs.Whole.{entry_of}
use Rattle.history.specs.Written.{Before, behind, behind_all, at_first, kind_of, next_record, is_redo, tip_past, tip_over, tip_of, written, wal_of}
use Rattle.history.specs.Laws.{IsFresh, HasGoodPages, AreWrittenInPlace}
use Rattle.history.proofs.Histories.{written_on, tip_over-append, apply_all-push, apply_all-behind}
use Rattle.history.specs.fuzzy_copies.Covers.{AreTidy}
use Rattle.history.specs.fuzzy_copies.Logged.{history_of, found_before, log_of, StartInPlace, AreLogged}
use Rattle.journal.specs.Lawful.{IsLawful}
use Rattle.journal.specs.Journal.{MayComeNext, entry_at}
use Rattle.journal.specs.Laws.{GoesOn, LawfulGoesOn}
use Rattle.journal.proofs.Stands.{start_later, end_later, stand_push}
use Rattle.journal.proofs.Parting.{redo_same}

-- what is known behind a history that can be applied
some_of : (o : Option Store) (store next : Store) → o ≡ Some next → unwrap_or o store ≡ next
some_of o store next e = rw e refl

pub known_behind : (before : Before) (h : List Entry) (store : Store) → apply_all before.store h ≡ Some store → ((behind_all before h).tip ≡ tip_over before.tip h) × ((behind_all before h).store ≡ store)
known_behind before [] store applied = (refl, cc)
known_behind before (e ∷ h) store applied =
    let b = bind_some (apply before.store e) (λ s. apply_all s h) store applied in
    let there : (behind before e).store ≡ b.0 = some_of (apply before.store e) before.store b.0 b.1 in
    known_behind (behind before e) h store (subst (λ (s : Store). apply_all s h ≡ Some store) (sym there) b.2)

behind_all-append : (before : Before) (es fs : List Entry) → behind_all before (es ++ fs) ≡ behind_all (behind_all before es) fs
behind_all-append before [] fs = refl
behind_all-append before (e ∷ es) fs = behind_all-append (behind before e) es fs

-- one more entry that starts and ends where its record does
starts_push : (mib : ℕ) (before : Before) (es : List Entry) (e : Entry) → StartInPlace mib before es → e.start ≡ (next_record mib (behind_all before es) e.act).start.0 → StartInPlace mib before (es ++ (e ∷ []))
starts_push mib before [] e starts is = (is, tt)
starts_push mib before (f ∷ es) e starts is = (starts.0, starts_push mib (behind before f) es e starts.1 is)

in_place_push : (mib : ℕ) (before : Before) (es : List Entry) (e : Entry) → AreWrittenInPlace mib before es → is_of_run e ≡ true → e.end ≡ (next_record mib (behind_all before es) e.act).end.0
    → (behind_all before es).tip.end < e.end → IsFresh e.act → HasGoodPages e.act → AreWrittenInPlace mib before (es ++ (e ∷ []))
in_place_push mib before [] e placed own end later fresh good = (own, (end, (later, ((fresh, good), tt))))
in_place_push mib before (f ∷ es) e placed own end later fresh good =
    (placed.0, (placed.1.0, (placed.1.1.0, (placed.1.1.1.0, in_place_push mib (behind before f) es e placed.1.1.1.1 own end later fresh good))))

tidy_push : (base : Store) (es : List Entry) (e : Entry) → AreTidy base es → ((last : Store) → apply_all base es ≡ Some last → IsTidy last e.act) → AreTidy base (es ++ (e ∷ []))
tidy_push base [] e tidy one = (one base refl, λ next is. tt)
tidy_push base (f ∷ es) e tidy one =
    (tidy.0, λ next is. tidy_push next es e (tidy.1 next is) (λ last made. one last (ap (λ (o : Option Store). o >>= λ s. apply_all s es) is ∙ made)))

one_written : (mib : ℕ) (before : Before) (e : Entry) → is_of_run e ≡ true → written mib before (e ∷ []) ≡ next_record mib before e.act ∷ []
one_written mib before e is = rw is refl

pub wal_push : (mib : ℕ) (h : List Entry) (e : Entry) → is_of_run e ≡ true → wal_of mib (h ++ (e ∷ [])) ≡ wal_of mib h ++ (next_record mib (behind_all (at_first mib) h) e.act ∷ [])
wal_push mib h e is =
    written_on mib (at_first mib) h (e ∷ []) ∙ ap (λ (rs : List Record). wal_of mib h ++ rs) (one_written mib (behind_all (at_first mib) h) e is)

-- an entry and its record move the end of the WAL alike
tips_move : (tip : Tip) (act : Act) (worker : ℕ) (seq : Option ℕ) (r : Record) → is_redo act ≡ is_redo_mark r.kind → tip_past tip (entry_at r act worker seq) ≡ tip_after tip r
tips_move tip act worker seq r same = ap (λ (b : Bool). tip_with r.end.0 r.start.0 (cond ((tip.count == 0) || b) r.start.0 tip.redo) (tip.count + 1)) same

-- what comes of an act that may come next
record Next (mib : ℕ) (history : List Entry) (act : Act) (kind : Kind) (store : Store) : Type 0 where
  known : next_record mib (behind_all (at_first mib) history) act ≡ record_at_tip mib (tip_of mib history) kind
  tip : (behind_all (at_first mib) history).tip ≡ tip_of mib history
  start : (tip_of mib history).end ≤ (record_at_tip mib (tip_of mib history) kind).start.0
  end : (record_at_tip mib (tip_of mib history) kind).start.0 < (record_at_tip mib (tip_of mib history) kind).end.0

next_of : (mib : ℕ) (history : List Entry) (act : Act) (kind : Kind) (store : Store) → 1 ≤ mib → apply_all empty history ≡ Some store → kind ≡ kind_of store (tip_of mib history).redo act → Next mib history act kind store
next_of mib history act kind store some made is =
    let known = known_behind (at_first mib) history store made in
    let tip : Tip = tip_of mib history in
    let b : Before = behind_all (at_first mib) history in
    record {
      known = ap (λ (t : Tip). record_at_tip mib t (kind_of b.store t.redo act)) known.0 ∙ ap (λ (s : Store). record_at_tip mib tip (kind_of s tip.redo act)) known.1 ∙ ap (record_at_tip mib tip) (sym is);
      tip = known.0;
      start = start_later mib tip.end;
      end = end_later mib tip.end (total_of kind) some (omega arith);
    }

grown_more : (found : List Record) (own : List Entry) (e : Entry) → history_of found (own ++ (e ∷ [])) ≡ history_of found own ++ (e ∷ [])
grown_more found own e = sym (append_assoc (map entry_of found) own (e ∷ []))

logged_more : (mib : ℕ) (found : List Record) (own : List Entry) (act : Act) (kind : Kind) (store : Store) (worker : ℕ) (seq : Option ℕ) → Next mib (history_of found own) act kind store
    → IsFresh act → HasGoodPages act → AreLogged mib found own → AreLogged mib found (own ++ (entry_at (record_at_tip mib (tip_of mib (history_of found own)) kind) act worker seq ∷ []))
logged_more mib found own act kind store worker seq next fresh good logged =
    let r : Record = record_at_tip mib (tip_of mib (history_of found own)) kind in
    let e : Entry = entry_at r act worker seq in
    let before : Before = behind_all (found_before mib found) own in
    let same : behind_all (at_first mib) (history_of found own) ≡ before = behind_all-append (at_first mib) (map entry_of found) own in
    let is : next_record mib before act ≡ r = sym (ap (λ (b : Before). next_record mib b act) same) ∙ next.known in
    let tip : before.tip ≡ tip_of mib (history_of found own) = sym (ap (λ (b : Before). b.tip) same) ∙ next.tip in
    let ends : before.tip.end ≡ (tip_of mib (history_of found own)).end = ap (λ (t : Tip). t.end) tip in
    record {
      starts = starts_push mib (found_before mib found) own e logged.starts (ap (λ (x : Record). x.start.0) (sym is));
      written =
          in_place_push mib (found_before mib found) own e logged.written refl (ap (λ (x : Record). x.end.0) (sym is))
          (omega (arith, ends, next.start, next.end)) fresh good;
    }

records_more : (mib : ℕ) (found : List Record) (own : List Entry) (act : Act) (kind : Kind) (store : Store) (worker : ℕ) (seq : Option ℕ) → Next mib (history_of found own) act kind store
    → log_of mib found (own ++ (entry_at (record_at_tip mib (tip_of mib (history_of found own)) kind) act worker seq ∷ [])) ≡ log_of mib found own ++ (record_at_tip mib (tip_of mib (history_of found own)) kind ∷ [])
records_more mib found own act kind store worker seq next =
    let h : List Entry = history_of found own in
    let r : Record = record_at_tip mib (tip_of mib h) kind in
    let e : Entry = entry_at r act worker seq in
    let more : wal_of mib (h ++ (e ∷ [])) ≡ wal_of mib h ++ (r ∷ []) = wal_push mib h e refl ∙ ap (λ (x : Record). wal_of mib h ++ (x ∷ [])) next.known in
    ap (λ (x : List Entry). found ++ wal_of mib x) (grown_more found own e) ∙ ap (λ (rs : List Record). found ++ rs) more ∙ sym (append_assoc found (wal_of mib h) (r ∷ []))

same_some : (a b : Store) → Some a ≡ Some b → a ≡ b
same_some a b e = cc

own_tidy : (found : List Record) (own : List Entry) (store : Store) (e : Entry) → apply_all empty (history_of found own) ≡ Some store → IsTidy store e.act
    → ((base : Store) → apply_all empty (map entry_of found) ≡ Some base → AreTidy base own) → (base : Store) → apply_all empty (map entry_of found) ≡ Some base → AreTidy base (own ++ (e ∷ []))
own_tidy found own store e made tidy all base first =
    tidy_push base own e (all base first)
    (λ last is.
    let same : store ≡ last = same_some store last (sym made ∙ (apply_all-behind empty (map entry_of found) own base first ∙ is)) in
    subst (λ s. IsTidy s e.act) same tidy)

-- all of that for the entry of an act that may come next
goes : (mib worker pages : ℕ) (seq : Option ℕ) (history : List Entry) (act : Act) (kind : Kind) (lawful : IsLawful mib history) → MayComeNext (tip_of mib history).redo lawful.store act kind pages
    → 1 ≤ mib → (record_at_tip mib (tip_of mib history) kind).end.0 < 2 ^ 64 → GoesOn mib history lawful (entry_at (record_at_tip mib (tip_of mib history) kind) act worker seq) (record_at_tip mib (tip_of mib history) kind) pages
goes mib worker pages seq history act kind lawful may some fits =
    let found : List Record = lawful.found in
    let own : List Entry = lawful.own in
    let store : Store = lawful.store in
    let tip : Tip = tip_of mib history in
    let r : Record = record_at_tip mib tip kind in
    let e : Entry = entry_at r act worker seq in
    let one : List Entry = e ∷ [] in
    let next : Next mib history act kind store = next_of mib history act kind store some lawful.made may.kind_is in
    let there : Next mib (history_of found own) act kind store = subst (λ h. Next mib h act kind store) lawful.grown next in
    let same : record_at_tip mib (tip_of mib (history_of found own)) kind ≡ r = ap (λ h. record_at_tip mib (tip_of mib h) kind) (sym lawful.grown) in
    let done = may.done r.end.0 fits in
    record {
      lawful = record {
        found = found;
        own = own ++ one;
        grown = ap (λ (h : List Entry). h ++ one) lawful.grown ∙ sym (grown_more found own e);
        some = lawful.some;
        places = stand_push mib (first_tip mib) history e lawful.places refl next.end;
        fresh = All-push (λ (x : Entry). IsFresh x.act) history e lawful.fresh may.fresh;
        store = done.0;
        made = apply_all-push empty history store e done.0 lawful.made done.1;
        logged = subst (λ (x : Record). AreLogged mib found (own ++ (entry_at x act worker seq ∷ []))) same (logged_more mib found own act kind store worker seq there may.fresh may.good lawful.logged);
        tidy = own_tidy found own store e (sym (ap (apply_all empty) lawful.grown) ∙ lawful.made) may.tidy lawful.tidy;
      };
      found = refl;
      counted = done.2;
      tip = tip_over-append (first_tip mib) history one ∙ tips_move tip act worker seq r (redo_same store tip.redo act ∙ ap is_redo_mark (sym may.kind_is));
      records = subst (λ (x : Record). log_of mib found (own ++ (entry_at x act worker seq ∷ [])) ≡ log_of mib found own ++ (x ∷ [])) same (records_more mib found own act kind store worker seq there);
    }

pub lawful_goes : LawfulGoesOn
lawful_goes mib worker pages seq history act kind lawful may some fits = goes mib worker pages seq history act kind lawful (may lawful.store lawful.made) some fits
