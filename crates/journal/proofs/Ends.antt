-- Where entries end, and their records: where one does behind what is flushed, an entry that waits does.
use Rattle.std.proofs.Common.{◌≡◌, ℕ, ◌<◌, ◌≤◌, Bool, true, false, cond, List, [], ◌∷◌, ◌++◌, map, length, refl, sym, ap, subst, ◌∙◌, arith, inl, inr}
use Rattle.std.specs.Prelude.{◌==◌, ◌||◌}
use Rattle.std.specs.List.{list_any}
use Rattle.std.proofs.lemmas.Bool.{eqb-true, eq-eqb, ne_eqb, or_right}
use Rattle.std.proofs.lemmas.List.{map-append}
use Rattle.lsn_core.specs.Tip.{Tip}
use Rattle.wal_pages.specs.Places.{start_after}
use Rattle.wal_record.specs.declared.record.Record.{Record}
use Rattle.wal_record.specs.Tips.{first_tip, tip_after}
use Rattle.wal_archive.specs.Archive.{Archive}
use Rattle.wal_archive.specs.Rules.{Judge, Walks}
use Rattle.wal_writer.specs.Laws.{IsEndAmong}
use Rattle.history.specs.Entry.{Entry}
use Rattle.history.specs.Whole.{entry_of}
use Rattle.history.specs.Written.{Before, behind, at_first, next_record, tip_past, tip_over, written, wal_of}
use Rattle.history.specs.Laws.{AreWrittenInPlace}
use Rattle.history.proofs.Histories.{written_on}
use Rattle.history.specs.fuzzy_copies.Logged.{history_of, found_before, log_of, AreLogged}
use Rattle.history.proofs.fuzzy_copies.Completed.{or_second}
use Rattle.journal.specs.Lawful.{StandInPlace, IsLawful}
use Rattle.journal.specs.Laws.{HistoriesEndAtAnEntry}
use Rattle.journal.proofs.Stands.{start_later}
use Rattle.journal.specs.Journal.{IsEndOf}

abbrev pub entry_ends : List Entry → List ℕ
entry_ends es = map (λ e. e.end) es

abbrev pub record_ends : List Record → List ℕ
record_ends rs = map (λ r. r.end.0) rs

-- a number is among others
abbrev pub has : ℕ → List ℕ → Bool
has at ns = list_any (λ n. n == at) ns

-- numbers that rise
abbrev pub Rise : ℕ → List ℕ → Type 0
Rise last [] = Unit {0}
Rise last (n ∷ ns) = (last < n) × Rise n ns

abbrev pub last_of : ℕ → List ℕ → ℕ
last_of last [] = last
last_of last (n ∷ ns) = last_of n ns

pub ends_rise : (mib last : ℕ) (es : List Entry) → StandInPlace mib last es → Rise last (entry_ends es)
ends_rise mib last [] stands = tt
ends_rise mib last (e ∷ es) stands =
    let start : e.start ≡ start_after mib last = stands.0 in
    let long : e.start < e.end = stands.1 in
    (omega (arith, start_later mib last, start, long), ends_rise mib e.end es stands.2)

last_later : (last : ℕ) (xs ys : List ℕ) → Rise last (xs ++ ys) → last ≤ last_of last xs
last_later last [] ys rise = omega arith
last_later last (x ∷ xs) ys rise =
    let here : last < x = rise.0 in
    let rest : x ≤ last_of x xs = last_later x xs ys rise.1 in
    omega (arith, here, rest)

-- a number above the last of some is among those behind them
pub among_rest : (last : ℕ) (xs ys : List ℕ) (at : ℕ) → Rise last (xs ++ ys) → last_of last xs < at → has at (xs ++ ys) ≡ true → has at ys ≡ true
among_rest last [] ys at rise above there = there
among_rest last (x ∷ xs) ys at rise above there =
    let le : x ≤ last_of x xs = last_later x xs ys rise.1 in
    let other : (x == at) ≡ false = ne_eqb x at (λ e. absurd (omega (arith, e, le, above))) in
    among_rest x xs ys at rise.1 above (or_second (x == at) (has at (xs ++ ys)) there other)

-- the end of an entry among those that wait
ends_first : (tip : Tip) (rs : List Record) (at : ℕ) → at ≡ tip.end → IsEndAmong tip rs at
ends_first tip [] at here = here
ends_first tip (r ∷ rs) at here = inl here

pub end_among : (tip : Tip) (rs : List Record) (at : ℕ) → has at (record_ends rs) ≡ true → IsEndAmong tip rs at
end_among tip [] at there = absurd cc
end_among tip (r ∷ rs) at there =
    inr (elim (r.end.0 == at) as (λ b. (r.end.0 == at) ≡ b → IsEndAmong (tip_after tip r) rs at) [
      | true ↦ λ is. ends_first (tip_after tip r) rs at (sym (eqb-true r.end.0 at is))
      | false ↦ λ is. end_among (tip_after tip r) rs at (or_second (r.end.0 == at) (has at (record_ends rs)) there is)
    ] refl)

-- the end of entries that are read
pub walk_end : (judge : Judge) (mib system : ℕ) (a : Archive) (tip : Tip) (rs : List Record) (last : Tip) → Walks judge mib system a tip rs last → last.end ≡ last_of tip.end (record_ends rs)
walk_end judge mib system a tip [] last walk = ap (λ (t : Tip). t.end) walk
walk_end judge mib system a tip (r ∷ rs) last walk = walk_end judge mib system a (tip_after tip r) rs last walk.1

-- the records of a history end where its entries do
found_ends : (rs : List Record) → entry_ends (map entry_of rs) ≡ record_ends rs
found_ends [] = refl
found_ends (r ∷ rs) = ap (λ (ns : List ℕ). r.end.0 ∷ ns) (found_ends rs)

own_ends : (mib : ℕ) (before : Before) (es : List Entry) → AreWrittenInPlace mib before es → record_ends (written mib before es) ≡ entry_ends es
own_ends mib before [] placed = refl
own_ends mib before (e ∷ es) placed =
    let r : Record = next_record mib before e.act in
    let rest : List Record = written mib (behind before e) es in
    let end : e.end ≡ r.end.0 = placed.1.0 in
    ap (λ b. record_ends (cond b (r ∷ rest) rest)) placed.0
    ∙ (ap (λ (n : ℕ). n ∷ record_ends rest) (sym end) ∙ ap (λ (ns : List ℕ). e.end ∷ ns) (own_ends mib (behind before e) es placed.1.1.1.1))

none_written : (mib : ℕ) (before : Before) (rs : List Record) → written mib before (map entry_of rs) ≡ []
none_written mib before [] = refl
none_written mib before (r ∷ rs) = none_written mib (behind before (entry_of r)) rs

pub own_alone : (mib : ℕ) (found : List Record) (own : List Entry) → wal_of mib (history_of found own) ≡ written mib (found_before mib found) own
own_alone mib found own =
    written_on mib (at_first mib) (map entry_of found) own ∙ ap (λ (rs : List Record). rs ++ written mib (found_before mib found) own) (none_written mib (at_first mib) found)

pub log_ends : (mib : ℕ) (found : List Record) (own : List Entry) → AreLogged mib found own → record_ends (log_of mib found own) ≡ entry_ends (history_of found own)
log_ends mib found own logged =
    ap (λ (rs : List Record). record_ends (found ++ rs)) (own_alone mib found own)
    ∙ (map-append (λ (r : Record). r.end.0) found (written mib (found_before mib found) own)
    ∙ (ap (λ (ns : List ℕ). record_ends found ++ ns) (own_ends mib (found_before mib found) own logged.written)
    ∙ (ap (λ (ns : List ℕ). ns ++ entry_ends own) (sym (found_ends found)) ∙ sym (map-append (λ (e : Entry). e.end) (map entry_of found) own))))

pub end_has : (es : List Entry) (at : ℕ) → list_any (λ (e : Entry). e.end == at) es ≡ has at (entry_ends es)
end_has [] at = refl
end_has (e ∷ es) at = ap (λ b. (e.end == at) || b) (end_has es at)

-- the last entry ends where the WAL does
last_ends : (tip : Tip) (e : Entry) (es : List Entry) → list_any (λ (x : Entry). x.end == (tip_over tip (e ∷ es)).end) (e ∷ es) ≡ true
last_ends tip e [] = ap (λ b. b || false) (eq-eqb e.end e.end refl)
last_ends tip e (f ∷ es) = or_right (e.end == (tip_over (tip_past tip e) (f ∷ es)).end) _ (last_ends (tip_past tip e) f es)

entries_end : (tip : Tip) (es : List Entry) → 0 < length es → list_any (λ (x : Entry). x.end == (tip_over tip es).end) es ≡ true
entries_end tip [] some = absurd (omega (arith, some))
entries_end tip (e ∷ es) some = last_ends tip e es

some_there : (found : List Record) (own : List Entry) → 0 < length found → 0 < length (history_of found own)
some_there [] own some = absurd (omega (arith, some))
some_there (r ∷ rs) own some = omega arith

pub history_some : (mib : ℕ) (history : List Entry) → IsLawful mib history → 0 < length history
history_some mib history lawful = subst (λ h. 0 < length h) (sym lawful.grown) (some_there lawful.found lawful.own lawful.some)

pub ends_at_entry : HistoriesEndAtAnEntry
ends_at_entry mib history lawful = entries_end (first_tip mib) history (history_some mib history lawful)

pub end_pushed : (history : List Entry) (e : Entry) → IsEndOf (history ++ (e ∷ [])) e.end
end_pushed [] e = ap (λ b. b || false) (eq-eqb e.end e.end refl)
end_pushed (x ∷ xs) e = or_right (x.end == e.end) _ (end_pushed xs e)
