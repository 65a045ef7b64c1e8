-- The records of a history's log are those of its entries, one by one.
use Rattle.std.proofs.Common.{◌≡◌, ℕ, zero, suc, ◌*◌, ◌/◌, true, false, cond, List, [], ◌∷◌, ◌++◌, map, take, refl, sym, subst}
use Rattle.std.specs.Prelude.{nat_le}
use Rattle.lsn_core.specs.Store.{Store}
use Rattle.wal_record.specs.declared.record.Record.{Record}
use Rattle.wal_reader.specs.wal_pieces.Laws.{from_place as records_from}
use Rattle.history.specs.Entry.{Shutdown, Online, RedoMark, NoOp, BackupEnd, IdleCut, IdleCommit, Act, Create, Truncate, Change, Drop, Mark, Entry}
use Rattle.history.specs.Whole.{act_of, cuts_main, entry_of}
use Rattle.history.specs.Written.{Before, behind, next_record, written, kind_of, is_redo}
use Rattle.history.specs.Laws.{AreWrittenInPlace}
use Rattle.history.specs.fuzzy_copies.Logged.{history_of, found_before, log_of, StartInPlace}
use Rattle.history.specs.fuzzy_copies.Summary.{table_of}
use Rattle.history.proofs.fuzzy_copies.Logged.{act_touches_same, act_limit_same}
use Rattle.history.proofs.fuzzy_copies.ReadBack.{log_is_written}
use Rattle.journal.specs.Lawful.{IsLawful}
use Rattle.wal_summary.proofs.Tables.{same_table}
use Rattle.lsn_core.specs.Segment.{StoreSettings}
use Rattle.store_locks.specs.Records.{HasRecords, EndBehind}
use Rattle.shared_summaries.specs.summary_publish.Inside.{AreRecordsOf, RiseBehind, from_place}

-- what is written of an act starts a checkpoint where the act does
redo_back : (store : Store) (redo : ℕ) (act : Act) → is_redo (act_of (kind_of store redo act)) ≡ is_redo act
redo_back store redo (Create made) = refl
redo_back store redo (Truncate rel count) = refl
redo_back store redo (Change items) = refl
redo_back store redo (Drop []) = refl
redo_back store redo (Drop (rel ∷ rels)) = refl
redo_back store redo (Mark (IdleCommit time)) = refl
redo_back store redo (Mark (Shutdown at)) = refl
redo_back store redo (Mark (Online at)) = refl
redo_back store redo (Mark (RedoMark n)) = refl
redo_back store redo (Mark NoOp) = refl
redo_back store redo (Mark (BackupEnd at)) = refl
redo_back store redo (Mark (IdleCut rel count others)) =
    elim (cuts_main (2 * others)) as (λ b. is_redo (cond b (Truncate rel count) (Mark (IdleCut rel count (2 * others / 2)))) ≡ false) [ true ↦ refl | false ↦ refl ]

own_records : (mib : ℕ) (b : Before) (own : List Entry) → StartInPlace mib b own → AreWrittenInPlace mib b own → AreRecordsOf (written mib b own) own
own_records mib b [] starts placed = tt
own_records mib b (e ∷ es) starts placed =
    let r : Record = next_record mib b e.act in
    let more : List Record = written mib (behind b e) es in
    subst (λ c. AreRecordsOf (cond c (r ∷ more) more) (e ∷ es)) (sym placed.0) (
      record {
        start = sym starts.0;
        end = sym placed.1.0;
        redo = redo_back b.store b.tip.redo e.act;
        table = same_table (table_of (entry_of r)) (table_of e) record {
          limit = λ fork. act_limit_same b.store b.tip.redo fork e.act placed.1.1.1.0.0;
          listed = λ fork block. act_touches_same b.store b.tip.redo fork block e.act placed.1.1.1.0.0;
        };
      },
      own_records mib (behind b e) es starts.1 placed.1.1.1.1,
    )

found_records : (found ls : List Record) (own : List Entry) → AreRecordsOf ls own → AreRecordsOf (found ++ ls) (map entry_of found ++ own)
found_records [] ls own r = r
found_records (x ∷ found) ls own r = (record { start = refl; end = refl; redo = refl; table = refl }, found_records found ls own r)

log_records : (mib : ℕ) (history : List Entry) (lawful : IsLawful mib history) → AreRecordsOf (log_of mib lawful.found lawful.own) history
log_records mib history lawful =
    let b = found_before mib lawful.found in
    let all = found_records lawful.found (written mib b lawful.own) lawful.own (own_records mib b lawful.own lawful.logged.starts lawful.logged.written) in
    subst (λ (es : List Entry). AreRecordsOf (log_of mib lawful.found lawful.own) es) (sym lawful.grown)
    (subst (λ (rs : List Record). AreRecordsOf rs (history_of lawful.found lawful.own)) (sym (log_is_written mib lawful.found lawful.own)) all)

-- those from a place on, and the first of them
records_from_place : (place : ℕ) (rs : List Record) (es : List Entry) → AreRecordsOf rs es → AreRecordsOf (records_from place rs) (from_place place es)
records_from_place place [] [] h = tt
records_from_place place [] (e ∷ es) h = absurd h
records_from_place place (r ∷ rs) [] h = absurd h
records_from_place place (r ∷ rs) (e ∷ es) h =
    let rest = records_from_place place rs es h.1 in
    let ps = records_from place rs in
    let qs = from_place place es in
    subst (λ (s : ℕ). AreRecordsOf (cond (nat_le place r.start.0) (r ∷ ps) ps) (cond (nat_le place s) (e ∷ qs) qs)) h.0.start
    (elim (nat_le place r.start.0) as (λ t. AreRecordsOf (cond t (r ∷ ps) ps) (cond t (e ∷ qs) qs)) [ true ↦ (h.0, rest) | false ↦ rest ])

first_records : (most : ℕ) (rs : List Record) (es : List Entry) → AreRecordsOf rs es → AreRecordsOf (take most rs) (take most es)
first_records zero rs es h = tt
first_records (suc most) [] [] h = tt
first_records (suc most) [] (e ∷ es) h = absurd h
first_records (suc most) (r ∷ rs) [] h = absurd h
first_records (suc most) (r ∷ rs) (e ∷ es) h = (h.0, first_records most rs es h.1)

-- what an open store answers
pub store_records : (s : StoreSettings) (history : List Entry) (from most : ℕ) (rs : List Record) → HasRecords s history from most rs → AreRecordsOf rs (take most (from_place from history))
store_records s history from most rs has =
    let part = has.1 in
    let log : List Record = log_of s.segment part.lawful.found part.lawful.own in
    subst (λ (l : List Record). AreRecordsOf l (take most (from_place from history))) (sym part.are)
    (first_records most (records_from from log) (from_place from history) (records_from_place from log history (log_records s.segment history part.lawful)))

pub end_rise : (mib place : ℕ) (rs : List Record) → EndBehind mib place rs → RiseBehind place rs
end_rise mib place [] h = tt
end_rise mib place (r ∷ rs) h = (h.0, h.2, end_rise mib r.end.0 rs h.3)
