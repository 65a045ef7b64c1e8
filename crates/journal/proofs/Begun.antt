-- The entries that a WAL was found to have, as a history.
use Rattle.std.proofs.Common.{◌≡◌, ℕ, ◌+◌, ◌<◌, ◌≤◌, List, [], ◌∷◌, ◌++◌, map, length, Some, None, refl, sym, ap, subst, ◌∙◌, arith}
use Rattle.std.specs.List.{All}
use Rattle.std.specs.FinMap.{empty}
use Rattle.std.proofs.lemmas.List.{append-nil, nil_from_length}
use Rattle.std.proofs.lemmas.List.Elements.{All-nil, All-cons}
use Rattle.lsn_core.specs.Files.{Files}
use Rattle.lsn_core.specs.Store.{Store}
use Rattle.lsn_core.specs.Tip.{Tip}
use Rattle.lsn_core.specs.declared.lsn.Lsn.{Lsn}
use Rattle.wal_pages.specs.Places.{start_after, end_of}
use Rattle.wal_record.specs.declared.record.Record.{Record}
use Rattle.wal_record.specs.Decoding.{record_at}
use Rattle.wal_record.specs.Tips.{first_tip, tip_after, tip_behind}
use Rattle.wal_archive.specs.Archive.{Archive, archive_of}
use Rattle.wal_archive.specs.Rules.{IsWal, Walks}
use Rattle.wal_archive.specs.Stands.{IsEnd}
use Rattle.wal_archive.proofs.Cut.{ending}
use Rattle.wal_archive.proofs.Next.{next_stands}
use Rattle.wal_archive.proofs.Chain.{given}
use Rattle.wal_archive.proofs.Read.{origin_end, wal_kept}
use Rattle.wal_archive.proofs.Judged.{record_is_fair}
use Rattle.wal_writer.specs.Log.{Log, IsLog}
use Rattle.history.specs.Entry.{Entry}
use Rattle.history.specs.Apply.{apply_all}
use Rattle.history.specs.Laws.{IsFresh}
use Rattle.history.specs.Whole.{entry_of}
use Rattle.history.specs.Written.{tip_past, tip_over, tip_of}
use Rattle.history.proofs.Histories.{tip_over_read}
use Rattle.history.specs.fuzzy_copies.Orderly.{AllEndBy}
use Rattle.history.specs.fuzzy_copies.Logged.{log_of}
use Rattle.history.proofs.fuzzy_copies.Repeats.{kind_fresh}
use Rattle.journal.specs.Lawful.{StandInPlace, IsLawful}
use Rattle.journal.specs.Journal.{HoldsLog}
use Rattle.journal.specs.Laws.{FoundIsTold, FoundAreEnded, TipsCountEntries}
use Rattle.journal.proofs.Stands.{end_later, over_later}
use Rattle.journal.proofs.Ends.{own_alone}
use Rattle.lsn_core.specs.Segment.{segment_bytes}

-- entries that are read stand in their places
read_stand : (mib system : ℕ) (a : Archive) (tip : Tip) (rs : List Record) (last : Tip) → 1 ≤ mib → IsEnd mib tip.end → Walks record_at mib system a tip rs last → StandInPlace mib tip.end (map entry_of rs)
read_stand mib system a tip [] last some end walk = tt
read_stand mib system a tip (r ∷ rs) last some end walk =
    let g = given record_at mib system a tip r walk.0 in
    let st = next_stands a mib system tip.end g.bytes some end g.read in
    let least : 0 < length g.bytes = omega (arith, st.least) in
    let fair = record_is_fair _ _ _ _ g.taken in
    let start : r.start.0 ≡ start_after mib tip.end = ap (λ (l : Lsn). l.0) fair.0 in
    let ends : r.end.0 ≡ end_of mib (start_after mib tip.end) (length g.bytes) = ap (λ (l : Lsn). l.0) fair.1 in
    let behind : IsEnd mib r.end.0 = subst (IsEnd mib) (sym ends) (ending mib tip.end (length g.bytes) some end least).is_end in
    (start, omega (arith, start, ends, end_later mib tip.end (length g.bytes) some least), read_stand mib system a (tip_after tip r) rs last some behind walk.1)

read_tip : (mib system : ℕ) (a : Archive) (tip : Tip) (rs : List Record) (last : Tip) → Walks record_at mib system a tip rs last → last ≡ tip_behind tip rs
read_tip mib system a tip [] last walk = walk
read_tip mib system a tip (r ∷ rs) last walk = read_tip mib system a (tip_after tip r) rs last walk.1

read_fresh : (rs : List Record) → All (λ e. IsFresh e.act) (map entry_of rs)
read_fresh [] = All-nil (λ (e : Entry). IsFresh e.act)
read_fresh (r ∷ rs) = All-cons (λ (e : Entry). IsFresh e.act) (entry_of r) (map entry_of rs) (kind_fresh r.kind) (read_fresh rs)

nothing_pending : (log : Log) → IsLog log → log.flushed ≡ log.tip.end → log.pending ≡ []
nothing_pending log is none = nil_from_length log.pending (omega (arith, is.pending, none))

found_stand : (log : Log) (files : Files) (records : List Record) → IsLog log → IsWal record_at log.mib log.system files records log.tip → StandInPlace log.mib (segment_bytes log.mib) (map entry_of records)
found_stand log files records is wal = read_stand log.mib log.system (archive_of log.mib files) (first_tip log.mib) records log.tip is.segment.least (origin_end log.mib) wal.walk

found_tip : (log : Log) (files : Files) (records : List Record) → IsWal record_at log.mib log.system files records log.tip → log.tip ≡ tip_of log.mib (map entry_of records)
found_tip log files records wal = read_tip log.mib log.system (archive_of log.mib files) (first_tip log.mib) records log.tip wal.walk ∙ sym (tip_over_read (first_tip log.mib) records)

found_lawful : (log : Log) (files : Files) (records : List Record) (store : Store) → IsLog log → 0 < length records → IsWal record_at log.mib log.system files records log.tip → apply_all empty (map entry_of records) ≡ Some store
    → IsLawful log.mib (map entry_of records)
found_lawful log files records store is some wal made = record {
  found = records;
  own = [];
  grown = sym (append-nil (map entry_of records));
  some = some;
  places = found_stand log files records is wal;
  fresh = read_fresh records;
  store = store;
  made = made;
  logged = record { starts = tt; written = tt };
  tidy = λ base first. tt;
}

found_held : (log : Log) (files : Files) (records : List Record) → IsLog log → log.flushed ≡ log.tip.end → IsWal record_at log.mib log.system files records log.tip → HoldsLog log files (log_of log.mib records [])
found_held log files records is none wal = record {
  stable = records;
  waiting = [];
  all = ap (λ (rs : List Record). records ++ rs) (own_alone log.mib records []);
  tip = log.tip;
  known = record {
    limit = start_after log.mib log.tip.end;
    kept = wal_kept record_at log.mib log.system files records log.tip record_is_fair is.segment.least wal;
    within = omega arith;
  };
  waits = record { from = none; chain = refl; bytes = nothing_pending log is none; touched = λ lt. absurd (omega (arith, lt, is.touched, none)) };
  ended = λ clean gap. wal;
}

over_count : (tip : Tip) (es : List Entry) → (tip_over tip es).count ≡ tip.count + length es
over_count tip [] = omega arith
over_count tip (e ∷ es) = (let h = over_count (tip_past tip e) es in omega (arith, h))

pub tips_count : TipsCountEntries
tips_count mib history = (let h = over_count (first_tip mib) history in omega (arith, h))

found_ended : (mib : ℕ) (tip : Tip) (es : List Entry) → StandInPlace mib tip.end es → AllEndBy (tip_over tip es).end es
found_ended mib tip [] stands = All-nil (λ (e : Entry). e.end ≤ (tip_over tip []).end)
found_ended mib tip (e ∷ es) stands = All-cons (λ (x : Entry). x.end ≤ (tip_over (tip_past tip e) es).end) e es (over_later mib (tip_past tip e) es stands.2) (found_ended mib (tip_past tip e) es stands.2)

pub found_are_ended : FoundAreEnded
found_are_ended log records files is wal =
    let tip = found_tip log files records wal in
    record {
      counted = sym (tips_count log.mib (map entry_of records)) ∙ sym (ap (λ (t : Tip). t.count) tip);
      end = sym (ap (λ (t : Tip). t.end) tip);
      within = subst (λ (t : Tip). AllEndBy t.end (map entry_of records)) (sym tip) (found_ended log.mib (first_tip log.mib) (map entry_of records) (found_stand log files records is wal));
    }

pub found_told : FoundIsTold
unfolding found_lawful
found_told log None records store is none some tells wal made = absurd cc
found_told log (Some files) records store is none some tells wal made = record {
  lawful = found_lawful log files records store is some wal made;
  tip = found_tip log files records wal;
  counted = refl;
  held = found_held log files records is none wal;
}
