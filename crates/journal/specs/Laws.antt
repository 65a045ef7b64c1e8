-- Laws of lawful histories.
use Rattle.std.specs.Prelude.{◌≡◌, ℕ, ◌+◌, ◌<◌, ◌≤◌, ◌^◌, true, List, [], ◌∷◌, ◌++◌, map, length, Option, Some, IfSome}
use Rattle.std.specs.Option.{is_some}
use Rattle.std.specs.FinMap.{empty}
use Rattle.lsn_core.specs.Files.{Files}
use Rattle.lsn_core.specs.Tip.{Tip}
use Rattle.lsn_core.specs.Store.{Store}
use Rattle.wal_record.specs.declared.record.Record.{Record}
use Rattle.wal_record.specs.declared.record.Kind.{Kind}
use Rattle.wal_record.specs.Decoding.{record_at}
use Rattle.wal_record.specs.Tips.{tip_after, record_at_tip}
use Rattle.wal_archive.specs.Archive.{archive_of}
use Rattle.wal_archive.specs.Rules.{Judge, IsWal}
use Rattle.wal_archive.specs.Laws.{IsFair, HasNoGap}
use Rattle.wal_writer.specs.Log.{Log, IsLog, flush_end, flushed_to}
use Rattle.wal_writer.specs.Answers.{after_flush}
use Rattle.wal_writer.specs.Laws.{IsEndAmong, IsKnown, Waits}
use Rattle.history.specs.Entry.{Act, Entry, is_of_run}
use Rattle.history.specs.Apply.{apply_act, apply_all}
use Rattle.history.specs.Laws.{IsFresh, HasGoodPages}
use Rattle.history.specs.Op.{IsTidy}
use Rattle.history.specs.Whole.{entry_of}
use Rattle.history.specs.Pages.{page_count}
use Rattle.history.specs.Written.{kind_of, tip_of}
use Rattle.history.specs.partitions.Parts.{part_of, IsPart, ConcernsNoOther}
use Rattle.history.specs.fuzzy_copies.Orderly.{IsOrderly, AreOwnFrom}
use Rattle.history.specs.fuzzy_copies.Covers.{AreTidyFrom}
use Rattle.history.specs.fuzzy_copies.Logged.{log_of}
use Rattle.journal.specs.Lawful.{IsLawful}
use Rattle.journal.specs.Journal.{HoldsLog, EndsWith, IsTold, IsEndOf, MayComeNext, MayFollow, entry_at}

-- the entries of a lawful history stand in order
abbrev pub LawfulIsOrderly : Type 0
LawfulIsOrderly = (mib : ℕ) (history : List Entry) → IsLawful mib history → IsOrderly 0 history

-- from where the found ones end, they are tidy
abbrev pub LawfulIsTidy : Type 0
LawfulIsTidy =
    (mib from : ℕ) (history : List Entry) → (lawful : IsLawful mib history)
    → (tip_of mib (map entry_of lawful.found)).end ≤ from → AreTidyFrom from history

-- and so they are from where all are this run's own
abbrev pub OwnIsTidy : Type 0
OwnIsTidy =
    (mib from : ℕ) (history : List Entry) → IsLawful mib history → AreOwnFrom from history
    → AreTidyFrom from history

-- an entry of this run has only own entries behind it, and so they are tidy from its start on
abbrev pub OwnPlacesAreTidy : Type 0
OwnPlacesAreTidy =
    (mib : ℕ) (history front behind : List Entry) (e : Entry) → IsLawful mib history
    → history ≡ front ++ (e ∷ behind) → is_of_run e ≡ true
    → AreOwnFrom e.start history × AreTidyFrom e.start history

-- a lawful history goes on lawfully: by an entry of an act that may come next, at the place of the
-- record that is written next
pub record GoesOn (mib : ℕ) (history : List Entry) (old : IsLawful mib history) (e : Entry)
    (r : Record) (pages : ℕ) : Type 0 where
  pub lawful : IsLawful mib (history ++ (e ∷ []))
  pub found : lawful.found ≡ old.found
  pub counted : page_count lawful.store ≡ pages
  pub tip : tip_of mib (history ++ (e ∷ [])) ≡ tip_after (tip_of mib history) r
  pub records : log_of mib lawful.found lawful.own ≡ log_of mib old.found old.own ++ (r ∷ [])

abbrev pub LawfulGoesOn : Type 0
LawfulGoesOn =
    (mib worker pages : ℕ) (seq : Option ℕ) (history : List Entry) (act : Act) (kind : Kind)
    → (lawful : IsLawful mib history) → MayFollow mib history act kind pages → 1 ≤ mib
    → (record_at_tip mib (tip_of mib history) kind).end.0 < 2 ^ 64 → GoesOn mib history lawful
    (entry_at (record_at_tip mib (tip_of mib history) kind) act worker seq)
    (record_at_tip mib (tip_of mib history) kind) pages

-- an act of one partition alone is written by the partition's part as by the store
abbrev pub PartsTellKinds : Type 0
PartsTellKinds =
    (q redo : ℕ) (store part : Store) (act : Act) → IsPart q store part → ConcernsNoOther q act
    → kind_of part redo act ≡ kind_of store redo act

-- and may come next where it can be done on the part, of whose pages so many go and are added
abbrev pub OwnActsMayComeNext : Type 0
OwnActsMayComeNext =
    (q redo gone added pages : ℕ) (store part : Store) (act : Act) (kind : Kind)
    → IsPart q store part → ConcernsNoOther q act
    → kind ≡ kind_of part redo act → IsTidy part act → IsFresh act → HasGoodPages act
    → ((end : ℕ) → end < 2 ^ 64 → (next : Store) × (apply_act end part act ≡ Some next)
    × (page_count next + gone ≡ page_count part + added))
    → pages + gone ≡ page_count store + added → MayComeNext redo store act kind pages

-- so may an act behind a history, where the partition's part is what the history's part makes
abbrev pub PartsMayFollow : Type 0
PartsMayFollow =
    (log : Log) (told : Option Files) (history : List Entry)
    (pages q gone added next : ℕ) (part : Store) (act : Act) (kind : Kind)
    → IsTold log told history pages
    → apply_all empty (map (part_of q) history) ≡ Some part → ConcernsNoOther q act
    → kind ≡ kind_of part log.tip.redo act → IsTidy part act → IsFresh act → HasGoodPages act
    → ((end : ℕ) → end < 2 ^ 64 → (last : Store) × (apply_act end part act ≡ Some last)
    × (page_count last + gone ≡ page_count part + added))
    → next + gone ≡ pages + added → MayFollow log.mib history act kind next

-- the entries that a WAL was found to have, of which there is one at least, are a lawful history,
-- which a log tells in which nothing waits
abbrev pub FoundIsTold : Type 0
FoundIsTold =
    (log : Log) (told : Option Files) (records : List Record) (store : Store)
    → IsLog log → log.flushed ≡ log.tip.end → 0 < length records → is_some told ≡ true
    → IfSome told (λ files. IsWal record_at log.mib log.system files records log.tip)
    → apply_all empty (map entry_of records) ≡ Some store
    → IsTold log told (map entry_of records) (page_count store)

-- a log ends with the entries that its WAL was found to have
abbrev pub FoundAreEnded : Type 0
FoundAreEnded =
    (log : Log) (records : List Record) (files : Files) → IsLog log
    → IsWal record_at log.mib log.system files records log.tip → EndsWith log (map entry_of records)

-- the end of a WAL counts the entries of its history
abbrev pub TipsCountEntries : Type 0
TipsCountEntries = (mib : ℕ) (history : List Entry) → (tip_of mib history).count ≡ length history

-- the last entry of a lawful history ends where the history's WAL does
abbrev pub HistoriesEndAtAnEntry : Type 0
HistoriesEndAtAnEntry =
    (mib : ℕ) (history : List Entry) → IsLawful mib history
    → IsEndOf history (tip_of mib history).end

-- what a flush up to a place leaves: the archive is the entries before and those that waited up to
-- there, and ends there unless it goes on over a missing file; the others wait behind
pub record IsKeptTo (judge : Judge) (log : Log) (files : Files) (rs waiting : List Record)
    (tip : Tip) (at : ℕ) : Type 0 where
  pub done : List Record
  pub behind : List Record
  pub mid : Tip
  pub all : waiting ≡ done ++ behind
  pub place : mid.end ≡ at
  pub known : IsKnown judge (flushed_to log at) (after_flush log at files) (rs ++ done) mid
  pub waits : Waits judge (flushed_to log at) mid behind
  pub ended : HasNoGap log.mib (archive_of log.mib (after_flush log at files)) at
      → IsWal judge log.mib log.system (after_flush log at files) (rs ++ done) mid

abbrev pub FlushedEntriesAreKept : Type 0
FlushedEntriesAreKept =
    (judge : Judge) (log : Log) (files : Files) (rs waiting : List Record) (tip : Tip) (to : ℕ)
    → IsFair judge → IsLog log → IsKnown judge log files rs tip → Waits judge log tip waiting
    → log.flushed < to → IsEndAmong tip waiting to
    → IsKeptTo judge log files rs waiting tip (flush_end log to)

-- where nothing waits, the archive is the records of the history, unless it goes on over a missing
-- file
abbrev pub KeptIsWal : Type 0
KeptIsWal =
    (log : Log) (files : Files) (records : List Record) → IsLog log
    → HoldsLog log files records → log.flushed ≡ log.tip.end
    → HasNoGap log.mib (archive_of log.mib files) log.tip.end
    → IsWal record_at log.mib log.system files records log.tip
