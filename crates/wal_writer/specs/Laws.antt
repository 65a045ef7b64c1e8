-- What is appended and flushed is read again.
use Rattle.std.specs.Prelude.{◌≡◌, ℕ, ◌<◌, ◌≤◌, ◌⊎◌, max, true, List, [], ◌∷◌, ◌++◌, Some}
use Rattle.lsn_core.specs.Files.{Files}
use Rattle.lsn_core.specs.Tip.{Tip}
use Rattle.wal_pages.specs.Places.{start_after}
use Rattle.wal_record.specs.Decoding.{may_come, record_at}
use Rattle.wal_record.specs.Spelling.{IsWritable}
use Rattle.wal_record.specs.Tips.{tip_after, wal_limit}
use Rattle.wal_record.specs.declared.record.Record.{Record}
use Rattle.wal_record.specs.declared.record.Kind.{Kind}
use Rattle.wal_archive.specs.Archive.{archive_of}
use Rattle.wal_archive.specs.Rules.{Judge, lsn, IsWal}
use Rattle.wal_archive.specs.Writing.{IsNext, IsChain, laid_out}
use Rattle.wal_archive.specs.Laws.{IsFair, IsKept, HasNoGap}
use Rattle.wal_writer.specs.Log.{Log, IsLog, next_record, appended, flush_end, flushed_to, touched_to}
use Rattle.wal_writer.specs.Answers.{after_flush}

-- a place where a tip stands, or where one of some entries behind it ends
abbrev pub IsEndAmong : Tip → List Record → ℕ → Type 0
IsEndAmong tip [] at = at ≡ tip.end
IsEndAmong tip (r ∷ rs) at = (at ≡ tip.end) ⊎ IsEndAmong (tip_after tip r) rs at

-- these entries wait behind a tip to be flushed. A log holds their bytes alone: the list is one
-- that only proofs know
pub record Waits (judge : Judge) (log : Log) (tip : Tip) (waiting : List Record) : Type 0 where
  pub from : log.flushed ≡ tip.end
  pub chain : IsChain judge log.mib tip waiting log.tip
  pub bytes : log.pending ≡ laid_out log.mib log.system tip.end waiting
  pub touched : log.flushed < log.touched → IsEndAmong tip waiting log.touched

-- an entry that is appended is one that comes next, where one may come: the first one has to be a
-- shutdown checkpoint whose redo point is its own start
abbrev pub AppendedComesNext : Type 0
AppendedComesNext =
    (log : Log) (kind : Kind) → IsLog log → IsWritable kind
    → (next_record log kind).end.0 ≤ wal_limit log.mib
    → may_come (Some (lsn log.tip.prev)) (next_record log kind).start kind ≡ true
    → IsNext record_at log.mib log.tip (next_record log kind)

-- an entry that is added waits behind the others
abbrev pub AddedEntriesWait : Type 0
AddedEntriesWait =
    (judge : Judge) (log : Log) (tip : Tip) (waiting : List Record) (r : Record)
    → Waits judge log tip waiting → IsNext judge log.mib log.tip r
    → Waits judge (appended log r) tip (waiting ++ (r ∷ []))

-- a flush that failed leaves all of them waiting
abbrev pub FailedFlushesWait : Type 0
FailedFlushesWait =
    (judge : Judge) (log : Log) (tip : Tip) (waiting : List Record) (to : ℕ)
    → Waits judge log tip waiting → log.flushed < to → IsEndAmong tip waiting to
    → Waits judge (touched_to log (flush_end log to)) tip waiting

-- the area's archive is these entries up to a tip, and what a failed flush may have left behind it
-- the log knows
pub record IsKnown (judge : Judge) (log : Log) (files : Files) (rs : List Record) (tip : Tip)
    : Type 0 where
  pub limit : ℕ
  pub kept : IsKept judge log.mib log.system files rs tip limit
  pub within : limit ≤ max (start_after log.mib tip.end) log.touched

-- what a flush up to a place leaves: the archive is the entries before and those that waited up to
-- there, and the others wait behind
pub record IsFlushed (judge : Judge) (log : Log) (files : Files) (rs waiting : List Record)
    (tip : Tip) (at : ℕ) : Type 0 where
  pub done : List Record
  pub behind : List Record
  pub mid : Tip
  pub all : waiting ≡ done ++ behind
  pub place : mid.end ≡ at
  pub chain : IsChain judge log.mib tip done mid
  pub read : IsWal judge log.mib log.system (after_flush log at files) (rs ++ done) mid
  pub waits : Waits judge (flushed_to log at) mid behind

abbrev pub FlushedEntriesAreRead : Type 0
FlushedEntriesAreRead =
    (judge : Judge) (log : Log) (files : Files) (rs waiting : List Record) (tip : Tip) (to : ℕ)
    → IsFair judge → IsLog log → IsKnown judge log files rs tip → Waits judge log tip waiting
    → log.flushed < to → IsEndAmong tip waiting to
    → HasNoGap log.mib (archive_of log.mib (after_flush log (flush_end log to) files))
    (flush_end log to)
    → IsFlushed judge log files rs waiting tip (flush_end log to)
