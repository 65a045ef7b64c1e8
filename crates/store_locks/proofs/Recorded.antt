-- The records of a WAL that is flushed up to its end.
use Rattle.std.proofs.Common.{◌≡◌, ℕ, ◌≤◌, List, [], ◌∷◌, ◌++◌, Option, Some, None, IsSome, IfSome, refl, sym, ap, subst, ◌∙◌, arith}
use Rattle.std.proofs.lemmas.List.{append-nil}
use Rattle.lsn_core.specs.Files.{Files}
use Rattle.lsn_core.specs.Segment.{StoreSettings}
use Rattle.lsn_core.specs.Store.{Store, files_of}
use Rattle.lsn_core.specs.Tip.{Tip}
use Rattle.vault.specs.declared.area.Vault.{Ghosts}
use Rattle.wal_record.specs.declared.record.Record.{Record}
use Rattle.wal_record.specs.Decoding.{record_at}
use Rattle.wal_record.specs.Tips.{first_tip, tip_after}
use Rattle.wal_archive.specs.Archive.{archive_of}
use Rattle.wal_archive.specs.Rules.{Judge, IsWal, Walks}
use Rattle.wal_archive.specs.Laws.{HasNoGap}
use Rattle.wal_archive.specs.Stands.{IsEnd}
use Rattle.wal_archive.proofs.Chain.{ending_of, walk_reach}
use Rattle.wal_archive.proofs.Judged.{record_is_fair}
use Rattle.wal_archive.proofs.Read.{chain_reach, origin_end}
use Rattle.wal_writer.specs.declared.state.Flushed.{Flushed}
use Rattle.wal_writer.specs.Log.{Log, IsLog}
use Rattle.wal_writer.specs.Laws.{Waits}
use Rattle.history.specs.Entry.{Entry}
use Rattle.history.specs.Written.{tip_of}
use Rattle.history.specs.fuzzy_copies.Logged.{log_of}
use Rattle.journal.specs.Lawful.{IsLawful}
use Rattle.journal.specs.Journal.{HoldsLog, IsTold, IsJournal, IsEndOf, Written}

none_waits : (judge : Judge) (log : Log) (tip : Tip) (waiting : List Record) → 1 ≤ log.mib → IsEnd log.mib tip.end → Waits judge log tip waiting → log.flushed ≡ log.tip.end → waiting ≡ []
none_waits judge log tip [] some end w none = refl
none_waits judge log tip (r ∷ rs) some end w none =
    let one = ending_of judge log.mib tip r some end w.chain.0 in
    let more = chain_reach judge log.mib log.system (tip_after tip r) rs log.tip some one.is_end w.chain.1 in
    absurd (omega (arith, one.later, more.later, none, w.from))

-- some records are read of files up to a place, and the WAL is just these unless it goes on over a
-- missing file
pub record AreHeld (mib system end : ℕ) (records : List Record) (files : Files) : Type 0 where
  pub tip : Tip
  pub at : tip.end ≡ end
  pub walk : Walks record_at mib system (archive_of mib files) (first_tip mib) records tip
  pub whole : HasNoGap mib (archive_of mib files) tip.end → IsWal record_at mib system files records tip

held_of : (log : Log) (top : ℕ) (files : Files) (records : List Record) → IsLog log → HoldsLog log files records → log.flushed ≡ log.tip.end → log.tip.end ≡ top → AreHeld log.mib log.system top records files
held_of log top files records is holds none last =
    let end : IsEnd log.mib holds.tip.end =
    (walk_reach record_at log.mib log.system (archive_of log.mib files) (first_tip log.mib) holds.stable holds.tip is.segment.least record_is_fair (origin_end log.mib) holds.known.kept.walk).is_end in
    let clear = none_waits record_at log holds.tip holds.waiting is.segment.least end holds.waits none in
    let all : holds.stable ≡ records = sym (holds.all ∙ (ap (λ (l : List Record). holds.stable ++ l) clear ∙ append-nil holds.stable)) in
    subst (λ l. AreHeld log.mib log.system top l files) all
    (record {
      tip = holds.tip;
      at = sym holds.waits.from ∙ (none ∙ last);
      walk = holds.known.kept.walk;
      whole = holds.ended (omega (arith, is.touched, none, holds.waits.from));
    })

pub record IsHeld (mib system : ℕ) (history : List Entry) (files : Files) : Type 0 where
  pub lawful : IsLawful mib history
  pub held : AreHeld mib system (tip_of mib history).end (log_of mib lawful.found lawful.own) files

told_at : (log : Log) (o : Option Files) (files : Files) (records : List Record) → o ≡ Some files → IfSome o (λ f. HoldsLog log f records) → HoldsLog log files records
told_at log o files records e held = subst (λ (x : Option Files). IfSome x (λ f. HoldsLog log f records)) e held

pub history_held : (log : Log) (o : Option Files) (files : Files) (history : List Entry) (pages : ℕ) → IsLog log → o ≡ Some files → IsTold log o history pages → log.flushed ≡ log.tip.end → IsHeld log.mib log.system history files
history_held log o files history pages is e told none =
    record { lawful = told.lawful; held = held_of log (tip_of log.mib history).end files (log_of log.mib told.lawful.found told.lawful.own) is (told_at log o files (log_of log.mib told.lawful.found told.lawful.own) e told.held) none (ap (λ (t : Tip). t.end) told.tip) }

pub some_of : (o : Option Files) → IsSome o → (files : Files) × (o ≡ Some files)
some_of (Some files) some = (files, refl)
some_of None some = absurd cc
