-- The entries of a checkpoint, and what follows them.
use Rattle.std.proofs.Common.{◌≡◌, ℕ, ◌≤◌, max, List, [], ◌∷◌, ◌++◌, None, refl, sym, ap, subst, ◌∙◌, arith}
use Rattle.lsn_core.specs.declared.lsn.Place.{Place}
use Rattle.vault.specs.Frame.{AgreeBut}
use Rattle.rel_files.specs.Forks.{IsForkPath}
use Rattle.wal_record.specs.declared.record.Record.{Record}
use Rattle.wal_writer.specs.Log.{Log, IsLog, next_record}
use Rattle.history.specs.Entry.{Entry, Marking, Mark}
use Rattle.history.specs.Written.{mark_kind}
use Rattle.history.specs.fuzzy_copies.Orderly.{AreOwnFrom}
use Rattle.journal.specs.Journal.{EndsWith, entry_at}
use Rattle.journal.proofs.Stands.{own_later}
use Rattle.page_pool.specs.Part.{Part}
use Rattle.page_pool.specs.Facts.{history_end}
use Rattle.page_pool.specs.Calls.{ChangesForks, IsAllWritten}
use Rattle.page_pool.proofs.Followed.{cleaning_followed}
use Rattle.page_pool.specs.Facts.{IsPartOf}
use Rattle.store_locks.specs.Inside.{HasMark}
use Rattle.store_locks.proofs.Kept.{some_back, some_on, forks_kept, history_ends}
use Rattle.store_locks.proofs.Checked.{comes_behind}

pub mark_of : (log : Log) (worker : ℕ) (marking : Marking) (old new : List Entry) (r : Record) (place : Place) → IsLog log → EndsWith log old → r ≡ next_record log (mark_kind marking) → new ≡ old ++ (entry_at r (Mark marking) worker None ∷ [])
    → place.start ≡ r.start → place.end ≡ r.end → HasMark worker marking old new place
mark_of log worker marking old new r place is ends r_is grown start end =
    let behind = comes_behind log old (mark_kind marking) r is ends r_is in
    record {
      entry = entry_at r (Mark marking) worker None;
      grown = grown;
      is = (refl, refl, refl);
      start = ap (λ l. l.0) start;
      end = ap (λ l. l.0) end;
      long = behind.1;
      late = omega (arith, behind.0, behind.1);
    }

-- a partition whose all was written
pub part_cleaned : (q relseg redo : ℕ) (tells : Type 0) (history : List Entry) (old new : Part) → redo ≤ history_end history → IsAllWritten redo old new → ChangesForks old new → IsPartOf q relseg tells history old → IsPartOf q relseg tells history new
part_cleaned q relseg redo tells history old new late written area p = record {
  follows = cleaning_followed q redo history old new written.frames written.clean written.point (some_back (AgreeBut IsForkPath) old.disk new.disk area.files) late p.follows;
  relseg_is = area.relseg ∙ p.relseg_is;
  own = λ t. subst (λ n. AreOwnFrom n history) (sym written.point) (own_later old.point (max old.point redo) history (omega arith) (p.own t));
  told = λ t. some_on (AgreeBut IsForkPath) old.disk new.disk area.files (p.told t);
  alone = λ t. forks_kept old.disk new.disk area.files (p.alone t);
}

-- ---- what follows a mark

pub mark_late : (worker : ℕ) (marking : Marking) (old new : List Entry) (place : Place) → HasMark worker marking old new place → place.start.0 ≤ history_end new
mark_late worker marking old new place mark = omega (arith, mark.start, mark.long, history_ends old mark.entry, ap history_end mark.grown)
