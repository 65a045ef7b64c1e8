-- The copy of a finished backup is sound, for every later history.
use Rattle.std.proofs.Common.{ℕ, List, ◌++◌, length, append_assoc, sym, ap, subst, ◌∙◌}
use Rattle.std.specs.Prelude.{◌==◌}
use Rattle.std.specs.List.{list_any}
use Rattle.std.proofs.lemmas.Bool.{or_left}
use Rattle.std.proofs.lemmas.List.Folds.{list_any-append}
use Rattle.lsn_core.specs.Store.{Store}
use Rattle.history.specs.Entry.{Entry, Online}
use Rattle.history.specs.fuzzy_copies.Taken.{IsSeen, IsTaken}
use Rattle.history.proofs.fuzzy_copies.Taken.{taken_sound}
use Rattle.store_locks.specs.Calls.{IsMarkOf}
use Rattle.store_locks.specs.Copied.{HasRedoPoint}
use Rattle.store_locks.proofs.RedoPoints.{redo_runs, redo_stays}
use Rattle.backup_sending.specs.Entries.{HasBackupAt, HasCheckpointAt}
use Rattle.backup_sending.specs.Laws.{FullBackupsAreSound}
use Rattle.backup_sending.proofs.Marks.{checkpoints_have_redo_points}

-- ---- a history that goes on

pub seen_on : (seen history more : List Entry) (from to : ℕ) → IsSeen seen history from to → IsSeen seen (history ++ more) from to
seen_on seen history more from to s = record {
  behind = s.behind ++ more;
  all = ap (λ (es : List Entry). es ++ more) s.all ∙ append_assoc seen s.behind more;
  holds = s.holds;
  ends = list_any-append (λ (e : Entry). e.end == to) s.behind more ∙ or_left (list_any (λ (e : Entry). e.end == to) s.behind) (list_any (λ (e : Entry). e.end == to) more) s.ends;
}

pub taken_on : (copy : Store) (history more : List Entry) (from to : ℕ) → IsTaken copy history from to → IsTaken copy (history ++ more) from to
taken_on copy history more from to t = record {
  forks = λ fork.
      let l = t.forks fork in
      record { seen = l.seen; prefix = seen_on l.seen history more from to l.prefix; listed = l.listed };
  blocks = λ fork block page is.
      let c = t.blocks fork block page is in
      record { seen = c.seen; prefix = seen_on c.seen history more from to c.prefix; answer = c.answer; copied = c.copied; written = c.written };
}

-- ---- the start

-- a backup begins with its checkpoint
pub backup_checkpoint : (worker before : ℕ) (now : List Entry) (start checkpoint end : ℕ) → HasBackupAt worker before now start checkpoint end → HasCheckpointAt worker before now start
backup_checkpoint worker before now start checkpoint end h = record {
  first = h.first;
  number = h.number;
  later = h.later;
  there = h.there;
  starts = h.entries.starts;
  redo_is = sym h.start_is;
  last = h.last;
  number_last = h.number_last;
  behind = h.behind;
  there_last = h.there_last;
  ends = subst (λ (n : ℕ). IsMarkOf worker (Online n) h.last) (sym h.start_is) h.entries.completes;
}

pub full_sound : FullBackupsAreSound
full_sound tells settings name when old new files done taken history told p lawful =
    let from = done.start.0 in
    let there : HasRedoPoint new.list from = checkpoints_have_redo_points old.worker (length old.list) new.list from (backup_checkpoint old.worker (length old.list) new.list from taken.checkpoint done.end.0 taken.entries) in
    taken_sound taken.copy history from done.end.0 (redo_runs settings.segment from history lawful (redo_stays from new.list history there p))
    (subst (λ (es : List Entry). IsTaken taken.copy es from done.end.0) p.1 (taken_on taken.copy new.list p.0 from done.end.0 (taken.taken told)))
