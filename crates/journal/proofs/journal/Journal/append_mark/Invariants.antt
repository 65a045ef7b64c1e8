use Rattle.std.proofs.Common.{[], ◌∷◌, None}
use Rattle.history.specs.Entry.{Mark}
use Rattle.journal.specs.Marks.{marking_of}
use Rattle.journal.specs.Journal.{entry_at}
use Rattle.journal.proofs.journal.Journal.append_mark.Given as goal

-- the entry that is appended
abbrev pub ghosts-tell_mark : goal.ghosts-tell_mark
ghosts-tell_mark g a = record { next = entry_at a._record.now (Mark (marking_of a._mark)) a._worker None ∷ [] }
