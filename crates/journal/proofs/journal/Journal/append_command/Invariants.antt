use Rattle.std.proofs.Common.{[], ◌∷◌, Some}
use Rattle.history.specs.Op.{act_of_op}
use Rattle.journal.specs.Journal.{entry_at}
use Rattle.journal.proofs.journal.Journal.append_command.Given as goal

-- the entry that is appended
abbrev pub ghosts-tell_command : goal.ghosts-tell_command
ghosts-tell_command g a = record { next = entry_at a._record.now (act_of_op a._op.now) a._worker (Some a._seq) ∷ [] }
