use Rattle.std.proofs.Common.{[], ◌∷◌}
use Rattle.history.specs.Whole.{entry_of}
use Rattle.store_finding.proofs.finding.append_found.Given as goal

-- the entry that is appended
abbrev pub ghosts-tell_found : goal.ghosts-tell_found
ghosts-tell_found a = record { next = entry_of a._entry.now ∷ [] }
