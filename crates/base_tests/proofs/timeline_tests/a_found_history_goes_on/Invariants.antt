use Rattle.std.proofs.Common.{[], ◌∷◌}
use Rattle.base_tests.proofs.timeline_tests.a_found_history_goes_on.Given as goal

-- the number that is found
abbrev pub ghosts-find_number : goal.ghosts-find_number
ghosts-find_number g a = record { next = a._number ∷ [] }

-- the timeline that was opened
abbrev pub ghosts-length_met : goal.ghosts-length_met
ghosts-length_met g a = record { table = a.opened.table }
