use Rattle.std.proofs.Common.{[], ◌∷◌}
use Rattle.base_tests.proofs.timeline_tests.two_notes.Given as goal

-- the number that is appended
abbrev pub ghosts-append_number : goal.ghosts-append_number
ghosts-append_number g a = record { next = a._number ∷ [] }
