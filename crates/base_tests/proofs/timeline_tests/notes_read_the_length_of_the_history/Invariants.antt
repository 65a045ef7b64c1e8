use Rattle.base_tests.proofs.timeline_tests.notes_read_the_length_of_the_history.Given as goal

-- the timeline that was opened
abbrev pub ghosts-lengths_read : goal.ghosts-lengths_read
ghosts-lengths_read g a = record { table = a.opened.table }
