-- Files removed one after the other.
use Rattle.std.specs.Prelude.{ℕ, List, [], ◌∷◌, bytes_eq, if◌then◌else◌}
use Rattle.lsn_core.specs.Files.{Files}
use Rattle.vault.specs.Area.{after_remove}
use Rattle.data_areas.specs.Marking.{rebuilding_name}

-- files without those of these names
abbrev pub without : List (List ℕ) → Files → Files
without [] files = files
without (name ∷ names) files = without names (after_remove name files)

-- files without one, unless it is the mark; and without those of these names but the mark
abbrev pub without_other : List ℕ → Files → Files
without_other name files =
    if bytes_eq name rebuilding_name then files else after_remove name files

abbrev pub without_others : List (List ℕ) → Files → Files
without_others [] files = files
without_others (name ∷ names) files = without_others names (without_other name files)
