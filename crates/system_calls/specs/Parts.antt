-- The parts of paths.
use Rattle.std.specs.Prelude.{ℕ, Bool, not, ◌&&◌, ◌||◌, eqb, bytes_eq, List, [], ◌∷◌}
use Rattle.std.specs.List.{list_any}

-- a byte of a path that no part of a name has: NUL or a slash
abbrev pub is_no_letter : ℕ → Bool
is_no_letter b = eqb b 0 || eqb b 47

-- a part of a name: not empty, not `.` or `..`, without NUL and slash
abbrev pub is_name_part : List ℕ → Bool
is_name_part part =
    not (bytes_eq part []) && (not (bytes_eq part (46 ∷ []))
    && (not (bytes_eq part (46 ∷ 46 ∷ [])) && not (list_any is_no_letter part)))
