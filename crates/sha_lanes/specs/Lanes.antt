-- Four messages side by side: each word of the hash value is a vector, with one lane for each
-- message.
use Rattle.std.specs.Prelude.{◌≡◌, ℕ, ◌/◌, ◌%◌, List, [], ◌∷◌, length, map, slice_index, slice_index_or}
use Rattle.sha2.specs.Sha256.{initial_hash_256, hash_after}
use Rattle.sha_lanes.specs.declared.lanes.Lanes.{Lanes}

-- lane j of some vectors
abbrev pub lane : ℕ → List (List ℕ) → List ℕ
lane j x = map (λ v. slice_index v j) x

-- the one of lane j
abbrev pub of_four : List ℕ → List ℕ → List ℕ → List ℕ → ℕ → List ℕ
of_four a b c d j = slice_index_or (a ∷ b ∷ c ∷ d ∷ []) j []

-- the hash value of a message of whole blocks, before its padding
abbrev pub IsHashOf : List ℕ → List ℕ → Type 0
IsHashOf hash m = (length m % 64 ≡ 0) × (hash ≡ hash_after initial_hash_256 m (length m / 64))

-- lane j has seen these bytes, whole blocks all of them
unfoldable pub HasSeen : Lanes → ℕ → List ℕ → Type 0
HasSeen s j m = IsHashOf (of_four s.first s.second s.third s.fourth j) m
