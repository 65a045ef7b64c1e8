-- The files of a chain's directories, where the areas that hold them tell them.
use Rattle.std.specs.Prelude.{◌≡◌, ℕ, ◌<◌, List, [], ◌∷◌, map, slice_get, Option, Some, None}
use Rattle.std.specs.List.{AllByRecursion}
use Rattle.std.specs.Option.{option_map, unwrap_or}
use Rattle.lsn_core.specs.byte_words.Numbers.{◌>>=◌}
use Rattle.lsn_core.specs.Causes.{Rose}
use Rattle.lsn_core.specs.Files.{Files}
use Rattle.lsn_core.specs.declared.fault.AreaFault.TheVariants.{Failed}
use Rattle.vault.specs.Frame.{OnlyReads}
use Rattle.vault.specs.declared.area.Vault.{Ghosts}
use Rattle.vault.specs.declared.lending.Held.{Held}
use Rattle.chain_files.specs.declared.fault.MemberFault.{MemberFault}

-- what all tell, where each tells
abbrev pub all_told : List (Option Files) → Option (List Files)
all_told [] = Some []
all_told (None ∷ rest) = None
all_told (Some files ∷ rest) = option_map (λ more. files ∷ more) (all_told rest)

module _ {V : Type 0} (g : Ghosts V) where
  -- what the area of a place tells
  abbrev pub told_at : List (Held V) → ℕ → Option Files
  told_at areas place = slice_get areas place >>= λ held. g.files held.area

  -- what the members of a chain tell, of which each has its area at a place; two may have one
  abbrev pub chain_told : List (Held V) → List ℕ → Option (List Files)
  chain_told areas places = all_told (map (told_at areas) places)

  -- the count of faults of the area of a place
  abbrev pub faults_at : List (Held V) → ℕ → ℕ
  faults_at areas place = unwrap_or (option_map (λ held. g.faults held.area)
      (slice_get areas place)) 0

  -- a call on the area of a place failed, whose count rose; or memory ran out
  abbrev pub FailsAt : List (Held V) → List (Held V) → MemberFault → Type 0
  FailsAt old new fault =
      fault.why ≡ Failed → Rose (faults_at old fault.area) (faults_at new fault.area)

  -- areas that were only read; they keep their names
  abbrev pub AllOnlyRead : List (Held V) → List (Held V) → Type 0
  AllOnlyRead [] [] = Unit {0}
  AllOnlyRead [] (now ∷ later) = ⊥
  AllOnlyRead (old ∷ rest) [] = ⊥
  AllOnlyRead (old ∷ rest) (now ∷ later) =
      (now.name ≡ old.name) × OnlyReads g old.area now.area × AllOnlyRead rest later

-- each place is one of so many areas
abbrev pub ArePlaces : ℕ → List ℕ → Type 0
ArePlaces count places = AllByRecursion (λ place. place < count) places
