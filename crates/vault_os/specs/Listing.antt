-- How far a walk through a folder and those below it has come.
use Rattle.std.specs.Prelude.{◌≡◌, ◌≢◌, ℕ, ◌⊎◌, true, List, ◌∷◌, ◌++◌, None, Contains}
use Rattle.std.specs.declared.string.String.{String}
use Rattle.std.specs.BTreeSet.{BTreeSet, contains_text}
use Rattle.std.specs.FinMap.{get, contains_key}
use Rattle.lsn_core.specs.Files.{Files}
use Rattle.vault_os.specs.Paths.{leads_below, path_in}

-- a set has just the names of these files
abbrev pub HasNames : {Z : Type 0} → BTreeSet (String Z) → Files → Type 0
HasNames names files = (n : List ℕ) → contains_text names n ≡ contains_key files n

-- a name below a folder is that of a file
abbrev pub IsFileIn : List ℕ → Files → List ℕ → Type 0
IsFileIn root files n = (leads_below n ≡ true) × (get files (path_in root n) ≢ None)

-- a name is reached by a folder that is still to read: it begins with its path, which ends with a
-- slash or is empty
abbrev pub IsStillReached : List (List ℕ) → List ℕ → Type 0
IsStillReached unread n =
    (folder : List ℕ) × ((q : List ℕ)
    × (Contains unread folder × ((n ≡ folder ++ q) × (leads_below q ≡ true))))

-- a name is reached by an entry of a folder that is still to be looked at
abbrev pub IsReachedIn : List ℕ → List (List ℕ) → List ℕ → Type 0
IsReachedIn folder rest n =
    (name : List ℕ) × (Contains rest name × ((n ≡ folder ++ name)
    ⊎ ((q : List ℕ) × ((n ≡ folder ++ (name ++ (47 ∷ q))) × (leads_below q ≡ true)))))

-- the path of a folder, put before a name that leads to one place, gives such a name
abbrev pub IsBefore : List ℕ → Type 0
IsBefore folder = (q : List ℕ) → leads_below q ≡ true → leads_below (folder ++ q) ≡ true

-- a walk with these folders still to read found these names: each is a file's, and each other file
-- is still reached
pub record HasWalked {Z : Type 0} (root : List ℕ) (files : Files) (unread : List (List ℕ))
    (found : BTreeSet (String Z)) : Type 0 where
  pub are : (n : List ℕ) → contains_text found n ≡ true → IsFileIn root files n
  pub all : (n : List ℕ) → IsFileIn root files n
      → (contains_text found n ≡ true) ⊎ IsStillReached unread n
  pub before : (folder : List ℕ) → Contains unread folder → IsBefore folder

-- the same in the midst of a folder
pub record HasWalkedIn {Z : Type 0} (root : List ℕ) (files : Files) (folder : List ℕ)
    (rest : List (List ℕ)) (unread : List (List ℕ)) (found : BTreeSet (String Z)) : Type 0 where
  pub are : (n : List ℕ) → contains_text found n ≡ true → IsFileIn root files n
  pub all : (n : List ℕ) → IsFileIn root files n
      → (contains_text found n ≡ true) ⊎ (IsStillReached unread n ⊎ IsReachedIn folder rest n)
  pub before : (f : List ℕ) → Contains unread f → IsBefore f
  pub here : IsBefore folder
