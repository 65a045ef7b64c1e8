-- What the calls of a system tell of its files, and what they leave of them.
use Rattle.std.specs.Prelude.{◌≡◌, ◌≢◌, ℕ, ◌-◌, ◌^◌, ◌≤◌, ◌⊎◌, true, List, [], ◌∷◌, ◌++◌, map, length, take, drop, Option, Some, None, IfSome, string_bytes, Contains}
use Rattle.std.specs.Option.{option_map}
use Rattle.std.specs.Global.{Vec}
use Rattle.std.specs.declared.string.String.{String}
use Rattle.std.specs.FinMap.{get, insert}
use Rattle.lsn_core.specs.byte_words.Pieces.{zero_filled}
use Rattle.lsn_core.specs.Files.{Files}
use Rattle.vault.specs.Area.{bytes_of, after_write}
use Rattle.system_calls.specs.Parts.{is_name_part}
use Rattle.system_calls.specs.declared.kind.Kind.{Kind}
use Rattle.system_calls.specs.declared.kind.Kind.TheVariants.{File, Folder, Other}

-- how many bytes a file has; what is no file has none
abbrev pub size_at : Option Kind → Option ℕ
size_at None = None
size_at (Some (File size)) = Some size
size_at (Some Folder) = None
size_at (Some Other) = None

-- what stands at a path: a file of this size exactly where there is one, and a folder where a file
-- stands below it
pub record IsKindAt (files : Files) (path : List ℕ) (kind : Option Kind) : Type 0 where
  pub size : option_map length (get files path) ≡ size_at kind
  pub folder : (q : List ℕ) → get files (path ++ (47 ∷ q)) ≢ None → kind ≡ Some Folder

abbrev pub TellsKind : Option Files → List ℕ → Option Kind → Type 0
TellsKind files path kind = IfSome files (λ m. IsKindAt m path kind)

-- a folder, whose path ends with a slash, has these names: each file that stands in it or further
-- below is reached by one
pub record IsListOf (files : Files) (folder : List ℕ) (names : List (List ℕ)) : Type 0 where
  pub parts : (name : List ℕ) → Contains names name → is_name_part name ≡ true
  pub here : (name : List ℕ) → is_name_part name ≡ true
      → get files (folder ++ name) ≢ None → Contains names name
  pub below : (name q : List ℕ) → is_name_part name ≡ true
      → get files (folder ++ (name ++ (47 ∷ q))) ≢ None → Contains names name

-- the names that a list of a folder gave, none where there is no such folder
abbrev pub names_told : {Z : Type 0} → Option (Vec (String Z)) → List (List ℕ)
names_told None = []
names_told (Some names) = map string_bytes names.items

abbrev pub ListsAll : {Z : Type 0} → Option Files → List ℕ → Option (Vec (String Z)) → Type 0
ListsAll files folder found = IfSome files (λ m. IsListOf m folder (names_told found))

-- there is no file of this path, where the files are told
abbrev pub IsMissingIn : Option Files → List ℕ → Type 0
IsMissingIn files path = IfSome files (λ m. get m path ≡ None)

-- a read gave so many of a file's bytes, none exactly at their end or where there was no room
pub record IsReadOnce (bytes : List ℕ) (at : ℕ) (before now : List ℕ) (count : ℕ) : Type 0 where
  pub held : now ≡ take count (drop at bytes) ++ drop count before
  pub room : count ≤ length before
  pub within : count ≤ length bytes - at
  pub ended : count ≡ 0 → (length before ≡ 0) ⊎ (length bytes ≤ at)

abbrev pub ReadsSome : Option Files → List ℕ → ℕ → List ℕ → List ℕ → ℕ → Type 0
ReadsSome files path at before now count =
    IfSome files (λ m. IsReadOnce (bytes_of m path) at before now count)

-- no file is longer than the system lets it be
abbrev pub AreShort : Files → Type 0
AreShort files = (path : List ℕ) → length (bytes_of files path) ≤ 2 ^ 63 - 1

-- a file was opened, and made where it was missing, or nothing was done
abbrev pub MakesFile : {F : Type 0} → List ℕ → Option Files → Option Files → Option F → Type 0
MakesFile path old new None = new ≡ old
MakesFile path old new (Some file) = new ≡ option_map (after_write path 0 []) old

-- a missing file may have been made
abbrev pub MayMake : List ℕ → Option Files → Option Files → Type 0
MayMake name old new = (new ≡ old) ⊎ (new ≡ option_map (after_write name 0 []) old)

-- the files after a file got a size; a missing one stays missing
abbrev pub resized : Files → List ℕ → ℕ → Option (List ℕ) → Files
resized files path size None = files
resized files path size (Some bytes) = insert files path (take size (zero_filled bytes size))

abbrev pub after_resize : List ℕ → ℕ → Files → Files
after_resize path size files = resized files path size (get files path)

-- each open file is that of its path still
abbrev pub Stays : {S F : Type 0} → (S → F → List ℕ → Type 0) → S → S → Type 0
Stays {S} {F} is_at old new = (file : F) (q : List ℕ) → is_at old file q → is_at new file q
