-- How far a read has come.
use Rattle.std.specs.Prelude.{◌≡◌, ℕ, ◌+◌, ◌-◌, ◌≤◌, ◌⊎◌, List, ◌++◌, length, take, drop, Option, Some, None, IfSome}
use Rattle.lsn_core.specs.Files.{Files}
use Rattle.vault.specs.Area.{bytes_of}
use Rattle.vault_os.specs.Open.{IsOpenAt}
use Rattle.vault_os.specs.Paths.{told_in}
use Rattle.vault_os.specs.declared.open_files.OpenFile.{OpenFile}

-- a buffer holds so many bytes of a file, from a place on
pub record IsFilled (bytes : List ℕ) (at : ℕ) (before now : List ℕ) (count : ℕ) : Type 0 where
  pub held : now ≡ take count (drop at bytes) ++ drop count before
  pub within : count ≤ length bytes - at

abbrev pub HoldsSoFar : Option Files → List ℕ → ℕ → List ℕ → List ℕ → ℕ → Type 0
HoldsSoFar files path at before now count =
    IfSome files (λ m. IsFilled (bytes_of m path) at before now count)

-- a buffer of this size is full with so many bytes, or the file has no more
abbrev pub FillsOrEnds : Option Files → List ℕ → ℕ → ℕ → ℕ → Type 0
FillsOrEnds files path at size count =
    IfSome files (λ m. (size ≡ count) ⊎ (length (bytes_of m path) ≤ at + count))

-- a buffer that held so many bytes holds more
abbrev pub ReadsOn : Option Files → List ℕ → ℕ → List ℕ → List ℕ → ℕ → ℕ → Type 0
ReadsOn files path at old new count got =
    (before : List ℕ) → length before ≡ length old → HoldsSoFar files path at before old count
    → HoldsSoFar files path at before new (count + got)

-- a file has no bytes from a place on, or is none
abbrev pub HasNoneFrom : Option Files → List ℕ → ℕ → Type 0
HasNoneFrom files name at = IfSome files (λ m. length (bytes_of m name) ≤ at)

-- a file of a folder was opened, or it has no bytes from a place on
abbrev pub Opens : {F : Type 0} → (F → List ℕ → Type 0) → List ℕ → Option Files
    → List ℕ → ℕ → Option (OpenFile F) → Type 0
Opens is_at folder files name at None = HasNoneFrom (told_in folder files) name at
Opens is_at folder files name at (Some file) = IsOpenAt is_at folder file × (file.name.items ≡ name)
