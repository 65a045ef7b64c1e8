-- What a stop leaves of an area in memory, by what of the changes since the last sync is kept.
use Rattle.std.specs.Prelude.{◌≡◌, ℕ, ◌/◌, ◌%◌, List, [], ◌∷◌, length, take, drop, replicate, Some, None, nat_eq, if◌then◌else◌}
use Rattle.std.proofs.Common.{inl, inr}
use Rattle.std.specs.FinMap.{empty}
use Rattle.lsn_core.specs.Files.{Files}
use Rattle.vault.specs.Area.{after_write}
use Rattle.vault.specs.Record.{Change, changed, files_by, changes_of, told}
use Rattle.memory_vault.specs.Memory.{MemoryArea, new_area, IsOnlyChanged}
use Rattle.vault.specs.Frame.{LeavesNow}
use Rattle.vault.specs.declared.change.Change.{Change as Kept}
use Rattle.memory_vault.specs.declared.stopped.Pick.{Pick}
use Rattle.memory_vault.specs.declared.stopped.Pick.TheVariants.{Nothing, All, FirstHalves, Noise}

-- the four picks, by their number
abbrev pub pick_of : ℕ → Pick
pick_of n =
    if nat_eq (n % 4) 0 then Nothing
    else if nat_eq (n % 4) 1 then All
    else if nat_eq (n % 4) 2 then FirstHalves else Noise

-- what is kept of a piece that was written
abbrev pub kept_piece : Pick → List ℕ → List ℕ
kept_piece Nothing piece = []
kept_piece All piece = piece
kept_piece FirstHalves piece = take (length piece / 2) piece
kept_piece Noise piece = replicate (length piece) 165

-- the files after a change of which this is kept: of a write a piece, of a cut and a removal all
abbrev pub left_of : Pick → Change → Files → Files
left_of Nothing change files = files
left_of All change files = changed change files
left_of FirstHalves (inl w) files = after_write w.0 w.1.0 (kept_piece FirstHalves w.1.1) files
left_of FirstHalves (inr other) files = changed (inr other) files
left_of Noise (inl w) files = after_write w.0 w.1.0 (kept_piece Noise w.1.1) files
left_of Noise (inr other) files = changed (inr other) files

-- the files after these changes more, of which the newest comes first
abbrev pub left_since : Pick → List Change → Files → Files
left_since pick [] files = files
left_since pick (change ∷ earlier) files = left_of pick change (left_since pick earlier files)

-- changes were made again, of each what is picked
pub record IsRedone (pick : Pick) (changes : List Change) (old new : MemoryArea) : Type 0 where
  pub files : new.files ≡ left_since pick changes old.files
  pub rest : IsOnlyChanged old new

-- the files of a new area after these changes: all up to the last sync, and what is kept of those
-- since
abbrev pub left_by : Pick → List Change → Files
left_by pick [] = empty
left_by pick (inl w ∷ earlier) = left_of pick (inl w) (left_by pick earlier)
left_by pick (inr (inl c) ∷ earlier) = left_of pick (inr (inl c)) (left_by pick earlier)
left_by pick (inr (inr (Some name)) ∷ earlier) =
    left_of pick (inr (inr (Some name))) (left_by pick earlier)
left_by pick (inr (inr None) ∷ earlier) = files_by earlier

-- no call was made on an area since it was made, none is to fail, and it has no fuse
abbrev pub IsFresh : MemoryArea → Type 0
IsFresh area = area ≡ record (new_area []) { files = area.files; changes = area.changes }

-- a stop of an area leaves what a read gives
abbrev pub IsSettled : MemoryArea → Type 0
IsSettled area = LeavesNow (λ files. files ≡ area.files) (Some (told area.changes))

-- all of the first changes of a list is kept, and of the others what is picked; the list is as an
-- area keeps it
abbrev pub IsSplitAt : ℕ → List Kept → Type 0
IsSplitAt count kept =
    (pick : Pick) → left_by pick (changes_of kept) ≡
    left_since pick (changes_of (drop count kept)) (files_by (changes_of (take count kept)))
