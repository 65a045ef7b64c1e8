-- The files that are kept open.
use Rattle.std.proofs.Common.{◌≡◌, ℕ, ◌-◌, min, Bool, true, false, bytes_eq, position, nat_le, if◌then◌else◌, List, [], ◌∷◌, ◌++◌, length, take, drop, Option, Some, None, IfSome, Result, IfOk, suc, slice_index_or, sym, subst, ap, ◌∙◌, arith}
use Rattle.std.specs.List.{All, remove, push}
use Rattle.std.proofs.lemmas.List.Elements.{All-push, All-nil}
use Rattle.std.proofs.lemmas.List.Quantifiers.{position-Some}
use Rattle.std.proofs.lemmas.Slice.Eq.{bytes_eq-Decides}
use Rattle.lsn_core.specs.Files.{Files}
use Rattle.vault.specs.Area.{ReadsIn}
use Rattle.vault_os.specs.Paths.{leads_below, path_in, told_in}
use Rattle.vault_os.specs.Open.{IsOpenAt, AreOpenAt}
use Rattle.vault_os.specs.Kept.{with_room}
use Rattle.vault_os.specs.Reading.{Opens}
use Rattle.system_calls.specs.System.{Stays}
use Rattle.vault_os.specs.declared.open_files.OpenFile.{OpenFile}
use Rattle.vault_os.specs.declared.open_files.OpenFiles.{OpenFiles}
use Rattle.vault_os.proofs.Below.{bytes_in}
use Rattle.vault_os.proofs.Common.{when_ok, when_all, when_some}

module _ {F : Type 0} (P : OpenFile F → Type 0) where
  all_removed : (xs : List (OpenFile F)) → All P xs → All P (remove xs 0)
  all_removed [] h = h
  all_removed (x ∷ xs) h = λ k d lt. h (suc k) d (omega (arith, lt))

  chosen_room : (b : Bool) (xs : List (OpenFile F)) → All P xs → All P (if b then remove xs 0 else xs)
  chosen_room true xs h = all_removed xs h
  chosen_room false xs h = h

  pub all_room : (xs : List (OpenFile F)) → All P xs → All P (with_room xs)
  all_room xs h = chosen_room (nat_le 4 (length xs)) xs h

  pub all_kept : (xs : List (OpenFile F)) (x : OpenFile F) → All P xs → P x → All P (push (with_room xs) x)
  all_kept xs x h p = All-push P (with_room xs) x (all_room xs h) p

  -- the open file that a name was found at
  pub file_at : (name : List ℕ) (files : List (OpenFile F)) (i : ℕ) (file : OpenFile F) → position (λ f. bytes_eq name f.name.items) files ≡ Some i → file ≡ slice_index_or files i file → All P files → P file × (file.name.items ≡ name)
  file_at name files i file found is all =
      let there = position-Some (λ f. bytes_eq name f.name.items) files i file found in (
        subst P (sym is) (all i file there.0),
        sym ((bytes_eq-Decides name file.name.items).0 (subst (λ (f : OpenFile F). bytes_eq name f.name.items ≡ true) (sym is) there.1)),
      )

-- a read of the file of a path is one of the file of its name
read_told : (folder name into now : List ℕ) (at count : ℕ) (files : Option Files) → leads_below name ≡ true → ReadsIn files (path_in folder name) at into now count → ReadsIn (told_in folder files) name at into now count
read_told folder name into now at count None leads read = tt
read_told folder name into now at count (Some m) leads read =
    let same = sym (bytes_in folder name m leads) in
    record {
      counted = read.counted ∙ ap (λ (b : List ℕ). min (length into) (length b - at)) same;
      bytes = read.bytes ∙ ap (λ (b : List ℕ). take count (drop at b) ++ drop count into) same;
    }

-- what was read of an open file is read of the file of its name
pub read_file_told : {F : Type 0} (is_at : F → List ℕ → Type 0) (folder name into now : List ℕ) (at count : ℕ) (files : Option Files) (file : OpenFile F)
    → IsOpenAt is_at folder file × (file.name.items ≡ name) → ((path : List ℕ) → is_at file.file path → ReadsIn files path at into now count) → ReadsIn (told_in folder files) name at into now count
read_file_told is_at folder name into now at count files file is h =
    subst (λ (n : List ℕ). ReadsIn (told_in folder files) n at into now count) is.1 (read_told folder file.name.items into now at count files is.0.1 (h (path_in folder file.name.items) is.0.0))

pub read_open_told : {F E : Type 0} (is_at : F → List ℕ → Type 0) (folder name into now : List ℕ) (at : ℕ) (files : Option Files) (file : OpenFile F) (result : Result ℕ E)
    → IsOpenAt is_at folder file × (file.name.items ≡ name) → IfOk result (λ count. (path : List ℕ) → is_at file.file path → ReadsIn files path at into now count) → IfOk result (ReadsIn (told_in folder files) name at into now)
read_open_told is_at folder name into now at files file result is read =
    when_ok result (λ count h. read_file_told is_at folder name into now at count files file is h) read

-- the file that was opened
pub opened : {F : Type 0} (is_at : F → List ℕ → Type 0) (folder : List ℕ) (files : Option Files) (name : List ℕ) (at : ℕ) (found : Option (OpenFile F)) (file : OpenFile F) → found ≡ Some file → Opens is_at folder files name at found → IsOpenAt is_at folder file × (file.name.items ≡ name)
opened is_at folder files name at found file e h = subst (λ o. Opens is_at folder files name at o) e h

-- what is kept open after one more, or without room for it
pub kept_more : {F : Type 0} (is_at : F → List ℕ → Type 0) (folder : List ℕ) (old new : OpenFiles F) (file : OpenFile F) → AreOpenAt is_at folder old → new.read.items ≡ push (with_room old.read.items) file → new.written ≡ old.written → IsOpenAt is_at folder file → AreOpenAt is_at folder new
kept_more is_at folder old new file are e same is = (
  subst (All (IsOpenAt is_at folder)) (sym e) (all_kept (IsOpenAt is_at folder) old.read.items file are.0 is),
  subst (λ o. IfSome o (IsOpenAt is_at folder)) (sym same) are.1,
)

pub kept_fewer : {F : Type 0} (is_at : F → List ℕ → Type 0) (folder : List ℕ) (old new : OpenFiles F) → AreOpenAt is_at folder old → new.read.items ≡ with_room old.read.items → new.written ≡ old.written → AreOpenAt is_at folder new
kept_fewer is_at folder old new are e same = (
  subst (All (IsOpenAt is_at folder)) (sym e) (all_room (IsOpenAt is_at folder) old.read.items are.0),
  subst (λ o. IfSome o (IsOpenAt is_at folder)) (sym same) are.1,
)

-- no file is kept open
pub none_kept : {F : Type 0} (is_at : F → List ℕ → Type 0) (folder : List ℕ) (kept : OpenFiles F) → kept.read.items ≡ [] → kept.written ≡ None → AreOpenAt is_at folder kept
none_kept is_at folder kept read written = (
  subst (All (IsOpenAt is_at folder)) (sym read) (All-nil (IsOpenAt is_at folder)),
  subst (λ o. IfSome o (IsOpenAt is_at folder)) (sym written) tt,
)

-- what is kept open stays so
pub kept_stay : {S F : Type 0} (is_at : S → F → List ℕ → Type 0) (folder : List ℕ) (s t : S) (kept : OpenFiles F) → AreOpenAt (is_at s) folder kept → Stays is_at s t → AreOpenAt (is_at t) folder kept
kept_stay {F = F} is_at folder s t kept are stays =
    let stand : (f : OpenFile F) → IsOpenAt (is_at s) folder f → IsOpenAt (is_at t) folder f = λ f h. (stays f.file (path_in folder f.name.items) h.0, h.1) in (
      when_all _ stand are.0,
      when_some kept.written stand are.1,
    )
