-- What a step of a walk adds.
use Rattle.std.specs.Prelude.{◌≡◌, ℕ, true, cond, bytes_eq, List, [], ◌∷◌, ◌++◌, map, Option, Some, None, string_bytes}
use Rattle.std.specs.BTreeSet.{contains_text}
use Rattle.system_calls.specs.declared.kind.Kind.{Kind}
use Rattle.system_calls.specs.declared.kind.Kind.TheVariants.{File, Folder, Other}
use Rattle.vault_os.specs.declared.walk.Walk.{Walk}

-- the folders that are still to read
abbrev pub unread_of : Walk → List (List ℕ)
unread_of walk = map string_bytes walk.unread.items

-- nothing was added
pub record AddsNone (old new : Walk) : Type 0 where
  pub unread : new.unread.items ≡ old.unread.items
  pub files : new.files.keys ≡ old.files.keys

pub record AddsFile (path : List ℕ) (old new : Walk) : Type 0 where
  pub unread : new.unread.items ≡ old.unread.items
  pub files : (n : List ℕ)
      → contains_text new.files n ≡ cond (bytes_eq path n) true (contains_text old.files n)

pub record AddsFolder (path : List ℕ) (old new : Walk) : Type 0 where
  pub unread : unread_of new ≡ unread_of old ++ ((path ++ (47 ∷ [])) ∷ [])
  pub files : new.files.keys ≡ old.files.keys

-- a file or a folder was added
abbrev pub AddsEntry : List ℕ → Option Kind → Walk → Walk → Type 0
AddsEntry path None old new = AddsNone old new
AddsEntry path (Some (File size)) old new = AddsFile path old new
AddsEntry path (Some Folder) old new = AddsFolder path old new
AddsEntry path (Some Other) old new = AddsNone old new
