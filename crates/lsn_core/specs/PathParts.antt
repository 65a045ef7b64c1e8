-- What stands in no part of a fork's path, for the readers of these parts.
use Rattle.std.specs.Prelude.{◌≡◌, ℕ, ◌^◌, ◌<◌, Bool, true, List, ◌∷◌, ◌++◌, codes}
use Rattle.std.specs.Fmt.{decimal}
use Rattle.lsn_core.specs.declared.ids.ForkKind.{ForkKind}
use Rattle.lsn_core.specs.Names.{segment_suffix, file_prefix, file_tail, plain_name, file_name}

abbrev pub IsNoSuffix : List ℕ → Type 0
IsNoSuffix text = (seg : ℕ) → seg < 2 ^ 32 → text ≡ segment_suffix seg → ⊥

abbrev pub IsNoTail : List ℕ → Type 0
IsNoTail text = (kind : ForkKind) (seg : ℕ) → seg < 2 ^ 32 → text ≡ file_tail kind seg → ⊥

abbrev pub IsNoPlainName : List ℕ → Type 0
IsNoPlainName name = (rel : ℕ) (kind : ForkKind) (seg : ℕ) → rel < 2 ^ 32 → seg < 2 ^ 32
    → name ≡ plain_name rel kind seg → ⊥

-- the name isn't that of an incremental file
abbrev pub HasNoPrefix : List ℕ → Type 0
HasNoPrefix name = (tail : List ℕ) → name ≡ file_prefix true ++ tail → ⊥

abbrev pub IsNoFileName : List ℕ → Type 0
IsNoFileName name = (incr : Bool) (rel : ℕ) (kind : ForkKind) (seg : ℕ) → rel < 2 ^ 32
    → seg < 2 ^ 32 → name ≡ file_name incr rel kind seg → ⊥

-- the folder of a database and a name in it
abbrev pub in_database : ℕ → List ℕ → List ℕ
in_database db name = codes "base/" ++ (decimal db ++ (47 ∷ name))

abbrev pub IsInNoDatabase : List ℕ → Type 0
IsInNoDatabase path = (db : ℕ) (name : List ℕ) → db < 2 ^ 32 → path ≡ in_database db name → ⊥
