-- The forks of a store, looked up by the names of their first files.
use Rattle.std.proofs.Common.{◌≡◌, ℕ, zero, suc, ◌<◌, Bool, true, false, List, [], ◌∷◌, length, get_or, Option, Some, None, IsSome, is_some, refl, sym, ap, subst, ◌∙◌, arith}
use Rattle.std.specs.FinMap.{get, keys, contains_key}
use Rattle.std.specs.BTreeMap.{BTreeMap, IsOrdered}
use Rattle.lsn_core.specs.declared.ids.ForkId.{ForkId}
use Rattle.lsn_core.specs.Files.{Files}
use Rattle.lsn_core.specs.Names.{fork_path_bytes, IsNamed}
use Rattle.lsn_core.specs.Store.{Store, ForkPages, fork_cmp}
use Rattle.lsn_core.proofs.ForkPaths.{one_place}
use Rattle.rel_files.specs.Forks.{fork_lengths}
use Rattle.rel_files.specs.Shown.{AreFilesOf, AreKnown}
use Rattle.rel_files.specs.Inside.{known_length, lengths_in}
use Rattle.rel_files.proofs.SegmentFiles.{renamed}
use Rattle.rel_files.proofs.ForkLists.{fork_is_named, all_known, lengths_are}

-- a name that is read as a segment is that of the first one of this fork alone
pub first_is : (name : List ℕ) (found fork : ForkId) (seg : ℕ) (incr : Bool) → name ≡ fork_path_bytes found seg incr → IsNamed found seg → IsNamed fork 0 → name ≡ fork_path_bytes fork 0 false → (found ≡ fork) × ((seg ≡ 0) × (incr ≡ false))
first_is name found fork seg incr e named want f = one_place found fork seg 0 incr false named want (sym e ∙ f)

-- the list of all lengths, where each fork whose first file is named is known
pub listed : (relseg : ℕ) (x : Option Files) (s : Store) (names : List (List ℕ)) (known : BTreeMap ForkId ℕ) → 0 < relseg → AreFilesOf relseg x s → ((m : Files) → x ≡ Some m → names ≡ keys m)
    → AreKnown known s → IsOrdered fork_cmp known
    → ((k : ℕ) → k < length names → (fork : ForkId) → IsNamed fork 0 → get_or names k [] ≡ fork_path_bytes fork 0 false → contains_key s fork ≡ true → IsSome (known_length known fork))
    → lengths_in known ≡ fork_lengths s
listed relseg x s names known some held are right order all =
    lengths_are s known order (all_known s known right (λ fork there.
    let first = fork_is_named relseg held.files s fork some held.hold there in
    let same = are held.files held.are_told in
    all first.at (subst (λ (ns : List (List ℕ)). first.at < length ns) (sym same) first.within) fork (named_of (get s fork) there (held.hold.named fork)) (ap (λ (ns : List (List ℕ)). get_or ns first.at []) same ∙ first.is) there))
  where
    named_of : {fork : ForkId} (o : Option ForkPages) → is_some o ≡ true → ((pages : ForkPages) → o ≡ Some pages → IsNamed fork (length pages)) → IsNamed fork 0
    named_of None e named = absurd cc
    named_of {fork = fork} (Some pages) e named = renamed fork (length pages) 0 (named pages refl) (omega arith)

-- an item of a list is the one at its place, whatever stands for a missing one
pub item_is : (names : List (List ℕ)) (at : ℕ) (item : List ℕ) → at < length names → item ≡ get_or names at item → item ≡ get_or names at []
item_is names at item less is = is ∙ any names at less
  where
    any : (xs : List (List ℕ)) (i : ℕ) → i < length xs → get_or xs i item ≡ get_or xs i []
    any [] i l = absurd (omega (arith, l))
    any (x ∷ xs) zero l = refl
    any (x ∷ xs) (suc i) l = any xs i (omega (arith, l))
