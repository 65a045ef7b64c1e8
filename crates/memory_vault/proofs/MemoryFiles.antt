-- A map from name to bytes, seen as the files that it holds, and a map from name to count.
use Rattle.std.proofs.Common.{◌≡◌, ℕ, ◌+◌, ◌-◌, ◌^◌, min, Bool, true, false, cond, T, ◌&&◌, List, [], ◌∷◌, ◌++◌, map, Option, Some, None, option_map, unwrap_or, Result, Ok, Err, OnOk, OnErr, IsSome, refl, sym, ap, subst, ◌∙◌}
use Rattle.std.proofs.lemmas.List.{append-nil}
use Rattle.std.specs.Global.{Vec}
use Rattle.std.specs.declared.cmp.Ordering.{Ordering}
use Rattle.std.specs.declared.cmp.Ordering.TheVariants.{Less}
use Rattle.std.specs.Ordering.{nat_cmp, is_eq, is_lt, eq_by_cmp}
use Rattle.std.specs.Cmp.{Equal-is}
use Rattle.std.specs.Cmp.Lexicographic.{slice_cmp, nat_list_cmp_total}
use Rattle.std.specs.List.{AllByRecursion}
use Rattle.std.specs.List.Sorted.{IsStrictlySortedBy}
use Rattle.std.specs.Map.{lookup, keys_of, KeepsOthers}
use Rattle.std.specs.BTreeMap.{BTreeMap, UpdatesBy, WritesThrough, IsOrdered}
use Rattle.std.specs.BTreeMap as tree
use Rattle.std.specs.FinMap.{FinMap, find, get, insert, remove, keys, entries, from_entries, from_sorted, is_sorted, get-from_entries, get-from_sorted, get-insert, get-remove, entries-from_sorted, same_map, slice_cmp-IsAntisymmetric, nat_cmp-IsAntisymmetric}
use Rattle.std.specs.FinMap.Entries.{below_all}
use Rattle.lsn_core.specs.Files.{Files}
use Rattle.lsn_core.specs.declared.fault.NoMemory.{NoMemory}
use Rattle.vault.specs.Area.{bytes_of, file_written, after_write, cut_to, after_cut}
use Rattle.memory_vault.specs.Memory.{files_in, reads_in, read_count, more_read, IsWritten}

abbrev name_cmp : List ℕ → List ℕ → Ordering
name_cmp = slice_cmp nat_cmp

abbrev key_cmp : Vec ℕ → Vec ℕ → Ordering
key_cmp x y = name_cmp x.items y.items

-- the test that a key has this name
abbrev at_name : List ℕ → Vec ℕ → Bool
at_name q k = is_eq (name_cmp q k.items)

abbrev bytes : Vec ℕ → List ℕ
bytes v = v.items

same_name : (x y : List ℕ) → is_eq (name_cmp x y) ≡ true → x ≡ y
same_name x y e = slice_cmp-IsAntisymmetric nat_cmp-IsAntisymmetric x y ((Equal-is _).0 e)

-- another name finds after a change at one name what it found before
others : {X : Type 0} (name q : List ℕ) (m n : BTreeMap (Vec ℕ) X) → KeepsOthers (eq_by_cmp key_cmp) (at_name name) m.entries n.entries → is_eq (name_cmp q name) ≡ false → lookup (at_name q) n.entries ≡ lookup (at_name q) m.entries
unfolding KeepsOthers
others name q m n keeps apart =
    keeps (at_name q)
    (λ x y at. subst (λ (z : List ℕ). is_eq (name_cmp q y.items) ≡ is_eq (name_cmp z y.items)) (same_name q x.items at) refl)
    (λ k at. subst (λ (z : List ℕ). is_eq (name_cmp q z) ≡ false) (same_name name k.items at) apart)

-- maps whose values are seen through a function
module _ {X Y : Type 0} (f : X → Y) where
  abbrev entry_of : Vec ℕ × X → List ℕ × Y
  entry_of e = (e.0.items, f e.1)

  abbrev seen : BTreeMap (Vec ℕ) X → FinMap name_cmp Y
  seen m = from_entries (map entry_of m.entries)

  find-lookup : (q : List ℕ) (es : List (Vec ℕ × X)) → find name_cmp q (map entry_of es) ≡ option_map f (lookup (at_name q) es)
  find-lookup q [] = refl
  find-lookup q (e ∷ es) =
      elim (is_eq (name_cmp q e.0.items)) as (λ b. cond b (Some (f e.1)) (find name_cmp q (map entry_of es)) ≡ option_map f (cond b (Some e.1) (lookup (at_name q) es))) [ true ↦ refl | false ↦ find-lookup q es ]

  get_seen : (m : BTreeMap (Vec ℕ) X) (q : List ℕ) → get (seen m) q ≡ option_map f (tree.get_by (λ k. name_cmp q k.items) m)
  get_seen m q = get-from_entries nat_list_cmp_total (map entry_of m.entries) q ∙ find-lookup q m.entries

  changed : (name : List ℕ) (m n : BTreeMap (Vec ℕ) X) (w : Option X) → UpdatesBy key_cmp (λ k. name_cmp name k.items) m n w → (q : List ℕ) → get (seen n) q ≡ cond (eq_by_cmp name_cmp q name) (option_map f w) (get (seen m) q)
  changed name m n w updates q =
      get_seen n q
      ∙ elim (is_eq (name_cmp q name)) as (λ b. is_eq (name_cmp q name) ≡ b → option_map f (lookup (at_name q) n.entries) ≡ cond b (option_map f w) (option_map f (lookup (at_name q) m.entries))) [
        | true ↦ λ e. subst (λ (z : List ℕ). option_map f (lookup (at_name z) n.entries) ≡ option_map f w) (sym (same_name q name e)) (ap (option_map f) updates.1)
        | false ↦ λ e. ap (option_map f) (others name q m n updates.3 e)
      ] refl
      ∙ ap (cond (eq_by_cmp name_cmp q name) (option_map f w)) (sym (get_seen m q))

  seen-insert : (name : List ℕ) (m n : BTreeMap (Vec ℕ) X) (v : X) → UpdatesBy key_cmp (λ k. name_cmp name k.items) m n (Some v) → seen n ≡ insert (seen m) name (f v)
  seen-insert name m n v updates = same_map nat_list_cmp_total (slice_cmp-IsAntisymmetric nat_cmp-IsAntisymmetric) _ _ (λ q. changed name m n (Some v) updates q ∙ sym (get-insert nat_list_cmp_total (seen m) name (f v) q))

  seen-remove : (name : List ℕ) (m n : BTreeMap (Vec ℕ) X) → UpdatesBy key_cmp (λ k. name_cmp name k.items) m n None → seen n ≡ remove (seen m) name
  seen-remove name m n updates = same_map nat_list_cmp_total (slice_cmp-IsAntisymmetric nat_cmp-IsAntisymmetric) _ _ (λ q. changed name m n None updates q ∙ sym (get-remove nat_list_cmp_total (seen m) name q))

-- what a look-up in the map says of the files
pub get_read : (m : BTreeMap (Vec ℕ) (Vec ℕ)) (q : List ℕ) (o : Option (Vec ℕ)) → o ≡ tree.get_by (λ k. name_cmp q k.items) m → get (files_in m) q ≡ option_map bytes o
get_read m q o e = get_seen bytes m q ∙ ap (option_map bytes) (sym e)

pub bytes_read : (m : BTreeMap (Vec ℕ) (Vec ℕ)) (q : List ℕ) (o : Option (Vec ℕ)) → o ≡ tree.get_by (λ k. name_cmp q k.items) m → unwrap_or (option_map bytes o) [] ≡ bytes_of (files_in m) q
bytes_read m q o e = ap (λ (found : Option (List ℕ)). unwrap_or found []) (sym (get_read m q o e))

pub cut_read : (m : BTreeMap (Vec ℕ) (Vec ℕ)) (q : List ℕ) (size : ℕ) (o : Option (Vec ℕ)) → o ≡ tree.get_by (λ k. name_cmp q k.items) m → cut_to (files_in m) q size (option_map bytes o) ≡ after_cut q size (files_in m)
cut_read m q size o e = ap (cut_to (files_in m) q size) (sym (get_read m q o e))

pub files-insert : (name : List ℕ) (m n : BTreeMap (Vec ℕ) (Vec ℕ)) (v : Vec ℕ) → UpdatesBy key_cmp (λ k. name_cmp name k.items) m n (Some v) → files_in n ≡ insert (files_in m) name v.items
files-insert name m n v updates = seen-insert bytes name m n v updates

pub files-remove : (name : List ℕ) (m n : BTreeMap (Vec ℕ) (Vec ℕ)) → UpdatesBy key_cmp (λ k. name_cmp name k.items) m n None → files_in n ≡ remove (files_in m) name
files-remove name m n updates = seen-remove bytes name m n updates

-- the same of the counts of reads
option_same : {X : Type 0} (o : Option X) → option_map (λ x. x) o ≡ o
option_same None = refl
option_same (Some x) = refl

pub count_found : (m : BTreeMap (Vec ℕ) ℕ) (q : List ℕ) (o : Option ℕ) → o ≡ tree.get_by (λ k. name_cmp q k.items) m → unwrap_or o 0 ≡ read_count (reads_in m) q
count_found m q o e = ap (λ (found : Option ℕ). unwrap_or found 0) (e ∙ sym (option_same _) ∙ sym (get_seen (λ n. n) m q))

pub reads-insert : (name : List ℕ) (m n : BTreeMap (Vec ℕ) ℕ) (v : ℕ) → UpdatesBy key_cmp (λ k. name_cmp name k.items) m n (Some v) → reads_in n ≡ insert (reads_in m) name v
reads-insert name m n v updates = seen-insert (λ n. n) name m n v updates

both : (a b : Bool) → T a → T b → T (a && b)
both true b p q = q
both false b p q = p

below : (k : Vec ℕ) (es : List (Vec ℕ × Vec ℕ)) → AllByRecursion (λ y. key_cmp k y ≡ Less) (keys_of es) → T (below_all name_cmp k.items (map (entry_of bytes) es))
below k [] h = tt
below k (e ∷ es) h = both _ _ (subst (λ r. T (is_lt r)) (sym h.0) tt) (below k es h.1)

sorted : (es : List (Vec ℕ × Vec ℕ)) → IsStrictlySortedBy key_cmp (keys_of es) → T (is_sorted name_cmp (map (entry_of bytes) es))
unfolding IsStrictlySortedBy
sorted [] h = tt
sorted (e ∷ es) h = both _ _ (below e.0 es h.0) (sorted es h.1)

names_of : (es : List (Vec ℕ × Vec ℕ)) → map (λ (e : List ℕ × List ℕ). e.0) (map (entry_of bytes) es) ≡ map bytes (keys_of es)
names_of [] = refl
names_of (e ∷ es) = ap (λ (ns : List (List ℕ)). e.0.items ∷ ns) (names_of es)

pub keys-files : (m : BTreeMap (Vec ℕ) (Vec ℕ)) → IsOrdered key_cmp m → keys (files_in m) ≡ map bytes (tree.keys m)
keys-files m h =
    let es = map (entry_of bytes) m.entries in
    let order = sorted m.entries h in
    let same : files_in m ≡ from_sorted es = same_map nat_list_cmp_total (slice_cmp-IsAntisymmetric nat_cmp-IsAntisymmetric) _ _ (λ q. get-from_entries nat_list_cmp_total es q ∙ sym (get-from_sorted name_cmp es q order)) in
    ap (λ m. map (λ (e : List ℕ × List ℕ). e.0) (entries m)) same ∙ ap (map (λ (e : List ℕ × List ℕ). e.0)) (entries-from_sorted name_cmp es order) ∙ names_of m.entries

-- the names so far are all, where no key is left
pub all_named : (names : List (List ℕ)) (rest : List (Vec ℕ)) (all : List (List ℕ)) → names ++ map bytes rest ≡ all → rest ≡ [] → names ≡ all
all_named names rest all so_far e = sym (append-nil names) ∙ ap (λ (r : List (Vec ℕ)). names ++ map bytes r) (sym e) ∙ so_far

-- a value that was written through what the map lent for a file
pub files-through : (name : List ℕ) (m n : BTreeMap (Vec ℕ) (Vec ℕ)) (v w : Vec ℕ) → Some v ≡ tree.get_by (λ k. name_cmp name k.items) m → WritesThrough key_cmp (λ k. name_cmp name k.items) m w n → files_in n ≡ insert (files_in m) name w.items
files-through name m n v w found through = files-insert name m n w (through.3 (subst (λ (o : Option (Vec ℕ)). IsSome o) found refl))

chosen : (b : Bool) (held : List ℕ) (old : Option (List ℕ)) → (b ≡ true → old ≡ Some held) → cond b (Some held) old ≡ old
chosen true held old is = sym (is refl)
chosen false held old is = refl

-- to put a file's own bytes in its place changes nothing
same_put : (name held : List ℕ) (files : Files) → get files name ≡ Some held → insert files name held ≡ files
same_put name held files found = same_map nat_list_cmp_total (slice_cmp-IsAntisymmetric nat_cmp-IsAntisymmetric) _ _ (λ q. get-insert nat_list_cmp_total files name held q ∙ chosen (eq_by_cmp name_cmp q name) held (get files q) (λ e. ap (get files) (same_name q name e) ∙ found))

-- a write over a file that the map lent
pub through_file : (name : List ℕ) (at : ℕ) (piece : List ℕ) (m n : BTreeMap (Vec ℕ) (Vec ℕ)) (v w : Vec ℕ) (result : Result (Unit {0}) NoMemory)
    → Some v ≡ tree.get_by (λ k. name_cmp name k.items) m → WritesThrough key_cmp (λ k. name_cmp name k.items) m w n
    → OnOk result (w.items ≡ file_written v.items at piece) → OnErr result (w.items ≡ v.items) → IsWritten name at piece m n result
through_file name at piece m n v w (Ok done) found through e same = files-through name m n v w found through ∙ ap (insert (files_in m) name) (e ∙ ap (λ (l : List ℕ). file_written l at piece) (bytes_read m name (Some v) found))
through_file name at piece m n v w (Err fault) found through e same = files-through name m n v w found through ∙ ap (insert (files_in m) name) same ∙ same_put name v.items (files_in m) (get_read m name (Some v) found)

-- a file that was made
pub made_written : (name key : List ℕ) (at : ℕ) (piece : List ℕ) (m n : BTreeMap (Vec ℕ) (Vec ℕ)) (w : Vec ℕ) → get (files_in m) name ≡ None → key ≡ name → UpdatesBy key_cmp (λ k. name_cmp key k.items) m n (Some w) → w.items ≡ file_written [] at piece → files_in n ≡ after_write name at piece (files_in m)
made_written name key at piece m n w none same updates e =
    files-insert key m n w updates
    ∙ ap (λ (q : List ℕ). insert (files_in m) q w.items) same
    ∙ ap (insert (files_in m) name) (e ∙ ap (λ (o : Option (List ℕ)). file_written (unwrap_or o []) at piece) (sym none))

pub counted_more : (name key : List ℕ) (count so_far now : ℕ) (m n : BTreeMap (Vec ℕ) ℕ) → so_far ≡ read_count (reads_in m) name → key ≡ name → now ≡ min (so_far + count) (2 ^ 64 - 1) → UpdatesBy key_cmp (λ k. name_cmp key k.items) m n (Some now) → reads_in n ≡ more_read name count (reads_in m)
counted_more name key count so_far now m n before same after updates =
    reads-insert key m n now updates
    ∙ ap (λ (q : List ℕ). insert (reads_in m) q now) same
    ∙ ap (insert (reads_in m) name) (after ∙ ap (λ (c : ℕ). min (c + count) (2 ^ 64 - 1)) before)
