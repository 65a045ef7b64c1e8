-- The lengths of forks, noted list after list.
use Rattle.std.proofs.Common.{◌≡◌, ℕ, ◌+◌, ◌<◌, ◌≤◌, Bool, true, false, cond, List, [], ◌∷◌, map, Option, Some, None, is_some, refl, sym, ap, subst, ◌∙◌, arith}
use Rattle.std.specs.Prelude.{◌==◌}
use Rattle.std.specs.List.{All}
use Rattle.std.specs.List as list
use Rattle.std.specs.List.Sorted.{IsStrictlySortedBy}
use Rattle.std.specs.Option.{option_map}
use Rattle.std.specs.declared.cmp.Ordering.{Ordering}
use Rattle.std.specs.Ordering.{is_eq}
use Rattle.std.specs.BTreeMap.{BTreeMap, UpdatesBy}
use Rattle.std.specs.BTreeMap as tree
use Rattle.std.specs.Map.{lookup}
use Rattle.std.proofs.lemmas.Bool.{eq-eqb, eqb-true, ne_eqb, false_from_ne_true}
use Rattle.std.proofs.lemmas.List.Elements.{All-head, All-tail}
use mathlib.Core.List.{IsPrefix}
use Rattle.timeline.proofs.Prefixes.{prefix_refl, prefix_trans}
use Rattle.lsn_core.specs.Store.{fork_cmp}
use Rattle.lsn_core.specs.declared.ids.ForkId.{ForkId}
use Rattle.lsn_core.specs.declared.ids.ForkLen.{ForkLen}
use Rattle.lsn_core.proofs.ForkOrder.{derived_cmp, derived_is}
use Rattle.lsn_core.proofs.StoreFiles.{same_fork, forks_tie, fork_itself}
use Rattle.rel_files.specs.Inside.{IsNoted}
use Rattle.rel_files.proofs.KnownLengths.{noted_is}
use Rattle.history.specs.Apply.{is_same_fork}
use Rattle.history.specs.Entry.{Entry}
use Rattle.history.specs.partitions.Parts.{is_of, partition_of}
use Rattle.store_locks.specs.Copied.{HasRedoPoint, ListsPart, listed_length}
use Rattle.backup_sending.specs.Inside.{IsForkListed, ListsForks, NotesAll, known_length, lengths_in, or_else}

-- ---- one list

none_later : (o : Option ℕ) → or_else o None ≡ o
none_later None = refl
none_later (Some n) = refl

kept : (o p : Option ℕ) → is_some o ≡ true → or_else o p ≡ o
kept None p some = absurd cc
kept (Some n) p some = refl

in_turn : (o a b : Option ℕ) → or_else (or_else o a) b ≡ or_else o (or_else a b)
in_turn None a b = refl
in_turn (Some n) a b = refl

-- a list's first fork comes before the others
first_of_list : (l : ForkLen) (ls : List ForkLen) (fork : ForkId) → or_else (listed_length (l ∷ []) fork) (listed_length ls fork) ≡ listed_length (l ∷ ls) fork
first_of_list l ls fork = at (is_same_fork fork l.fork)
  where
    at : (b : Bool) → or_else (option_map (λ x. x.blocks) (cond b (Some l) None)) (listed_length ls fork) ≡ option_map (λ x. x.blocks) (cond b (Some l) (list.find (λ x. is_same_fork fork x.fork) ls))
    at true = refl
    at false = refl

one_is : (l : ForkLen) (fork : ForkId) → fork ≡ l.fork → listed_length (l ∷ []) fork ≡ Some l.blocks
unfolding is_same_fork
one_is l fork e = ap (λ b. option_map (λ (x : ForkLen). x.blocks) (cond b (Some l) None)) (subst (λ (f : ForkId). same_fork fork f ≡ true) e (fork_itself fork))

one_not : (l : ForkLen) (fork : ForkId) → same_fork fork l.fork ≡ false → listed_length (l ∷ []) fork ≡ None
unfolding is_same_fork
one_not l fork e = ap (λ b. option_map (λ (x : ForkLen). x.blocks) (cond b (Some l) None)) e

by_fork : (fork q : ForkId) {A : Type 0} → (fork ≡ q → A) → (same_fork fork q ≡ false → A) → A
by_fork fork q {A = A} tie apart =
    elim (same_fork fork q) as (λ b. same_fork fork q ≡ b → A) [
      | true ↦ λ e. tie (forks_tie fork q e)
      | false ↦ λ e. apart e
    ] refl

-- a fork that was known
pub note_known : (l : ForkLen) (known : BTreeMap ForkId ℕ) → is_some (known_length known l.fork) ≡ true → NotesAll (l ∷ []) known known
note_known l known some fork =
    by_fork fork l.fork
    (λ e. sym (kept (known_length known fork) (listed_length (l ∷ []) fork) (subst (λ (f : ForkId). is_some (known_length known f) ≡ true) (sym e) some)))
    (λ e. sym (ap (or_else (known_length known fork)) (one_not l fork e) ∙ none_later (known_length known fork)))

none_of : (o : Option ℕ) → is_some o ≡ false → o ≡ None
none_of None e = refl
none_of (Some n) e = absurd cc

-- and one that wasn't
pub note_new : (l : ForkLen) (old new : BTreeMap ForkId ℕ) → is_some (known_length old l.fork) ≡ false → IsNoted l.fork l.blocks old new → NotesAll (l ∷ []) old new
note_new l old new none noted fork =
    by_fork fork l.fork
    (λ e.
    ap (known_length new) e ∙ (noted.here ∙ (sym (one_is l fork e)
    ∙ ap (λ (o : Option ℕ). or_else o (listed_length (l ∷ []) fork)) (sym (ap (known_length old) e ∙ none_of (known_length old l.fork) none)))))
    (λ e.
    noted.others fork (λ same. let yes : same_fork fork l.fork ≡ true = subst (λ (f : ForkId). same_fork fork f ≡ true) same (fork_itself fork) in let no : true ≡ false = sym yes ∙ e in absurd cc)
    ∙ sym (ap (or_else (known_length old fork)) (one_not l fork e) ∙ none_later (known_length old fork)))

-- as the map's calls say it
pub note_found : (l : ForkLen) (known : BTreeMap ForkId ℕ) → true ≡ is_some (tree.get derived_cmp known l.fork) → NotesAll (l ∷ []) known known
note_found l known some = note_known l known (sym (some ∙ ap (λ (R : ForkId → ForkId → Ordering). is_some (tree.get R known l.fork)) derived_is))

pub note_put : (l : ForkLen) (old new : BTreeMap ForkId ℕ) → false ≡ is_some (tree.get derived_cmp old l.fork) → UpdatesBy derived_cmp (derived_cmp l.fork) old new (Some l.blocks) → NotesAll (l ∷ []) old new
note_put l old new none updates =
    note_new l old new (sym (none ∙ ap (λ (R : ForkId → ForkId → Ordering). is_some (tree.get R old l.fork)) derived_is)) (noted_is old new l.fork l.blocks updates)

-- several, one after the other
pub record NotedSoFar (list left : List ForkLen) (old known : BTreeMap ForkId ℕ) : Type 0 where
  pub so_far : (fork : ForkId) → or_else (known_length known fork) (listed_length left fork) ≡ or_else (known_length old fork) (listed_length list fork)

pub noted_further : (list left rest : List ForkLen) (l : ForkLen) (old mid new : BTreeMap ForkId ℕ) → left ≡ l ∷ rest → NotedSoFar list left old mid → NotesAll (l ∷ []) mid new → NotedSoFar list rest old new
noted_further list left rest l old mid new is far adds = record {
  so_far = λ fork.
      ap (λ (o : Option ℕ). or_else o (listed_length rest fork)) (adds fork)
      ∙ (in_turn (known_length mid fork) (listed_length (l ∷ []) fork) (listed_length rest fork)
      ∙ (ap (or_else (known_length mid fork)) (first_of_list l rest fork ∙ ap (λ (ls : List ForkLen). listed_length ls fork) (sym is)) ∙ far.so_far fork));
}

pub noted_whole : (list left : List ForkLen) (old known : BTreeMap ForkId ℕ) → left ≡ [] → NotedSoFar list left old known → NotesAll list old known
noted_whole list left old known none far fork =
    sym (none_later (known_length known fork)) ∙ (ap (λ (ls : List ForkLen). or_else (known_length known fork) (listed_length ls fork)) (sym none) ∙ far.so_far fork)

-- ---- the lists of all partitions

pub record KnowsForks (tells : Type 0) (seen : List Entry) (from q : ℕ) (known : BTreeMap ForkId ℕ) : Type 0 where
  pub listed : tells → (fork : ForkId) → partition_of fork.rel < q → IsForkListed seen from fork (known_length known fork)
  pub none : tells → (fork : ForkId) → q ≤ partition_of fork.rel → known_length known fork ≡ None

pub knows_none : (tells : Type 0) (seen : List Entry) (from : ℕ) (known : BTreeMap ForkId ℕ) → known.entries ≡ [] → KnowsForks tells seen from 0 known
knows_none tells seen from known empty = record {
  listed = λ told fork less. absurd (omega (arith, less));
  none = λ told fork le. ap (λ (es : List (ForkId × ℕ)). lookup (λ k. is_eq (fork_cmp fork k)) es) empty;
}

-- a list names forks of its partition alone
others_none : (q : ℕ) (ls : List ForkLen) (fork : ForkId) → All (λ l. is_of q l.fork ≡ true) ls → is_of q fork ≡ false → listed_length ls fork ≡ None
unfolding is_same_fork
others_none q [] fork ours other = refl
others_none q (l ∷ ls) fork ours other =
    let apart : same_fork fork l.fork ≡ false = false_from_ne_true (same_fork fork l.fork) (λ e.
    let one : is_of q fork ≡ true = subst (λ (f : ForkId). is_of q f ≡ true) (sym (forks_tie fork l.fork e)) (All-head (λ x. is_of q x.fork ≡ true) l ls ours) in
    let no : true ≡ false = sym one ∙ other in absurd cc) in
    ap (λ b. option_map (λ (x : ForkLen). x.blocks) (cond b (Some l) (list.find (λ x. same_fork fork x.fork) ls))) apart
    ∙ others_none q ls fork (All-tail (λ x. is_of q x.fork ≡ true) l ls ours) other

pub knows_more : (tells : Type 0) (s t : List Entry) (from q next : ℕ) (list : List ForkLen) (old new : BTreeMap ForkId ℕ) → next ≡ q + 1 → IsPrefix s t → HasRedoPoint t from → (tells → ListsPart q t from list) → NotesAll list old new
    → KnowsForks tells s from q old → KnowsForks tells t from next new
knows_more tells s t from q next list old new next_is p redo lists notes knows = record {
  listed = λ told fork less.
      elim (partition_of fork.rel == q) as (λ b. is_of q fork ≡ b → IsForkListed t from fork (known_length new fork)) [
        | true ↦ λ e.
            let mine : partition_of fork.rel ≡ q = eqb-true (partition_of fork.rel) q e in
            let is : known_length new fork ≡ listed_length list fork = notes fork ∙ ap (λ (o : Option ℕ). or_else o (listed_length list fork)) (knows.none told fork (omega (arith, mine))) in
            subst (IsForkListed t from fork) (sym is) (record { moment = t; before = prefix_refl t; redo = redo; listed = (lists told).listed fork e })
        | false ↦ λ e.
            let apart : partition_of fork.rel ≡ q → ⊥ = other q fork e in
            let before : partition_of fork.rel < q = omega (arith, less, next_is, apart) in
            let is : known_length new fork ≡ known_length old fork = notes fork ∙ (ap (or_else (known_length old fork)) (others_none q list fork (lists told).ours e) ∙ none_later (known_length old fork)) in
            let was = knows.listed told fork before in
            subst (IsForkListed t from fork) (sym is) (record { moment = was.moment; before = prefix_trans was.moment s t was.before p; redo = was.redo; listed = was.listed })
      ] refl;
  none = λ told fork le.
      let e : is_of q fork ≡ false = ne_eqb (partition_of fork.rel) q (λ same. omega (arith, same, le, next_is)) in
      notes fork ∙ (ap (or_else (known_length old fork)) (others_none q list fork (lists told).ours e) ∙ (none_later (known_length old fork) ∙ knows.none told fork (omega (arith, le, next_is))));
}
  where
    other : (n : ℕ) (f : ForkId) → is_of n f ≡ false → partition_of f.rel ≡ n → ⊥
    other n f e same = let no : true ≡ false = sym (eq-eqb (partition_of f.rel) n same) ∙ e in absurd cc

-- ---- the whole list

abbrev len : ForkId × ℕ → ForkLen
len x = record { fork = x.0; blocks = x.1 }

found_in : (es : List (ForkId × ℕ)) (fork : ForkId) → listed_length (map (λ e. record { fork = e.0; blocks = e.1 }) es) fork ≡ lookup (λ k. is_eq (fork_cmp fork k)) es
unfolding is_same_fork
found_in [] fork = refl
found_in (e ∷ es) fork = by_test (same_fork fork e.0) (found_in es fork)
  where
    by_test : (b : Bool) → option_map (λ x. x.blocks) (list.find (λ x. same_fork fork x.fork) (map len es)) ≡ lookup (λ k. is_eq (fork_cmp fork k)) es
        → option_map (λ x. x.blocks) (cond b (Some (len e)) (list.find (λ x. same_fork fork x.fork) (map len es))) ≡ cond b (Some e.1) (lookup (λ k. is_eq (fork_cmp fork k)) es)
    by_test true rest = refl
    by_test false rest = rest

forks_in : (es : List (ForkId × ℕ)) → map (λ (l : ForkLen). l.fork) (map (λ e. record { fork = e.0; blocks = e.1 }) es) ≡ map (λ e. e.0) es
forks_in [] = refl
forks_in (e ∷ es) = ap (λ (l : List ForkId). e.0 ∷ l) (forks_in es)

pub all_listed : (tells : Type 0) (seen : List Entry) (from q : ℕ) (known : BTreeMap ForkId ℕ) (list : List ForkLen) → 4 ≤ q → KnowsForks tells seen from q known → tree.IsOrdered fork_cmp known → list ≡ lengths_in known → ListsForks tells seen from list
all_listed tells seen from q known list all knows order is = record {
  order = subst (λ (l : List ForkLen). IsStrictlySortedBy fork_cmp (map (λ x. x.fork) l)) (sym is) (subst (IsStrictlySortedBy fork_cmp) (sym (forks_in known.entries)) order);
  listed = λ told fork.
      subst (IsForkListed seen from fork) (sym (ap (λ (l : List ForkLen). listed_length l fork) is ∙ found_in known.entries fork))
      (knows.listed told fork (omega (arith, all)));
}
