-- Dirty blocks, by the queue that they are in.
use Rattle.std.proofs.Common.{◌≡◌, ℕ, zero, suc, ◌<◌, ◌≤◌, max, Bool, true, false, cond, T, ◌&&◌, ◌||◌, List, [], ◌∷◌, ◌++◌, map, fold, get_or, Option, Some, None, IsSome, is_some, unwrap_or, refl, sym, ap, subst, ◌∙◌, arith, true≢false}
use Rattle.std.specs.Prelude.{slice_get, ◌==◌}
use Rattle.std.specs.declared.cmp.Ordering.{Ordering}
use Rattle.std.specs.declared.cmp.Ordering.TheVariants.{Less, Equal, Greater}
use Rattle.std.specs.Ordering.{is_eq, is_lt, eq_by_cmp, nat_cmp, ordering_then}
use Rattle.std.specs.Cmp.{Equal-is, tied_itself}
use Rattle.std.specs.List.{AllByRecursion, list_any, flat_map, filter_map, cons_option, reduce}
use Rattle.std.specs.List.Sorted.{IsStrictlySortedBy}
use Rattle.std.specs.FinMap.{find, get, keys, entries, entries_sorted, is_sorted, get-entries, contains_key, contains_key-keys}
use Rattle.std.specs.FinMap.Entries.{below_all}
use Rattle.std.proofs.lemmas.Bool.{lt-ltb}
use Rattle.lsn_core.specs.declared.ids.ForkId.{ForkId}
use Rattle.lsn_core.specs.declared.ids.BlockId.{BlockId}
use Rattle.lsn_core.specs.Store.{fork_cmp}
use Rattle.lsn_core.proofs.ForkOrder.{fork_cmp_total, fork_cmp-IsAntisymmetric}
use Rattle.history.specs.Apply.{is_same_fork}
use Rattle.history.proofs.Stores.{by_test, fork_is}
use Rattle.page_frames.specs.Marks.{DirtyMarks, fork_marks, touch_end, is_dirty, dirty_ends, all_dirty_ends, NoneDirtyBefore, IsFirstDirty}
use Rattle.std.specs.BTreeMap.{BTreeMap, IsOrdered}
use Rattle.std.specs.BTreeMap as tree
use Rattle.page_frames.specs.Framed.{Framed, BlockSet, AreFramed, block_cmp}
use Rattle.page_frames.specs.Overlay.{marks_over}
use Rattle.page_frames.specs.Inside.{dirty_end, queue_in}
use Rattle.page_frames.proofs.Orders.{block_cmp_total, block_cmp-IsAntisymmetric, derived_block_cmp, derived_block_is}
use Rattle.page_frames.proofs.Tables.{queue_has}
use Rattle.page_frames.proofs.Ends.{marks_all, forks_all, all_clean, none_of_forks}
use Rattle.page_frames.proofs.Overlays.{touch_over, dirty_there}

-- ---- the first end of all

first_end : (ms : List (Option ℕ)) (i end : ℕ) → get_or ms i None ≡ Some end → ((k : ℕ) → k < i → is_some (get_or ms k None) ≡ false) → slice_get (filter_map (λ (m : Option ℕ). m) ms) 0 ≡ Some end
first_end [] i end e before = absurd cc
first_end (Some n ∷ ms) zero end e before = e
first_end (None ∷ ms) zero end e before = absurd cc
first_end (Some n ∷ ms) (suc i) end e before = absurd (true≢false (before 0 (omega arith)))
first_end (None ∷ ms) (suc i) end e before = first_end ms i end e (λ k l. before (suc k) (omega arith))

front : (xs ys : List ℕ) (n : ℕ) → slice_get xs 0 ≡ Some n → slice_get (xs ++ ys) 0 ≡ Some n
front [] ys n e = absurd cc
front (x ∷ xs) ys n e = e

second : (a b : Bool) → T (a && b) → T b
second true b p = p
second false b p = absurd p

first : (a b : Bool) → T (a && b) → T a
first true b p = tt
first false b p = p

less : (o : Ordering) → T (is_lt o) → o ≡ Less
less Less p = refl
less Equal p = absurd p
less Greater p = absurd p

-- a key that is found among later ones is later
found_below : {X : Type 0} (k q : ForkId) (es : List (ForkId × X)) → T (below_all fork_cmp k es) → is_some (find fork_cmp q es) ≡ true → fork_cmp k q ≡ Less
found_below k q [] below found = absurd (true≢false (sym found))
found_below k q (e ∷ es) below found = by_test (is_eq (fork_cmp q e.0))
    (λ tied. ap (fork_cmp k) (fork_cmp-IsAntisymmetric q e.0 ((Equal-is _).0 tied)) ∙ less (fork_cmp k e.0) (first _ _ below))
    (λ apart. found_below k q es (second _ _ below) (sym (ap (λ b. is_some (cond b (Some e.1) (find fork_cmp q es))) apart) ∙ found))

module _ (marks : DirtyMarks) (at : BlockId) (end : ℕ) (dirty : touch_end marks at.fork at.block ≡ Some end) (before : NoneDirtyBefore marks at) (least : (fork : ForkId) (block : ℕ) → fork_cmp fork at.fork ≡ Less → is_dirty marks fork block ≡ false) where
  first_among : (es : List (ForkId × List (Option ℕ))) → T (is_sorted fork_cmp es) → is_some (find fork_cmp at.fork es) ≡ true → slice_get (flat_map (dirty_ends marks) (map (λ e. e.0) es)) 0 ≡ Some end
  first_among [] sorted found = absurd (true≢false (sym found))
  first_among (e ∷ es) sorted found = by_test (is_eq (fork_cmp at.fork e.0))
      (λ tied.
      let here : at.fork ≡ e.0 = fork_cmp-IsAntisymmetric at.fork e.0 ((Equal-is _).0 tied) in
      front (dirty_ends marks e.0) (flat_map (dirty_ends marks) (map (λ e. e.0) es)) end
      (subst (λ (fork : ForkId). slice_get (dirty_ends marks fork) 0 ≡ Some end) here (first_end (fork_marks marks at.fork) at.block end dirty before)))
      (λ apart.
      let later = sym (ap (λ b. is_some (cond b (Some e.1) (find fork_cmp at.fork es))) apart) ∙ found in
      let none : dirty_ends marks e.0 ≡ [] = all_clean (fork_marks marks e.0) (λ i. least e.0 i (found_below e.0 at.fork es (first _ _ sorted) later)) in
      ap (λ (xs : List ℕ). slice_get (xs ++ flat_map (dirty_ends marks) (map (λ e. e.0) es)) 0) none ∙ first_among es (second _ _ sorted) later)

  pub first_listed : slice_get (all_dirty_ends marks) 0 ≡ Some end
  first_listed = first_among (entries marks) (entries_sorted marks) (ap (λ (o : Option (List (Option ℕ))). is_some o) (sym (get-entries marks at.fork)) ∙ there (get marks at.fork) refl)
    where
      there : (o : Option (List (Option ℕ))) → get marks at.fork ≡ o → is_some (get marks at.fork) ≡ true
      there None e = absurd (let nothing : None ≡ Some end = sym (ap (λ (o : Option (List (Option ℕ))). get_or (unwrap_or o []) at.block None) e) ∙ dirty in cc)
      there (Some ms) e = ap (λ (o : Option (List (Option ℕ))). is_some o) e

-- ---- the greatest of all

below_fold : (x : ℕ) (xs : List ℕ) → x ≤ fold max x xs
below_fold x [] = omega arith
below_fold x (y ∷ ys) = let l = below_fold (max x y) ys in omega (arith, l)

all_below : (x : ℕ) (xs : List ℕ) → AllByRecursion (λ y. y ≤ fold max x xs) xs
all_below x [] = tt
all_below x (y ∷ ys) = ((let l = below_fold (max x y) ys in omega (arith, l)), all_below (max x y) ys)

fold_within : (x k : ℕ) (xs : List ℕ) → x ≤ k → AllByRecursion (λ y. y ≤ k) xs → fold max x xs ≤ k
fold_within x k [] l all = l
fold_within x k (y ∷ ys) l all = fold_within (max x y) k ys (let h = all.0 in omega (arith, l, h)) all.1

-- lists with the same members have the same greatest one
abbrev HasMembers : List ℕ → List ℕ → Type 1
HasMembers xs ys = (P : ℕ → Type 0) → AllByRecursion P xs → AllByRecursion P ys

pub same_greatest : (xs ys : List ℕ) → HasMembers xs ys → HasMembers ys xs → reduce max xs ≡ reduce max ys
same_greatest [] [] there back = refl
same_greatest [] (y ∷ ys) there back = absurd (there (λ _. ⊥) tt).0
same_greatest (x ∷ xs) [] there back = absurd (back (λ _. ⊥) tt).0
same_greatest (x ∷ xs) (y ∷ ys) there back =
    let a = fold max x xs in
    let b = fold max y ys in
    let in_ys = there (λ n. n ≤ a) (below_fold x xs, all_below x xs) in
    let in_xs = back (λ n. n ≤ b) (below_fold y ys, all_below y ys) in
    let one = fold_within y a ys in_ys.0 in_ys.1 in
    let other = fold_within x b xs in_xs.0 in_xs.1 in
    let same : a ≡ b = omega (arith, one, other) in
    ap (λ (n : ℕ). Some n) same

-- what holds of all ends holds of that of each block
pub of_marks : (P : ℕ → Type 0) (ms : List (Option ℕ)) (i end : ℕ) → AllByRecursion P (filter_map (λ (m : Option ℕ). m) ms) → get_or ms i None ≡ Some end → P end
of_marks P [] i end all e = absurd cc
of_marks P (Some n ∷ ms) zero end all e = subst P (ap (λ (o : Option ℕ). unwrap_or o n) e) all.0
of_marks P (None ∷ ms) zero end all e = absurd cc
of_marks P (Some n ∷ ms) (suc i) end all e = of_marks P ms i end all.1 e
of_marks P (None ∷ ms) (suc i) end all e = of_marks P ms i end all e

left_all : (P : ℕ → Type 0) (xs ys : List ℕ) → AllByRecursion P (xs ++ ys) → AllByRecursion P xs × AllByRecursion P ys
left_all P [] ys all = (tt, all)
left_all P (x ∷ xs) ys all = let rest = left_all P xs ys all.1 in ((all.0, rest.0), rest.1)

of_forks : (P : ℕ → Type 0) (f : ForkId → List ℕ) (fork : ForkId) (forks : List ForkId) → AllByRecursion P (flat_map f forks) → list_any (is_same_fork fork) forks ≡ true → AllByRecursion P (f fork)
of_forks P f fork [] all listed = absurd (true≢false (sym listed))
of_forks P f fork (x ∷ forks) all listed =
    let two = left_all P (f x) (flat_map f forks) all in
    by_test (is_same_fork fork x)
    (λ here. subst (λ (k : ForkId). AllByRecursion P (f k)) (sym (fork_is fork x here)) two.0)
    (λ apart. of_forks P f fork forks two.1 (sym (ap (λ c. c || list_any (is_same_fork fork) forks) apart) ∙ listed))

pub of_all : (P : ℕ → Type 0) (marks : DirtyMarks) (fork : ForkId) (block end : ℕ) → AllByRecursion P (all_dirty_ends marks) → touch_end marks fork block ≡ Some end → P end
unfolding is_same_fork
of_all P marks fork block end all e = of_marks P (fork_marks marks fork) block end (of_forks P (dirty_ends marks) fork (keys marks) all (sym (contains_key-keys marks fork) ∙ there (get marks fork) refl)) e
  where
    there : (o : Option (List (Option ℕ))) → get marks fork ≡ o → contains_key marks fork ≡ true
    there None h = absurd (let nothing : None ≡ Some end = sym (ap (λ (o : Option (List (Option ℕ))). get_or (unwrap_or o []) block None) h) ∙ e in cc)
    there (Some ms) h = ap (λ (o : Option (List (Option ℕ))). is_some o) h

-- ---- blocks in order, among which all dirty ones are

abbrev pub HasDirty : Framed → List BlockId → Type 0
HasDirty f blocks = (q : BlockId) → IsSome (dirty_end f.lengths f.held q) → list_any (eq_by_cmp block_cmp q) blocks ≡ true

-- the first of them is clean
pub has_rest : (f : Framed) (at : BlockId) (blocks : List BlockId) → HasDirty f (at ∷ blocks) → dirty_end f.lengths f.held at ≡ None → HasDirty f blocks
has_rest f at blocks has clean q dirty = by_test (eq_by_cmp block_cmp q at)
    (λ tied.
    let same : q ≡ at = block_cmp-IsAntisymmetric q at ((Equal-is _).0 tied) in
    absurd (true≢false (sym dirty ∙ ap (λ (x : BlockId). is_some (dirty_end f.lengths f.held x)) same ∙ ap (λ (o : Option ℕ). is_some o) clean)))
    (λ apart. sym (ap (λ c. c || list_any (eq_by_cmp block_cmp q) blocks) apart) ∙ has q dirty)

-- a block before all of them isn't one
none_later : (q at : BlockId) (blocks : List BlockId) → block_cmp q at ≡ Less → AllByRecursion (λ y. block_cmp at y ≡ Less) blocks → list_any (eq_by_cmp block_cmp q) blocks ≡ false
none_later q at [] l all = refl
none_later q at (b ∷ blocks) l all =
    ap (λ (r : Ordering). is_eq r || list_any (eq_by_cmp block_cmp q) blocks) (block_cmp_total.trans q at b l all.0) ∙ none_later q at blocks l all.1

clean_before : (f : Framed) (at : BlockId) (blocks : List BlockId) → HasDirty f (at ∷ blocks) → IsStrictlySortedBy block_cmp (at ∷ blocks) → (q : BlockId) → block_cmp q at ≡ Less → is_some (dirty_end f.lengths f.held q) ≡ false
unfolding IsStrictlySortedBy
clean_before f at blocks has sorted q l = by_test (is_some (dirty_end f.lengths f.held q))
    (λ dirty. absurd (true≢false (sym (has q dirty) ∙ ap (λ (r : Ordering). is_eq r || list_any (eq_by_cmp block_cmp q) blocks) l ∙ none_later q at blocks l sorted.0)))
    (λ clean. clean)

-- the first of them is dirty
pub first_of : (f : Framed) (at : BlockId) (blocks : List BlockId) (end : ℕ) → HasDirty f (at ∷ blocks) → IsStrictlySortedBy block_cmp (at ∷ blocks) → dirty_end f.lengths f.held at ≡ Some end → IsFirstDirty (marks_over f) at end
first_of f at blocks end has sorted e =
    let dirty : touch_end (marks_over f) at.fork at.block ≡ Some end = touch_over f at ∙ e in
    record { dirty = dirty; before = before; least = least; first = first_listed (marks_over f) at end dirty before least }
  where
    clean : (q : BlockId) → block_cmp q at ≡ Less → is_dirty (marks_over f) q.fork q.block ≡ false
    clean q l = ap (λ (o : Option ℕ). is_some o) (touch_over f q) ∙ clean_before f at blocks has sorted q l

    before : NoneDirtyBefore (marks_over f) at
    before block l = clean (record { fork = at.fork; block = block })
        (ap (λ (r : Ordering). ordering_then r (nat_cmp block at.block)) (tied at.fork) ∙ ap (λ c. cond c Less (cond (block == at.block) Equal Greater)) (lt-ltb block at.block l))
      where
        tied : (fork : ForkId) → fork_cmp fork fork ≡ Equal
        tied fork = tied_itself fork_cmp_total fork

    least : (fork : ForkId) (block : ℕ) → fork_cmp fork at.fork ≡ Less → is_dirty (marks_over f) fork block ≡ false
    least fork block l = clean (record { fork = fork; block = block }) (ap (λ (r : Ordering). ordering_then r (nat_cmp block at.block)) l)

-- there are none of them
pub none_of : (f : Framed) → HasDirty f [] → all_dirty_ends (marks_over f) ≡ []
none_of f has =
    none_of_forks (dirty_ends (marks_over f)) (keys (marks_over f)) (λ fork. all_clean (fork_marks (marks_over f) fork) (λ block.
    ap (λ (o : Option ℕ). is_some o) (touch_over f (record { fork = fork; block = block })) ∙ clean (record { fork = fork; block = block })))
  where
    clean : (q : BlockId) → is_some (dirty_end f.lengths f.held q) ≡ false
    clean q = by_test (is_some (dirty_end f.lengths f.held q)) (λ dirty. absurd (true≢false (sym (has q dirty)))) (λ none. none)

-- ---- their ends

of_blocks : (P : ℕ → Type 0) (g : BlockId → Option ℕ) (blocks : List BlockId) (q : BlockId) (end : ℕ) → AllByRecursion P (filter_map g blocks) → list_any (eq_by_cmp block_cmp q) blocks ≡ true → g q ≡ Some end → P end
of_blocks P g [] q end all listed e = absurd (true≢false (sym listed))
of_blocks P g (b ∷ blocks) q end all listed e = by_test (eq_by_cmp block_cmp q b)
    (λ tied.
    let same : q ≡ b = block_cmp-IsAntisymmetric q b ((Equal-is _).0 tied) in
    here (g b) all (sym (ap g same) ∙ e))
    (λ apart. of_blocks P g blocks q end (later (g b) all) (sym (ap (λ c. c || list_any (eq_by_cmp block_cmp q) blocks) apart) ∙ listed) e)
  where
    here : (o : Option ℕ) → AllByRecursion P (cons_option o (filter_map g blocks)) → o ≡ Some end → P end
    here None all e = absurd cc
    here (Some n) all e = subst P (ap (λ (o : Option ℕ). unwrap_or o n) e) all.0

    later : (o : Option ℕ) → AllByRecursion P (cons_option o (filter_map g blocks)) → AllByRecursion P (filter_map g blocks)
    later None all = all
    later (Some n) all = all.1

all_blocks : (P : ℕ → Type 0) (g : BlockId → Option ℕ) (blocks : List BlockId) → ((q : BlockId) (end : ℕ) → g q ≡ Some end → P end) → AllByRecursion P (filter_map g blocks)
all_blocks P g [] each = tt
all_blocks P g (b ∷ blocks) each = by (g b) refl (all_blocks P g blocks each)
  where
    by : (o : Option ℕ) → g b ≡ o → AllByRecursion P (filter_map g blocks) → AllByRecursion P (cons_option o (filter_map g blocks))
    by None e rest = rest
    by (Some n) e rest = (each b n e, rest)

pub newest_of : (f : Framed) (blocks : List BlockId) → HasDirty f blocks → reduce max (filter_map (dirty_end f.lengths f.held) blocks) ≡ reduce max (all_dirty_ends (marks_over f))
newest_of f blocks has =
    same_greatest (filter_map (dirty_end f.lengths f.held) blocks) (all_dirty_ends (marks_over f))
    (λ P all. forks_all P (dirty_ends (marks_over f)) (keys (marks_over f)) (λ fork. marks_all P (fork_marks (marks_over f) fork) (λ block end e.
    let q : BlockId = record { fork = fork; block = block } in
    let is : dirty_end f.lengths f.held q ≡ Some end = sym (touch_over f q) ∙ e in
    of_blocks P (dirty_end f.lengths f.held) blocks q end all (has q (ap (λ (o : Option ℕ). is_some o) is)) is)))
    (λ P all. all_blocks P (dirty_end f.lengths f.held) blocks (λ q end e. of_all P (marks_over f) q.fork q.block end all (touch_over f q ∙ e)))

-- ---- the queue

-- a dirty block is one of the keys of the queue's map
pub queue_dirty : (f : Framed) (m : BTreeMap BlockId (Unit {0})) (blocks : List BlockId) → AreFramed f → f.queue ≡ queue_in m → ((q : BlockId) → is_some (tree.get derived_block_cmp m q) ≡ list_any (eq_by_cmp derived_block_cmp q) blocks) → HasDirty f blocks
queue_dirty f m blocks framed queue has q dirty =
    let d = dirty_there f q (ap (λ (o : Option ℕ). is_some o) (touch_over f q) ∙ dirty) in
    let queued : IsSome (get (queue_in m) q) = ap (λ (s : BlockSet). is_some (get s q)) (sym queue) ∙ framed.queued q d.0.count d.0.long d.0.within d.1 in
    ap (λ (R : BlockId → BlockId → Ordering). list_any (eq_by_cmp R q) blocks) (sym derived_block_is) ∙ sym (has q) ∙ queue_has m q queued

pub queue_sorted : (m : BTreeMap BlockId (Unit {0})) → IsOrdered derived_block_cmp m → IsStrictlySortedBy block_cmp (tree.keys m)
queue_sorted m h = subst (λ (R : BlockId → BlockId → Ordering). IsOrdered R m) derived_block_is h

-- behind the first one
pub sorted_rest : (at : BlockId) (blocks : List BlockId) → IsStrictlySortedBy block_cmp (at ∷ blocks) → IsStrictlySortedBy block_cmp blocks
unfolding IsStrictlySortedBy
sorted_rest at blocks sorted = sorted.1
