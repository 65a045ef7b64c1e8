-- The forks of a chain, one after the other, by the names of its newest directory.
use Rattle.std.proofs.Common.{◌≡◌, ℕ, zero, suc, ◌+◌, ◌<◌, ◌≤◌, inl, inr, Bool, true, false, cond, T, ◌&&◌, ◌||◌, not, List, [], ◌∷◌, ◌++◌, length, map, take, drop, reverse, get_or, Option, Some, None, unwrap_or, is_some, refl, sym, ap, subst, ◌∙◌, arith}
use Rattle.std.specs.Prelude.{◌⊎◌}
use Rattle.std.specs.List.{list_any}
use Rattle.std.specs.declared.cmp.Ordering.{Ordering}
use Rattle.std.specs.declared.cmp.Ordering.TheVariants.{Less, Equal, Greater}
use Rattle.std.specs.Ordering.{nat_cmp, is_lt, is_eq, ordering_reverse}
use Rattle.std.specs.Cmp.Lexicographic.{slice_cmp, nat_list_cmp_total}
use Rattle.std.specs.FinMap.{empty, get, insert, contains_key, contains_key-keys, keys, entries, entries_sorted, is_sorted, len, len-insert, get-empty}
use Rattle.std.specs.FinMap.Entries.{below_all}
use Rattle.std.proofs.lemmas.Bool.{or_left, or_right, or_from, true≢false, false_from_ne_true}
use Rattle.std.proofs.lemmas.List.{take_more, take_all, take-append-drop}
use Rattle.std.proofs.lemmas.List.Folds.{list_any-append}
use Rattle.lsn_core.specs.Files.{Files}
use Rattle.lsn_core.specs.Names.{fork_path_bytes, IsNamed}
use Rattle.lsn_core.specs.Store.{Store, ForkPages, fork_cmp}
use Rattle.lsn_core.specs.Blocks.{pages_of}
use Rattle.lsn_core.specs.declared.ids.ForkId.{ForkId}
use Rattle.lsn_core.proofs.ForkOrder.{fork_cmp_total}
use Rattle.lsn_core.proofs.ForkPaths.{one_place}
use Rattle.lsn_core.proofs.StoreFiles.{same_name, names_tie, name_itself}
use Rattle.history.specs.Apply.{is_same_fork}
use Rattle.history.proofs.Counts.{page_count-insert}
use Rattle.history.proofs.Stores.{get_here, get_there, fork_self, fork_is, by_test}
use Rattle.recovery.specs.declared.tally.Tally.{Tally}
use Rattle.recovery.specs.Tally.{fork_tally, IsRecounted, IsTallyOf}
use Rattle.recovery.proofs.Tallies.{none_counted}
use Rattle.incr_file.specs.Form.{Form, form_in, pages_in_chain}
use Rattle.chain_files.specs.Held.{IsForkOf}
use Rattle.chain_files.specs.Segments.{form_of, chain_segments, HasForms, AllHaveForms}
use Rattle.chain_files.specs.Sources.{OfChain}
use Rattle.chain_files.specs.Paths.{fork_folder, fork_name}
use Rattle.chain_files.proofs.Placed.{fork_placed}
use Rattle.backup_restore.specs.Inside.{IsForkPut, PutsFork, IsFirstOf, IsNamedPut, AddsNamed, newest_of, newest_names, IsCopied, CopiesStore}
use Rattle.backup_restore.proofs.Chains.{when_formed, when_chain, when_both, always, no_names, newest_holds}

or_none : (b : Bool) → (b || false) ≡ true → b ≡ true
or_none true e = refl
or_none false e = e

same_pages : {p q : ForkPages} → ◌≡◌ {A = Option ForkPages} (Some p) (Some q) → p ≡ q
same_pages {p} {q} e = ap (λ (o : Option ForkPages). unwrap_or o p) e

not_there : (s : Store) (fork : ForkId) (o : Option ForkPages) → o ≡ get s fork → is_some o ≡ false → pages_of s fork ≡ []
not_there s fork None is none = ap (λ (x : Option ForkPages). unwrap_or x []) (sym is)
not_there s fork (Some pages) is none = absurd cc

-- one fork more is counted
counted_more : (s : Store) (fork : ForkId) (pages : ForkPages) (count : ℕ) (old new : Tally) → contains_key s fork ≡ false → count ≡ length pages → IsRecounted (fork_tally None) (fork_tally (Some count)) old new → IsTallyOf old s → IsTallyOf new (insert s fork pages)
counted_more s fork pages count old new none is told tally =
    let forks : len (insert s fork pages) ≡ len s + 1 = len-insert fork_cmp_total s fork pages ∙ ap (λ (b : Bool). cond b (len s) (len s + 1)) none in
    let before : length (pages_of s fork) ≡ 0 = ap length (not_there s fork (get s fork) refl none) in
    let pages_now = page_count-insert s fork pages in
    record {
      forks = omega (arith, told.forks, tally.forks, forks);
      pages = omega (arith, told.pages, tally.pages, pages_now, before, is);
    }

module _ {P : Type 0} (shows : P → Store → Type 0) where
  named_put : (relseg : ℕ) (chain : List Files) (fork : ForkId) (before behind : P) (count : ℕ) (old new : Tally) → IsForkPut shows relseg chain fork before behind count → IsRecounted (fork_tally None) (fork_tally (Some count)) old new → IsNamedPut shows relseg chain fork before behind old new
  named_put relseg chain fork before behind count old new put told = record {
    pages = put.pages;
    are = put.are;
    put = put.put;
    counted = λ s none tally. counted_more s fork put.pages count old new none put.counted told tally;
  }

  pub one_named : (relseg : ℕ) (told : Option (List Files)) (name : List ℕ) (fork : ForkId) (incr : Bool) (before behind : P) (count : ℕ) (old new : Tally) → IsNamed fork 0 → name ≡ fork_path_bytes fork 0 incr → PutsFork shows relseg told fork before behind count → IsRecounted (fork_tally None) (fork_tally (Some count)) old new
      → AddsNamed shows relseg told name before behind old new
  one_named relseg told name fork incr before behind count old new named is put counted =
      inl (fork, record { incr = incr; named = named; is = is }, when_chain told (λ chain. IsForkPut shows relseg chain fork before behind count) (λ chain. IsNamedPut shows relseg chain fork before behind old new) (λ chain p. named_put relseg chain fork before behind count old new p counted) put)

  -- a name that is no fork's first
  pub none_named : (relseg : ℕ) (told : Option (List Files)) (name : List ℕ) (p : P) (tally : Tally) → ((fork : ForkId) → IsFirstOf name fork → ⊥) → AddsNamed shows relseg told name p p tally tally
  none_named relseg told name p tally none = inr (none, refl, refl)

-- the names of a directory are distinct
left : (a b : Bool) → T (a && b) → T a
left true b p = tt
left false b p = p

right : (a b : Bool) → T (a && b) → T b
right true b p = p
right false b p = absurd p

abbrev Entries : Type 0
Entries = List (List ℕ × List ℕ)

abbrev names_in : Entries → List (List ℕ)
names_in es = map (λ e. e.0) es

above : (r : Ordering) → T (is_lt r) → is_eq (ordering_reverse r) ≡ false
above Less p = refl
above Equal p = absurd p
above Greater p = absurd p

later_apart : (x : List ℕ) (es : Entries) (i : ℕ) (d : List ℕ) → i < length (names_in es) → T (below_all (slice_cmp nat_cmp) x es) → same_name (get_or (names_in es) i d) x ≡ false
later_apart x [] i d less below = absurd (omega (arith, less))
later_apart x (e ∷ es) zero d less below =
    ap is_eq (nat_list_cmp_total.antisymm e.0 x) ∙ above (slice_cmp nat_cmp x e.0) (left _ _ below)
later_apart x (e ∷ es) (suc i) d less below = later_apart x es i d (omega (arith, less)) (right _ _ below)

none_earlier : (es : Entries) (i : ℕ) (d : List ℕ) → i < length (names_in es) → T (is_sorted (slice_cmp nat_cmp) es) → list_any (same_name (get_or (names_in es) i d)) (take i (names_in es)) ≡ false
none_earlier [] i d less sorted = absurd (omega (arith, less))
none_earlier (e ∷ es) zero d less sorted = refl
none_earlier (e ∷ es) (suc i) d less sorted =
    or_from _ _ (later_apart e.0 es i d (omega (arith, less)) (left _ _ sorted)) (none_earlier es i d (omega (arith, less)) (right _ _ sorted))

new_name : (m : Files) (names : List (List ℕ)) (i : ℕ) (name : List ℕ) → names ≡ keys m → i < length names → name ≡ get_or names i name → list_any (same_name name) (take i names) ≡ false
new_name m names i name is less at =
    ap (λ (q : List ℕ). list_any (same_name q) (take i names)) at
    ∙ ap (λ (ns : List (List ℕ)). list_any (same_name (get_or ns i name)) (take i ns)) is
    ∙ none_earlier (entries m) i name (subst (λ (ns : List (List ℕ)). i < length ns) is less) (entries_sorted m)

-- those of a part are among them
part_of : (p : List ℕ → Bool) (names : List (List ℕ)) (i : ℕ) → list_any p names ≡ false → list_any p (take i names) ≡ false
part_of p names i none =
    false_from_ne_true (list_any p (take i names)) (λ there.
    true≢false (sym (ap (list_any p) (sym (take-append-drop i names)) ∙ list_any-append p (take i names) (drop i names) ∙ or_left _ _ there) ∙ none))

is_there : (names : List (List ℕ)) (i : ℕ) (d : List ℕ) → i < length names → list_any (same_name (get_or names i d)) names ≡ true
is_there [] i d less = absurd (omega (arith, less))
is_there (name ∷ names) zero d less = or_left _ _ (name_itself name)
is_there (name ∷ names) (suc i) d less = or_right _ _ (is_there names i d (omega (arith, less)))

-- ---- the first file of a fork, in either form

abbrev is_done : ForkId → List (List ℕ) → Bool
is_done fork done =
    list_any (same_name (fork_path_bytes fork 0 false)) done || list_any (same_name (fork_path_bytes fork 0 true)) done

form_there : (incr plain : Option (List ℕ)) (older : List Form) → is_some (pages_in_chain (form_in incr plain ∷ older)) ≡ (is_some plain || is_some incr)
form_there None None older = refl
form_there None (Some bytes) older = refl
form_there (Some bytes) None older = refl
form_there (Some bytes) (Some more) older = refl

abbrev has_first : Files → ForkId → Bool
has_first m fork = contains_key m (fork_path_bytes fork 0 false) || contains_key m (fork_path_bytes fork 0 true)

first_of_chain : (fork : ForkId) (members : List Files) → is_some (pages_in_chain (map (form_of fork 0) members)) ≡ has_first (newest_of members) fork
first_of_chain fork [] = sym (or_from _ _ (ap is_some (get-empty (slice_cmp nat_cmp) (fork_path_bytes fork 0 false))) (ap is_some (get-empty (slice_cmp nat_cmp) (fork_path_bytes fork 0 true))))
first_of_chain fork (m ∷ older) = form_there (get m (fork_path_bytes fork 0 true)) (get m (fork_path_bytes fork 0 false)) (map (form_of fork 0) older)

pub all_done : (chain : List Files) (fork : ForkId) (names : List (List ℕ)) → names ≡ newest_names chain → is_some (chain_segments chain fork 0) ≡ is_done fork names
all_done chain fork names is =
    let m : Files = newest_of (reverse chain) in
    first_of_chain fork (reverse chain)
    ∙ ap (λ (b : Bool). b || contains_key m (fork_path_bytes fork 0 true)) (contains_key-keys m (fork_path_bytes fork 0 false))
    ∙ ap (λ (b : Bool). list_any (same_name (fork_path_bytes fork 0 false)) (keys m) || b) (contains_key-keys m (fork_path_bytes fork 0 true))
    ∙ ap (is_done fork) (sym is)

-- a directory of the grammar has one of them alone
not_some : (o : Option (List ℕ)) → ((bytes : List ℕ) → o ≡ Some bytes → ⊥) → is_some o ≡ false
not_some None not = refl
not_some (Some bytes) not = absurd (not bytes refl)

some_there : (o : Option (List ℕ)) → is_some o ≡ true → (bytes : List ℕ) × (o ≡ Some bytes)
some_there None there = absurd cc
some_there (Some bytes) there = (bytes, refl)

other_missing : (m : Files) (fork : ForkId) (incr : Bool) → HasForms m → IsNamed fork 0 → contains_key m (fork_path_bytes fork 0 incr) ≡ true → contains_key m (fork_path_bytes fork 0 (not incr)) ≡ false
other_missing m fork true forms named there =
    let one = some_there (get m (fork_path_bytes fork 0 true)) there in
    ap is_some (forms.alone (fork_folder fork) (fork_name fork 0) one.0 (fork_placed fork 0 named) one.1)
other_missing m fork false forms named there =
    not_some (get m (fork_path_bytes fork 0 true)) (λ bytes is.
    true≢false (sym there ∙ ap is_some (forms.alone (fork_folder fork) (fork_name fork 0) bytes (fork_placed fork 0 named) is)))

abbrev IsAlone : List (List ℕ) → ForkId → Bool → Type 0
IsAlone names fork incr = list_any (same_name (fork_path_bytes fork 0 (not incr))) names ≡ false

either_way : (incr : Bool) (fork : ForkId) (done : List (List ℕ)) → list_any (same_name (fork_path_bytes fork 0 incr)) done ≡ false → list_any (same_name (fork_path_bytes fork 0 (not incr))) done ≡ false → is_done fork done ≡ false
either_way true fork done one other = or_from _ _ other one
either_way false fork done one other = or_from _ _ one other

alone_in : (m : Files) (names : List (List ℕ)) (i : ℕ) (name : List ℕ) (fork : ForkId) → HasForms m → names ≡ keys m → i < length names → name ≡ get_or names i name → (first : IsFirstOf name fork) → is_done fork (take i names) ≡ false
alone_in m names i name fork forms is less at first =
    let path : List ℕ = fork_path_bytes fork 0 first.incr in
    let other : List ℕ = fork_path_bytes fork 0 (not first.incr) in
    let among : list_any (same_name path) names ≡ true = ap (λ (q : List ℕ). list_any (same_name q) names) (sym first.is ∙ at) ∙ is_there names i name less in
    let there : contains_key m path ≡ true = contains_key-keys m path ∙ ap (list_any (same_name path)) (sym is) ∙ among in
    let missing : list_any (same_name other) names ≡ false = ap (list_any (same_name other)) is ∙ sym (contains_key-keys m other) ∙ other_missing m fork first.incr forms first.named there in
    either_way first.incr fork (take i names)
    (ap (λ (q : List ℕ). list_any (same_name q) (take i names)) (sym first.is) ∙ new_name m names i name is less at)
    (part_of (same_name other) names i missing)

new_fork : (chain : List Files) (names : List (List ℕ)) (i : ℕ) (name : List ℕ) (fork : ForkId) → AllHaveForms chain → names ≡ newest_names chain → i < length names → name ≡ get_or names i name → IsFirstOf name fork → is_done fork (take i names) ≡ false
new_fork chain names i name fork forms is less at first = by (reverse chain) refl
  where
    by : (members : List Files) → reverse chain ≡ members → is_done fork (take i names) ≡ false
    by [] none = absurd (let nothing : names ≡ [] = is ∙ ap (λ (l : List Files). keys (newest_of l)) none ∙ no_names in omega (arith, less, ap length nothing))
    by (m ∷ older) same = alone_in m names i name fork (newest_holds HasForms chain m older forms same) (is ∙ ap (λ (l : List Files). keys (newest_of l)) same) less at first

-- ---- forks so far

pub record IsCopiedUpTo (shown : Store → Type 0) (relseg : ℕ) (chain : List Files) (done : List (List ℕ)) (tally : Tally) : Type 0 where
  pub store : Store
  pub there : shown store
  pub counted : IsTallyOf tally store
  pub named : (fork : ForkId) → contains_key store fork ≡ true → IsNamed fork 0
  pub found : (fork : ForkId) → contains_key store fork ≡ true → is_done fork done ≡ true
  pub all : (fork : ForkId) → IsNamed fork 0 → is_done fork done ≡ true → contains_key store fork ≡ true
  pub pages : (fork : ForkId) (pages : ForkPages) → get store fork ≡ Some pages → IsForkOf relseg (chain_segments chain fork) pages

no_fork : (fork : ForkId) → contains_key {X = ForkPages} {R = fork_cmp} empty fork ≡ false
no_fork fork = ap is_some (get-empty fork_cmp fork)

pub none_copied : (shown : Store → Type 0) (relseg : ℕ) (chain : List Files) (tally : Tally) → shown empty → tally ≡ fork_tally None → IsCopiedUpTo shown relseg chain [] tally
none_copied shown relseg chain tally there is = record {
  store = empty;
  there = there;
  counted = subst (λ (t : Tally). IsTallyOf t empty) (sym is) none_counted;
  named = λ fork e. absurd (true≢false (sym e ∙ no_fork fork));
  found = λ fork e. absurd (true≢false (sym e ∙ no_fork fork));
  all = λ fork named e. absurd (true≢false (sym e));
  pages = λ fork pages e. absurd (let n : ◌≡◌ {A = Option ForkPages} (Some pages) None = sym e ∙ get-empty fork_cmp fork in cc);
}

-- one name more
name_done : (path : List ℕ) (done : List (List ℕ)) (name : List ℕ) → list_any (same_name path) done ≡ true → list_any (same_name path) (done ++ (name ∷ [])) ≡ true
name_done path done name e = list_any-append (same_name path) done (name ∷ []) ∙ or_left _ _ e

name_now : (path : List ℕ) (done : List (List ℕ)) (name : List ℕ) → name ≡ path → list_any (same_name path) (done ++ (name ∷ [])) ≡ true
name_now path done name is =
    list_any-append (same_name path) done (name ∷ []) ∙ or_right _ _ (or_left _ _ (ap (same_name path) is ∙ name_itself path))

name_or_now : (path : List ℕ) (done : List (List ℕ)) (name : List ℕ) → list_any (same_name path) (done ++ (name ∷ [])) ≡ true → (list_any (same_name path) done ≡ true) ⊎ (name ≡ path)
name_or_now path done name e = go (list_any (same_name path) done) refl (sym (list_any-append (same_name path) done (name ∷ [])) ∙ e)
  where
    go : (b : Bool) → list_any (same_name path) done ≡ b → (b || (same_name path name || false)) ≡ true → (list_any (same_name path) done ≡ true) ⊎ (name ≡ path)
    go true is e = inl is
    go false is e = inr (sym (names_tie path name (or_none (same_name path name) e)))

either_of : (a b : Bool) → (a || b) ≡ true → (a ≡ true) ⊎ (b ≡ true)
either_of true b e = inl refl
either_of false b e = inr e

more_done : (fork : ForkId) (done : List (List ℕ)) (name : List ℕ) → is_done fork done ≡ true → is_done fork (done ++ (name ∷ [])) ≡ true
more_done fork done name e = elim (either_of _ _ e) [
  | inl plain ↦ or_left _ _ (name_done (fork_path_bytes fork 0 false) done name plain)
  | inr incr ↦ or_right _ _ (name_done (fork_path_bytes fork 0 true) done name incr)
]

now_done : (fork : ForkId) (done : List (List ℕ)) (name : List ℕ) (incr : Bool) → name ≡ fork_path_bytes fork 0 incr → is_done fork (done ++ (name ∷ [])) ≡ true
now_done fork done name true is = or_right _ _ (name_now (fork_path_bytes fork 0 true) done name is)
now_done fork done name false is = or_left _ _ (name_now (fork_path_bytes fork 0 false) done name is)

done_or_now : (fork : ForkId) (done : List (List ℕ)) (name : List ℕ) → IsNamed fork 0 → is_done fork (done ++ (name ∷ [])) ≡ true → (is_done fork done ≡ true) ⊎ IsFirstOf name fork
done_or_now fork done name named e = elim (either_of _ _ e) [
  | inl plain ↦ elim (name_or_now (fork_path_bytes fork 0 false) done name plain) [
    | inl before ↦ inl (or_left _ _ before)
    | inr now ↦ inr (record { incr = false; named = named; is = now })
  ]
  | inr incr ↦ elim (name_or_now (fork_path_bytes fork 0 true) done name incr) [
    | inl before ↦ inl (or_right _ _ before)
    | inr now ↦ inr (record { incr = true; named = named; is = now })
  ]
]

-- a name is that of one fork's first file
one_first : (name : List ℕ) (q fork : ForkId) → IsFirstOf name q → IsFirstOf name fork → q ≡ fork
one_first name q fork a b = (one_place q fork 0 0 a.incr b.incr a.named b.named (sym a.is ∙ b.is)).0

module _ (shown mid : Store → Type 0) (relseg : ℕ) (chain : List Files) (done : List (List ℕ)) (name : List ℕ) (old new : Tally) where
  -- a name that is no fork's first changes nothing
  same_copied : ((fork : ForkId) → IsFirstOf name fork → ⊥) → IsCopiedUpTo shown relseg chain done old → IsCopiedUpTo shown relseg chain (done ++ (name ∷ [])) old
  same_copied none so = record {
    store = so.store;
    there = so.there;
    counted = so.counted;
    named = so.named;
    found = λ fork e. more_done fork done name (so.found fork e);
    all = λ fork named e. elim (done_or_now fork done name named e) [
      | inl before ↦ so.all fork named before
      | inr now ↦ absurd (none fork now)
    ];
    pages = so.pages;
  }

  -- one that is adds its fork
  one_copied : (fork : ForkId) (pages : ForkPages) → IsFirstOf name fork → is_done fork done ≡ false → IsForkOf relseg (chain_segments chain fork) pages
      → ((s : Store) → contains_key s fork ≡ false → shown s → mid (insert s fork pages)) → ((s : Store) → contains_key s fork ≡ false → IsTallyOf old s → IsTallyOf new (insert s fork pages))
      → IsCopiedUpTo shown relseg chain done old → IsCopiedUpTo mid relseg chain (done ++ (name ∷ [])) new
  one_copied fork pages first new_one are put counted so =
      let none : contains_key so.store fork ≡ false = false_from_ne_true (contains_key so.store fork) (λ e. true≢false (sym (so.found fork e) ∙ new_one)) in
      record {
        store = insert so.store fork pages;
        there = put so.store none so.there;
        counted = counted so.store none so.counted;
        named = λ q e. by_test (is_same_fork q fork)
            (λ same. subst (λ (f : ForkId). IsNamed f 0) (sym (fork_is q fork same)) first.named)
            (λ other. so.named q (sym (ap is_some (get_there so.store fork q pages other)) ∙ e));
        found = λ q e. by_test (is_same_fork q fork)
            (λ same. now_done q done name first.incr (first.is ∙ ap (λ (f : ForkId). fork_path_bytes f 0 first.incr) (sym (fork_is q fork same))))
            (λ other. more_done q done name (so.found q (sym (ap is_some (get_there so.store fork q pages other)) ∙ e)));
        all = λ q q_named e. by_test (is_same_fork q fork)
            (λ same. ap is_some (get_here so.store fork q pages same))
            (λ other. elim (done_or_now q done name q_named e) [
              | inl before ↦ ap is_some (get_there so.store fork q pages other) ∙ so.all q q_named before
              | inr now ↦ absurd (true≢false (sym (ap (λ (f : ForkId). is_same_fork f fork) (one_first name q fork now first) ∙ fork_self fork) ∙ other))
            ]);
        pages = λ q ps e. by_test (is_same_fork q fork)
            (λ same. subst (IsForkOf relseg (chain_segments chain q)) (same_pages (sym (get_here so.store fork q pages same) ∙ e)) (subst (λ (f : ForkId). IsForkOf relseg (chain_segments chain f) pages) (sym (fork_is q fork same)) are))
            (λ other. so.pages q ps (sym (get_there so.store fork q pages other) ∙ e));
      }

-- ---- the loop over the names

abbrev pub CopiedSoFar : {P : Type 0} → (P → Store → Type 0) → ℕ → Option (List Files) → List (List ℕ) → P → P → Tally → Type 0
CopiedSoFar shows relseg told done before behind tally = shows before empty → OfChain told (λ chain. IsCopiedUpTo (shows behind) relseg chain done tally)

module _ {P : Type 0} (shows : P → Store → Type 0) where
  pub names_begun : (relseg : ℕ) (told : Option (List Files)) (p : P) (tally : Tally) → tally ≡ fork_tally None → CopiedSoFar shows relseg told [] p p tally
  names_begun relseg told p tally is fresh = always told (λ chain. IsCopiedUpTo (shows p) relseg chain [] tally) (λ chain. none_copied (shows p) relseg chain tally fresh is)

  add_name : (relseg : ℕ) (told : Option (List Files)) (done : List (List ℕ)) (name : List ℕ) (before mid behind : P) (old new : Tally) → OfChain told (λ chain. (fork : ForkId) → IsFirstOf name fork → is_done fork done ≡ false) → AddsNamed shows relseg told name mid behind old new → CopiedSoFar shows relseg told done before mid old
      → CopiedSoFar shows relseg told (done ++ (name ∷ [])) before behind new
  add_name relseg told done name before mid behind old new apart (inl puts) so fresh =
      when_both told (λ chain. (fork : ForkId) → IsFirstOf name fork → is_done fork done ≡ false) (λ chain. IsNamedPut shows relseg chain puts.0 mid behind old new × IsCopiedUpTo (shows mid) relseg chain done old) (λ chain. IsCopiedUpTo (shows behind) relseg chain (done ++ (name ∷ [])) new)
      (λ chain new_one both. one_copied (shows mid) (shows behind) relseg chain done name old new puts.0 both.0.pages puts.1 (new_one puts.0 puts.1) both.0.are both.0.put both.0.counted both.1) apart
      (when_both told (λ chain. IsNamedPut shows relseg chain puts.0 mid behind old new) (λ chain. IsCopiedUpTo (shows mid) relseg chain done old) _ (λ chain p q. (p, q)) puts.2 (so fresh))
  add_name relseg told done name before mid behind old new apart (inr stays) so fresh =
      subst (λ (p : P). OfChain told (λ chain. IsCopiedUpTo (shows p) relseg chain (done ++ (name ∷ [])) new)) (sym stays.1)
      (subst (λ (t : Tally). OfChain told (λ chain. IsCopiedUpTo (shows mid) relseg chain (done ++ (name ∷ [])) t)) (sym stays.2)
      (when_chain told (λ chain. IsCopiedUpTo (shows mid) relseg chain done old) (λ chain. IsCopiedUpTo (shows mid) relseg chain (done ++ (name ∷ [])) old)
      (λ chain s. same_copied (shows mid) (shows mid) relseg chain done name old old stays.0 s) (so fresh)))

  pub names_more : (relseg : ℕ) (told : Option (List Files)) (names : List (List ℕ)) (i : ℕ) (name : List ℕ) (before mid behind : P) (old new : Tally) → OfChain told (λ chain. names ≡ newest_names chain) → i < length names → name ≡ get_or names i name → AddsNamed shows relseg told name mid behind old new
      → CopiedSoFar shows relseg told (take i names) before mid old → CopiedSoFar shows relseg told (take (i + 1) names) before behind new
  names_more relseg told names i name before mid behind old new keyed less at adds so =
      subst (λ (done : List (List ℕ)). CopiedSoFar shows relseg told done before behind new) (sym (take_more names i name less ∙ ap (λ (q : List ℕ). take i names ++ (q ∷ [])) (sym at)))
      (add_name relseg told (take i names) name before mid behind old new
      (when_formed told (λ chain. names ≡ newest_names chain) (λ chain. (fork : ForkId) → IsFirstOf name fork → is_done fork (take i names) ≡ false) (λ chain forms is fork first. new_fork chain names i name fork forms is less at first) keyed) adds so)

  both_bools : (a b : Bool) → (a ≡ true → b ≡ true) → (b ≡ true → a ≡ true) → a ≡ b
  both_bools true b to from = sym (to refl)
  both_bools false true to from = from refl
  both_bools false false to from = refl

  held_all : (shown : Store → Type 0) (relseg : ℕ) (chain : List Files) (names : List (List ℕ)) (tally : Tally) → names ≡ newest_names chain → IsCopiedUpTo shown relseg chain names tally → IsCopied shown relseg chain tally
  held_all shown relseg chain names tally is so = record {
    copy = so.store;
    held = record {
      named = so.named;
      forks = λ fork named.
          let there = all_done chain fork names is in
          both_bools (contains_key so.store fork) (is_some (chain_segments chain fork 0)) (λ e. there ∙ so.found fork e) (λ e. so.all fork named (sym there ∙ e));
      pages = so.pages;
    };
    there = so.there;
    counted = so.counted;
  }

  pub names_ended : (relseg : ℕ) (told : Option (List Files)) (names : List (List ℕ)) (i : ℕ) (before behind : P) (tally : Tally) → OfChain told (λ chain. names ≡ newest_names chain) → length names ≤ i → CopiedSoFar shows relseg told (take i names) before behind tally → CopiesStore shows relseg told before behind tally
  names_ended relseg told names i before behind tally keyed ends so fresh =
      when_both told (λ chain. names ≡ newest_names chain) (λ chain. IsCopiedUpTo (shows behind) relseg chain (take i names) tally) (λ chain. IsCopied (shows behind) relseg chain tally)
      (λ chain is s. held_all (shows behind) relseg chain names tally is (subst (λ (done : List (List ℕ)). IsCopiedUpTo (shows behind) relseg chain done tally) (take_all i names ends) s)) keyed (so fresh)
