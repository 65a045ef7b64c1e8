-- A store put fork by fork, and a fork block by block.
use Rattle.std.proofs.Common.{◌≡◌, ℕ, suc, ◌+◌, ◌-◌, ◌<◌, ◌≤◌, Bool, true, false, cond, T, ◌&&◌, List, [], ◌∷◌, ◌++◌, length, map, sum, take, drop, get_or, Option, Some, None, IfSome, unwrap_or, is_some, option_map, refl, sym, ap, subst, ◌∙◌, drop-cons, arith}
use Rattle.std.specs.Prelude.{slice_get, slice_set, replicate}
use Rattle.std.specs.declared.cmp.Ordering.{Ordering}
use Rattle.std.specs.declared.cmp.Ordering.TheVariants.{Less, Equal, Greater}
use Rattle.std.specs.Ordering.{is_lt, is_eq, ordering_reverse, eq_by_cmp}
use Rattle.std.specs.FinMap.{empty, find, get, insert, keys, entries, entries_sorted, is_sorted, from_entries, from_entries_push, get-from_entries, get-entries, same_map, len, len-entries}
use Rattle.std.specs.FinMap.Entries.{below_all}
use Rattle.std.proofs.lemmas.List.{take_all, take-append-drop, get_or-map, map-append, length-take, length-map}
use Rattle.std.proofs.Math.Seq.{take-suc, set-append_seam}
use Rattle.std.proofs.lemmas.List.Sums.{sum_by-append, sum_by-cons}
use Rattle.std.proofs.lemmas.Option.{get_or_from_slice_get, slice_get-get_or}
use Rattle.lsn_core.specs.byte_words.Pieces.{zero_page}
use Rattle.lsn_core.specs.byte_words.Numbers.{◌>>=◌}
use Rattle.history.specs.Apply.{is_same_fork}
use Rattle.lsn_core.specs.declared.ids.BlockId.{BlockId}
use Rattle.lsn_core.specs.declared.ids.ForkId.{ForkId}
use Rattle.lsn_core.specs.declared.ids.ForkLen.{ForkLen}
use Rattle.lsn_core.specs.Blocks.{block_of, pages_of, with_block, with_fork, page_put}
use Rattle.lsn_core.specs.Store.{Store, ForkPages, fork_cmp}
use Rattle.lsn_core.proofs.ForkOrder.{fork_cmp_total, fork_cmp-IsAntisymmetric}
use Rattle.history.specs.Pages.{page_count}
use Rattle.history.proofs.Stores.{get_here, get_there, fork_self, by_test}
use Rattle.lsn_core.specs.Shown.{Turns}
use Rattle.wal_follow.specs.Following.{len_of, fork_lens}
use Rattle.follow_command.specs.Output.{CopiesBlock, CopiesFork, CopiesStore}

abbrev pub Entries : Type 0
Entries = List (ForkId × ForkPages)

-- ---- entries in order

left : (a b : Bool) → T (a && b) → T a
left true b p = tt
left false b p = p

right : (a b : Bool) → T (a && b) → T b
right true b p = p
right false b p = absurd p

above : (r : Ordering) → T (is_lt r) → is_eq (ordering_reverse r) ≡ false
above Less p = refl
above Equal p = absurd p
above Greater p = absurd p

-- a fork behind another one is above it
below_later : (x : ForkId) (es : Entries) (e : ForkId × ForkPages) (fs : Entries) → T (below_all fork_cmp x (es ++ (e ∷ fs))) → T (is_lt (fork_cmp x e.0))
below_later x [] e fs below = left _ _ below
below_later x (d ∷ es) e fs below = below_later x es e fs (right _ _ below)

apart : (x q : ForkId) → T (is_lt (fork_cmp x q)) → eq_by_cmp fork_cmp q x ≡ false
apart x q less = ap is_eq (fork_cmp_total.antisymm q x) ∙ above (fork_cmp x q) less

none_before : (es : Entries) (e : ForkId × ForkPages) (fs : Entries) → T (is_sorted fork_cmp (es ++ (e ∷ fs))) → find fork_cmp e.0 es ≡ None
none_before [] e fs sorted = refl
none_before (d ∷ es) e fs sorted =
    ap (λ (b : Bool). cond b (Some d.1) (find fork_cmp e.0 es)) (apart d.0 e.0 (below_later d.0 es e fs (left _ _ sorted)))
    ∙ none_before es e fs (right _ _ sorted)

ties : (q : ForkId) → eq_by_cmp fork_cmp q q ≡ true
unfolding is_same_fork
ties q = fork_self q

there : (es : Entries) (e : ForkId × ForkPages) (fs : Entries) → T (is_sorted fork_cmp (es ++ (e ∷ fs))) → find fork_cmp e.0 (es ++ (e ∷ fs)) ≡ Some e.1
there [] e fs sorted = ap (λ (b : Bool). cond b (Some e.1) (find fork_cmp e.0 fs)) (ties e.0)
there (d ∷ es) e fs sorted =
    ap (λ (b : Bool). cond b (Some d.1) (find fork_cmp e.0 (es ++ (e ∷ fs)))) (apart d.0 e.0 (below_later d.0 es e fs (left _ _ sorted)))
    ∙ there es e fs (right _ _ sorted)

-- ---- the first forks of a store

pub front : Store → ℕ → Store
front store n = from_entries (take n (entries store))

pub front_none : (store : Store) → front store 0 ≡ empty
unfolding front
front_none store = refl

pub front_all : (store : Store) (n : ℕ) → length (entries store) ≤ n → front store n ≡ store
unfolding front
front_all store n all =
    same_map fork_cmp_total fork_cmp-IsAntisymmetric (from_entries (take n (entries store))) store
    (λ q. get-from_entries fork_cmp_total (take n (entries store)) q ∙ ap (find fork_cmp q) (take_all n (entries store) all) ∙ sym (get-entries store q))

-- the entry of a place
pub record IsEntry (store : Store) (n : ℕ) (e : ForkId × ForkPages) : Type 0 where
  pub here : get store e.0 ≡ Some e.1
  pub new : get (front store n) e.0 ≡ None
  pub next : front store (suc n) ≡ insert (front store n) e.0 e.1

pub entry_at : (store : Store) (n : ℕ) (d : ForkId × ForkPages) → n < length (entries store) → IsEntry store n (get_or (entries store) n d)
unfolding front
entry_at store n d within =
    let es : Entries = entries store in
    let e : ForkId × ForkPages = get_or es n d in
    let split : take n es ++ (e ∷ drop (suc n) es) ≡ es = ap (λ (l : Entries). take n es ++ l) (sym (drop-cons es n d within)) ∙ take-append-drop n es in
    let sorted : T (is_sorted fork_cmp (take n es ++ (e ∷ drop (suc n) es))) = subst (λ (l : Entries). T (is_sorted fork_cmp l)) (sym split) (entries_sorted store) in
    let none = none_before (take n es) e (drop (suc n) es) sorted in
    record {
      here = get-entries store e.0 ∙ ap (find fork_cmp e.0) (sym split) ∙ there (take n es) e (drop (suc n) es) sorted;
      new = get-from_entries fork_cmp_total (take n es) e.0 ∙ none;
      next = ap (λ (l : Entries). from_entries {R = fork_cmp} l) (take-suc es n d within) ∙ from_entries_push fork_cmp_total fork_cmp-IsAntisymmetric (take n es) e.0 e.1 none;
    }

-- its length is told so
pub len_at : (store : Store) (n : ℕ) (d : ForkId × ForkPages) (len : ForkLen) → n < length (entries store) → len ≡ get_or (fork_lens store) n len → len ≡ len_of store (get_or (entries store) n d).0
len_at store n d len within is =
    is ∙ get_or-map (len_of store) (keys store) n d.0 len (omega (arith, sizes, within)) ∙ ap (len_of store) (get_or-map (λ (e : ForkId × ForkPages). e.0) (entries store) n d d.0 within)
  where
    sizes : length (keys store) ≡ length (entries store)
    sizes = length-map (entries store) (λ (e : ForkId × ForkPages). e.0)

-- ---- pages counted

abbrev pub count_in : Entries → ℕ
count_in es = sum (map (λ e. length e.1) es)

sum_one : (n : ℕ) → sum (n ∷ []) ≡ n
sum_one n = let e = sum_by-cons (λ (x : ℕ). x) n [] in omega (arith, e)

pub count_more : (es : Entries) (n : ℕ) (d : ForkId × ForkPages) → n < length es → count_in (take (suc n) es) ≡ count_in (take n es) + length (get_or es n d).1
count_more es n d within =
    ap count_in (take-suc es n d within)
    ∙ ap (λ (l : List ℕ). sum l) (map-append (λ (e : ForkId × ForkPages). length e.1) (take n es) (get_or es n d ∷ []))
    ∙ sum_by-append (λ (x : ℕ). x) (map (λ (e : ForkId × ForkPages). length e.1) (take n es)) (length (get_or es n d).1 ∷ [])
    ∙ ap (λ (k : ℕ). count_in (take n es) + k) (sum_one (length (get_or es n d).1))

pub count_all : (store : Store) (n : ℕ) → length (entries store) ≤ n → count_in (take n (entries store)) ≡ page_count store
count_all store n all = ap count_in (take_all n (entries store) all)

-- ---- a fork, block by block

insert_again : (s : Store) (fork : ForkId) (first second : ForkPages) → insert (insert s fork first) fork second ≡ insert s fork second
insert_again s fork first second = same_map fork_cmp_total fork_cmp-IsAntisymmetric (insert (insert s fork first) fork second) (insert s fork second) (λ q. go q)
  where
    go : (q : ForkId) → get (insert (insert s fork first) fork second) q ≡ get (insert s fork second) q
    go q = by_test (is_same_fork q fork)
        (λ is. get_here (insert s fork first) fork q second is ∙ sym (get_here s fork q second is))
        (λ no. get_there (insert s fork first) fork q second no ∙ get_there s fork q first no ∙ sym (get_there s fork q second no))

pages_here : (s : Store) (fork : ForkId) (pages : ForkPages) → pages_of (insert s fork pages) fork ≡ pages
pages_here s fork pages = ap (λ (o : Option ForkPages). unwrap_or o []) (get_here s fork fork pages (fork_self fork))

-- one page more
behind_all : (pages : ForkPages) (n : ℕ) (page : List ℕ) → length pages ≡ n → with_block pages n page ≡ pages ++ (page ∷ [])
behind_all pages n page size =
    let one : n + 1 - length pages ≡ 1 = omega (arith, size) in
    ap (λ (m : ℕ). slice_set (pages ++ replicate m zero_page) n page) one
    ∙ ap (λ (m : ℕ). slice_set (pages ++ (zero_page ∷ [])) m page) (sym size)
    ∙ set-append_seam pages zero_page [] page

pub block_more : (s : Store) (at : BlockId) (pages : ForkPages) (page : List ℕ) → slice_get pages at.block ≡ Some page → at.block < length pages
    → page_put at page (insert s at.fork (take at.block pages)) ≡ insert s at.fork (take (suc at.block) pages)
block_more s at pages page is within =
    let t = length-take at.block pages in
    let size : length (take at.block pages) ≡ at.block = omega (arith, t, within) in
    insert_again s at.fork (take at.block pages) (with_block (pages_of (insert s at.fork (take at.block pages)) at.fork) at.block page)
    ∙ ap (λ (ps : ForkPages). insert s at.fork (with_block ps at.block page)) (pages_here s at.fork (take at.block pages))
    ∙ ap (insert s at.fork) (behind_all (take at.block pages) at.block page size ∙ sym (take-suc pages at.block page within ∙ ap (λ (x : List ℕ). take at.block pages ++ (x ∷ [])) (get_or_from_slice_get pages at.block page page is)))

at_most : (a b : ℕ) → a ≡ b → b ≤ a
at_most a b e = omega (arith, e)

less_by : (n a b : ℕ) → n < a → a ≡ b → n < b
less_by n a b less e = omega (arith, less, e)

module _ {P : Type 0} (shows : P → Store → Type 0) (store : Store) where
  -- a fork that was made
  pub fork_start : (len : ForkLen) (old new : P) → Turns shows old new (λ s. with_fork s len.fork) → CopiesFork shows store len 0 old new
  fork_start len old new made = λ s pages shown none is size.
      subst (shows new) (ap (λ (o : Option ForkPages). cond (is_some o) s (insert s len.fork [])) none) (made s shown)

  page_at : (at : BlockId) (pages : ForkPages) → get store at.fork ≡ Some pages → at.block < length pages → block_of store at.fork at.block ≡ Some (get_or pages at.block [])
  page_at at pages is within = ap (λ (o : Option ForkPages). o >>= λ ps. slice_get ps at.block) is ∙ slice_get-get_or pages at.block [] within

  -- one block more
  pub fork_next : (len : ForkLen) (n m : ℕ) (old mid new : P) → m ≡ suc n → n < len.blocks → CopiesFork shows store len n old mid → CopiesBlock shows store (record { fork = len.fork; block = n }) mid new → CopiesFork shows store len m old new
  fork_next len n m old mid new is_next less so_far block = λ s pages shown none is size.
      let at : BlockId = record { fork = len.fork; block = n } in
      let within : n < length pages = less_by n len.blocks (length pages) less size in
      let page : List ℕ = get_or pages n [] in
      let there : block_of store len.fork n ≡ Some page = page_at at pages is within in
      let turns : Turns shows mid new (page_put at page) = subst (λ (o : Option (List ℕ)). IfSome o (λ p. Turns shows mid new (page_put at p))) there block in
      subst (λ (k : ℕ). shows new (insert s len.fork (take k pages))) (sym is_next)
      (subst (shows new) (block_more s at pages page (slice_get-get_or pages n [] within) within) (turns (insert s len.fork (take n pages)) (so_far s pages shown none is size)))

  -- so many forks were copied
  abbrev pub CopiesFront : ℕ → P → P → Type 0
  CopiesFront n old new = shows old empty → shows new (front store n)

  pub front_start : (old : P) → CopiesFront 0 old old
  front_start old = λ shown. subst (shows old) (sym (front_none store)) shown

  -- one fork more
  pub front_next : (n m : ℕ) (old mid new : P) (len : ForkLen) → m ≡ suc n → n < length (entries store) → len ≡ get_or (fork_lens store) n len → CopiesFront n old mid → CopiesFork shows store len len.blocks mid new → CopiesFront m old new
  front_next n m old mid new len is_next within is so_far fork = λ shown.
      let d : ForkId × ForkPages = (len.fork, []) in
      let e : ForkId × ForkPages = get_or (entries store) n d in
      let entry = entry_at store n d within in
      let told : len ≡ len_of store e.0 = len_at store n d len within is in
      let key : len.fork ≡ e.0 = ap (λ (l : ForkLen). l.fork) told in
      let size : len.blocks ≡ length e.1 = ap (λ (l : ForkLen). l.blocks) told ∙ ap (λ (o : Option ForkPages). unwrap_or (option_map length o) 0) entry.here in
      let put : shows new (insert (front store n) len.fork (take len.blocks e.1)) =
      fork (front store n) e.1 (so_far shown) (ap (get (front store n)) key ∙ entry.new) (ap (get store) key ∙ entry.here) size in
      subst (λ (k : ℕ). shows new (front store k)) (sym is_next)
      (subst (shows new) (sym entry.next)
      (subst (λ (q : ForkId). shows new (insert (front store n) q e.1)) key
      (subst (λ (ps : ForkPages). shows new (insert (front store n) len.fork ps)) (take_all len.blocks e.1 (at_most len.blocks (length e.1) size)) put)))

  pub copied_all : (n : ℕ) (old new : P) → length (entries store) ≤ n → CopiesFront n old new → shows old empty → shows new store
  copied_all n old new all so_far shown = subst (shows new) (front_all store n all) (so_far shown)

add_up : (all pages blocks before behind size : ℕ) → all ≡ pages + blocks → pages ≡ before → blocks ≡ size → behind ≡ before + size → all ≡ behind
add_up all pages blocks before behind size more so_far is step = omega (arith, more, so_far, is, step)

pub counted_more : (store : Store) (n m : ℕ) (pages all : ℕ) (len : ForkLen) → m ≡ suc n → n < length (entries store) → len ≡ get_or (fork_lens store) n len → pages ≡ count_in (take n (entries store)) → all ≡ pages + len.blocks → all ≡ count_in (take m (entries store))
counted_more store n m pages all len is_next within is so_far more =
    let d : ForkId × ForkPages = (len.fork, []) in
    let entry = entry_at store n d within in
    let told = len_at store n d len within is in
    let size : len.blocks ≡ length (get_or (entries store) n d).1 = ap (λ (l : ForkLen). l.blocks) told ∙ ap (λ (o : Option ForkPages). unwrap_or (option_map length o) 0) entry.here in
    add_up all pages len.blocks (count_in (take n (entries store))) (count_in (take (suc n) (entries store))) (length (get_or (entries store) n d).1) more so_far size (count_more (entries store) n d within)
    ∙ ap (λ (k : ℕ). count_in (take k (entries store))) (sym is_next)

-- ---- the forks by a list of their lengths

lens_size : (store : Store) (lens : List ForkLen) → lens ≡ fork_lens store → length lens ≡ length (entries store)
lens_size store lens is =
    ap (λ (l : List ForkLen). length l) is ∙ length-map (keys store) (len_of store) ∙ length-map (entries store) (λ (e : ForkId × ForkPages). e.0)

pub count_forks : (store : Store) (lens : List ForkLen) → lens ≡ fork_lens store → length lens ≡ len store
count_forks store lens is = lens_size store lens is ∙ sym (len-entries store)

less_than : (n a b : ℕ) → n < a → a ≡ b → n < b
less_than n a b less e = omega (arith, less, e)

no_more : (n a b : ℕ) → a ≤ n → a ≡ b → b ≤ n
no_more n a b less e = omega (arith, less, e)

pub front_more : {P : Type 0} (shows : P → Store → Type 0) (store : Store) (lens : List ForkLen) (n m : ℕ) (old mid new : P) (len : ForkLen) → lens ≡ fork_lens store → m ≡ suc n → n < length lens → len ≡ get_or lens n len → CopiesFront shows store n old mid → CopiesFork shows store len len.blocks mid new → CopiesFront shows store m old new
front_more shows store lens n m old mid new len are is_next within is so_far fork =
    front_next shows store n m old mid new len is_next (less_than n (length lens) (length (entries store)) within (lens_size store lens are)) (subst (λ (l : List ForkLen). len ≡ get_or l n len) are is) so_far fork

pub pages_more : (store : Store) (lens : List ForkLen) (n m pages all : ℕ) (len : ForkLen) → lens ≡ fork_lens store → m ≡ suc n → n < length lens → len ≡ get_or lens n len → pages ≡ count_in (take n (entries store)) → all ≡ pages + len.blocks → all ≡ count_in (take m (entries store))
pages_more store lens n m pages all len are is_next within is so_far more =
    counted_more store n m pages all len is_next (less_than n (length lens) (length (entries store)) within (lens_size store lens are)) (subst (λ (l : List ForkLen). len ≡ get_or l n len) are is) so_far more

-- all were copied
pub all_copied : {P : Type 0} (shows : P → Store → Type 0) (store : Store) (lens : List ForkLen) (n forks pages : ℕ) (old new : P) → lens ≡ fork_lens store → length lens ≤ n → forks ≡ length lens → CopiesFront shows store n old new → pages ≡ count_in (take n (entries store)) → CopiesStore shows store old new (record { forks = forks; pages = pages })
all_copied shows store lens n forks pages old new are all counted so_far pages_are =
    let most = no_more n (length lens) (length (entries store)) all (lens_size store lens are) in
    record {
      copied = copied_all shows store n old new most so_far;
      forks = counted ∙ count_forks store lens are;
      pages = pages_are ∙ count_all store n most;
    }
