-- The blocks of a store after one fork's pages were put there, cut or made.
use Rattle.std.proofs.Common.{◌≡◌, ℕ, zero, suc, ◌+◌, ◌-◌, ◌<◌, ◌≤◌, Bool, true, false, cond, not, ◌&&◌, ◌||◌, List, [], ◌∷◌, ◌++◌, length, replicate, take, Option, Some, None, unwrap_or, option_map, is_some, refl, sym, ap, ◌∙◌, arith}
use Rattle.std.specs.Prelude.{slice_get, slice_set, nat_lt, nat_le, ◌==◌, if◌then◌else◌}
use Rattle.std.proofs.lemmas.List.{length-append, length-replicate}
use Rattle.std.proofs.lemmas.Option.{unwrap_or-slice_get}
use Rattle.std.proofs.lemmas.Bool.{ltb-true, ltb-false, leb-true, leb-false, eqb-true, eqb-false}
use Rattle.std.proofs.Math.Bool.{or-false, or-true}
use Rattle.std.specs.FinMap.{get, insert, contains_key, get-insert, same_map}
use Rattle.lsn_core.specs.byte_words.Numbers.{◌>>=◌}
use Rattle.lsn_core.specs.declared.ids.ForkId.{ForkId}
use Rattle.lsn_core.specs.declared.ids.BlockId.{BlockId}
use Rattle.lsn_core.specs.Store.{Store, ForkPages}
use Rattle.lsn_core.specs.Blocks.{block_of, pages_of, with_block, with_page, with_fork, with_cut_pages, with_cut}
use Rattle.lsn_core.proofs.ForkOrder.{fork_cmp_total, fork_cmp-IsAntisymmetric}
use Rattle.pg_page.specs.Header.{zero_page}
use Rattle.history.specs.declared.op.Edit.{Edit}
use Rattle.history.specs.Apply.{Rule, is_same_fork, is_of_any, without_rels, page_at}
use Rattle.history.proofs.Stores.{fork_is, get_without_rels}
use Rattle.lsn_core.specs.Relation.{Relation}
use Rattle.history.specs.fuzzy_copies.Effects.{Stay, Reach, Alter, Clear, after, cut_effect, drop_effect}

-- a block by the pages of its fork, which are none where the fork is missing
pub block_by_pages : (store : Store) (fork : ForkId) (b : ℕ) → block_of store fork b ≡ slice_get (pages_of store fork) b
block_by_pages store fork b = elim (get store fork) as (λ o. (o >>= λ pages. slice_get pages b) ≡ slice_get (unwrap_or o []) b) [ Some pages ↦ refl | None ↦ refl ]

pub page_by_block : (store : Store) (at : BlockId) → page_at store at ≡ unwrap_or (block_of store at.fork at.block) zero_page
page_by_block store at = sym (ap (λ (o : Option (List ℕ)). unwrap_or o zero_page) (block_by_pages store at.fork at.block) ∙ unwrap_or-slice_get (pages_of store at.fork) at.block zero_page)

front : {X : Type 0} (xs ys : List X) (i : ℕ) → i < length xs → slice_get (xs ++ ys) i ≡ slice_get xs i
front [] ys i h = absurd (omega arith)
front (x ∷ xs) ys zero h = refl
front (x ∷ xs) ys (suc i) h = front xs ys i (omega arith)

set_here : {X : Type 0} (xs : List X) (i : ℕ) (y : X) → i < length xs → slice_get (slice_set xs i y) i ≡ Some y
set_here [] i y h = absurd (omega arith)
set_here (x ∷ xs) zero y h = refl
set_here (x ∷ xs) (suc i) y h = set_here xs i y (omega arith)

set_elsewhere : {X : Type 0} (xs : List X) (i j : ℕ) (y : X) → (j ≡ i → ⊥) → slice_get (slice_set xs i y) j ≡ slice_get xs j
set_elsewhere [] i j y h = refl
set_elsewhere (x ∷ xs) zero zero y h = absurd (h refl)
set_elsewhere (x ∷ xs) zero (suc j) y h = refl
set_elsewhere (x ∷ xs) (suc i) zero y h = refl
set_elsewhere (x ∷ xs) (suc i) (suc j) y h = set_elsewhere xs i j y (λ e. h (ap (λ (n : ℕ). suc n) e))

copies : {X : Type 0} (n : ℕ) (z : X) (i : ℕ) → i < n → slice_get (replicate n z) i ≡ Some z
copies zero z i h = absurd (omega arith)
copies (suc n) z zero h = refl
copies (suc n) z (suc i) h = copies n z i (omega arith)

no_copies : {X : Type 0} (n : ℕ) (z : X) (i : ℕ) → n ≤ i → slice_get (replicate n z) i ≡ None
no_copies zero z i h = refl
no_copies (suc n) z zero h = absurd (omega arith)
no_copies (suc n) z (suc i) h = no_copies n z i (omega arith)

-- a list with copies behind it
padded : {X : Type 0} (xs : List X) (n : ℕ) (z : X) (i : ℕ) → i < length xs + n → slice_get (xs ++ replicate n z) i ≡ Some (unwrap_or (slice_get xs i) z)
padded [] n z i h = copies n z i (omega arith)
padded (x ∷ xs) n z zero h = refl
padded (x ∷ xs) n z (suc i) h = padded xs n z i (omega arith)

past : {X : Type 0} (xs : List X) (n : ℕ) (z : X) (i : ℕ) → length xs + n ≤ i → slice_get (xs ++ replicate n z) i ≡ slice_get xs i
past [] n z i h = no_copies n z i (omega arith)
past (x ∷ xs) n z zero h = absurd (omega arith)
past (x ∷ xs) n z (suc i) h = past xs n z i (omega arith)

kept_front : {X : Type 0} (n : ℕ) (xs : List X) (i : ℕ) → i < n → slice_get (take n xs) i ≡ slice_get xs i
kept_front zero xs i h = absurd (omega arith)
kept_front (suc n) [] i h = refl
kept_front (suc n) (x ∷ xs) zero h = refl
kept_front (suc n) (x ∷ xs) (suc i) h = kept_front n xs i (omega arith)

cut_off : {X : Type 0} (n : ℕ) (xs : List X) (i : ℕ) → n ≤ i → slice_get (take n xs) i ≡ None
cut_off zero xs i h = refl
cut_off (suc n) [] i h = refl
cut_off (suc n) (x ∷ xs) zero h = absurd (omega arith)
cut_off (suc n) (x ∷ xs) (suc i) h = cut_off n xs i (omega arith)

pub same_pages : {X : Type 0} (xs ys : List X) → ((i : ℕ) → slice_get xs i ≡ slice_get ys i) → xs ≡ ys
same_pages [] [] h = refl
same_pages [] (y ∷ ys) h = absurd (let e = h 0 in cc)
same_pages (x ∷ xs) [] h = absurd (let e = h 0 in cc)
same_pages (x ∷ xs) (y ∷ ys) h = let e = h 0 in let es = same_pages xs ys (λ i. h (suc i)) in cc

long_enough : (pages : ForkPages) (block : ℕ) → block < length (pages ++ replicate (block + 1 - length pages) zero_page)
long_enough pages block = omega (arith, length-append pages (replicate (block + 1 - length pages) zero_page), length-replicate (block + 1 - length pages) zero_page)

at_block : (pages : ForkPages) (block : ℕ) (page : List ℕ) → slice_get (with_block pages block page) block ≡ Some page
at_block pages block page = set_here (pages ++ replicate (block + 1 - length pages) zero_page) block page (long_enough pages block)

below_block : (pages : ForkPages) (block : ℕ) (page : List ℕ) (b : ℕ) → b < block → slice_get (with_block pages block page) b ≡ Some (unwrap_or (slice_get pages b) zero_page)
below_block pages block page b h =
    set_elsewhere (pages ++ replicate (block + 1 - length pages) zero_page) block b page (λ e. omega arith) ∙ padded pages (block + 1 - length pages) zero_page b (omega arith)

above_block : (pages : ForkPages) (block : ℕ) (page : List ℕ) (b : ℕ) → block < b → slice_get (with_block pages block page) b ≡ slice_get pages b
above_block pages block page b h =
    set_elsewhere (pages ++ replicate (block + 1 - length pages) zero_page) block b page (λ e. omega arith)
    ∙ elim (nat_lt b (length pages)) as (λ s. nat_lt b (length pages) ≡ s → slice_get (pages ++ replicate (block + 1 - length pages) zero_page) b ≡ slice_get pages b) [
      | true ↦ λ e. front pages (replicate (block + 1 - length pages) zero_page) b (ltb-true b (length pages) e)
      | false ↦ λ e. past pages (block + 1 - length pages) zero_page b (let k : length pages ≤ b = ltb-false b (length pages) e in omega arith)
    ] refl

-- the effect of an item on each block of its fork
pages_view : (rule : Rule) (end : ℕ) (edit : Edit) (pages : ForkPages) (block : ℕ) (page : List ℕ) (b : ℕ) → rule end (unwrap_or (slice_get pages block) zero_page) edit ≡ Some page
    → after rule (if b == block then Alter end edit else if nat_lt b block then Reach else Stay) (slice_get pages b) ≡ Some (slice_get (with_block pages block page) b)
pages_view rule end edit pages block page b e =
    elim (b == block) as (λ s. (b == block) ≡ s → after rule (cond s (Alter end edit) (if nat_lt b block then Reach else Stay)) (slice_get pages b) ≡ Some (slice_get (with_block pages block page) b)) [
      | true ↦ λ here.
          let i : b ≡ block = eqb-true b block here in
          ap (λ (n : ℕ). option_map (λ (p : List ℕ). Some p) (rule end (unwrap_or (slice_get pages n) zero_page) edit)) i ∙ ap (option_map (λ (p : List ℕ). Some p)) e
          ∙ ap (λ (o : Option (List ℕ)). Some o) (sym (ap (λ (n : ℕ). slice_get (with_block pages block page) n) i ∙ at_block pages block page))
      | false ↦ λ apart. elim (nat_lt b block) as (λ s. nat_lt b block ≡ s → after rule (cond s Reach Stay) (slice_get pages b) ≡ Some (slice_get (with_block pages block page) b)) [
        | true ↦ λ below. ap (λ (o : Option (List ℕ)). Some o) (sym (below_block pages block page b (ltb-true b block below)))
        | false ↦ λ above. ap (λ (o : Option (List ℕ)). Some o) (sym (above_block pages block page b (let k : block ≤ b = ltb-false b block above in let n : b ≡ block → ⊥ = eqb-false b block apart in omega arith)))
      ] refl
    ] refl

same_found : (o p : Option ForkPages) → is_some o ≡ is_some p → unwrap_or o [] ≡ unwrap_or p [] → o ≡ p
same_found (Some x) (Some y) e f = ap (λ (ps : ForkPages). Some ps) f
same_found (Some x) None e f = absurd cc
same_found None (Some y) e f = absurd cc
same_found None None e f = refl

pub got : (store : Store) (put : ForkId) (pages : ForkPages) (fork : ForkId) → get (insert store put pages) fork ≡ cond (is_same_fork fork put) (Some pages) (get store fork)
unfolding is_same_fork
got store put pages fork = get-insert fork_cmp_total store put pages fork

pub pages_of-insert : (store : Store) (put : ForkId) (pages : ForkPages) (fork : ForkId) → pages_of (insert store put pages) fork ≡ cond (is_same_fork fork put) pages (pages_of store fork)
pages_of-insert store put pages fork =
    ap (λ (o : Option ForkPages). unwrap_or o []) (got store put pages fork)
    ∙ elim (is_same_fork fork put) as (λ s. unwrap_or (cond s (Some pages) (get store fork)) [] ≡ cond s pages (pages_of store fork)) [ true ↦ refl | false ↦ refl ]

pub contains_key-insert : (store : Store) (put : ForkId) (pages : ForkPages) (fork : ForkId) → contains_key (insert store put pages) fork ≡ (contains_key store fork || is_same_fork fork put)
contains_key-insert store put pages fork =
    ap (λ (o : Option ForkPages). is_some o) (got store put pages fork)
    ∙ elim (is_same_fork fork put) as (λ s. is_some (cond s (Some pages) (get store fork)) ≡ (contains_key store fork || s)) [ true ↦ sym (or-true (contains_key store fork)) | false ↦ sym (or-false (contains_key store fork)) ]

-- two stores with the same forks and blocks are one
pub same_stores : (s t : Store) → ((fork : ForkId) → contains_key s fork ≡ contains_key t fork) → ((fork : ForkId) (block : ℕ) → block_of s fork block ≡ block_of t fork block) → s ≡ t
same_stores s t forks blocks =
    same_map fork_cmp_total fork_cmp-IsAntisymmetric s t (λ fork. same_found (get s fork) (get t fork) (forks fork) (same_pages (pages_of s fork) (pages_of t fork) (λ b. sym (block_by_pages s fork b) ∙ blocks fork b ∙ block_by_pages t fork b)))

-- what an item leaves at each block
put_pages : (rule : Rule) (end : ℕ) (edit : Edit) (store : Store) (put : ForkId) (block : ℕ) (page : List ℕ) (fork : ForkId) (b : ℕ) → rule end (unwrap_or (slice_get (pages_of store put) block) zero_page) edit ≡ Some page
    → after rule (if is_same_fork fork put && (b == block) then Alter end edit else if is_same_fork fork put && nat_lt b block then Reach else Stay) (slice_get (pages_of store fork) b) ≡ Some (slice_get (pages_of (with_page store put block page) fork) b)
put_pages rule end edit store put block page fork b e =
    elim (is_same_fork fork put) as (λ s. is_same_fork fork put ≡ s → after rule (if s && (b == block) then Alter end edit else if s && nat_lt b block then Reach else Stay) (slice_get (pages_of store fork) b)
    ≡ Some (slice_get (cond s (with_block (pages_of store put) block page) (pages_of store fork)) b)) [
      | true ↦ λ same. ap (λ (f : ForkId). after rule (if b == block then Alter end edit else if nat_lt b block then Reach else Stay) (slice_get (pages_of store f) b)) (fork_is fork put same) ∙ pages_view rule end edit (pages_of store put) block page b e
      | false ↦ λ apart. refl
    ] refl
    ∙ ap (λ (ps : ForkPages). Some (slice_get ps b)) (sym (pages_of-insert store put (with_block (pages_of store put) block page) fork))

pub put_view : (rule : Rule) (end : ℕ) (edit : Edit) (store : Store) (at : BlockId) (page : List ℕ) (fork : ForkId) (b : ℕ) → rule end (page_at store at) edit ≡ Some page
    → after rule (if is_same_fork fork at.fork && (b == at.block) then Alter end edit else if is_same_fork fork at.fork && nat_lt b at.block then Reach else Stay) (block_of store fork b) ≡ Some (block_of (with_page store at.fork at.block page) fork b)
put_view rule end edit store at page fork b e =
    ap (after rule (if is_same_fork fork at.fork && (b == at.block) then Alter end edit else if is_same_fork fork at.fork && nat_lt b at.block then Reach else Stay)) (block_by_pages store fork b)
    ∙ put_pages rule end edit store at.fork at.block page fork b (ap (λ (p : List ℕ). rule end p edit) (unwrap_or-slice_get (pages_of store at.fork) at.block zero_page) ∙ e)
    ∙ ap (λ (o : Option (List ℕ)). Some o) (sym (block_by_pages (with_page store at.fork at.block page) fork b))

none_left : (n : ℕ) → take {A = List ℕ} n [] ≡ []
none_left zero = refl
none_left (suc n) = refl

missing : (o : Option ForkPages) → is_some o ≡ false → unwrap_or o [] ≡ []
missing (Some pages) e = absurd cc
missing None e = refl

-- a fork that is there: another name for it adds nothing
pub absorbed : (store : Store) (there fork : ForkId) → contains_key store there ≡ true → (contains_key store fork || is_same_fork fork there) ≡ contains_key store fork
absorbed store there fork e =
    elim (is_same_fork fork there) as (λ s. is_same_fork fork there ≡ s → (contains_key store fork || s) ≡ contains_key store fork) [
      | true ↦ λ same. or-true (contains_key store fork) ∙ sym (ap (contains_key store) (fork_is fork there same) ∙ e)
      | false ↦ λ apart. or-false (contains_key store fork)
    ] refl

pages_of-with_cut : (store : Store) (cut : ForkId) (count : ℕ) (fork : ForkId) → pages_of (with_cut store cut count) fork ≡ cond (is_same_fork fork cut) (take count (pages_of store fork)) (pages_of store fork)
pages_of-with_cut store cut count fork =
    elim (get store cut) as (λ o. get store cut ≡ o → pages_of (with_cut_pages store cut count o) fork ≡ cond (is_same_fork fork cut) (take count (pages_of store fork)) (pages_of store fork)) [
      | Some pages ↦ λ there. pages_of-insert store cut (take count pages) fork
          ∙ elim (is_same_fork fork cut) as (λ s. is_same_fork fork cut ≡ s → cond s (take count pages) (pages_of store fork) ≡ cond s (take count (pages_of store fork)) (pages_of store fork)) [
            | true ↦ λ same. ap (take count) (sym (ap (pages_of store) (fork_is fork cut same) ∙ ap (λ (o : Option ForkPages). unwrap_or o []) there))
            | false ↦ λ apart. refl
          ] refl
      | None ↦ λ gone. elim (is_same_fork fork cut) as (λ s. is_same_fork fork cut ≡ s → pages_of store fork ≡ cond s (take count (pages_of store fork)) (pages_of store fork)) [
        | true ↦ λ same.
            let none : pages_of store fork ≡ [] = ap (pages_of store) (fork_is fork cut same) ∙ ap (λ (o : Option ForkPages). unwrap_or o []) gone in
            none ∙ sym (ap (take count) none ∙ none_left count)
        | false ↦ λ apart. refl
      ] refl
    ] refl

cut_list : (rule : Rule) (count : ℕ) (pages : ForkPages) (b : ℕ) → after rule (if nat_le count b then Clear else Stay) (slice_get pages b) ≡ Some (slice_get (take count pages) b)
cut_list rule count pages b =
    elim (nat_le count b) as (λ s. nat_le count b ≡ s → after rule (cond s Clear Stay) (slice_get pages b) ≡ Some (slice_get (take count pages) b)) [
      | true ↦ λ e. ap (λ (o : Option (List ℕ)). Some o) (sym (cut_off count pages b (leb-true count b e)))
      | false ↦ λ e. ap (λ (o : Option (List ℕ)). Some o) (sym (kept_front count pages b (leb-false count b e)))
    ] refl

-- what a cut leaves at each block
pub cut_view : (rule : Rule) (store : Store) (cut : ForkId) (count : ℕ) (fork : ForkId) (b : ℕ) → after rule (cut_effect fork b cut count) (block_of store fork b) ≡ Some (block_of (with_cut store cut count) fork b)
cut_view rule store cut count fork b =
    ap (after rule (cut_effect fork b cut count)) (block_by_pages store fork b)
    ∙ elim (is_same_fork fork cut) as (λ s. after rule (cond (s && nat_le count b) Clear Stay) (slice_get (pages_of store fork) b) ≡ Some (slice_get (cond s (take count (pages_of store fork)) (pages_of store fork)) b)) [
      | true ↦ cut_list rule count (pages_of store fork) b
      | false ↦ refl
    ]
    ∙ ap (λ (ps : ForkPages). Some (slice_get ps b)) (sym (pages_of-with_cut store cut count fork))
    ∙ ap (λ (o : Option (List ℕ)). Some o) (sym (block_by_pages (with_cut store cut count) fork b))

pages_of-with_fork : (store : Store) (made fork : ForkId) → pages_of (with_fork store made) fork ≡ pages_of store fork
pages_of-with_fork store made fork =
    elim (contains_key store made) as (λ c. contains_key store made ≡ c → pages_of (cond c store (insert store made [])) fork ≡ pages_of store fork) [
      | true ↦ λ there. refl
      | false ↦ λ gone. pages_of-insert store made [] fork
          ∙ elim (is_same_fork fork made) as (λ s. is_same_fork fork made ≡ s → cond s [] (pages_of store fork) ≡ pages_of store fork) [
            | true ↦ λ same. sym (ap (pages_of store) (fork_is fork made same) ∙ missing (get store made) gone)
            | false ↦ λ apart. refl
          ] refl
    ] refl

-- what a creation leaves at each block
pub fork_view : (store : Store) (made fork : ForkId) (b : ℕ) → block_of store fork b ≡ block_of (with_fork store made) fork b
fork_view store made fork b =
    block_by_pages store fork b ∙ ap (λ (ps : ForkPages). slice_get ps b) (sym (pages_of-with_fork store made fork)) ∙ sym (block_by_pages (with_fork store made) fork b)

pub contains_key-with_fork : (store : Store) (made fork : ForkId) → contains_key (with_fork store made) fork ≡ (contains_key store fork || is_same_fork fork made)
contains_key-with_fork store made fork =
    elim (contains_key store made) as (λ c. contains_key store made ≡ c → contains_key (cond c store (insert store made [])) fork ≡ (contains_key store fork || is_same_fork fork made)) [
      | true ↦ λ there. sym (absorbed store made fork there)
      | false ↦ λ gone. contains_key-insert store made [] fork
    ] refl

pub contains_key-with_cut : (store : Store) (cut : ForkId) (count : ℕ) (fork : ForkId) → contains_key (with_cut store cut count) fork ≡ contains_key store fork
contains_key-with_cut store cut count fork =
    elim (get store cut) as (λ o. get store cut ≡ o → contains_key (with_cut_pages store cut count o) fork ≡ contains_key store fork) [
      | Some pages ↦ λ there. contains_key-insert store cut (take count pages) fork ∙ absorbed store cut fork (ap (λ (o : Option ForkPages). is_some o) there)
      | None ↦ λ gone. refl
    ] refl

-- relations that were taken away: their blocks are gone, and others stay
pub drop_view : (rule : Rule) (store : Store) (rels : List Relation) (fork : ForkId) (block : ℕ) → after rule (drop_effect fork rels) (block_of store fork block) ≡ Some (block_of (without_rels store rels) fork block)
drop_view rule store rels fork block =
    go (is_of_any fork rels) (get store fork) ∙ ap (λ (o : Option ForkPages). Some (o >>= λ pages. slice_get pages block)) (sym (get_without_rels store rels fork))
  where
    go : (s : Bool) (o : Option ForkPages) → after rule (cond s Clear Stay) (o >>= λ pages. slice_get pages block) ≡ Some (cond s None o >>= λ pages. slice_get pages block)
    go true o = refl
    go false o = refl

pub contains_key-without_rels : (store : Store) (rels : List Relation) (fork : ForkId) → contains_key (without_rels store rels) fork ≡ (contains_key store fork && not (is_of_any fork rels))
contains_key-without_rels store rels fork =
    ap (λ (o : Option ForkPages). is_some o) (get_without_rels store rels fork) ∙ go (is_of_any fork rels) (get store fork)
  where
    go : (s : Bool) (o : Option ForkPages) → is_some (cond s None o) ≡ (is_some o && not s)
    go true None = refl
    go true (Some pages) = refl
    go false None = refl
    go false (Some pages) = refl
