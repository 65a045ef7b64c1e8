-- What entries do to a store, block by block and fork by fork.
use Rattle.std.proofs.Common.{◌≡◌, ℕ, Bool, true, false, cond, ◌&&◌, ◌||◌, List, [], ◌∷◌, ◌++◌, map, Option, Some, None, option_map, refl, sym, ap, ◌∙◌}
use Rattle.std.specs.Prelude.{◌==◌, nat_lt}
use Rattle.std.proofs.lemmas.Bool.{eq-eqb}
use Rattle.std.proofs.Math.Bool.{or-false}
use Rattle.std.specs.List.{list_any}
use Rattle.std.specs.FinMap.{contains_key}
use Rattle.lsn_core.specs.byte_words.Numbers.{◌>>=◌}
use Rattle.lsn_core.specs.declared.ids.ForkId.{ForkId}
use Rattle.lsn_core.specs.Store.{Store}
use Rattle.lsn_core.specs.Blocks.{block_of, page_put}
use Rattle.history.specs.declared.op.Item.{Item}
use Rattle.history.specs.Entry.{Act, Create, Truncate, Change, Drop, Mark, Entry}
use Rattle.history.specs.Apply.{Rule, main_fork, is_same_fork, page_at, item_by, items_by, act_by}
use Rattle.history.proofs.Stores.{fork_self}
use Rattle.history.specs.fuzzy_copies.Effects.{Effect, Stay, Reach, Alter, after, after_all, item_effect, act_effects, effects_on, fork_after, fork_after_all}
use Rattle.history.specs.fuzzy_copies.Recovered.{entries_by}
use Rattle.history.proofs.fuzzy_copies.Pages.{page_by_block, put_view, cut_view, fork_view, contains_key-insert, contains_key-with_fork, contains_key-with_cut, drop_view, contains_key-without_rels}

-- a step that ends well has a middle
pub middle : {A B P : Type 0} (o : Option A) (f : A → Option B) (y : B) → (o >>= f) ≡ Some y → ((x : A) → o ≡ Some x → f x ≡ Some y → P) → P
middle (Some x) f y e k = k x refl e
middle None f y e k = absurd cc

-- effects in two parts
after_both : (rule : Rule) (xs ys : List Effect) (o : Option (List ℕ)) → after_all rule (xs ++ ys) o ≡ (after_all rule xs o >>= after_all rule ys)
after_both rule [] ys o = refl
after_both rule (x ∷ xs) ys o = elim (after rule x o) as (λ m. (m >>= λ next. after_all rule (xs ++ ys) next) ≡ ((m >>= λ next. after_all rule xs next) >>= after_all rule ys)) [
  | Some next ↦ after_both rule xs ys next
  | None ↦ refl
]

joined : (rule : Rule) (xs ys : List Effect) (o p q : Option (List ℕ)) → after_all rule xs o ≡ Some p → after_all rule ys p ≡ Some q → after_all rule (xs ++ ys) o ≡ Some q
joined rule xs ys o p q e f = after_both rule xs ys o ∙ ap (λ (m : Option (Option (List ℕ))). m >>= after_all rule ys) e ∙ f

pub mapped : {A B P : Type 0} (o : Option A) (f : A → B) (y : B) → option_map f o ≡ Some y → ((x : A) → o ≡ Some x → f x ≡ y → P) → P
mapped (Some x) f y e k = k x refl cc
mapped None f y e k = absurd cc

pub item_view : (rule : Rule) (end : ℕ) (store next : Store) (item : Item) → item_by rule end store item ≡ Some next → (fork : ForkId) (block : ℕ) → after rule (item_effect fork block end item) (block_of store fork block) ≡ Some (block_of next fork block)
item_view rule end store next item e fork block =
    mapped (rule end (page_at store item.at) item.edit) (λ page. page_put item.at page store) next e (λ page found is.
    put_view rule end item.edit store item.at page fork block found ∙ ap (λ (s : Store). Some (block_of s fork block)) is)

pub items_view : (rule : Rule) (end : ℕ) (store next : Store) (items : List Item) → items_by rule end store items ≡ Some next
    → (fork : ForkId) (block : ℕ) → after_all rule (map (item_effect fork block end) items) (block_of store fork block) ≡ Some (block_of next fork block)
items_view rule end store next [] e fork block = ap (λ (o : Option Store). option_map (λ s. block_of s fork block) o) e
items_view rule end store next (item ∷ items) e fork block =
    middle (item_by rule end store item) (λ s. items_by rule end s items) next e (λ s first rest.
    ap (λ (m : Option (Option (List ℕ))). m >>= after_all rule (map (item_effect fork block end) items)) (item_view rule end store s item first fork block) ∙ items_view rule end s next items rest fork block)

pub act_view : (rule : Rule) (end : ℕ) (store next : Store) (act : Act) → act_by rule end store act ≡ Some next
    → (fork : ForkId) (block : ℕ) → after_all rule (act_effects fork block end act) (block_of store fork block) ≡ Some (block_of next fork block)
act_view rule end store next (Create made) e fork block = ap (λ (o : Option (List ℕ)). Some o) (fork_view store made fork block) ∙ ap (λ (o : Option Store). option_map (λ s. block_of s fork block) o) e
act_view rule end store next (Truncate rel count) e fork block =
    ap (λ (m : Option (Option (List ℕ))). m >>= λ next. Some next) (cut_view rule store (main_fork rel) count fork block) ∙ ap (λ (o : Option Store). option_map (λ s. block_of s fork block) o) e
act_view rule end store next (Change items) e fork block = items_view rule end store next items e fork block
act_view rule end store next (Drop rels) e fork block =
    ap (λ (m : Option (Option (List ℕ))). m >>= λ next. Some next) (drop_view rule store rels fork block) ∙ ap (λ (o : Option Store). option_map (λ s. block_of s fork block) o) e
act_view rule end store next (Mark marking) e fork block = ap (λ (o : Option Store). option_map (λ s. block_of s fork block) o) e

-- each block after entries that could be done is what they do to the block before
pub entries_view : (rule : Rule) (store next : Store) (es : List Entry) → entries_by rule store es ≡ Some next
    → (fork : ForkId) (block : ℕ) → after_all rule (effects_on fork block es) (block_of store fork block) ≡ Some (block_of next fork block)
entries_view rule store next [] e fork block = ap (λ (o : Option Store). option_map (λ s. block_of s fork block) o) e
entries_view rule store next (x ∷ es) e fork block =
    middle (act_by rule x.end store x.act) (λ s. entries_by rule s es) next e (λ s first rest.
    joined rule (act_effects fork block x.end x.act) (effects_on fork block es) (block_of store fork block) (block_of s fork block) (block_of next fork block)
    (act_view rule x.end store s x.act first fork block) (entries_view rule s next es rest fork block))

-- a block at which entries can't be done
pub record Fails (rule : Rule) (store : Store) (effects : ForkId → ℕ → List Effect) : Type 0 where
  pub fork : ForkId
  pub block : ℕ
  pub fails : after_all rule (effects fork block) (block_of store fork block) ≡ None

pub unmapped : {A B : Type 0} (o : Option A) (f : A → B) → option_map f o ≡ None → o ≡ None
unmapped (Some x) f e = absurd cc
unmapped None f e = refl

item_fails : (rule : Rule) (end : ℕ) (store : Store) (item : Item) → item_by rule end store item ≡ None → after rule (item_effect item.at.fork item.at.block end item) (block_of store item.at.fork item.at.block) ≡ None
item_fails rule end store item e =
    let none : rule end (page_at store item.at) item.edit ≡ None = unmapped (rule end (page_at store item.at) item.edit) (λ page. page_put item.at page store) e in
    ap (λ (s : Bool). after rule (cond (s && (item.at.block == item.at.block)) (Alter end item.edit) (cond (s && nat_lt item.at.block item.at.block) Reach Stay)) (block_of store item.at.fork item.at.block)) (fork_self item.at.fork)
    ∙ ap (λ (s : Bool). after rule (cond s (Alter end item.edit) (cond (nat_lt item.at.block item.at.block) Reach Stay)) (block_of store item.at.fork item.at.block)) (eq-eqb item.at.block item.at.block refl)
    ∙ ap (option_map (λ (p : List ℕ). Some p)) (ap (λ (p : List ℕ). rule end p item.edit) (sym (page_by_block store item.at)) ∙ none)

items_fail : (rule : Rule) (end : ℕ) (store : Store) (items : List Item) → items_by rule end store items ≡ None → Fails rule store (λ fork block. map (item_effect fork block end) items)
items_fail rule end store [] e = absurd cc
items_fail rule end store (item ∷ items) e =
    elim (item_by rule end store item) as (λ m. item_by rule end store item ≡ m → (m >>= λ s. items_by rule end s items) ≡ None → Fails rule store (λ fork block. map (item_effect fork block end) (item ∷ items))) [
      | None ↦ λ here rest. record { fork = item.at.fork; block = item.at.block; fails = ap (λ (m : Option (Option (List ℕ))). m >>= after_all rule (map (item_effect item.at.fork item.at.block end) items)) (item_fails rule end store item here) }
      | Some s ↦ λ here rest.
          let f = items_fail rule end s items rest in
          record { fork = f.fork; block = f.block; fails = ap (λ (m : Option (Option (List ℕ))). m >>= after_all rule (map (item_effect f.fork f.block end) items)) (item_view rule end store s item here f.fork f.block) ∙ f.fails }
    ] refl e

act_fails : (rule : Rule) (end : ℕ) (store : Store) (act : Act) → act_by rule end store act ≡ None → Fails rule store (λ fork block. act_effects fork block end act)
act_fails rule end store (Create made) e = absurd cc
act_fails rule end store (Truncate rel count) e = absurd cc
act_fails rule end store (Change items) e = items_fail rule end store items e
act_fails rule end store (Drop rels) e = absurd cc
act_fails rule end store (Mark marking) e = absurd cc

-- where entries can't be done, they can't be done at some block
pub entries_fail : (rule : Rule) (store : Store) (es : List Entry) → entries_by rule store es ≡ None → Fails rule store (λ fork block. effects_on fork block es)
entries_fail rule store [] e = absurd cc
entries_fail rule store (x ∷ es) e =
    elim (act_by rule x.end store x.act) as (λ m. act_by rule x.end store x.act ≡ m → (m >>= λ s. entries_by rule s es) ≡ None → Fails rule store (λ fork block. effects_on fork block (x ∷ es))) [
      | None ↦ λ here rest.
          let f = act_fails rule x.end store x.act here in
          record {
            fork = f.fork;
            block = f.block;
            fails = after_both rule (act_effects f.fork f.block x.end x.act) (effects_on f.fork f.block es) (block_of store f.fork f.block)
                ∙ ap (λ (m : Option (Option (List ℕ))). m >>= after_all rule (effects_on f.fork f.block es)) f.fails;
          }
      | Some s ↦ λ here rest.
          let f = entries_fail rule s es rest in
          record {
            fork = f.fork;
            block = f.block;
            fails = after_both rule (act_effects f.fork f.block x.end x.act) (effects_on f.fork f.block es) (block_of store f.fork f.block)
                ∙ ap (λ (m : Option (Option (List ℕ))). m >>= after_all rule (effects_on f.fork f.block es)) (act_view rule x.end store s x.act here f.fork f.block) ∙ f.fails;
          }
    ] refl e

or_assoc : (a b c : Bool) → ((a || b) || c) ≡ (a || (b || c))
or_assoc true b c = refl
or_assoc false b c = refl

same_next : {A : Type 0} (x y : A) → Some x ≡ Some y → x ≡ y
same_next x y e = cc

items_forks : (rule : Rule) (end : ℕ) (store next : Store) (items : List Item) → items_by rule end store items ≡ Some next → (fork : ForkId) → contains_key next fork ≡ (contains_key store fork || list_any (λ i. is_same_fork fork i.at.fork) items)
items_forks rule end store next [] e fork = sym (or-false (contains_key store fork) ∙ ap (λ s. contains_key s fork) (same_next store next e))
items_forks rule end store next (item ∷ items) e fork =
    middle (item_by rule end store item) (λ s. items_by rule end s items) next e (λ s first rest.
    mapped (rule end (page_at store item.at) item.edit) (λ page. page_put item.at page store) s first (λ page found is.
    let made : contains_key s fork ≡ (contains_key store fork || is_same_fork fork item.at.fork) = ap (λ (t : Store). contains_key t fork) (sym is) ∙ contains_key-insert store item.at.fork _ fork in
    items_forks rule end s next items rest fork ∙ ap (λ b. b || list_any (λ (i : Item). is_same_fork fork i.at.fork) items) made ∙ or_assoc (contains_key store fork) (is_same_fork fork item.at.fork) (list_any (λ i. is_same_fork fork i.at.fork) items)))

pub act_forks : (rule : Rule) (end : ℕ) (store next : Store) (act : Act) → act_by rule end store act ≡ Some next → (fork : ForkId) → contains_key next fork ≡ fork_after fork (contains_key store fork) act
act_forks rule end store next (Create made) e fork = ap (λ (s : Store). contains_key s fork) (sym (same_next _ next e)) ∙ contains_key-with_fork store made fork
act_forks rule end store next (Truncate rel count) e fork = ap (λ (s : Store). contains_key s fork) (sym (same_next _ next e)) ∙ contains_key-with_cut store (main_fork rel) count fork
act_forks rule end store next (Change items) e fork = items_forks rule end store next items e fork
act_forks rule end store next (Drop rels) e fork = ap (λ (s : Store). contains_key s fork) (sym (same_next _ next e)) ∙ contains_key-without_rels store rels fork
act_forks rule end store next (Mark marking) e fork = ap (λ (s : Store). contains_key s fork) (sym (same_next store next e))

-- the forks after entries that could be done
pub forks_view : (rule : Rule) (store next : Store) (es : List Entry) → entries_by rule store es ≡ Some next → (fork : ForkId) → contains_key next fork ≡ fork_after_all fork (contains_key store fork) es
forks_view rule store next [] e fork = ap (λ (s : Store). contains_key s fork) (sym (same_next store next e))
forks_view rule store next (x ∷ es) e fork =
    middle (act_by rule x.end store x.act) (λ s. entries_by rule s es) next e (λ s first rest.
    forks_view rule s next es rest fork ∙ ap (λ b. fork_after_all fork b es) (act_forks rule x.end store s x.act first fork))
