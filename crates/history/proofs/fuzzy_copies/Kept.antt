-- A block that tidy entries neither touch nor cut stays as it is.
use Rattle.std.proofs.Common.{◌≡◌, ℕ, ◌<◌, Bool, true, false, cond, not, ◌&&◌, ◌||◌, List, [], ◌∷◌, ◌++◌, length, Option, Some, None, is_some, refl, sym, ap, subst, ◌∙◌, arith}
use Rattle.std.specs.Prelude.{◌==◌, nat_lt, slice_get}
use Rattle.std.specs.List.{list_any}
use Rattle.std.specs.FinMap.{get, contains_key}
use Rattle.std.proofs.lemmas.Bool.{ltb-true, or_parts, or_from, or_left, or_right, and_parts, false_from_ne_true}
use Rattle.std.proofs.lemmas.Option.{slice_get-get_or}
use Rattle.std.proofs.Math.Bool.{or-false}
use Rattle.lsn_core.specs.byte_words.Numbers.{◌>>=◌}
use Rattle.lsn_core.specs.declared.ids.ForkId.{ForkId}
use Rattle.lsn_core.specs.Store.{Store, ForkPages}
use Rattle.lsn_core.specs.Blocks.{block_of, page_put}
use Rattle.history.specs.declared.op.Edit.{Edit}
use Rattle.history.specs.declared.op.Edit.TheVariants.{Put, Patch}
use Rattle.history.specs.declared.op.Item.{Item}
use Rattle.history.specs.Entry.{Act, Create, Truncate, Change, Drop, Mark, Entry}
use Rattle.history.specs.Apply.{edited, is_same_fork, is_of_any, page_at, apply_item, apply_items, apply_act, apply, apply_all}
use Rattle.history.specs.Op.{IsReached, IsTidyItem, AreTidyItems, IsTidy}
use Rattle.history.proofs.Stores.{fork_is}
use Rattle.history.specs.fuzzy_copies.Touches.{is_at, act_touches, act_cuts, act_settles, resets, settles}
use Rattle.history.specs.fuzzy_copies.Effects.{Stay, Reach, Alter, Clear, after, is_past}
use Rattle.history.specs.fuzzy_copies.Covers.{AreTidy}
use Rattle.history.proofs.fuzzy_copies.Pages.{contains_key-insert, absorbed}
use Rattle.history.proofs.fuzzy_copies.View.{middle, mapped, item_view, act_view, act_forks}
use Rattle.history.proofs.fuzzy_copies.Completed.{or_second}

reached : (pages : ForkPages) (block b : ℕ) (edit : Edit) → IsReached pages block edit → b < block → b < length pages
reached pages block b (Put page) r h = omega arith
reached pages block b (Patch frags) r h = let k : block < length pages = r in omega arith

pub block_there : (store : Store) (fork : ForkId) (pages : ForkPages) (block : ℕ) → get store fork ≡ Some pages → block < length pages → is_some (block_of store fork block) ≡ true
block_there store fork pages block e h = ap (λ (o : Option ForkPages). is_some (o >>= λ ps. slice_get ps block)) e ∙ ap (λ (o : Option (List ℕ)). is_some o) (slice_get-get_or pages block [] h)

same_some : (x y : Option (List ℕ)) → Some x ≡ Some y → y ≡ x
same_some x y e = cc

reach_leaves : (o p : Option (List ℕ)) → is_some o ≡ true → after edited Reach o ≡ Some p → p ≡ o
reach_leaves (Some page) p there e = cc
reach_leaves None p there e = absurd cc

-- an item that isn't at the block leaves it
item_keeps : (end : ℕ) (store next : Store) (item : Item) (fork : ForkId) (block : ℕ) → IsTidyItem store item → apply_item end store item ≡ Some next → is_at fork block item ≡ false → block_of next fork block ≡ block_of store fork block
item_keeps end store next item fork block tidy e apart =
    let step : after edited (cond (is_past fork block item) Reach Stay) (block_of store fork block) ≡ Some (block_of next fork block) =
    sym (ap (λ s. after edited (cond s (Alter end item.edit) (cond (is_past fork block item) Reach Stay)) (block_of store fork block)) apart) ∙ item_view edited end store next item e fork block in
    elim (is_past fork block item) as (λ s. is_past fork block item ≡ s → after edited (cond s Reach Stay) (block_of store fork block) ≡ Some (block_of next fork block) → block_of next fork block ≡ block_of store fork block) [
      | true ↦ λ past f.
          let p = and_parts (is_same_fork fork item.at.fork) (nat_lt block item.at.block) past in
          let short = reached tidy.pages item.at.block block item.edit tidy.reached (ltb-true block item.at.block p.1) in
          let there : get store fork ≡ Some tidy.pages = ap (get store) (fork_is fork item.at.fork p.0) ∙ tidy.there in
          reach_leaves (block_of store fork block) (block_of next fork block) (block_there store fork tidy.pages block there short) f
      | false ↦ λ _ f. same_some _ _ f
    ] refl step

items_keep : (end : ℕ) (store next : Store) (items : List Item) (fork : ForkId) (block : ℕ) → AreTidyItems store items → apply_items end store items ≡ Some next → list_any (is_at fork block) items ≡ false → block_of next fork block ≡ block_of store fork block
items_keep end store next [] fork block tidy e none = let same : store ≡ next = cc in ap (λ (s : Store). block_of s fork block) (sym same)
items_keep end store next (item ∷ items) fork block tidy e none =
    let p = or_parts (is_at fork block item) (list_any (is_at fork block) items) none in
    middle (apply_item end store item) (λ s. apply_items end s items) next e (λ s first rest.
    items_keep end s next items fork block (tidy.1 end s first) rest p.1 ∙ item_keeps end store s item fork block tidy.0 first p.0)

act_keeps : (end : ℕ) (store next : Store) (act : Act) (fork : ForkId) (block : ℕ) → IsTidy store act → apply_act end store act ≡ Some next → (act_touches fork block act || act_cuts fork block act) ≡ false → block_of next fork block ≡ block_of store fork block
act_keeps end store next (Create made) fork block tidy e none = same_some _ _ (act_view edited end store next (Create made) e fork block)
act_keeps end store next (Truncate rel count) fork block tidy e none =
    same_some _ _ (sym (ap (λ s. after edited (cond s Clear Stay) (block_of store fork block) >>= λ n. Some n) none) ∙ act_view edited end store next (Truncate rel count) e fork block)
act_keeps end store next (Change items) fork block tidy e none = items_keep end store next items fork block tidy e (or_parts (list_any (is_at fork block) items) false none).0
act_keeps end store next (Drop rels) fork block tidy e none =
    same_some _ _ (sym (ap (λ s. after edited (cond s Clear Stay) (block_of store fork block) >>= λ n. Some n) none) ∙ act_view edited end store next (Drop rels) e fork block)
act_keeps end store next (Mark marking) fork block tidy e none = same_some _ _ (act_view edited end store next (Mark marking) e fork block)

pub entries_keep : (store next : Store) (es : List Entry) (fork : ForkId) (block : ℕ) → AreTidy store es → apply_all store es ≡ Some next → list_any (resets fork block) es ≡ false → block_of next fork block ≡ block_of store fork block
entries_keep store next [] fork block tidy e none = let same : store ≡ next = cc in ap (λ (s : Store). block_of s fork block) (sym same)
entries_keep store next (x ∷ es) fork block tidy e none =
    let p = or_parts (resets fork block x) (list_any (resets fork block) es) none in
    middle (apply store x) (λ s. apply_all s es) next e (λ s first rest.
    entries_keep s next es fork block (tidy.1 s first) rest p.1 ∙ act_keeps x.end store s x.act fork block tidy.0 first p.0)

-- forks that tidy entries don't create
items_forks_keep : (end : ℕ) (store next : Store) (items : List Item) (fork : ForkId) → AreTidyItems store items → apply_items end store items ≡ Some next → contains_key next fork ≡ contains_key store fork
items_forks_keep end store next [] fork tidy e = let same : store ≡ next = cc in ap (λ (s : Store). contains_key s fork) (sym same)
items_forks_keep end store next (item ∷ items) fork tidy e =
    middle (apply_item end store item) (λ s. apply_items end s items) next e (λ s first rest.
    items_forks_keep end s next items fork (tidy.1 end s first) rest
    ∙ mapped (edited end (page_at store item.at) item.edit) (λ page. page_put item.at page store) s first (λ page found is.
    ap (λ (t : Store). contains_key t fork) (sym is) ∙ contains_key-insert store item.at.fork _ fork ∙ absorbed store item.at.fork fork (ap (λ (o : Option ForkPages). is_some o) tidy.0.there)))

and_yes : (b : Bool) → (b && not false) ≡ b
and_yes true = refl
and_yes false = refl

act_forks_keep : (end : ℕ) (store next : Store) (act : Act) (fork : ForkId) → IsTidy store act → apply_act end store act ≡ Some next → act_settles fork act ≡ false → contains_key next fork ≡ contains_key store fork
act_forks_keep end store next (Create made) fork tidy e none = act_forks edited end store next (Create made) e fork ∙ ap (λ s. contains_key store fork || s) none ∙ or-false (contains_key store fork)
act_forks_keep end store next (Truncate rel count) fork tidy e none = act_forks edited end store next (Truncate rel count) e fork
act_forks_keep end store next (Change items) fork tidy e none = items_forks_keep end store next items fork tidy e
act_forks_keep end store next (Drop rels) fork tidy e none = act_forks edited end store next (Drop rels) e fork ∙ ap (λ s. contains_key store fork && not s) none ∙ and_yes (contains_key store fork)
act_forks_keep end store next (Mark marking) fork tidy e none = act_forks edited end store next (Mark marking) e fork

pub forks_keep : (store next : Store) (es : List Entry) (fork : ForkId) → AreTidy store es → apply_all store es ≡ Some next → list_any (settles fork) es ≡ false → contains_key next fork ≡ contains_key store fork
forks_keep store next [] fork tidy e none = let same : store ≡ next = cc in ap (λ (s : Store). contains_key s fork) (sym same)
forks_keep store next (x ∷ es) fork tidy e none =
    let p = or_parts (settles fork x) (list_any (settles fork) es) none in
    middle (apply store x) (λ s. apply_all s es) next e (λ s first rest.
    forks_keep s next es fork (tidy.1 s first) rest p.1 ∙ act_forks_keep x.end store s x.act fork tidy.0 first p.0)

-- tidy entries that cut off no block of it neither create nor drop a fork that is there
act_makes_none : (store : Store) (act : Act) (fork : ForkId) (block : ℕ) → IsTidy store act → contains_key store fork ≡ true → (act_touches fork block act || act_cuts fork block act) ≡ false → act_settles fork act ≡ false
act_makes_none store (Create made) fork block tidy there uncut =
    false_from_ne_true (is_same_fork fork made) (λ k.
    let gone : get store fork ≡ None = ap (get store) (fork_is fork made k) ∙ tidy in
    let missing : contains_key store fork ≡ false = ap (λ (o : Option ForkPages). is_some o) gone in cc)
act_makes_none store (Truncate rel count) fork block tidy there uncut = refl
act_makes_none store (Change items) fork block tidy there uncut = refl
act_makes_none store (Drop rels) fork block tidy there uncut = uncut
act_makes_none store (Mark marking) fork block tidy there uncut = refl

pub none_made : (store next : Store) (es : List Entry) (fork : ForkId) (block : ℕ) → AreTidy store es → apply_all store es ≡ Some next → contains_key store fork ≡ true → list_any (resets fork block) es ≡ false → list_any (settles fork) es ≡ false
none_made store next [] fork block tidy e there uncut = refl
none_made store next (x ∷ es) fork block tidy e there uncut =
    let p = or_parts (resets fork block x) (list_any (resets fork block) es) uncut in
    let none = act_makes_none store x.act fork block tidy.0 there p.0 in
    middle (apply store x) (λ s. apply_all s es) next e (λ s first rest.
    or_from (settles fork x) _ none (none_made s next es fork block (tidy.1 s first) rest (act_forks_keep x.end store s x.act fork tidy.0 first none ∙ there) p.1))

-- the fork of a block that was touched is there
items_of_fork : (fork : ForkId) (block : ℕ) (items : List Item) → list_any (is_at fork block) items ≡ true → list_any (λ (i : Item). is_same_fork fork i.at.fork) items ≡ true
items_of_fork fork block [] e = absurd cc
items_of_fork fork block (item ∷ items) e =
    elim (is_at fork block item) as (λ b. is_at fork block item ≡ b → list_any (λ (i : Item). is_same_fork fork i.at.fork) (item ∷ items) ≡ true) [
      | true ↦ λ k. or_left (is_same_fork fork item.at.fork) _ (and_parts (is_same_fork fork item.at.fork) (block == item.at.block) k).0
      | false ↦ λ k. or_right (is_same_fork fork item.at.fork) _ (items_of_fork fork block items (or_second (is_at fork block item) (list_any (is_at fork block) items) e k))
    ] refl

pub touched_there : (end : ℕ) (store next : Store) (act : Act) (fork : ForkId) (block : ℕ) → apply_act end store act ≡ Some next → act_touches fork block act ≡ true → contains_key next fork ≡ true
touched_there end store next (Create made) fork block e touched = absurd cc
touched_there end store next (Truncate rel count) fork block e touched = absurd cc
touched_there end store next (Change items) fork block e touched = act_forks edited end store next (Change items) e fork ∙ or_right (contains_key store fork) _ (items_of_fork fork block items touched)
touched_there end store next (Drop rels) fork block e touched = absurd cc
touched_there end store next (Mark marking) fork block e touched = absurd cc

-- tidy entries, in two parts
pub tidy_front : (store : Store) (xs ys : List Entry) → AreTidy store (xs ++ ys) → AreTidy store xs
tidy_front store [] ys t = tt
tidy_front store (x ∷ xs) ys t = (t.0, λ next e. tidy_front next xs ys (t.1 next e))

pub tidy_behind : (store next : Store) (xs ys : List Entry) → AreTidy store (xs ++ ys) → apply_all store xs ≡ Some next → AreTidy next ys
tidy_behind store next [] ys t e = let same : store ≡ next = cc in subst (λ s. AreTidy s ys) same t
tidy_behind store next (x ∷ xs) ys t e = middle (apply store x) (λ s. apply_all s xs) next e (λ s first rest. tidy_behind s next xs ys (t.1 s first) rest)
