-- Items judged in turn, on the store before the command.
use Rattle.std.proofs.Common.{◌≡◌, ℕ, ◌+◌, ◌-◌, ◌<◌, ◌≤◌, true, false, cond, List, [], ◌∷◌, ◌++◌, map, take, drop, length, get_or, Option, Some, None, option_map, unwrap_or, refl, ap, sym, subst, ◌∙◌, arith}
use Rattle.std.specs.Prelude.{max}
use Rattle.std.specs.FinMap.{get}
use Rattle.std.proofs.lemmas.List.{drop_more, take_more, length-take-le}
use Rattle.std.specs.Option.{option_or}
use Rattle.lsn_core.specs.declared.ids.ForkId.{ForkId}
use Rattle.lsn_core.specs.declared.ids.BlockId.{BlockId}
use Rattle.lsn_core.specs.Store.{Store, ForkPages}
use Rattle.lsn_core.specs.Blocks.{block_count, pages_of, page_put}
use Rattle.lsn_core.specs.byte_words.Numbers.{◌>>=◌}
use Rattle.lsn_core.proofs.byte_words.Fields.{bind_some}
use Rattle.history.specs.declared.op.Edit.{Edit}
use Rattle.history.specs.declared.op.Edit.TheVariants.{Put, Patch}
use Rattle.history.specs.declared.op.Item.{Item}
use Rattle.history.specs.Apply.{is_same_fork, page_at, edited, apply_item, apply_items}
use Rattle.history.specs.Op.{IsReached}
use Rattle.history.specs.Pages.{page_count}
use Rattle.history.specs.Whole.{is_named}
use Rattle.history.proofs.Names.{not_named}
use Rattle.history.proofs.Pushes.{map-push}
use Rattle.history.proofs.Stores.{fork_is, page_apart, by_test}
use Rattle.command_judging.specs.Refusals.{judged_blocks, judged_frags, judged_edits, judged_found, behind_item, judged_items}
use Rattle.command_judging.specs.Judging.{grown, IsBehind, IsFormed, item_adds}
use Rattle.command_judging.proofs.Items.{first_none, MayBeDone, may_be_done, behind_is, blocks_put, pages_added}
use Rattle.command_judging.proofs.Judged.{blocks_on, AreAsLong, long_on, tidy_item, put_some}

abbrev pub names : List Item → List BlockId
names items = map (λ (i : Item). i.at) items

-- ---- one item more

grown-push : (items : List Item) (item : Item) (q : ForkId) (count : ℕ) → grown (items ++ (item ∷ [])) q count ≡ cond (is_same_fork q item.at.fork) (max (grown items q count) (item.at.block + 1)) (grown items q count)
grown-push [] item q count = refl
grown-push (x ∷ items) item q count = grown-push items item q (cond (is_same_fork q x.at.fork) (max count (x.at.block + 1)) count)

grown_here : (items : List Item) (item : Item) (q : ForkId) (o : Option ℕ) (count : ℕ) → is_same_fork q item.at.fork ≡ true → Some count ≡ option_map (grown items q) o
    → Some (max count (item.at.block + 1)) ≡ option_map (grown (items ++ (item ∷ [])) q) o
grown_here items item q None count here e = absurd cc
grown_here items item q (Some n) count here e =
    let same : count ≡ grown items q n = ap (λ (o : Option ℕ). unwrap_or o 0) e in
    ap (λ (k : ℕ). Some (max k (item.at.block + 1))) same
    ∙ sym (ap (λ (k : ℕ). Some k) (grown-push items item q n ∙ ap (λ t. cond t (max (grown items q n) (item.at.block + 1)) (grown items q n)) here))

grown_away : (items : List Item) (item : Item) (q : ForkId) (o : Option ℕ) → is_same_fork q item.at.fork ≡ false → option_map (grown items q) o ≡ option_map (grown (items ++ (item ∷ [])) q) o
grown_away items item q None away = refl
grown_away items item q (Some n) away = sym (ap (λ (k : ℕ). Some k) (grown-push items item q n ∙ ap (λ t. cond t (max (grown items q n) (item.at.block + 1)) (grown items q n)) away))

behind_blocks : (first store : Store) (items : List Item) (item : Item) (may : MayBeDone store item) → IsBehind first items store → (q : ForkId)
    → block_count (behind_item store item) q ≡ option_map (grown (items ++ (item ∷ [])) q) (block_count first q)
behind_blocks first store items item may behind q =
    let put = behind_is store item may in
    ap (λ (s : Store). block_count s q) put.1 ∙ blocks_put store item.at put.0 may.pages may.there q
    ∙ by_test (is_same_fork q item.at.fork)
    (λ here.
    let found : Some (length may.pages) ≡ option_map (grown items q) (block_count first q) =
    sym (ap (option_map length) may.there) ∙ ap (block_count store) (sym (fork_is q item.at.fork here)) ∙ behind.blocks q in
    ap (λ t. cond t (Some (max (length may.pages) (item.at.block + 1))) (block_count store q)) here ∙ grown_here items item q (block_count first q) (length may.pages) here found)
    (λ away. ap (λ t. cond t (Some (max (length may.pages) (item.at.block + 1))) (block_count store q)) away ∙ behind.blocks q ∙ grown_away items item q (block_count first q) away)

behind_pages : (first store : Store) (items : List Item) (item : Item) → MayBeDone store item → IsBehind first items store → (q : BlockId) → is_named q (names (items ++ (item ∷ []))) ≡ false
    → page_at (behind_item store item) q ≡ page_at first q
behind_pages first store items item may behind q n =
    let put = behind_is store item may in
    let parts = not_named q item.at (names items) (sym (ap (is_named q) (map-push (λ (i : Item). i.at) items item)) ∙ n) in
    ap (λ (s : Store). page_at s q) put.1 ∙ page_apart store item.at q put.0 parts.1 ∙ behind.pages q parts.0

behind_on : (first store : Store) (items : List Item) (item : Item) → MayBeDone store item → IsBehind first items store → IsBehind first (items ++ (item ∷ [])) (behind_item store item)
behind_on first store items item may behind = record { blocks = behind_blocks first store items item may behind; pages = behind_pages first store items item may behind }

-- ---- items done, by any entry

pub last_done : (end : ℕ) (store : Store) (items : List Item) (item : Item) (next : Store) → apply_items end store (items ++ (item ∷ [])) ≡ Some next → (mid : Store) × (apply_items end store items ≡ Some mid) × (apply_item end mid item ≡ Some next)
last_done end store [] item next e =
    let one = bind_some (apply_item end store item) (λ n. Some n) next e in
    (store, refl, one.1 ∙ one.2)
last_done end store (x ∷ items) item next e =
    let one = bind_some (apply_item end store x) (λ n. apply_items end n (items ++ (item ∷ []))) next e in
    let more = last_done end one.0 items item next one.2 in
    (more.0, ap (λ (o : Option Store). o >>= λ n. apply_items end n items) one.1 ∙ more.1, more.2)

-- so many pages are added by items done on a store, whose forks are then as long as another one's
pub record IsAfter (first store next : Store) (added : ℕ) : Type 0 where
  pub long : AreAsLong store next
  pub count : page_count next ≡ page_count first + added

after_none : (end : ℕ) (first next : Store) → Some first ≡ Some next → IsAfter first first next 0
after_none end first next e =
    let same : first ≡ next = ap (λ (o : Option Store). unwrap_or o first) e in
    record { long = λ q. ap (λ (s : Store). block_count s q) same; count = omega (arith, ap page_count same) }

size_of : (a b : ForkPages) (o p : Option ForkPages) → o ≡ Some a → p ≡ Some b → option_map length o ≡ option_map length p → length a ≡ length b
size_of a b o p x y e = ap (λ (o : Option ℕ). unwrap_or o 0) (sym (ap (option_map length) x) ∙ (e ∙ ap (option_map length) y))

after_one : (first store mid next : Store) (item : Item) (end added more : ℕ) → MayBeDone store item → IsAfter first store mid added → more ≡ item_adds store item → apply_item end mid item ≡ Some next → IsAfter first (behind_item store item) next (added + more)
after_one first store mid next item end added more may after more_is done =
    let put = put_some (λ (page : List ℕ). page_put item.at page mid) (edited end (page_at mid item.at) item.edit) next done in
    let tidy = tidy_item store mid item may after.long in
    let size : length may.pages ≡ length tidy.pages = size_of may.pages tidy.pages (get store item.at.fork) (get mid item.at.fork) may.there tidy.there (after.long item.at.fork) in
    let here : length (pages_of store item.at.fork) ≡ length may.pages = ap (λ (o : Option ForkPages). length (unwrap_or o [])) may.there in
    let adds : more ≡ item.at.block + 1 - length tidy.pages = omega (arith, more_is, here, size) in
    record {
      long = long_on store mid next item end may after.long done;
      count = omega (arith, ap page_count put.1, pages_added mid item.at put.0 tidy.pages more tidy.there adds, after.count);
    }

-- ---- the walk

-- some items were judged, and may be done with so many pages added
pub record Walked (first : Store) (items : List Item) (at added : ℕ) : Type 0 where
  pub store : Store
  pub behind : IsBehind first (take at items) store
  pub after : (end : ℕ) (next : Store) → apply_items end first (take at items) ≡ Some next → IsAfter first store next added
  pub few : added ≤ at
  pub rest : judged_items at store (drop at items) ≡ judged_items 0 first items
  pub blocks : judged_blocks at (names (take at items)) (drop at items) ≡ None
  pub edits : judged_edits at (drop at items) ≡ None

nothing_grown : (o : Option ℕ) (q : ForkId) → o ≡ option_map (grown [] q) o
nothing_grown None q = refl
nothing_grown (Some n) q = refl

pub walk_begun : (first : Store) (items : List Item) → IsFormed items → Walked first items 0 0
walk_begun first items form = record {
  store = first;
  behind = record { blocks = λ q. nothing_grown (block_count first q) q; pages = λ q named. refl };
  after = λ end next e. after_none end first next e;
  few = omega arith;
  rest = refl;
  blocks = form.blocks;
  edits = form.edits;
}

module _ (first : Store) (items : List Item) (at added : ℕ) (item : Item) (within : at < length items) (is : item ≡ get_or items at item) (walked : Walked first items at added) where
  so_many : length (take at items) ≡ at
  so_many = length-take-le at items (omega (arith, within))

  next_is : drop at items ≡ item ∷ drop (at + 1) items
  next_is = drop_more items at item within ∙ ap (λ (x : Item). x ∷ drop (at + 1) items) (sym is)

  taken : take (at + 1) items ≡ take at items ++ (item ∷ [])
  taken = take_more items at item within ∙ ap (λ (x : Item). take at items ++ (x ∷ [])) (sym is)

  blocks_next : (is_named item.at (names (take at items)) ≡ false) × (judged_blocks (at + 1) (names (take at items) ++ (item.at ∷ [])) (drop (at + 1) items) ≡ None)
  blocks_next = blocks_on at (names (take at items)) item (drop (at + 1) items) (ap (judged_blocks at (names (take at items))) (sym next_is) ∙ walked.blocks)

  edits_next : (judged_frags at item.edit ≡ None) × (judged_edits (at + 1) (drop (at + 1) items) ≡ None)
  edits_next = first_none (judged_frags at item.edit) (judged_edits (at + 1) (drop (at + 1) items)) (ap (judged_edits at) (sym next_is) ∙ walked.edits)

  next_names : names (take (at + 1) items) ≡ names (take at items) ++ (item.at ∷ [])
  next_names = ap names taken ∙ map-push (λ (i : Item). i.at) (take at items) item

  rest_next : option_or (judged_found at item (get walked.store item.at.fork)) (judged_items (at + 1) (behind_item walked.store item) (drop (at + 1) items)) ≡ judged_items 0 first items
  rest_next = ap (judged_items at walked.store) (sym next_is) ∙ walked.rest

  one_at_most : (pages : ForkPages) (edit : Edit) → IsReached pages item.at.block edit → item.at.block + 1 - length pages ≤ 1
  one_at_most pages (Put page) r = omega (arith, r)
  one_at_most pages (Patch frags) r = omega (arith, r)

  free : None ≡ judged_found (length (take at items)) item (get walked.store item.at.fork) → judged_found at item (get walked.store item.at.fork) ≡ None
  free none = sym (none ∙ ap (λ (k : ℕ). judged_found k item (get walked.store item.at.fork)) so_many)

  -- so it adds one page at most
  walk_few : (more : ℕ) → None ≡ judged_found (length (take at items)) item (get walked.store item.at.fork) → more ≡ item_adds walked.store item → more ≤ 1
  walk_few more none adds =
      let may = may_be_done at walked.store item (free none) in
      omega (arith, adds, ap (λ (o : Option ForkPages). length (unwrap_or o [])) may.there, one_at_most may.pages item.edit may.reached)

  -- it may be done
  pub walk_on : (more : ℕ) → None ≡ judged_found (length (take at items)) item (get walked.store item.at.fork) → more ≡ item_adds walked.store item → Walked first items (at + 1) (added + more)
  walk_on more none adds =
      let found = free none in
      let may = may_be_done at walked.store item found in
      record {
        store = behind_item walked.store item;
        behind = subst (λ (is : List Item). IsBehind first is (behind_item walked.store item)) (sym taken) (behind_on first walked.store (take at items) item may walked.behind);
        after = λ end last e.
            let done = last_done end first (take at items) item last (ap (apply_items end first) (sym taken) ∙ e) in
            after_one first walked.store done.0 last item end added more may (walked.after end done.0 done.1) adds done.2;
        few = omega (arith, walked.few, walk_few more none adds);
        rest = sym (ap (λ o. option_or o (judged_items (at + 1) (behind_item walked.store item) (drop (at + 1) items))) found) ∙ rest_next;
        blocks = ap (λ (bs : List BlockId). judged_blocks (at + 1) bs (drop (at + 1) items)) next_names ∙ blocks_next.1;
        edits = edits_next.1;
      }
