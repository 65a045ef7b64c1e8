-- A command that nothing refuses can be done and written, and concerns its own partition alone.
use Rattle.std.proofs.Common.{◌≡◌, ℕ, ◌+◌, ◌-◌, ◌<◌, ◌≤◌, Bool, true, false, cond, ◌&&◌, ◌||◌, List, [], ◌∷◌, ◌++◌, length, get_or, replicate, Option, Some, None, option_map, unwrap_or, is_some, refl, ap, sym, subst, ◌∙◌, arith, length-append, true≢false}
use Rattle.std.specs.Prelude.{◌==◌, ◌%◌, max, nat_lt, nat_le, not}
use Rattle.std.specs.List.{All, list_all, list_any}
use Rattle.std.specs.Option.{option_or}
use Rattle.std.specs.FinMap.{get}
use Rattle.std.proofs.lemmas.List.{length-set, length-replicate}
use Rattle.std.proofs.lemmas.List.Elements.{All-nil, All-cons}
use Rattle.std.proofs.lemmas.Bool.{and_parts, or_parts, eqb-true, ne_eqb, leb-true, ltb-false, leb-false}
use Rattle.lsn_core.specs.declared.ids.ForkId.{ForkId}
use Rattle.lsn_core.specs.declared.ids.BlockId.{BlockId}
use Rattle.lsn_core.specs.Relation.{Relation}
use Rattle.lsn_core.specs.Sizes.{most_blocks}
use Rattle.lsn_core.specs.Store.{Store, ForkPages}
use Rattle.lsn_core.specs.Blocks.{block_count, pages_of, with_block, page_put}
use Rattle.pg_page.specs.Header.{hole_zeroed, with_lsn, zero_page}
use Rattle.pg_page.specs.Frags.{bad_frag, written_frags, patched, is_good}
use Rattle.history.specs.declared.op.Op.{Op}
use Rattle.history.specs.declared.op.Op.TheVariants as op
use Rattle.history.specs.declared.op.Edit.{Edit}
use Rattle.history.specs.declared.op.Edit.TheVariants.{Put, Patch}
use Rattle.history.specs.declared.op.Item.{Item}
use Rattle.history.specs.Apply.{main_fork, is_same_fork, page_at, edited, apply_item}
use Rattle.history.specs.Whole.{is_named, is_patch}
use Rattle.history.specs.Laws.{AreFresh, IsFresh}
use Rattle.history.specs.Op.{act_of_op, IsReached, IsTidyItem, AreTidyItems, IsTidyCut, IsTidy, IsFitEdit, IsFitItem, IsFit}
use Rattle.history.proofs.Names.{not_named}
use Rattle.history.proofs.Stores.{get_here, get_there, by_test, page_apart}
use Rattle.history.specs.partitions.Parts.{partition_of, is_item_of, ConcernsNoOther}
use Rattle.history.proofs.fuzzy_copies.Ranges.{and_false}
use Rattle.store_core.specs.declared.reply.Refusal.{Refusal}
use Rattle.store_core.specs.declared.reply.Refusal.TheVariants.{ForkExists, PastEnd, NoBlock, BadPage, BadFragment, BlockCount, TwoRelations, ForkFull, CutPastEnd, SameBlock}
use Rattle.store_core.specs.Refusals.{most_items, is_same_rel, are_of_one, judged_form, judged_blocks, judged_frags, judged_edits, judged_edit, judged_length, judged_found, behind_item, judged_items, judged_cut, judged_op, part_of_items, part_of_op}

-- an edit's fragments are good
abbrev HasGoodFrags : Edit → Type 0
HasGoodFrags (Put page) = Unit {0}
HasGoodFrags (Patch frags) = bad_frag frags ≡ None

-- ---- refusals that don't come

pub first_none : (a b : Option Refusal) → option_or a b ≡ None → (a ≡ None) × (b ≡ None)
first_none None b e = (refl, e)
first_none (Some refusal) b e = absurd cc

pub no_refusal : (t : Bool) (refusal : Refusal) (rest : Option Refusal) → cond t (Some refusal) rest ≡ None → (t ≡ false) × (rest ≡ None)
no_refusal true refusal rest e = absurd cc
no_refusal false refusal rest e = (refl, e)

pub kept_on : (t : Bool) (refusal : Refusal) → cond t None (Some refusal) ≡ None → t ≡ true
kept_on true refusal e = refl
kept_on false refusal e = absurd cc

-- ---- an item that may be done

-- the page that an edit leaves has a good header
abbrev pub Leaves : List ℕ → Edit → Type 0
Leaves old (Put page) = Unit {0}
Leaves old (Patch frags) = is_good (written_frags frags old) ≡ true

pub record MayBeDone (store : Store) (item : Item) : Type 0 where
  pub pages : ForkPages
  pub there : get store item.at.fork ≡ Some pages
  pub reached : IsReached pages item.at.block item.edit
  pub number : item.at.block < most_blocks
  pub leaves : Leaves (page_at store item.at) item.edit

reached : (n i : ℕ) (pages : ForkPages) (block : ℕ) (edit : Edit) → judged_edit n i pages block edit ≡ None → IsReached pages block edit
reached n i pages block (Put page) e = ltb-false (length pages) block (no_refusal (nat_lt (length pages) block) (PastEnd n) None e).0
reached n i pages block (Patch frags) e = leb-false (length pages) block (no_refusal (nat_le (length pages) block) (NoBlock n) _ e).0

leaves : (n i : ℕ) (pages : ForkPages) (block : ℕ) (edit : Edit) → judged_edit n i pages block edit ≡ None → Leaves (get_or pages block zero_page) edit
leaves n i pages block (Put page) e = tt
leaves n i pages block (Patch frags) e =
    kept_on (is_good (written_frags frags (get_or pages block zero_page))) (BadPage i n)
    (no_refusal (nat_le (length pages) block) (NoBlock n) _ e).1

below : (n : ℕ) (pages : ForkPages) (block : ℕ) → judged_length n pages block ≡ None → block < most_blocks
below n pages block e = omega (arith, ltb-false most_blocks (max (length pages) (block + 1)) (no_refusal (nat_lt most_blocks (max (length pages) (block + 1))) (ForkFull n) None e).0)

pub may_be_done : (n i : ℕ) (store : Store) (item : Item) → judged_found n i item (get store item.at.fork) ≡ None → MayBeDone store item
may_be_done n i store item e = go (get store item.at.fork) refl e
  where
    go : (o : Option ForkPages) → get store item.at.fork ≡ o → judged_found n i item o ≡ None → MayBeDone store item
    go None is e = absurd cc
    go (Some pages) is e =
        let parts = first_none (judged_edit n i pages item.at.block item.edit) (judged_length n pages item.at.block) e in
        record {
          pages = pages;
          there = is;
          reached = reached n i pages item.at.block item.edit parts.0;
          number = below n pages item.at.block parts.1;
          leaves = subst (λ (ps : ForkPages). Leaves (get_or ps item.at.block zero_page) item.edit) (sym (ap (λ (o : Option ForkPages). unwrap_or o []) is)) (leaves n i pages item.at.block item.edit parts.0);
        }

edit_done : (end : ℕ) (old : List ℕ) (edit : Edit) → Leaves old edit → (page : List ℕ) × (edited end old edit ≡ Some page)
edit_done end old (Put page) l = (with_lsn end (hole_zeroed page), refl)
edit_done end old (Patch frags) l = (patched frags end old, ap (λ t. cond t (Some (patched frags end old)) None) l)

pub behind_is : (store : Store) (item : Item) → MayBeDone store item → (page : List ℕ) × (behind_item store item ≡ page_put item.at page store)
behind_is store item may =
    let done = edit_done 0 (page_at store item.at) item.edit may.leaves in
    (done.0, ap (λ (o : Option (List ℕ)). unwrap_or (option_map (λ page. page_put item.at page store) o) store) done.1)

-- ---- how long forks are then

pub length-with_block : (pages : ForkPages) (block : ℕ) (page : List ℕ) → length (with_block pages block page) ≡ max (length pages) (block + 1)
length-with_block pages block page =
    let more = block + 1 - length pages in
    omega (arith, length-set (pages ++ replicate more zero_page) block page, length-append pages (replicate more zero_page), length-replicate more zero_page)

pub blocks_put : (store : Store) (at : BlockId) (page : List ℕ) (pages : ForkPages) → get store at.fork ≡ Some pages → (q : ForkId)
    → block_count (page_put at page store) q ≡ cond (is_same_fork q at.fork) (Some (max (length pages) (at.block + 1))) (block_count store q)
blocks_put store at page pages there q =
    let v = with_block (pages_of store at.fork) at.block page in
    let size : length v ≡ max (length pages) (at.block + 1) = length-with_block (pages_of store at.fork) at.block page ∙ ap (λ (o : Option ForkPages). max (length (unwrap_or o [])) (at.block + 1)) there in
    by_test (is_same_fork q at.fork)
    (λ here. ap (option_map length) (get_here store at.fork q v here) ∙ ap (λ (k : ℕ). Some k) size ∙ sym (ap (λ t. cond t (Some (max (length pages) (at.block + 1))) (block_count store q)) here))
    (λ away. ap (option_map length) (get_there store at.fork q v away) ∙ sym (ap (λ t. cond t (Some (max (length pages) (at.block + 1))) (block_count store q)) away))

-- the first item's block is not among those before it, nor is any later one's
pub blocks_on : (i : ℕ) (named : List BlockId) (item : Item) (items : List Item) → judged_blocks i named (item ∷ items) ≡ None → (is_named item.at named ≡ false) × (judged_blocks (i + 1) (named ++ (item.at ∷ [])) items ≡ None)
blocks_on i named item items e = no_refusal (is_named item.at named) (SameBlock i) _ e

none_bad : (i : ℕ) (o : Option ℕ) → option_map (λ j. BadFragment i j) o ≡ None → o ≡ None
none_bad i None e = refl
none_bad i (Some j) e = absurd cc

pub good_frags : (i : ℕ) (edit : Edit) → judged_frags i edit ≡ None → HasGoodFrags edit
good_frags i (Put page) e = tt
good_frags i (Patch frags) e = none_bad i (bad_frag frags) e

-- ---- what each item finds

-- a block that no item named has the page of the first store
abbrev Stays : Store → Store → List BlockId → Type 0
Stays first store named = (q : BlockId) → is_named q named ≡ false → page_at store q ≡ page_at first q

stays_on : (first store : Store) (named : List BlockId) (item : Item) → MayBeDone store item → Stays first store named → Stays first (behind_item store item) (named ++ (item.at ∷ []))
stays_on first store named item may stays q n =
    let parts = not_named q item.at named n in
    let put = behind_is store item may in
    ap (λ (s : Store). page_at s q) put.1 ∙ page_apart store item.at q put.0 parts.1 ∙ stays q parts.0

fit_edit : (old : List ℕ) (edit : Edit) → HasGoodFrags edit → Leaves old edit → IsFitEdit old edit
fit_edit old (Put page) good l = tt
fit_edit old (Patch frags) good l = (good, l)

each_fit : (n i k m : ℕ) (first store : Store) (named : List BlockId) (items : List Item) → Stays first store named → judged_blocks i named items ≡ None → judged_edits k items ≡ None → judged_items n m store items ≡ None → All (IsFitItem first) items
each_fit n i k m first store named [] stays blocks edits judged = All-nil (IsFitItem first)
each_fit n i k m first store named (item ∷ items) stays blocks edits judged =
    let block = blocks_on i named item items blocks in
    let edit = first_none (judged_frags k item.edit) (judged_edits (k + 1) items) edits in
    let found = first_none (judged_found n m item (get store item.at.fork)) (judged_items n (m + 1) (behind_item store item) items) judged in
    let may = may_be_done n m store item found.0 in
    let fit : IsFitItem first item = record {
      number = may.number;
      edit = fit_edit (page_at first item.at) item.edit (good_frags k item.edit edit.0) (subst (λ (p : List ℕ). Leaves p item.edit) (stays item.at block.0) may.leaves);
    } in
    All-cons (IsFitItem first) item items fit
    (each_fit n (i + 1) (k + 1) (m + 1) first (behind_item store item) (named ++ (item.at ∷ [])) items (stays_on first store named item may stays) block.1 edit.1 found.1)

-- ---- no item leaves a gap, whatever LSN the items before it left

abbrev pub AreAsLong : Store → Store → Type 0
AreAsLong a b = (q : ForkId) → block_count a q ≡ block_count b q

reached_as : (a b : ForkPages) (block : ℕ) (edit : Edit) → length a ≡ length b → IsReached a block edit → IsReached b block edit
reached_as a b block (Put page) e r = omega (arith, e, r)
reached_as a b block (Patch frags) e r = omega (arith, e, r)

pub tidy_item : (store other : Store) (item : Item) → MayBeDone store item → AreAsLong store other → IsTidyItem other item
tidy_item store other item may long = go (get other item.at.fork) refl (sym (ap (option_map length) may.there) ∙ long item.at.fork)
  where
    go : (o : Option ForkPages) → get other item.at.fork ≡ o → Some (length may.pages) ≡ option_map length o → IsTidyItem other item
    go None is e = absurd cc
    go (Some pages) is e = record {
      pages = pages;
      there = is;
      reached = reached_as may.pages pages item.at.block item.edit (ap (λ (o : Option ℕ). unwrap_or o 0) e) may.reached;
    }

pub put_some : {A B : Type 0} (put : A → B) (o : Option A) (y : B) → option_map put o ≡ Some y → (x : A) × (y ≡ put x)
put_some put None y e = absurd cc
put_some put (Some x) y e = (x, ap (λ (o : Option _). unwrap_or o y) (sym e))

pub long_on : (store other next : Store) (item : Item) (end : ℕ) → MayBeDone store item → AreAsLong store other → apply_item end other item ≡ Some next → AreAsLong (behind_item store item) next
long_on store other next item end may long done q =
    let here = behind_is store item may in
    let there = put_some (λ (page : List ℕ). page_put item.at page other) (edited end (page_at other item.at) item.edit) next done in
    let tidy = tidy_item store other item may long in
    let size : length may.pages ≡ length tidy.pages = ap (λ (o : Option ℕ). unwrap_or o 0) (sym (ap (option_map length) may.there) ∙ long item.at.fork ∙ ap (option_map length) tidy.there) in
    ap (λ (s : Store). block_count s q) here.1 ∙ blocks_put store item.at here.0 may.pages may.there q
    ∙ ap (λ (k : ℕ). cond (is_same_fork q item.at.fork) (Some (max k (item.at.block + 1))) (block_count store q)) size
    ∙ ap (λ (o : Option ℕ). cond (is_same_fork q item.at.fork) (Some (max (length tidy.pages) (item.at.block + 1))) o) (long q)
    ∙ sym (blocks_put other item.at there.0 tidy.pages tidy.there q) ∙ ap (λ (s : Store). block_count s q) (sym there.1)

tidy_items : (n i : ℕ) (store other : Store) (items : List Item) → AreAsLong store other → judged_items n i store items ≡ None → AreTidyItems other items
tidy_items n i store other [] long e = tt
tidy_items n i store other (item ∷ items) long e =
    let found = first_none (judged_found n i item (get store item.at.fork)) (judged_items n (i + 1) (behind_item store item) items) e in
    let may = may_be_done n i store item found.0 in
    (tidy_item store other item may long, λ end next done. tidy_items n (i + 1) (behind_item store item) next items (long_on store other next item end may long done) found.1)

-- ---- commands

record MayBeCut (store : Store) (fork : ForkId) (count : ℕ) : Type 0 where
  pub tidy : IsTidyCut store fork count
  pub most : count ≤ most_blocks

cut_within : (a b c : ℕ) → (nat_lt a c || nat_lt b c) ≡ false → (c ≤ a) × (c ≤ b)
cut_within a b c e = let parts = or_parts (nat_lt a c) (nat_lt b c) e in (ltb-false a c parts.0, ltb-false b c parts.1)

may_be_cut : (n : ℕ) (store : Store) (fork : ForkId) (count : ℕ) → judged_cut n count (get store fork) ≡ None → MayBeCut store fork count
may_be_cut n store fork count e = go (get store fork) refl e
  where
    go : (o : Option ForkPages) → get store fork ≡ o → judged_cut n count o ≡ None → MayBeCut store fork count
    go None is e = absurd cc
    go (Some pages) is e =
        let parts = cut_within (length pages) most_blocks count (no_refusal (nat_lt (length pages) count || nat_lt most_blocks count) (CutPastEnd n) None e).0 in
        record { tidy = record { pages = pages; there = is; within = parts.0 }; most = parts.1 }

not_there : (o : Option ForkPages) → is_some o ≡ false → o ≡ None
not_there None e = refl
not_there (Some pages) e = absurd cc

-- what a change that nothing refuses shows
pub record IsFormed (n : ℕ) (store : Store) (items : List Item) : Type 0 where
  pub some : 1 ≤ length items
  pub most : length items ≤ most_items
  pub one : are_of_one items ≡ true
  pub blocks : judged_blocks 0 [] items ≡ None
  pub edits : judged_edits 0 items ≡ None
  pub found : judged_items n 0 store items ≡ None

not_not : (t : Bool) → not t ≡ false → t ≡ true
not_not true e = refl
not_not false e = absurd (true≢false e)

pub formed : (n : ℕ) (store : Store) (items : List Item) → judged_op n store (op.Change items) ≡ None → IsFormed n store items
formed n store items e =
    let form = first_none (judged_form items) (option_or (judged_blocks 0 [] items) (option_or (judged_edits 0 items) (judged_items n 0 store items))) e in
    let blocks = first_none (judged_blocks 0 [] items) (option_or (judged_edits 0 items) (judged_items n 0 store items)) form.1 in
    let edits = first_none (judged_edits 0 items) (judged_items n 0 store items) blocks.1 in
    let count = no_refusal (not (nat_le 1 (length items) && nat_le (length items) most_items)) BlockCount (cond (not (are_of_one items)) (Some TwoRelations) None) form.0 in
    let both = and_parts (nat_le 1 (length items)) (nat_le (length items) most_items) (not_not (nat_le 1 (length items) && nat_le (length items) most_items) count.0) in
    let one = no_refusal (not (are_of_one items)) TwoRelations None count.1 in
    record {
      some = leb-true 1 (length items) both.0;
      most = leb-true (length items) most_items both.1;
      one = not_not (are_of_one items) one.0;
      blocks = blocks.0;
      edits = edits.0;
      found = edits.1;
    }

-- nothing refuses it: it finds what it names
pub judged-tidy : (n : ℕ) (store : Store) (command : Op) → judged_op n store command ≡ None → IsTidy store (act_of_op command)
judged-tidy n store (op.Create fork) e = not_there (get store fork) (no_refusal (is_some (get store fork)) (ForkExists n) None e).0
judged-tidy n store (op.Truncate rel count) e = (may_be_cut n store (main_fork rel) count e).tidy
judged-tidy n store (op.Change items) e = tidy_items n 0 store store items (λ q. refl) (formed n store items e).found
judged-tidy n store (op.Drop rel) e = tt

-- it can be written
pub judged-fit : (n : ℕ) (store : Store) (command : Op) → judged_op n store command ≡ None → IsFit store command
judged-fit n store (op.Create fork) e = tt
judged-fit n store (op.Truncate rel count) e = omega (arith, (may_be_cut n store (main_fork rel) count e).most)
judged-fit n store (op.Change items) e =
    let form = formed n store items e in
    record { some = form.some; most = omega (arith, form.most); each = each_fit n 0 0 0 store store [] items (λ q none. refl) form.blocks form.edits form.found }
judged-fit n store (op.Drop rel) e = tt

-- no patch of it is of a block that an earlier item names
fresh_items : (i : ℕ) (named : List BlockId) (items : List Item) → judged_blocks i named items ≡ None → AreFresh named items
fresh_items i named [] e = tt
fresh_items i named (item ∷ items) e =
    let block = blocks_on i named item items e in
    (ap (λ b. is_patch item.edit && b) block.0 ∙ and_false (is_patch item.edit), fresh_items (i + 1) (named ++ (item.at ∷ [])) items block.1)

pub judged-fresh : (n : ℕ) (store : Store) (command : Op) → judged_op n store command ≡ None → IsFresh (act_of_op command)
judged-fresh n store (op.Create fork) e = tt
judged-fresh n store (op.Truncate rel count) e = tt
judged-fresh n store (op.Change items) e = fresh_items 0 [] items (formed n store items e).blocks
judged-fresh n store (op.Drop rel) e = tt

-- ---- its partition

same_part : (a b : Relation) → is_same_rel a b ≡ true → partition_of b ≡ partition_of a
same_part a b e = ap (λ (k : ℕ). k % 4) (sym (eqb-true a.rel b.rel (and_parts (a.db == b.db) (a.rel == b.rel) e).1))

others_apart : (rel : Relation) (other : ℕ) (items : List Item) → (other ≡ partition_of rel → ⊥) → list_all (λ i. is_same_rel rel i.at.fork.rel) items ≡ true → list_any (is_item_of other) items ≡ false
others_apart rel other [] apart e = refl
others_apart rel other (item ∷ items) apart e =
    let p = and_parts (is_same_rel rel item.at.fork.rel) (list_all (λ i. is_same_rel rel i.at.fork.rel) items) e in
    let here : (partition_of item.at.fork.rel == other) ≡ false = ne_eqb (partition_of item.at.fork.rel) other (λ k. apart (sym k ∙ same_part rel item.at.fork.rel p.0)) in
    ap (λ b. b || list_any (is_item_of other) items) here ∙ others_apart rel other items apart p.1

items_apart : (items : List Item) (other : ℕ) → (other ≡ part_of_items items → ⊥) → are_of_one items ≡ true → list_any (is_item_of other) items ≡ false
items_apart [] other apart e = refl
items_apart (item ∷ items) other apart e =
    let here : is_item_of other item ≡ false = ne_eqb (partition_of item.at.fork.rel) other (λ k. apart (sym k)) in
    ap (λ b. b || list_any (is_item_of other) items) here ∙ others_apart item.at.fork.rel other items apart e

pub judged-own : (n : ℕ) (store : Store) (command : Op) → judged_op n store command ≡ None → ConcernsNoOther (part_of_op command) (act_of_op command)
judged-own n store (op.Create fork) e other apart = ne_eqb (partition_of fork.rel) other (λ k. apart (sym k))
judged-own n store (op.Truncate rel count) e other apart = ne_eqb (partition_of rel) other (λ k. apart (sym k))
judged-own n store (op.Change items) e other apart = items_apart items other apart (formed n store items e).one
judged-own n store (op.Drop rel) e other apart = ap (λ b. b || false) (ne_eqb (partition_of rel) other (λ k. apart (sym k)))

pub part_below : (command : Op) → part_of_op command < 4
part_below (op.Create fork) = omega arith
part_below (op.Truncate rel count) = omega arith
part_below (op.Change []) = omega arith
part_below (op.Change (item ∷ items)) = omega arith
part_below (op.Drop rel) = omega arith
