-- A command that nothing refuses can be done and written.
use Rattle.std.proofs.Common.{◌≡◌, ℕ, ◌+◌, ◌≤◌, false, cond, List, [], ◌∷◌, ◌++◌, length, Option, Some, None, option_map, unwrap_or, is_some, refl, ap, sym, subst, ◌∙◌, arith}
use Rattle.std.specs.Prelude.{max, nat_lt, ◌||◌}
use Rattle.std.specs.FinMap.{get}
use Rattle.std.specs.List.{All}
use Rattle.std.proofs.lemmas.List.Elements.{All-nil, All-cons}
use Rattle.std.proofs.lemmas.Bool.{or_parts, ltb-false}
use Rattle.lsn_core.specs.declared.ids.ForkId.{ForkId}
use Rattle.lsn_core.specs.declared.ids.BlockId.{BlockId}
use Rattle.lsn_core.specs.Sizes.{most_blocks}
use Rattle.lsn_core.specs.Store.{Store, ForkPages}
use Rattle.lsn_core.specs.Blocks.{block_count, page_put}
use Rattle.pg_page.specs.Frags.{bad_frag}
use Rattle.history.specs.declared.op.Op.{Op}
use Rattle.history.specs.declared.op.Op.TheVariants as op
use Rattle.history.specs.declared.op.Edit.{Edit}
use Rattle.history.specs.declared.op.Edit.TheVariants.{Put, Patch}
use Rattle.history.specs.declared.op.Item.{Item}
use Rattle.history.specs.Apply.{main_fork, is_same_fork, page_at, edited, apply_item}
use Rattle.history.specs.Whole.{is_named}
use Rattle.history.specs.Op.{act_of_op, IsReached, IsTidyItem, AreTidyItems, IsTidyCut, IsTidy, IsFitEdit, IsFitItem, IsFit}
use Rattle.history.proofs.Names.{not_named}
use Rattle.history.proofs.Stores.{page_apart}
use Rattle.command_judging.specs.declared.fault.OpFault.TheVariants.{ForkExists, SameBlock, BadFragment, CutPastEnd}
use Rattle.command_judging.specs.Refusals.{most_items, judged_blocks, judged_frags, judged_edits, judged_found, behind_item, judged_items, judged_cut, judged_op}
use Rattle.command_judging.specs.Judging.{HasGoodFrags, IsFormed}
use Rattle.command_judging.specs.Refusals.{HasItems}
use Rattle.std.specs.Option.{option_or}
use Rattle.command_judging.proofs.Items.{first_none, no_fault, Leaves, MayBeDone, may_be_done, behind_is, blocks_put}

-- ---- what the items show

-- a change that nothing refuses has good items, and each may be done
pub formed : (store : Store) (items : List Item) → (1 ≤ length items) × (length items ≤ most_items) → judged_op store (op.Change items) ≡ None → IsFormed items × (judged_items 0 store items ≡ None)
formed store items number e =
    let blocks = first_none (judged_blocks 0 [] items) (option_or (judged_edits 0 items) (judged_items 0 store items)) e in
    let edits = first_none (judged_edits 0 items) (judged_items 0 store items) blocks.1 in
    (record { some = number.0; most = number.1; blocks = blocks.0; edits = edits.0 }, edits.1)

-- the first item's block is not among those before it, nor is any later one's
pub blocks_on : (i : ℕ) (named : List BlockId) (item : Item) (items : List Item) → judged_blocks i named (item ∷ items) ≡ None → (is_named item.at named ≡ false) × (judged_blocks (i + 1) (named ++ (item.at ∷ [])) items ≡ None)
blocks_on i named item items e = no_fault (is_named item.at named) (SameBlock i) _ e

none_bad : (i : ℕ) (o : Option ℕ) → option_map (λ j. BadFragment i j) o ≡ None → o ≡ None
none_bad i None e = refl
none_bad i (Some j) e = absurd cc

pub good_frags : (i : ℕ) (edit : Edit) → judged_frags i edit ≡ None → HasGoodFrags edit
good_frags i (Put page) e = tt
good_frags i (Patch frags) e = none_bad i (bad_frag frags) e

-- ---- what each item finds

-- a block that no item named has the page of the first store
abbrev Stays : Store → Store → List BlockId → Type 0
Stays first store named = (q : BlockId) → is_named q named ≡ false → page_at store q ≡ page_at first q

stays_on : (first store : Store) (named : List BlockId) (item : Item) → MayBeDone store item → Stays first store named → Stays first (behind_item store item) (named ++ (item.at ∷ []))
stays_on first store named item may stays q n =
    let parts = not_named q item.at named n in
    let put = behind_is store item may in
    ap (λ (s : Store). page_at s q) put.1 ∙ page_apart store item.at q put.0 parts.1 ∙ stays q parts.0

fit_edit : (old : List ℕ) (edit : Edit) → HasGoodFrags edit → Leaves old edit → IsFitEdit old edit
fit_edit old (Put page) good l = tt
fit_edit old (Patch frags) good l = (good, l)

each_fit : (i k m : ℕ) (first store : Store) (named : List BlockId) (items : List Item) → Stays first store named → judged_blocks i named items ≡ None → judged_edits k items ≡ None → judged_items m store items ≡ None → All (IsFitItem first) items
each_fit i k m first store named [] stays blocks edits judged = All-nil (IsFitItem first)
each_fit i k m first store named (item ∷ items) stays blocks edits judged =
    let block = blocks_on i named item items blocks in
    let edit = first_none (judged_frags k item.edit) (judged_edits (k + 1) items) edits in
    let found = first_none (judged_found m item (get store item.at.fork)) (judged_items (m + 1) (behind_item store item) items) judged in
    let may = may_be_done m store item found.0 in
    let fit : IsFitItem first item = record {
      number = may.number;
      edit = fit_edit (page_at first item.at) item.edit (good_frags k item.edit edit.0) (subst (λ (p : List ℕ). Leaves p item.edit) (stays item.at block.0) may.leaves);
    } in
    All-cons (IsFitItem first) item items fit
    (each_fit (i + 1) (k + 1) (m + 1) first (behind_item store item) (named ++ (item.at ∷ [])) items (stays_on first store named item may stays) block.1 edit.1 found.1)

-- ---- no item leaves a gap, whatever LSN the items before it left

abbrev pub AreAsLong : Store → Store → Type 0
AreAsLong a b = (q : ForkId) → block_count a q ≡ block_count b q

reached_as : (a b : ForkPages) (block : ℕ) (edit : Edit) → length a ≡ length b → IsReached a block edit → IsReached b block edit
reached_as a b block (Put page) e r = omega (arith, e, r)
reached_as a b block (Patch frags) e r = omega (arith, e, r)

pub tidy_item : (store other : Store) (item : Item) → MayBeDone store item → AreAsLong store other → IsTidyItem other item
tidy_item store other item may long = go (get other item.at.fork) refl (sym (ap (option_map length) may.there) ∙ long item.at.fork)
  where
    go : (o : Option ForkPages) → get other item.at.fork ≡ o → Some (length may.pages) ≡ option_map length o → IsTidyItem other item
    go None is e = absurd cc
    go (Some pages) is e = record {
      pages = pages;
      there = is;
      reached = reached_as may.pages pages item.at.block item.edit (ap (λ (o : Option ℕ). unwrap_or o 0) e) may.reached;
    }

pub put_some : {A B : Type 0} (put : A → B) (o : Option A) (y : B) → option_map put o ≡ Some y → (x : A) × (y ≡ put x)
put_some put None y e = absurd cc
put_some put (Some x) y e = (x, ap (λ (o : Option _). unwrap_or o y) (sym e))

pub long_on : (store other next : Store) (item : Item) (end : ℕ) → MayBeDone store item → AreAsLong store other → apply_item end other item ≡ Some next → AreAsLong (behind_item store item) next
long_on store other next item end may long done q =
    let here = behind_is store item may in
    let there = put_some (λ (page : List ℕ). page_put item.at page other) (edited end (page_at other item.at) item.edit) next done in
    let tidy = tidy_item store other item may long in
    let size : length may.pages ≡ length tidy.pages = ap (λ (o : Option ℕ). unwrap_or o 0) (sym (ap (option_map length) may.there) ∙ long item.at.fork ∙ ap (option_map length) tidy.there) in
    ap (λ (s : Store). block_count s q) here.1 ∙ blocks_put store item.at here.0 may.pages may.there q
    ∙ ap (λ (k : ℕ). cond (is_same_fork q item.at.fork) (Some (max k (item.at.block + 1))) (block_count store q)) size
    ∙ ap (λ (o : Option ℕ). cond (is_same_fork q item.at.fork) (Some (max (length tidy.pages) (item.at.block + 1))) o) (long q)
    ∙ sym (blocks_put other item.at there.0 tidy.pages tidy.there q) ∙ ap (λ (s : Store). block_count s q) (sym there.1)

tidy_items : (i : ℕ) (store other : Store) (items : List Item) → AreAsLong store other → judged_items i store items ≡ None → AreTidyItems other items
tidy_items i store other [] long e = tt
tidy_items i store other (item ∷ items) long e =
    let found = first_none (judged_found i item (get store item.at.fork)) (judged_items (i + 1) (behind_item store item) items) e in
    let may = may_be_done i store item found.0 in
    (tidy_item store other item may long, λ end next done. tidy_items (i + 1) (behind_item store item) next items (long_on store other next item end may long done) found.1)

-- ---- commands

record MayBeCut (store : Store) (fork : ForkId) (count : ℕ) : Type 0 where
  pub tidy : IsTidyCut store fork count
  pub most : count ≤ most_blocks

cut_within : (a b c : ℕ) → (nat_lt a c || nat_lt b c) ≡ false → (c ≤ a) × (c ≤ b)
cut_within a b c e = let parts = or_parts (nat_lt a c) (nat_lt b c) e in (ltb-false a c parts.0, ltb-false b c parts.1)

may_be_cut : (store : Store) (fork : ForkId) (count : ℕ) → judged_cut count (get store fork) ≡ None → MayBeCut store fork count
may_be_cut store fork count e = go (get store fork) refl e
  where
    go : (o : Option ForkPages) → get store fork ≡ o → judged_cut count o ≡ None → MayBeCut store fork count
    go None is e = absurd cc
    go (Some pages) is e =
        let parts = cut_within (length pages) most_blocks count (no_fault (nat_lt (length pages) count || nat_lt most_blocks count) CutPastEnd None e).0 in
        record { tidy = record { pages = pages; there = is; within = parts.0 }; most = parts.1 }

not_there : (o : Option ForkPages) → is_some o ≡ false → o ≡ None
not_there None e = refl
not_there (Some pages) e = absurd cc

-- nothing refuses it: it finds what it names
pub judged-tidy : (store : Store) (command : Op) → judged_op store command ≡ None → IsTidy store (act_of_op command)
judged-tidy store (op.Create fork) e = not_there (get store fork) (no_fault (is_some (get store fork)) ForkExists None e).0
judged-tidy store (op.Truncate rel count) e = (may_be_cut store (main_fork rel) count e).tidy
judged-tidy store (op.Change items) e =
    let blocks = first_none (judged_blocks 0 [] items) (option_or (judged_edits 0 items) (judged_items 0 store items)) e in
    tidy_items 0 store store items (λ q. refl) (first_none (judged_edits 0 items) (judged_items 0 store items) blocks.1).1
judged-tidy store (op.Drop rel) e = tt

-- it can be written
pub judged-fit : (store : Store) (command : Op) → HasItems command → judged_op store command ≡ None → IsFit store command
judged-fit store (op.Create fork) number e = tt
judged-fit store (op.Truncate rel count) number e = omega (arith, (may_be_cut store (main_fork rel) count e).most)
judged-fit store (op.Change items) number e =
    let parts = formed store items number e in
    let form = parts.0 in
    record { some = form.some; most = omega (arith, form.most); each = each_fit 0 0 0 store store [] items (λ q n. refl) form.blocks form.edits parts.1 }
judged-fit store (op.Drop rel) number e = tt
