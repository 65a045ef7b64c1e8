-- What an item that may be done leaves of a store.
use Rattle.std.proofs.Common.{◌≡◌, ℕ, ◌+◌, ◌-◌, ◌<◌, Bool, true, false, cond, List, [], ◌++◌, length, get_or, replicate, Option, Some, None, option_map, unwrap_or, refl, ap, sym, subst, ◌∙◌, arith, length-append}
use Rattle.std.specs.Prelude.{max, nat_lt, nat_le}
use Rattle.std.specs.FinMap.{get}
use Rattle.std.proofs.lemmas.List.{length-set, length-replicate}
use Rattle.std.proofs.lemmas.Bool.{ltb-false, leb-false}
use Rattle.std.specs.Option.{option_or}
use Rattle.lsn_core.specs.declared.ids.ForkId.{ForkId}
use Rattle.lsn_core.specs.declared.ids.BlockId.{BlockId}
use Rattle.lsn_core.specs.Sizes.{most_blocks}
use Rattle.lsn_core.specs.Store.{Store, ForkPages}
use Rattle.lsn_core.specs.Blocks.{block_count, pages_of, with_block, page_put}
use Rattle.pg_page.specs.Header.{hole_zeroed, with_lsn, zero_page}
use Rattle.pg_page.specs.Frags.{written_frags, patched, is_good}
use Rattle.history.specs.declared.op.Edit.{Edit}
use Rattle.history.specs.declared.op.Edit.TheVariants.{Put, Patch}
use Rattle.history.specs.declared.op.Item.{Item}
use Rattle.history.specs.Apply.{is_same_fork, page_at, edited}
use Rattle.history.specs.Op.{IsReached}
use Rattle.history.specs.Pages.{page_count}
use Rattle.history.proofs.Counts.{page_count-insert}
use Rattle.history.proofs.Stores.{get_here, get_there, by_test}
use Rattle.command_judging.specs.declared.fault.OpFault.{OpFault}
use Rattle.command_judging.specs.declared.fault.OpFault.TheVariants.{ForkFull, PastEnd, NoBlock, BadPage}
use Rattle.command_judging.specs.Refusals.{judged_edit, judged_length, judged_found, behind_item}

-- ---- refusals that don't come

pub first_none : (a b : Option OpFault) → option_or a b ≡ None → (a ≡ None) × (b ≡ None)
first_none None b e = (refl, e)
first_none (Some fault) b e = absurd cc

pub no_fault : (t : Bool) (fault : OpFault) (rest : Option OpFault) → cond t (Some fault) rest ≡ None → (t ≡ false) × (rest ≡ None)
no_fault true fault rest e = absurd cc
no_fault false fault rest e = (refl, e)

pub kept_on : (t : Bool) (fault : OpFault) → cond t None (Some fault) ≡ None → t ≡ true
kept_on true fault e = refl
kept_on false fault e = absurd cc

-- ---- an item that may be done

-- the page that an edit leaves has a good header
abbrev pub Leaves : List ℕ → Edit → Type 0
Leaves old (Put page) = Unit {0}
Leaves old (Patch frags) = is_good (written_frags frags old) ≡ true

pub record MayBeDone (store : Store) (item : Item) : Type 0 where
  pub pages : ForkPages
  pub there : get store item.at.fork ≡ Some pages
  pub reached : IsReached pages item.at.block item.edit
  pub number : item.at.block < most_blocks
  pub leaves : Leaves (page_at store item.at) item.edit

reached : (i : ℕ) (pages : ForkPages) (block : ℕ) (edit : Edit) → judged_edit i pages block edit ≡ None → IsReached pages block edit
reached i pages block (Put page) e = ltb-false (length pages) block (no_fault (nat_lt (length pages) block) PastEnd None e).0
reached i pages block (Patch frags) e = leb-false (length pages) block (no_fault (nat_le (length pages) block) NoBlock _ e).0

leaves : (i : ℕ) (pages : ForkPages) (block : ℕ) (edit : Edit) → judged_edit i pages block edit ≡ None → Leaves (get_or pages block zero_page) edit
leaves i pages block (Put page) e = tt
leaves i pages block (Patch frags) e =
    kept_on (is_good (written_frags frags (get_or pages block zero_page))) (BadPage i)
    (no_fault (nat_le (length pages) block) NoBlock _ e).1

below : (pages : ForkPages) (block : ℕ) → judged_length pages block ≡ None → block < most_blocks
below pages block e = omega (arith, ltb-false most_blocks (max (length pages) (block + 1)) (no_fault (nat_lt most_blocks (max (length pages) (block + 1))) ForkFull None e).0)

pub may_be_done : (i : ℕ) (store : Store) (item : Item) → judged_found i item (get store item.at.fork) ≡ None → MayBeDone store item
may_be_done i store item e = go (get store item.at.fork) refl e
  where
    go : (o : Option ForkPages) → get store item.at.fork ≡ o → judged_found i item o ≡ None → MayBeDone store item
    go None is e = absurd cc
    go (Some pages) is e =
        let parts = first_none (judged_edit i pages item.at.block item.edit) (judged_length pages item.at.block) e in
        record {
          pages = pages;
          there = is;
          reached = reached i pages item.at.block item.edit parts.0;
          number = below pages item.at.block parts.1;
          leaves = subst (λ (ps : ForkPages). Leaves (get_or ps item.at.block zero_page) item.edit) (sym (ap (λ (o : Option ForkPages). unwrap_or o []) is)) (leaves i pages item.at.block item.edit parts.0);
        }

edit_done : (end : ℕ) (old : List ℕ) (edit : Edit) → Leaves old edit → (page : List ℕ) × (edited end old edit ≡ Some page)
edit_done end old (Put page) l = (with_lsn end (hole_zeroed page), refl)
edit_done end old (Patch frags) l = (patched frags end old, ap (λ t. cond t (Some (patched frags end old)) None) l)

pub behind_is : (store : Store) (item : Item) → MayBeDone store item → (page : List ℕ) × (behind_item store item ≡ page_put item.at page store)
behind_is store item may =
    let done = edit_done 0 (page_at store item.at) item.edit may.leaves in
    (done.0, ap (λ (o : Option (List ℕ)). unwrap_or (option_map (λ page. page_put item.at page store) o) store) done.1)

-- ---- how long forks are then

pub length-with_block : (pages : ForkPages) (block : ℕ) (page : List ℕ) → length (with_block pages block page) ≡ max (length pages) (block + 1)
length-with_block pages block page =
    let more = block + 1 - length pages in
    omega (arith, length-set (pages ++ replicate more zero_page) block page, length-append pages (replicate more zero_page), length-replicate more zero_page)

pub blocks_put : (store : Store) (at : BlockId) (page : List ℕ) (pages : ForkPages) → get store at.fork ≡ Some pages → (q : ForkId)
    → block_count (page_put at page store) q ≡ cond (is_same_fork q at.fork) (Some (max (length pages) (at.block + 1))) (block_count store q)
blocks_put store at page pages there q =
    let v = with_block (pages_of store at.fork) at.block page in
    let size : length v ≡ max (length pages) (at.block + 1) = length-with_block (pages_of store at.fork) at.block page ∙ ap (λ (o : Option ForkPages). max (length (unwrap_or o [])) (at.block + 1)) there in
    by_test (is_same_fork q at.fork)
    (λ here. ap (option_map length) (get_here store at.fork q v here) ∙ ap (λ (k : ℕ). Some k) size ∙ sym (ap (λ t. cond t (Some (max (length pages) (at.block + 1))) (block_count store q)) here))
    (λ away. ap (option_map length) (get_there store at.fork q v away) ∙ sym (ap (λ t. cond t (Some (max (length pages) (at.block + 1))) (block_count store q)) away))

-- so many pages are added
pub pages_added : (store : Store) (at : BlockId) (page : List ℕ) (pages : ForkPages) (added : ℕ) → get store at.fork ≡ Some pages → added ≡ at.block + 1 - length pages → page_count (page_put at page store) ≡ page_count store + added
pages_added store at page pages added there is =
    omega (arith, page_count-insert store at.fork (with_block (pages_of store at.fork) at.block page), length-with_block (pages_of store at.fork) at.block page, ap (λ (o : Option ForkPages). length (unwrap_or o [])) there, is)
