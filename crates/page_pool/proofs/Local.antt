-- Commands judged on stores that are alike at their blocks.
use Rattle.std.proofs.Common.{◌≡◌, ℕ, ◌+◌, true, cond, ◌||◌, List, [], ◌∷◌, map, length, get_or, Option, Some, None, is_some, option_map, unwrap_or, refl, ap, sym, subst, ◌∙◌}
use Rattle.std.specs.Prelude.{max, nat_lt, nat_le, if◌then◌else◌}
use Rattle.std.specs.Option.{option_or}
use Rattle.std.proofs.Math.Bool.{or-true}
use Rattle.std.specs.FinMap.{get}
use Rattle.lsn_core.specs.declared.ids.ForkId.{ForkId}
use Rattle.lsn_core.specs.declared.ids.BlockId.{BlockId}
use Rattle.lsn_core.specs.Store.{Store, ForkPages}
use Rattle.lsn_core.specs.Blocks.{block_count, pages_of, with_block, page_put}
use Rattle.pg_page.specs.Header.{zero_page}
use Rattle.history.specs.declared.op.Edit.{Edit}
use Rattle.history.specs.declared.op.Edit.TheVariants.{Put, Patch}
use Rattle.history.specs.declared.op.Item.{Item}
use Rattle.history.specs.declared.op.Op.{Op}
use Rattle.history.specs.declared.op.Op.TheVariants as op
use Rattle.history.specs.Apply.{is_same_fork, is_same_block, page_at, edited, main_fork, init_fork}
use Rattle.history.specs.Whole.{is_named}
use Rattle.history.specs.Op.{act_of_op}
use Rattle.history.specs.Written.{kind_of, block_of_item, block_over}
use Rattle.wal_record.specs.declared.record.BlockRef.{BlockRef}
use Rattle.wal_record.specs.declared.record.Kind.TheVariants as kind
use Rattle.history.proofs.Stores.{by_test, get_here, get_there, page_here, page_apart, block_is, block_self}
use Rattle.command_judging.specs.declared.fault.OpFault.{OpFault}
use Rattle.command_judging.specs.declared.fault.OpFault.TheVariants.{NoFork, ForkExists, PastEnd, NoBlock, BadPage, ForkFull, CutPastEnd}
use Rattle.lsn_core.specs.Sizes.{most_blocks}
use Rattle.pg_page.specs.Frags.{written_frags, is_good}
use Rattle.command_judging.specs.Refusals.{judged_op, judged_blocks, judged_edits, judged_edit, judged_length, judged_found, judged_items, judged_cut, behind_item}
use Rattle.command_judging.proofs.Items.{length-with_block}
use Rattle.page_pool.specs.Room.{blocks_of}

-- two stores have the same forks, of as many blocks, and the same pages at some blocks
pub record AreAlikeAt (blocks : List BlockId) (a b : Store) : Type 0 where
  pub counts : (fork : ForkId) → block_count a fork ≡ block_count b fork
  pub pages : (at : BlockId) → is_named at blocks ≡ true → page_at a at ≡ page_at b at

-- a command is judged alike on them, and written as the same kind
pub record IsTakenAlike (command : Op) (a b : Store) : Type 0 where
  pub judged : judged_op a command ≡ judged_op b command
  pub kind : (redo : ℕ) → kind_of a redo (act_of_op command) ≡ kind_of b redo (act_of_op command)

both_none : (p : Option ForkPages) → None ≡ option_map length p → p ≡ None
both_none None e = refl
both_none (Some pages) e = absurd cc

some_there : (n : ℕ) (p : Option ForkPages) → Some n ≡ option_map length p → (pages : ForkPages) × ((p ≡ Some pages) × (length pages ≡ n))
some_there n None e = absurd cc
some_there n (Some pages) e = (pages, (refl, (let h : n ≡ length pages = cc in sym h)))

length_of : (o p : Option ForkPages) → option_map length o ≡ option_map length p → length (unwrap_or o []) ≡ length (unwrap_or p [])
length_of None p e = ap (λ (q : Option ForkPages). length (unwrap_or q [])) (sym (both_none p e))
length_of (Some pages) p e = let t = some_there (length pages) p e in sym t.1.1 ∙ ap (λ (q : Option ForkPages). length (unwrap_or q [])) (sym t.1.0)

-- ---- what an item finds

edit_alike : (i : ℕ) (pa pb : ForkPages) (block : ℕ) (edit : Edit) → length pa ≡ length pb → get_or pa block zero_page ≡ get_or pb block zero_page → judged_edit i pa block edit ≡ judged_edit i pb block edit
edit_alike i pa pb block (Put page) long same = ap (λ (n : ℕ). if nat_lt n block then Some PastEnd else None) long
edit_alike i pa pb block (Patch frags) long same =
    ap (λ (n : ℕ). if nat_le n block then Some NoBlock else (if is_good (written_frags frags (get_or pa block zero_page)) then None else Some (BadPage i))) long
    ∙ ap (λ (old : List ℕ). if nat_le (length pb) block then Some NoBlock else (if is_good (written_frags frags old) then None else Some (BadPage i))) same

found_alike : (i : ℕ) (item : Item) (o p : Option ForkPages) → option_map length o ≡ option_map length p → get_or (unwrap_or o []) item.at.block zero_page ≡ get_or (unwrap_or p []) item.at.block zero_page → judged_found i item o ≡ judged_found i item p
found_alike i item None p e same = ap (judged_found i item) (sym (both_none p e))
found_alike i item (Some pa) p e same =
    let t = some_there (length pa) p e in
    let pb = t.0 in
    let at : get_or pa item.at.block zero_page ≡ get_or pb item.at.block zero_page = same ∙ ap (λ (q : Option ForkPages). get_or (unwrap_or q []) item.at.block zero_page) t.1.0 in
    ap (λ (f : Option OpFault). option_or f (judged_length pa item.at.block)) (edit_alike i pa pb item.at.block item.edit (sym t.1.1) at)
    ∙ ap (λ (n : ℕ). option_or (judged_edit i pb item.at.block item.edit) (if nat_lt most_blocks (max n (item.at.block + 1)) then Some ForkFull else None)) (sym t.1.1)
    ∙ ap (judged_found i item) (sym t.1.0)

-- ---- behind an item

pub count_put : (store : Store) (at : BlockId) (page : List ℕ) (q : ForkId) → block_count (page_put at page store) q ≡ cond (is_same_fork q at.fork) (Some (max (length (pages_of store at.fork)) (at.block + 1))) (block_count store q)
count_put store at page q =
    let v = with_block (pages_of store at.fork) at.block page in
    by_test (is_same_fork q at.fork)
    (λ here. ap (option_map length) (get_here store at.fork q v here) ∙ ap (λ (k : ℕ). Some k) (length-with_block (pages_of store at.fork) at.block page)
    ∙ sym (ap (λ t. cond t (Some (max (length (pages_of store at.fork)) (at.block + 1))) (block_count store q)) here))
    (λ away. ap (option_map length) (get_there store at.fork q v away) ∙ sym (ap (λ t. cond t (Some (max (length (pages_of store at.fork)) (at.block + 1))) (block_count store q)) away))

put_alike : (blocks : List BlockId) (a b : Store) (at : BlockId) (page : List ℕ) → AreAlikeAt blocks a b → AreAlikeAt blocks (page_put at page a) (page_put at page b)
put_alike blocks a b at page h =
    let long = length_of (get a at.fork) (get b at.fork) (h.counts at.fork) in
    record {
      counts = λ q. count_put a at page q
          ∙ ap (λ (n : ℕ). cond (is_same_fork q at.fork) (Some (max n (at.block + 1))) (block_count a q)) long
          ∙ ap (λ (o : Option ℕ). cond (is_same_fork q at.fork) (Some (max (length (pages_of b at.fork)) (at.block + 1))) o) (h.counts q)
          ∙ sym (count_put b at page q);
      pages = λ q named. by_test (is_same_block q at)
          (λ here. let same = block_is q at here in
          subst (λ (x : BlockId). page_at (page_put at page a) x ≡ page_at (page_put at page b) x) (sym same) (page_here a at page ∙ sym (page_here b at page)))
          (λ apart. page_apart a at q page apart ∙ h.pages q named ∙ sym (page_apart b at q page apart));
    }

behind_alike : (blocks : List BlockId) (a b : Store) (item : Item) → AreAlikeAt blocks a b → is_named item.at blocks ≡ true → AreAlikeAt blocks (behind_item a item) (behind_item b item)
behind_alike blocks a b item h named =
    subst (λ (old : List ℕ). AreAlikeAt blocks (behind_item a item) (unwrap_or (option_map (λ page. page_put item.at page b) (edited 0 old item.edit)) b)) (h.pages item.at named)
    (by (edited 0 (page_at a item.at) item.edit))
  where
    by : (o : Option (List ℕ)) → AreAlikeAt blocks (unwrap_or (option_map (λ page. page_put item.at page a) o) a) (unwrap_or (option_map (λ page. page_put item.at page b) o) b)
    by None = h
    by (Some page) = put_alike blocks a b item.at page h

items_alike : (blocks : List BlockId) (i : ℕ) (a b : Store) (items : List Item) → AreAlikeAt blocks a b → ((at : BlockId) → is_named at (map (λ x. x.at) items) ≡ true → is_named at blocks ≡ true) → judged_items i a items ≡ judged_items i b items
items_alike blocks i a b [] h all = refl
items_alike blocks i a b (item ∷ items) h all =
    let here = all item.at (ap (λ c. c || is_named item.at (map (λ x. x.at) items)) (block_self item.at)) in
    ap (λ (f : Option OpFault). option_or f (judged_items (i + 1) (behind_item a item) items)) (found_alike i item (get a item.at.fork) (get b item.at.fork) (h.counts item.at.fork) (h.pages item.at here))
    ∙ ap (λ (f : Option OpFault). option_or (judged_found i item (get b item.at.fork)) f)
    (items_alike blocks (i + 1) (behind_item a item) (behind_item b item) items (behind_alike blocks a b item h here)
    (λ at named. all at (ap (λ c. is_same_block at item.at || c) named ∙ or-true (is_same_block at item.at))))

blocks_alike : (blocks : List BlockId) (a b : Store) (redo : ℕ) (items : List Item) → AreAlikeAt blocks a b → ((at : BlockId) → is_named at (map (λ x. x.at) items) ≡ true → is_named at blocks ≡ true) → map (block_of_item a redo) items ≡ map (block_of_item b redo) items
blocks_alike blocks a b redo [] h all = refl
blocks_alike blocks a b redo (item ∷ items) h all =
    let here = all item.at (ap (λ c. c || is_named item.at (map (λ x. x.at) items)) (block_self item.at)) in
    ap (λ (x : BlockRef). x ∷ map (block_of_item a redo) items) (ap (block_over redo item) (h.pages item.at here))
    ∙ ap (λ (xs : List BlockRef). block_of_item b redo item ∷ xs) (blocks_alike blocks a b redo items h (λ at named. all at (ap (λ c. is_same_block at item.at || c) named ∙ or-true (is_same_block at item.at))))

cut_alike : (count : ℕ) (o p : Option ForkPages) → option_map length o ≡ option_map length p → judged_cut count o ≡ judged_cut count p
cut_alike count None p e = ap (judged_cut count) (sym (both_none p e))
cut_alike count (Some pa) p e =
    let t = some_there (length pa) p e in
    ap (λ (n : ℕ). if nat_lt n count || nat_lt most_blocks count then Some CutPastEnd else None) (sym t.1.1) ∙ ap (judged_cut count) (sym t.1.0)

there_alike : (o p : Option ForkPages) → option_map length o ≡ option_map length p → is_some o ≡ is_some p
there_alike None p e = ap (λ (q : Option ForkPages). is_some q) (sym (both_none p e))
there_alike (Some pa) p e = let t = some_there (length pa) p e in ap (λ (q : Option ForkPages). is_some q) (sym t.1.0)

pub commands_alike : (command : Op) (a b : Store) → AreAlikeAt (blocks_of command) a b → IsTakenAlike command a b
commands_alike (op.Create fork) a b h = record {
  judged = ap (λ t. if t then Some ForkExists else None) (there_alike (get a fork) (get b fork) (h.counts fork));
  kind = λ redo. refl;
}
commands_alike (op.Truncate rel count) a b h = record {
  judged = cut_alike count (get a (main_fork rel)) (get b (main_fork rel)) (h.counts (main_fork rel));
  kind = λ redo. refl;
}
commands_alike (op.Change items) a b h = record {
  judged = ap (λ (f : Option OpFault). option_or (judged_blocks 0 [] items) (option_or (judged_edits 0 items) f)) (items_alike (map (λ x. x.at) items) 0 a b items h (λ at named. named));
  kind = λ redo. ap (λ (xs : List BlockRef). kind.Generic xs) (blocks_alike (map (λ x. x.at) items) a b redo items h (λ at named. named));
}
commands_alike (op.Drop rel) a b h = record {
  judged = ap (λ t. if t || is_some (get a (init_fork rel)) then None else Some NoFork) (there_alike (get a (main_fork rel)) (get b (main_fork rel)) (h.counts (main_fork rel)))
      ∙ ap (λ t. if is_some (get b (main_fork rel)) || t then None else Some NoFork) (there_alike (get a (init_fork rel)) (get b (init_fork rel)) (h.counts (init_fork rel)));
  kind = λ redo. refl;
}
