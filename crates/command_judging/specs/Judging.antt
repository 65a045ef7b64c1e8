-- How a command is judged item by item, and what it adds and takes away.
use Rattle.std.specs.Prelude.{◌≡◌, ℕ, ◌+◌, ◌-◌, ◌≤◌, max, false, List, [], ◌∷◌, map, length, Some, None, if◌then◌else◌}
use Rattle.std.specs.Option.{option_map}
use Rattle.lsn_core.specs.declared.ids.ForkId.{ForkId}
use Rattle.lsn_core.specs.declared.ids.BlockId.{BlockId}
use Rattle.lsn_core.specs.Blocks.{block_count, pages_of}
use Rattle.lsn_core.specs.Store.{Store}
use Rattle.pg_page.specs.Frags.{bad_frag}
use Rattle.history.specs.declared.op.Op.{Op}
use Rattle.history.specs.declared.op.Edit.{Edit}
use Rattle.history.specs.declared.op.Edit.TheVariants.{Put, Patch}
use Rattle.history.specs.declared.op.Item.{Item}
use Rattle.history.specs.Apply.{is_same_fork, page_at, apply_act}
use Rattle.history.specs.Op.{act_of_op}
use Rattle.history.specs.Pages.{page_count}
use Rattle.history.specs.Whole.{is_named}
use Rattle.command_judging.specs.Refusals.{most_items, judged_blocks, judged_edits}

-- how many blocks a fork has behind items, where it had so many before them
abbrev pub grown : List Item → ForkId → ℕ → ℕ
grown [] fork count = count
grown (item ∷ items) fork count =
    grown items fork
    (if is_same_fork fork item.at.fork then max count (item.at.block + 1) else count)

-- what is known of a store behind items that were done on another one: how many blocks its forks
-- have, and that the blocks that no item names have the pages of before
pub record IsBehind (first : Store) (items : List Item) (store : Store) : Type 0 where
  pub blocks : (fork : ForkId)
      → block_count store fork ≡ option_map (grown items fork) (block_count first fork)
  pub pages : (at : BlockId) → is_named at (map (λ i. i.at) items) ≡ false
      → page_at store at ≡ page_at first at

-- no fragment of an edit is bad
abbrev pub HasGoodFrags : Edit → Type 0
HasGoodFrags (Put page) = Unit {0}
HasGoodFrags (Patch frags) = bad_frag frags ≡ None

-- 1 to 4 items, of different blocks and of good fragments
pub record IsFormed (items : List Item) : Type 0 where
  pub some : 1 ≤ length items
  pub most : length items ≤ most_items
  pub blocks : judged_blocks 0 [] items ≡ None
  pub edits : judged_edits 0 items ≡ None

-- how many pages an item adds to a store
abbrev pub item_adds : Store → Item → ℕ
item_adds store item = item.at.block + 1 - length (pages_of store item.at.fork)

-- a command adds so many pages to a store, and takes so many away
abbrev pub IsCounted : Store → Op → ℕ → ℕ → Type 0
IsCounted store command added gone =
    (end : ℕ) (next : Store) → apply_act end store (act_of_op command) ≡ Some next
    → page_count next + gone ≡ page_count store + added
