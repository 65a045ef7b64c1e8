-- A command that changes the store, and where it may be done.
use Rattle.std.specs.Prelude.{◌≡◌, ℕ, ◌-◌, ◌<◌, ◌≤◌, ◌^◌, true, List, [], ◌∷◌, length, Option, None, Some}
use Rattle.std.specs.List.{All}
use Rattle.std.specs.FinMap.{get}
use Rattle.lsn_core.specs.Sizes.{most_blocks}
use Rattle.lsn_core.specs.declared.ids.ForkId.{ForkId}
use Rattle.lsn_core.specs.Store.{Store, ForkPages}
use Rattle.pg_page.specs.Frags.{bad_frag, written_frags, is_good}
use Rattle.history.specs.declared.op.Op.{Op}
use Rattle.history.specs.declared.op.Op.TheVariants as op
use Rattle.history.specs.declared.op.Edit.{Edit}
use Rattle.history.specs.declared.op.Edit.TheVariants.{Put, Patch}
use Rattle.history.specs.declared.op.Item.{Item}
use Rattle.history.specs.Entry.{Act, Create, Truncate, Change, Drop, Mark}
use Rattle.history.specs.Apply.{main_fork, page_at, apply_item, apply_act}

-- the act that a command is
abbrev pub act_of_op : Op → Act
act_of_op (op.Create fork) = Create fork
act_of_op (op.Truncate rel count) = Truncate rel count
act_of_op (op.Change items) = Change items
act_of_op (op.Drop rel) = Drop (rel ∷ [])

-- a command done on a store, by an entry that ends at a place
abbrev pub apply_op : ℕ → Store → Op → Option Store
apply_op end store command = apply_act end store (act_of_op command)

-- a page is put at a block up to the end of its fork, a patch is of a block that is there
abbrev pub IsReached : ForkPages → ℕ → Edit → Type 0
IsReached pages block (Put page) = block ≤ length pages
IsReached pages block (Patch frags) = block < length pages

pub record IsTidyItem (store : Store) (item : Item) : Type 0 where
  pub pages : ForkPages
  pub there : get store item.at.fork ≡ Some pages
  pub reached : IsReached pages item.at.block item.edit

-- items in turn, each on a store after those before it
abbrev pub AreTidyItems : Store → List Item → Type 0
AreTidyItems store [] = Unit
AreTidyItems store (item ∷ items) =
    IsTidyItem store item
    × ((end : ℕ) (next : Store) → apply_item end store item ≡ Some next → AreTidyItems next items)

-- a fork that is there has so many blocks at least
pub record IsTidyCut (store : Store) (fork : ForkId) (count : ℕ) : Type 0 where
  pub pages : ForkPages
  pub there : get store fork ≡ Some pages
  pub within : count ≤ length pages

-- an act finds what it names: it creates a fork that isn't there, cuts one that is there to at most
-- its length, or changes blocks of forks that are there, without a gap
abbrev pub IsTidy : Store → Act → Type 0
IsTidy store (Create fork) = get store fork ≡ None
IsTidy store (Truncate rel count) = IsTidyCut store (main_fork rel) count
IsTidy store (Change items) = AreTidyItems store items
IsTidy store (Drop rels) = Unit
IsTidy store (Mark marking) = Unit

-- an edit of a page can be written: a patch has good fragments, and leaves a good header
abbrev pub IsFitEdit : List ℕ → Edit → Type 0
IsFitEdit old (Put page) = Unit
IsFitEdit old (Patch frags) =
    (bad_frag frags ≡ None) × (is_good (written_frags frags old) ≡ true)

-- an item of a command can be written, where this page was there before
pub record IsFitOver (item : Item) (old : List ℕ) : Type 0 where
  pub number : item.at.block < most_blocks
  pub edit : IsFitEdit old item.edit

-- on the store before the command
abbrev pub IsFitItem : Store → Item → Type 0
IsFitItem store item = IsFitOver item (page_at store item.at)

-- 1 to 33 items that can be written
pub record AreFit (store : Store) (items : List Item) : Type 0 where
  pub some : 1 ≤ length items
  pub most : length items ≤ 33
  pub each : All (IsFitItem store) items

-- a command can be written, where the store before it is this one
abbrev pub IsFit : Store → Op → Type 0
IsFit store (op.Create fork) = Unit
IsFit store (op.Truncate rel count) = count < 2 ^ 32 - 1
IsFit store (op.Change items) = AreFit store items
IsFit store (op.Drop rel) = Unit
