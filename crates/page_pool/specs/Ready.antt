-- A command that is ready to be done on a partition, and its doing.
use Rattle.std.specs.Prelude.{◌≡◌, ℕ, ◌+◌, ◌≤◌, ◌<◌, ◌^◌, List, [], ◌∷◌, map, Some, None, Result, Ok, Err, box_value}
use Rattle.std.specs.List.{All}
use Rattle.lsn_core.specs.declared.ids.BlockId.{BlockId}
use Rattle.lsn_core.specs.Store.{Store}
use Rattle.lsn_core.specs.Blocks.{page_put, with_fork, with_cut}
use Rattle.pg_page.specs.Header.{IsGood, with_lsn}
use Rattle.wal_record.specs.Spelling.{IsWritable}
use Rattle.history.specs.declared.op.Op.{Op}
use Rattle.history.specs.declared.op.Op.TheVariants as op
use Rattle.history.specs.Apply.{main_fork, without_rel, apply_act}
use Rattle.history.specs.Op.{act_of_op, IsTidy}
use Rattle.history.specs.Pages.{page_count}
use Rattle.history.specs.Written.{kind_of}
use Rattle.lsn_core.specs.Sizes.{most_blocks}
use Rattle.page_frames.specs.Framed.{Framed}
use Rattle.page_frames.specs.Overlay.{HasSlot, IsReserved}
use Rattle.command_judging.specs.declared.fault.OpFault.{OpFault}
use Rattle.page_pool.specs.declared.ready.Ready.{Ready}
use Rattle.page_pool.specs.declared.ready.Done.{Done}
use Rattle.page_pool.specs.declared.ready.Done.TheVariants.{Created, Cut, Put, Dropped}
use Rattle.page_pool.specs.declared.ready.NewPage.{NewPage}
use Rattle.page_pool.specs.Part.{Part}
use Rattle.command_judging.specs.Refusals.{judged_op, IsRefusedOp}

-- pages put in turn, by an entry that ends at a place
abbrev pub pages_put : ℕ → List NewPage → Store → Store
pages_put end [] store = store
pages_put end (new ∷ pages) store =
    pages_put end pages (page_put new.at (with_lsn end (box_value new.page)) store)

-- the pages behind what was made ready, by an entry that ends at a place
abbrev pub done_at : ℕ → Done → Store → Store
done_at end (Created fork) store = with_fork store fork
done_at end (Cut rel count) store = with_cut store (main_fork rel) count
done_at end (Put pages) store = pages_put end pages.items store
done_at end (Dropped rel) store = without_rel store rel

-- what was made ready is of the forks and blocks that the command names
abbrev pub IsOfOp : Op → Done → Type 0
IsOfOp (op.Create fork) done = done ≡ Created fork
IsOfOp (op.Truncate rel count) done = done ≡ Cut rel count
IsOfOp (op.Change items) (Created fork) = ⊥
IsOfOp (op.Change items) (Cut rel count) = ⊥
IsOfOp (op.Change items) (Dropped rel) = ⊥
IsOfOp (op.Change items) (Put pages) = map (λ i. i.at) items ≡ map (λ p. p.at) pages.items
IsOfOp (op.Drop rel) done = done ≡ Dropped rel

-- a page may be put at the block without memory: its frame is there, and no block is past what a
-- fork may have
pub record HasRoomAt (f : Framed) (at : BlockId) : Type 0 where
  pub reserved : IsReserved f at
  pub narrow : at.block < most_blocks

-- each page that it puts is good
abbrev pub AreGoodPages : Done → Type 0
AreGoodPages (Created fork) = Unit {0}
AreGoodPages (Cut rel count) = Unit {0}
AreGoodPages (Put pages) = All (λ p. IsGood (box_value p.page)) pages.items
AreGoodPages (Dropped rel) = Unit {0}

-- it takes no memory: there is room for a fork, for a work (for a drop two), and for each page
abbrev pub HasRoomFor : Framed → ℕ → Done → Type 0
HasRoomFor f room (Created fork) = HasSlot f fork × (1 ≤ room)
HasRoomFor f room (Cut rel count) = 1 ≤ room
HasRoomFor f room (Dropped rel) = 2 ≤ room
HasRoomFor f room (Put pages) = All (λ p. HasRoomAt f p.at) pages.items

-- a command is ready to be done on a partition as it is
pub record IsReady (part : Part) (command : Op) (ready : Ready) : Type 0 where
  pub tidy : IsTidy part.frames (act_of_op command)
  pub same : (end : ℕ) → end < 2 ^ 64
      → apply_act end part.frames (act_of_op command) ≡ Some (done_at end ready.done part.frames)
  pub named : IsOfOp command ready.done
  pub good : AreGoodPages ready.done
  pub room : HasRoomFor part.framed part.work_room ready.done

-- the command may be done: it is ready, with the kind of its WAL entry, by the pages before it and
-- the latest redo point, and how many pages it adds and takes away
pub record IsChecked (old new : Part) (command : Op) (redo : ℕ) (ready : Ready) : Type 0 where
  pub taken : judged_op old.frames command ≡ None
  pub prepared : IsReady new command ready
  pub kind : ready.kind ≡ kind_of old.frames redo (act_of_op command)
  pub writable : IsWritable ready.kind
  pub counted : (end : ℕ) (next : Store) → apply_act end old.frames (act_of_op command) ≡ Some next
      → page_count next + ready.gone ≡ page_count old.frames + ready.added

abbrev pub CheckAnswer : Op → ℕ → Part → Part → Result Ready OpFault → Type 0
CheckAnswer command redo old new (Ok ready) = IsChecked old new command redo ready
CheckAnswer command redo old new (Err fault) = IsRefusedOp old.frames command fault
