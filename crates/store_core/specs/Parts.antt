-- What entries and writes leave of a partition.
use Rattle.std.specs.Prelude.{ℕ, max, List, [], ◌∷◌, ◌++◌, not, Option, Some, None, if◌then◌else◌}
use Rattle.std.specs.List.{filter}
use Rattle.std.specs.Option.{unwrap_or}
use Rattle.std.specs.FinMap.{contains_key}
use Rattle.lsn_core.specs.Relation.{Relation}
use Rattle.lsn_core.specs.declared.ids.ForkId.{ForkId}
use Rattle.std.specs.Ordering.{nat_cmp, ordering_then}
use Rattle.std.specs.declared.cmp.Ordering.{Ordering}
use Rattle.std.specs.declared.cmp.Ordering.TheVariants.{Less, Equal, Greater}
use Rattle.lsn_core.specs.declared.ids.BlockId.{BlockId}
use Rattle.lsn_core.specs.Store.{Store, fork_cmp}
use Rattle.lsn_core.specs.Blocks.{page_put, with_fork, with_cut, without_fork}
use Rattle.history.specs.declared.op.Item.{Item}
use Rattle.history.specs.Entry.{Act, Create, Truncate, Change, Drop, Mark}
use Rattle.history.specs.Apply.{main_fork, init_fork, without_rel, page_at, apply_act}
use Rattle.history.specs.fuzzy_copies.Touches.{act_cuts}
use Rattle.store_core.specs.declared.step.Work.{Work}
use Rattle.store_core.specs.declared.step.Work.TheVariants.{Make, Cut, Remove}
use Rattle.store_core.specs.declared.reply.Wrote.{Wrote}
use Rattle.store_core.specs.declared.reply.Wrote.TheVariants as wrote
use Rattle.store_core.specs.State.{Part}

-- ---- in frames

-- blocks in order: by fork and number
abbrev pub block_cmp : BlockId → BlockId → Ordering
block_cmp a b = ordering_then (fork_cmp a.fork b.fork) (nat_cmp a.block b.block)

-- blocks in order with one more, which may be among them
abbrev pub placed_by : Ordering → BlockId → BlockId → List BlockId → List BlockId → List BlockId
placed_by Less at first rest more = at ∷ first ∷ rest
placed_by Equal at first rest more = first ∷ rest
placed_by Greater at first rest more = first ∷ more

abbrev pub with_dirty : BlockId → List BlockId → List BlockId
with_dirty at [] = at ∷ []
with_dirty at (first ∷ rest) = placed_by (block_cmp at first) at first rest (with_dirty at rest)

abbrev pub items_dirty : List BlockId → List Item → List BlockId
items_dirty dirty [] = dirty
items_dirty dirty (item ∷ items) = items_dirty (with_dirty item.at dirty) items

-- the dirty blocks after an act: those that it changed are among them, those that it cut off aren't
abbrev pub dirty_after : List BlockId → Act → List BlockId
dirty_after dirty (Create fork) = dirty
dirty_after dirty (Truncate rel count) =
    filter (λ at. not (act_cuts at.fork at.block (Truncate rel count))) dirty
dirty_after dirty (Change items) = items_dirty dirty items
dirty_after dirty (Drop rels) =
    filter (λ at. not (act_cuts at.fork at.block (Drop rels))) dirty
dirty_after dirty (Mark marking) = dirty

-- the works with the removal of a fork, where it is there, and with those of all forks of relations
abbrev pub with_removal : Store → List Work → ForkId → List Work
with_removal frames works fork =
    if contains_key frames fork then works ++ (Remove fork ∷ []) else works

abbrev pub works_dropped : Store → List Work → List Relation → List Work
works_dropped frames works [] = works
works_dropped frames works (rel ∷ rels) =
    works_dropped (without_rel frames rel)
    (with_removal (without_fork frames (main_fork rel))
    (with_removal frames works (main_fork rel)) (init_fork rel)) rels

-- the works after an act on these frames: a creation enters one, and so does each truncation; a
-- drop enters one for each fork that is there
abbrev pub works_after : Store → List Work → Act → List Work
works_after frames works (Create fork) = works ++ (Make fork ∷ [])
works_after frames works (Truncate rel count) = works ++ (Cut (main_fork rel) count ∷ [])
works_after frames works (Change items) = works
works_after frames works (Drop rels) = works_dropped frames works rels
works_after frames works (Mark marking) = works

-- a partition after an act in its frames, by an entry that ends at a place
abbrev pub part_after : ℕ → Act → Part → Part
part_after end act part = record {
  frames = unwrap_or (apply_act end part.frames act) part.frames;
  disk = part.disk;
  dirty = dirty_after part.dirty act;
  works = works_after part.frames part.works act;
  point = part.point;
}

-- ---- on disk

abbrev pub work_done : Work → Store → Store
work_done (Make fork) disk = with_fork disk fork
work_done (Cut fork count) disk = with_cut disk fork count
work_done (Remove fork) disk = without_fork disk fork

abbrev pub wrote_work : Work → Wrote
wrote_work (Make fork) = wrote.Made fork
wrote_work (Cut fork count) = wrote.Cut fork count
wrote_work (Remove fork) = wrote.Removed fork

-- what was written, and the partition behind it
pub record Turn : Type 0 where
  pub part : Part
  pub wrote : Wrote

abbrev pub with_disk : Part → Store → List BlockId → List Work → Part
with_disk part disk dirty works =
    record { frames = part.frames; disk = disk; dirty = dirty; works = works; point = part.point }

-- the first work is done, and, where there is none, the page of the first dirty block is written;
-- None where nothing is dirty or pending
abbrev pub next_write : Part → List Work → List BlockId → Option Turn
next_write part (work ∷ works) dirty = Some (record {
  part = with_disk part (work_done work part.disk) dirty works;
  wrote = wrote_work work;
})
next_write part [] (at ∷ dirty) = Some (record {
  part = with_disk part (page_put at (page_at part.frames at) part.disk) dirty [];
  wrote = wrote.Page at;
})
next_write part [] [] = None

-- all is written, as of a redo point
abbrev pub cleaned : ℕ → Part → Part
cleaned redo part = record {
  frames = part.frames;
  disk = part.frames;
  dirty = [];
  works = [];
  point = max part.point redo;
}
