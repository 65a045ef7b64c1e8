-- A partition's part of a store and of a history. An entry may change blocks of several partitions.
use Rattle.std.specs.Prelude.{◌≡◌, ℕ, ◌%◌, ◌==◌, Bool, false, None, if◌then◌else◌}
use Rattle.std.specs.List.{filter, list_any}
use Rattle.std.specs.FinMap.{get}
use Rattle.lsn_core.specs.Relation.{Relation}
use Rattle.lsn_core.specs.declared.ids.ForkId.{ForkId}
use Rattle.lsn_core.specs.Store.{Store}
use Rattle.history.specs.declared.op.Item.{Item}
use Rattle.history.specs.Entry.{Act, Create, Truncate, Change, Drop, Mark, NoOp, Entry}
use Rattle.history.specs.Apply.{main_fork}

-- the partition to which a relation belongs, with all its forks: 0, 1, 2 or 3
abbrev pub partition_of : Relation → ℕ
partition_of rel = rel.rel % 4

-- a fork belongs to a partition, and so does an item's block
abbrev pub is_of : ℕ → ForkId → Bool
is_of q fork = partition_of fork.rel == q

abbrev pub is_item_of : ℕ → Item → Bool
is_item_of q item = is_of q item.at.fork

-- and so does a relation
abbrev pub is_rel_of : ℕ → Relation → Bool
is_rel_of q rel = partition_of rel == q

-- what an act does to a partition: an act on another partition's fork does nothing to it, and of
-- several items those at the partition's blocks are done, in their order, and of several dropped
-- relations those of the partition
abbrev pub act_part : ℕ → Act → Act
act_part q (Create fork) = if is_of q fork then Create fork else Mark NoOp
act_part q (Truncate rel count) = if is_of q (main_fork rel) then Truncate rel count else Mark NoOp
act_part q (Change items) = Change (filter (is_item_of q) items)
act_part q (Drop rels) = Drop (filter (is_rel_of q) rels)
act_part q (Mark marking) = Mark marking

-- what an entry does to a partition, at the entry's place
abbrev pub part_of : ℕ → Entry → Entry
part_of q entry = record {
  act = act_part q entry.act;
  start = entry.start;
  end = entry.end;
  worker = entry.worker;
  seq = entry.seq;
}

-- a store's part: the partition's forks, with the pages that the store has of them, and no others
abbrev pub IsPart : ℕ → Store → Store → Type 0
IsPart q store part =
    (fork : ForkId) → get part fork ≡ (if is_of q fork then get store fork else None)

-- an act names a fork of the partition, a block of one, or a relation
abbrev pub act_concerns : ℕ → Act → Bool
act_concerns q (Create fork) = is_of q fork
act_concerns q (Truncate rel count) = is_of q (main_fork rel)
act_concerns q (Change items) = list_any (is_item_of q) items
act_concerns q (Drop rels) = list_any (is_rel_of q) rels
act_concerns q (Mark marking) = false

abbrev pub concerns : ℕ → Entry → Bool
concerns q entry = act_concerns q entry.act

-- an act concerns this partition at most
abbrev pub ConcernsNoOther : ℕ → Act → Type 0
ConcernsNoOther q act = (other : ℕ) → (other ≡ q → ⊥) → act_concerns other act ≡ false
