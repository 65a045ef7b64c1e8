-- The records that a history's entries are written as, and where its WAL ends.
use Rattle.std.specs.Prelude.{ℕ, ◌+◌, ◌*◌, ◌==◌, ◌||◌, Bool, true, false, pos, List, [], ◌∷◌, map, nat_le, if◌then◌else◌}
use Rattle.std.specs.Option.{unwrap_or}
use Rattle.std.specs.FinMap.{empty}
use Rattle.lsn_core.specs.Store.{Store}
use Rattle.lsn_core.specs.Tip.{Tip}
use Rattle.pg_page.specs.Header.{lsn_of, hole_zeroed}
use Rattle.pg_page.specs.Frags.{patched}
use Rattle.wal_record.specs.declared.record.Record.{Record}
use Rattle.wal_record.specs.declared.record.Kind.{Kind}
use Rattle.wal_record.specs.declared.record.Kind.TheVariants as kind
use Rattle.wal_record.specs.declared.record.BlockRef.{BlockRef}
use Rattle.wal_record.specs.declared.record.Body.{Body}
use Rattle.wal_record.specs.declared.record.Body.TheVariants.{Image, Delta}
use Rattle.wal_record.specs.Tips.{first_tip, record_at_tip}
use Rattle.history.specs.declared.op.Edit.{Edit}
use Rattle.history.specs.declared.op.Edit.TheVariants.{Put, Patch}
use Rattle.history.specs.declared.op.Item.{Item}
use Rattle.history.specs.Entry.{Marking, Shutdown, Online, RedoMark, NoOp, BackupEnd, IdleCut, IdleCommit, Act, Create, Truncate, Change, Drop, Mark, Entry, is_of_run}
use Rattle.history.specs.Apply.{page_at, apply}

-- how an edit of a page is written, by the latest redo point: a page that is put as an image, with
-- zeros in its hole; a patch as an image where the page's LSN is at most that redo point, otherwise
-- as a delta. The image of a patch is the page after it, with the LSN from before it
abbrev pub body_of : ℕ → List ℕ → Edit → Body
body_of redo old (Put page) = Image (hole_zeroed page)
body_of redo old (Patch frags) =
    if nat_le (lsn_of old) redo then Image (patched frags (lsn_of old) old) else Delta frags

-- the block that an item is written as, where this page was there before
abbrev pub block_over : ℕ → Item → List ℕ → BlockRef
block_over redo item old = record { at = item.at; body = body_of redo old item.edit }

-- by the store before the entry
abbrev pub block_of_item : Store → ℕ → Item → BlockRef
block_of_item store redo item = block_over redo item (page_at store item.at)

-- the kind that a mark is written as
abbrev pub mark_kind : Marking → Kind
mark_kind (Shutdown redo) = kind.Shutdown (record { 0 = redo })
mark_kind (Online redo) = kind.Online (record { 0 = redo })
mark_kind (RedoMark n) = kind.RedoMark n
mark_kind NoOp = kind.NoOp
mark_kind (BackupEnd start) = kind.BackupEnd (record { 0 = start })
mark_kind (IdleCut rel count others) = kind.Truncate rel count (2 * others)
mark_kind (IdleCommit time) = kind.Commit time []

-- the kind that an act is written as, by the store before it and the latest redo point; a
-- truncation's flags name all forks that one may name: main, free space map, visibility map; a
-- drop is a commit at time 0
abbrev pub kind_of : Store → ℕ → Act → Kind
kind_of store redo (Create fork) = kind.Create fork
kind_of store redo (Truncate rel count) = kind.Truncate rel count 7
kind_of store redo (Change items) = kind.Generic (map (block_of_item store redo) items)
kind_of store redo (Drop rels) = kind.Commit (pos 0) rels
kind_of store redo (Mark marking) = mark_kind marking

-- the record of an act that comes next
abbrev pub record_of : ℕ → Store → Tip → Act → Record
record_of mib store tip act = record_at_tip mib tip (kind_of store tip.redo act)

-- an act is the start of a checkpoint
abbrev pub is_redo : Act → Bool
is_redo (Create fork) = false
is_redo (Truncate rel count) = false
is_redo (Change items) = false
is_redo (Drop rels) = false
is_redo (Mark (Shutdown redo)) = false
is_redo (Mark (Online redo)) = false
is_redo (Mark (RedoMark n)) = true
is_redo (Mark NoOp) = false
is_redo (Mark (BackupEnd start)) = false
is_redo (Mark (IdleCut rel count others)) = false
is_redo (Mark (IdleCommit time)) = false

-- the latest redo point with one more entry: the start of the first entry, or of the latest start
-- of a checkpoint
abbrev pub redo_past : Tip → Entry → ℕ
redo_past tip entry =
    if (tip.count == 0) || is_redo entry.act then entry.start else tip.redo

-- the end of a WAL with one more entry, and with several more, in turn
abbrev pub tip_past : Tip → Entry → Tip
tip_past tip entry = record {
  end = entry.end;
  prev = entry.start;
  redo = redo_past tip entry;
  count = tip.count + 1;
}

abbrev pub tip_over : Tip → List Entry → Tip
tip_over tip [] = tip
tip_over tip (entry ∷ entries) = tip_over (tip_past tip entry) entries

-- the end of a history's WAL
abbrev pub tip_of : ℕ → List Entry → Tip
tip_of mib history = tip_over (first_tip mib) history

-- what is known before an entry: where the WAL ends, and the store
pub record Before : Type 0 where
  pub tip : Tip
  pub store : Store

-- the same behind it; an entry that can't be applied leaves the store
abbrev pub behind : Before → Entry → Before
behind before entry = record {
  tip = tip_past before.tip entry;
  store = unwrap_or (apply before.store entry) before.store;
}

abbrev pub behind_all : Before → List Entry → Before
behind_all before [] = before
behind_all before (entry ∷ entries) = behind_all (behind before entry) entries

-- the record that an act is written as
abbrev pub next_record : ℕ → Before → Act → Record
next_record mib before act = record_of mib before.store before.tip act

-- the records that entries of a run are written as; entries that were found are passed over
abbrev pub written : ℕ → Before → List Entry → List Record
written mib before [] = []
written mib before (entry ∷ entries) =
    if is_of_run entry
    then next_record mib before entry.act ∷ written mib (behind before entry) entries
    else written mib (behind before entry) entries

-- before the first entry of a WAL
abbrev pub at_first : ℕ → Before
at_first mib = record { tip = first_tip mib; store = empty }

-- the records that a history is written as from its beginning on
abbrev pub wal_of : ℕ → List Entry → List Record
wal_of mib history = written mib (at_first mib) history
