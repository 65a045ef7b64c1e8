-- One block reference of a record redone.
use Rattle.std.specs.Prelude.{ℕ, Option, slice_get}
use Rattle.lsn_core.specs.byte_words.Numbers.{◌>>=◌}
use Rattle.lsn_core.specs.Store.{Store}
use Rattle.wal_record.specs.declared.record.Record.{Record}
use Rattle.wal_record.specs.declared.record.BlockRef.{BlockRef}
use Rattle.wal_record.specs.Spelling.{blocks_of}
use Rattle.history.specs.Apply.{item_by}
use Rattle.history.specs.Whole.{item_of}
use Rattle.history.specs.Redo.{redone}

-- a record's block reference of a number, counted from 0, where there is one
abbrev pub block_ref : Record → ℕ → Option BlockRef
block_ref r i = slice_get (blocks_of r.kind) i

-- a store with a block reference redone by a record that ends at a place; None where the page that
-- it would leave has a bad header
abbrev pub block_redone : ℕ → BlockRef → Store → Option Store
block_redone end block store = item_by redone end store (item_of block)

-- a store with a record's block reference of a number redone
abbrev pub ref_redone : Record → ℕ → Store → Option Store
ref_redone r i store = block_ref r i >>= λ block. block_redone r.end.0 block store
