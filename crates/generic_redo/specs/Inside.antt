-- What the crate's private functions do: no public contract cites these.
use Rattle.std.specs.Prelude.{ℕ, List, Option}
use Rattle.lsn_core.specs.declared.ids.BlockId.{BlockId}
use Rattle.lsn_core.specs.Store.{Store}
use Rattle.pg_page.specs.Header.{hole_zeroed, with_lsn}
use Rattle.pg_page.specs.Frags.{Fragment}
use Rattle.history.specs.declared.op.Edit.TheVariants.{Patch}
use Rattle.history.specs.Apply.{item_by}
use Rattle.history.specs.Redo.{redone}

-- the page that an image restores, by a record that ends at a place
abbrev pub restored : ℕ → List ℕ → List ℕ
restored end image = with_lsn end (hole_zeroed image)

-- a store with a delta of a block redone, by a record that ends at a place
abbrev pub delta_redone : ℕ → BlockId → List Fragment → Store → Option Store
delta_redone end at frags store = item_by redone end store (record { at = at; edit = Patch frags })
