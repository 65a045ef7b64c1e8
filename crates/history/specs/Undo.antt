-- What undoes an entry that was applied to a store in memory.
use Rattle.std.specs.Prelude.{ℕ, List, [], ◌∷◌, slice_set, Option, Some, None}
use Rattle.std.specs.FinMap.{get, insert, remove}
use Rattle.lsn_core.specs.declared.ids.ForkId.{ForkId}
use Rattle.lsn_core.specs.declared.ids.BlockId.{BlockId}
use Rattle.lsn_core.specs.Store.{Store, ForkPages}
use Rattle.lsn_core.specs.Blocks.{with_cut}
use Rattle.history.specs.declared.undo.Step.{Step}
use Rattle.history.specs.declared.undo.Step.TheVariants as step

-- the store with another page at a block that is there
abbrev pub with_set_found : Store → BlockId → List ℕ → Option ForkPages → Store
with_set_found store at page None = store
with_set_found store at page (Some pages) = insert store at.fork (slice_set pages at.block page)

abbrev pub with_set : Store → BlockId → List ℕ → Store
with_set store at page = with_set_found store at page (get store at.fork)

-- a put undone: a fork that was made is taken away, a fork gets its length back, a block its page
abbrev pub undone_step : Step → Store → Store
undone_step (step.Fork fork) store = remove store fork
undone_step (step.Length fork count) store = with_cut store fork count
undone_step (step.Page at page) store = with_set store at page

-- puts undone, the last one first
abbrev pub undone_steps : List Step → Store → Store
undone_steps [] store = store
undone_steps (s ∷ ss) store = undone_step s (undone_steps ss store)
