-- A store that a follower's entries made, put where no pages were.
use Rattle.std.specs.Prelude.{◌≡◌, ℕ, length, take, Some, None, IfSome}
use Rattle.std.specs.Option.{option_map}
use Rattle.std.specs.FinMap.{empty, get, insert, len}
use Rattle.lsn_core.specs.declared.ids.BlockId.{BlockId}
use Rattle.lsn_core.specs.declared.ids.ForkLen.{ForkLen}
use Rattle.lsn_core.specs.Blocks.{block_of, page_put}
use Rattle.lsn_core.specs.Shown.{Turns}
use Rattle.lsn_core.specs.Store.{Store, ForkPages, files_of}
use Rattle.vault.specs.Frame.{IsDurable}
use Rattle.vault.specs.declared.area.Vault.{Ghosts}
use Rattle.history.specs.Pages.{page_count}
use Rattle.follow_command.specs.declared.output.Written.{Written}

-- a block is put as a store has it, where that has one
abbrev pub CopiesBlock : {P : Type 0} → (P → Store → Type 0) → Store → BlockId → P → P → Type 0
CopiesBlock shows store at old new =
    IfSome (block_of store at.fork at.block) (λ page. Turns shows old new (page_put at page))

-- of a fork of so many blocks the first ones are put, so many, where none of that name is shown
abbrev pub CopiesFork : {P : Type 0} → (P → Store → Type 0) → Store → ForkLen → ℕ → P → P → Type 0
CopiesFork shows store len count old new =
    (s : Store) (pages : ForkPages) → shows old s → get s len.fork ≡ None
    → get store len.fork ≡ Some pages → len.blocks ≡ length pages
    → shows new (insert s len.fork (take count pages))

-- a store is put where none was, and so many forks and pages it has
pub record CopiesStore {P : Type 0} (shows : P → Store → Type 0) (store : Store) (old new : P)
    (written : Written) : Type 0 where
  pub copied : shows old empty → shows new store
  pub forks : written.forks ≡ len store
  pub pages : written.pages ≡ page_count store

-- an area without files has just those of a store, durably, and so many forks and pages that has
pub record IsMade {V : Type 0} (g : Ghosts V) (relseg : ℕ) (store : Store) (old new : V)
    (written : Written) : Type 0 where
  pub files : IfSome (g.files old) (λ m. m ≡ empty)
      → g.files new ≡ option_map (λ m. files_of relseg store) (g.files old)
  pub durable : IsDurable (g.files new) (g.past new)
  pub forks : written.forks ≡ len store
  pub pages : written.pages ≡ page_count store
