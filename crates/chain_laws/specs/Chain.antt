-- Chains of backups' directories that replay completes.
use Rattle.std.specs.Prelude.{ℕ, List}
use Rattle.lsn_core.specs.Files.{Files}
use Rattle.lsn_core.specs.Store.{Store}
use Rattle.history.specs.Entry.{Entry}
use Rattle.history.specs.fuzzy_copies.Sound.{IsSoundCopy}
use Rattle.chain_files.specs.Held.{IsStoreOfChain}

-- a chain of directories, the oldest one first, is combined to the files of a store, at so many
-- blocks a file, that was taken from one place of a history to another, and that replay from the
-- first place completes
pub record IsSoundChain
    (relseg : ℕ) (history : List Entry) (chain : List Files) (from to : ℕ)
    : Type 0 where
  pub copy : Store
  pub held : IsStoreOfChain relseg chain copy
  pub sound : IsSoundCopy copy history from to
