-- A directory whose manifest was written behind a sync, and synced, is durable.
use Rattle.vault.specs.Frame.{IsDurable}
use Rattle.vault.specs.declared.area.Vault.{Ghosts}
use Rattle.vault.proofs.Through.{durable_behind}
use Rattle.backup_files.specs.Area.{EndsSynced}

pub synced_is_durable : {V : Type 0} (g : Ghosts V) (out : V) → EndsSynced g out → IsDurable (g.files out) (g.past out)
synced_is_durable g out ends = durable_behind (g.files out) _ (g.past out) ends.past
