-- What private functions answer to those that call them. None of it stands in the contract of a
-- public call.
use Rattle.std.specs.Prelude.{List, [], ◌∷◌, ◌≤◌}
use Rattle.vault.specs.declared.area.Vault.{Ghosts as Vaults}
use Rattle.vault.specs.declared.lending.Held.{Held}
use Rattle.vault.specs.Site.{state_in}
use Rattle.store_areas.specs.declared.areas.StoreAreas.{StoreAreas}
use Rattle.command_base.specs.Areas.{wal_name, data_name}
use Rattle.command_base.specs.Outside.{Never}
use Rattle.restart_command.specs.Restart.{StoreState, RestartResult, RestartAnswer}

-- the areas of a store by their names
abbrev pub store_held : {V : Type 0} → StoreAreas V → List (Held V)
store_held areas =
    record { name = wal_name; area = areas.wal }
    ∷ record { name = data_name 0; area = areas.data0 }
    ∷ record { name = data_name 1; area = areas.data1 }
    ∷ record { name = data_name 2; area = areas.data2 }
    ∷ record { name = data_name 3; area = areas.data3 }
    ∷ []

-- what is known of them
abbrev pub states_in : {V : Type 0} → Vaults V → StoreAreas V → StoreState
states_in vaults areas = record {
  wal = state_in vaults areas.wal;
  data0 = state_in vaults areas.data0;
  data1 = state_in vaults areas.data1;
  data2 = state_in vaults areas.data2;
  data3 = state_in vaults areas.data3;
}

-- why `restart` comes to its answer over the areas of a store
abbrev pub AnswersRestart :
    {V : Type 0} → Vaults V → StoreAreas V → StoreAreas V → RestartResult → Type 0
AnswersRestart vaults old new r =
    RestartAnswer Never (states_in vaults old) (states_in vaults new) r

-- no area's count of faults fell
pub record IsLater {V : Type 0} (vaults : Vaults V) (old new : StoreAreas V) : Type 0 where
  pub wal : vaults.faults old.wal ≤ vaults.faults new.wal
  pub data0 : vaults.faults old.data0 ≤ vaults.faults new.data0
  pub data1 : vaults.faults old.data1 ≤ vaults.faults new.data1
  pub data2 : vaults.faults old.data2 ≤ vaults.faults new.data2
  pub data3 : vaults.faults old.data3 ≤ vaults.faults new.data3
