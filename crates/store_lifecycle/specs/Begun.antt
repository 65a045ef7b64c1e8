-- The parts of a store that is begun: no public contract cites these.
use Rattle.std.specs.Prelude.{◌≡◌, ℕ, List, IsSome}
use Rattle.lsn_core.specs.Segment.{StoreSettings}
use Rattle.vault.specs.declared.area.Vault.{Ghosts}
use Rattle.vault.specs.Frame.{IsDurable}
use Rattle.history.specs.Entry.{Entry}
use Rattle.vault.specs.Boxed.{on_heap}
use Rattle.store_ledgers.specs.Counts.{Counts, Held, count_at, none}
use Rattle.store_lifecycle.specs.declared.beginning.Rest.{Rest}
use Rattle.page_pool.specs.Facts.{IsPartOf}
use Rattle.store_areas.specs.Read.{IsFound}
use Rattle.store_locks.specs.Locked.{WalStart}

-- nothing is booked yet, and each partition has its share
pub record AreBooks (entries : Counts) (first second third fourth : Held)
    (made data0 data1 data2 data3 wal : ℕ) : Type 0 where
  pub none_yet : entries ≡ none
  pub share0 : (count_at 0 first.parts ≡ 1) × (count_at 0 first.amounts ≡ 0)
  pub share1 : (count_at 1 second.parts ≡ 1) × (count_at 1 second.amounts ≡ 0)
  pub share2 : (count_at 2 third.parts ≡ 1) × (count_at 2 third.amounts ≡ 0)
  pub share3 : (count_at 3 fourth.parts ≡ 1) × (count_at 3 fourth.amounts ≡ 0)
  pub none_made : made ≡ 0
  pub no_fault0 : data0 ≡ 0
  pub no_fault1 : data1 ≡ 0
  pub no_fault2 : data2 ≡ 0
  pub no_fault3 : data3 ≡ 0
  pub no_fault : wal ≡ 0

-- what was found is what the names say
pub record IsStartedBy {V : Type 0} (g : Ghosts V) (settings : StoreSettings) (found : List Entry)
    (from : WalStart) (starts : ℕ → ℕ) (pen : List Entry) (rest : Rest V) : Type 0 where
  pub pen_is : pen ≡ found
  pub settings_are : rest.settings ≡ settings
  pub is : IsFound ((on_heap g).files rest.area) settings found rest.pages rest.tip
  pub durable : IsDurable ((on_heap g).files rest.area) ((on_heap g).past rest.area)
  pub part0 : IsPartOf 0 settings.relseg (IsSome ((on_heap g).files rest.area)) found
      rest.parts.part0
  pub part1 : IsPartOf 1 settings.relseg (IsSome ((on_heap g).files rest.area)) found
      rest.parts.part1
  pub part2 : IsPartOf 2 settings.relseg (IsSome ((on_heap g).files rest.area)) found
      rest.parts.part2
  pub part3 : IsPartOf 3 settings.relseg (IsSome ((on_heap g).files rest.area)) found
      rest.parts.part3
  pub start0 : starts 0 ≡ rest.parts.part0.faults
  pub start1 : starts 1 ≡ rest.parts.part1.faults
  pub start2 : starts 2 ≡ rest.parts.part2.faults
  pub start3 : starts 3 ≡ rest.parts.part3.faults
  pub start_wal : starts 4 ≡ (on_heap g).faults rest.area
  pub from_is :
      from ≡ record { files = (on_heap g).files rest.area; flushed = rest.tip.end }
