-- What a restart makes of areas holds of what is known of them.
use Rattle.std.proofs.Common.{◌≡◌, ℕ, zero, suc, ◌<◌, List, Option, IfSome, refl, sym, ap, subst, arith, inl, inr}
use Rattle.lsn_core.specs.byte_words.Told.{when_told}
use Rattle.lsn_core.specs.Causes.{Rose}
use Rattle.lsn_core.specs.Files.{Files}
use Rattle.lsn_core.specs.Segment.{StoreSettings}
use Rattle.lsn_core.specs.Store.{Store}
use Rattle.lsn_core.specs.Tip.{Tip}
use Rattle.lsn_core.specs.declared.lsn.Lsn.{Lsn}
use Rattle.lsn_core.specs.declared.fault.StoreArea.TheVariants.{Wal, Data, Sums}
use Rattle.vault.specs.declared.area.Vault.{Ghosts as Vaults}
use Rattle.vault.specs.Frame.{ChangesOnly}
use Rattle.vault.specs.Site.{AreaState, state_in}
use Rattle.recovery.specs.declared.tally.Tally.{Tally}
use Rattle.data_areas.specs.declared.areas.DataAreas.{DataAreas}
use Rattle.data_areas.specs.Areas.{area_of}
use Rattle.data_areas.specs.Rebuilt.{HoldsPages}
use Rattle.restart_areas.specs.Areas.{AreNeat, EachChanges, KeepPages}
use Rattle.restart_areas.specs.Counting.{CountsAll}
use Rattle.restart_areas.specs.Pages.{HoldParts}
use Rattle.store_areas.specs.declared.areas.StoreAreas.{StoreAreas}
use Rattle.store_areas.specs.Begin.{data_of}
use Rattle.store_restart.specs.declared.fault.RestartFault.{RestartFault}
use Rattle.store_restart.specs.declared.fault.RestartWhy.{RestartWhy}
use Rattle.store_restart.specs.declared.fault.RestartWhy.TheVariants.{Damaged, BadDelta, Failed, NoMemory}
use Rattle.store_restart.specs.declared.restarting.Restarted.{Restarted}
use Rattle.store_restart.specs.Causes.{RestartCause}
use Rattle.store_restart.specs.Restart.{AreDurable, BringsBack, BringsOn, EndWith, HoldWhole, IsBadBehind, IsBadSurvivor, RedoesFrom}
use Rattle.store_restart.specs.Restarted.{IsBack, IsRefused}
use Rattle.store_restart.specs.Survivors.{IsSpoilt}
use Rattle.restart_command.specs.Restart.{known}
use Rattle.restart_command.specs.Inner.{states_in}

-- an entry of the survivors of a WAL can't be redone
abbrev pub HasBad : {A : Type 0} → Vaults A → StoreSettings → DataAreas A → Lsn → Files → Type 0
HasBad v s old place m = (tip : Tip) × (EndWith s tip m × IsBadSurvivor v s tip old place m)

-- why a store isn't brought back
abbrev pub Why : {A : Type 0} → Vaults A → StoreSettings → Option Files → A → A → DataAreas A → DataAreas A → RestartWhy → Type 0
Why v s told wal now old new why =
    RestartCause v (λ damage. IfSome told (IsSpoilt s damage)) (λ place. IfSome told (HasBad v s old place)) wal now old new why

module _ {V : Type 0} (g : Vaults V) where
  -- what is known of data areas
  abbrev pub data_in : DataAreas V → DataAreas AreaState
  data_in areas = record {
    data0 = state_in g areas.data0;
    data1 = state_in g areas.data1;
    data2 = state_in g areas.data2;
    data3 = state_in g areas.data3;
  }

  files_in : (areas : DataAreas V) (q : ℕ) → q < 4 → (area_of (data_in areas) q).files ≡ g.files (area_of areas q)
  files_in areas zero lt = refl
  files_in areas (suc zero) lt = refl
  files_in areas (suc (suc zero)) lt = refl
  files_in areas (suc (suc (suc zero))) lt = refl
  files_in areas (suc (suc (suc (suc q)))) lt = absurd (omega (arith, lt))

  faults_in : (areas : DataAreas V) (q : ℕ) → q < 4 → (area_of (data_in areas) q).faults ≡ g.faults (area_of areas q)
  faults_in areas zero lt = refl
  faults_in areas (suc zero) lt = refl
  faults_in areas (suc (suc zero)) lt = refl
  faults_in areas (suc (suc (suc zero))) lt = refl
  faults_in areas (suc (suc (suc (suc q)))) lt = absurd (omega (arith, lt))

  -- ---- parts of a store

  parts_in : (relseg : ℕ) (areas : DataAreas V) (store : Store) → HoldParts g relseg areas store → HoldParts known relseg (data_in areas) store
  parts_in relseg areas store held q lt =
      let x = held q lt in
      (x.0, (x.1.0, subst (λ (o : Option Files). HoldsPages relseg o x.0) (sym (files_in areas q lt)) x.1.1))

  parts_of : (relseg : ℕ) (areas : DataAreas V) (store : Store) → HoldParts known relseg (data_in areas) store → HoldParts g relseg areas store
  parts_of relseg areas store held q lt =
      let x = held q lt in
      (x.0, (x.1.0, subst (λ (o : Option Files). HoldsPages relseg o x.0) (files_in areas q lt) x.1.1))

  -- ---- what changed

  changes_in : (Among : List ℕ → Type 0) (old new : V) → ChangesOnly g Among old new → ChangesOnly known Among (state_in g old) (state_in g new)
  changes_in Among old new c = record { files = c.files; past = c.past; faults = c.faults }

  each_in : (Among : List ℕ → Type 0) (old new : DataAreas V) → EachChanges g Among old new → EachChanges known Among (data_in old) (data_in new)
  each_in Among old new c = record {
    data0 = changes_in Among old.data0 new.data0 c.data0;
    data1 = changes_in Among old.data1 new.data1 c.data1;
    data2 = changes_in Among old.data2 new.data2 c.data2;
    data3 = changes_in Among old.data3 new.data3 c.data3;
  }

  neat_in : (relseg : ℕ) (areas : DataAreas V) → AreNeat g relseg areas → AreNeat known relseg (data_in areas)
  neat_in relseg areas n = record { data0 = n.data0; data1 = n.data1; data2 = n.data2; data3 = n.data3 }

  pages_in : (relseg : ℕ) (old new : DataAreas V) → KeepPages g relseg old new → KeepPages known relseg (data_in old) (data_in new)
  pages_in relseg old new k = record { data0 = k.data0; data1 = k.data1; data2 = k.data2; data3 = k.data3 }

  -- ---- what is made

  whole_in : (s : StoreSettings) (tip : Tip) (areas : DataAreas V) (tally : Tally) (m : Files) → HoldWhole g s tip areas tally m → HoldWhole known s tip (data_in areas) tally m
  whole_in s tip areas tally m h = record {
    records = h.records;
    survive = h.survive;
    store = h.store;
    made = h.made;
    held = parts_in s.relseg areas h.store h.held;
    counted = h.counted;
  }

  redoes_in : (s : StoreSettings) (tip : Tip) (from : Lsn) (old new : DataAreas V) (m : Files) → RedoesFrom g s tip from old new m → RedoesFrom known s tip from (data_in old) (data_in new) m
  redoes_in s tip from old new m r = record {
    records = r.records;
    survive = r.survive;
    redone = λ store held.
        let x = r.redone store (parts_of s.relseg old store held) in
        (x.0, (x.1.0, parts_in s.relseg new x.0 x.1.1));
  }

  brings_on_in : (s : StoreSettings) (tip : Tip) (from : Lsn) (old new : DataAreas V) (m : Files) → BringsOn g s tip from old new m → BringsOn known s tip from (data_in old) (data_in new) m
  brings_on_in s tip from old new m b = record {
    mid = data_in b.mid;
    neat = neat_in s.relseg b.mid b.neat;
    keeps = pages_in s.relseg old b.mid b.keeps;
    changes = each_in _ old b.mid b.changes;
    redoes = redoes_in s tip from b.mid new m b.redoes;
  }

  counts_in : (relseg : ℕ) (areas : DataAreas V) (tally : Tally) → CountsAll g relseg areas tally → CountsAll known relseg (data_in areas) tally
  counts_in relseg areas tally c = record {
    first = c.first;
    second = c.second;
    third = c.third;
    fourth = c.fourth;
    data0 = c.data0;
    data1 = c.data1;
    data2 = c.data2;
    data3 = c.data3;
    together = c.together;
  }

  brings_in : (s : StoreSettings) (tip : Tip) (old new : DataAreas V) (tally : Tally) (m : Files) → BringsBack g s tip old new tally m → BringsBack known s tip (data_in old) (data_in new) tally m
  brings_in s tip old new tally m (inl b) = inl (b.0, (whole_in s tip new tally m b.1.0, b.1.1))
  brings_in s tip old new tally m (inr b) =
      inr (b.0, (b.1.0, (b.1.1.0, (brings_on_in s tip b.0 old new m b.1.1.1.0, counts_in s.relseg new tally b.1.1.1.1))))

  durable_in : (areas : DataAreas V) → AreDurable g areas → AreDurable known (data_in areas)
  durable_in areas d = record { data0 = d.data0; data1 = d.data1; data2 = d.data2; data3 = d.data3 }

  -- what is known of a store that was brought back
  abbrev pub back_in : Restarted V → Restarted AreaState
  back_in back = record {
    areas = states_in g back.areas;
    tip = back.tip;
    forks = back.forks;
    pages = back.pages;
  }

  pub back_known : (s : StoreSettings) (old : StoreAreas V) (back : Restarted V) → IsBack g s old back → IsBack known s (states_in g old) (back_in back)
  back_known s old back is = record {
    wal = is.wal;
    wal_durable = is.wal_durable;
    wal_others = changes_in _ old.wal back.areas.wal is.wal_others;
    brings = when_told (g.files old.wal) _ _ (λ m b. brings_in s back.tip (data_of old) (data_of back.areas) (record { forks = back.forks; pages = back.pages }) m b) is.brings;
    data_durable = durable_in (data_of back.areas) is.data_durable;
    data_others = each_in _ (data_of old) (data_of back.areas) is.data_others;
  }

  -- ---- what is refused

  bad_in : (s : StoreSettings) (tip : Tip) (from : Lsn) (old : DataAreas V) (place : Lsn) (m : Files) → IsBadBehind g s tip from old place m → IsBadBehind known s tip from (data_in old) place m
  bad_in s tip from old place m b = record {
    mid = data_in b.mid;
    neat = neat_in s.relseg b.mid b.neat;
    keeps = pages_in s.relseg old b.mid b.keeps;
    bad = record {
      records = b.bad.records;
      survive = b.bad.survive;
      bad = λ store held. b.bad.bad store (parts_of s.relseg b.mid store held);
    };
  }

  survivor_in : (s : StoreSettings) (tip : Tip) (old : DataAreas V) (place : Lsn) (m : Files) → IsBadSurvivor g s tip old place m → IsBadSurvivor known s tip (data_in old) place m
  survivor_in s tip old place m (inl b) = inl b
  survivor_in s tip old place m (inr b) = inr (b.0, (b.1.0, (b.1.1.0, bad_in s tip b.0 old place m b.1.1.1)))

  cause_in : (s : StoreSettings) (told : Option Files) (wal now : V) (old new : DataAreas V) (why : RestartWhy) → Why g s told wal now old new why → Why known s told (state_in g wal) (state_in g now) (data_in old) (data_in new) why
  cause_in s told wal now old new (Damaged damage) cause = cause
  cause_in s told wal now old new (BadDelta place) cause =
      when_told told (HasBad g s old place) (HasBad known s (data_in old) place) (λ m b. (b.0, (b.1.0, survivor_in s b.0 old place m b.1.1))) cause
  cause_in s told wal now old new (Failed Wal) cause = cause
  cause_in s told wal now old new (Failed (Data q)) cause =
      (cause.0, subst (λ (n : ℕ). Rose n (area_of (data_in new) q).faults) (sym (faults_in old q cause.0)) (subst (λ (n : ℕ). Rose (g.faults (area_of old q)) n) (sym (faults_in new q cause.0)) cause.1))
  cause_in s told wal now old new (Failed Sums) cause = cause
  cause_in s told wal now old new NoMemory cause = cause

  -- what is known of a store that wasn't
  abbrev pub fault_in : RestartFault V → RestartFault AreaState
  fault_in fault = record { areas = states_in g fault.areas; why = fault.why }

  pub refused_known : (s : StoreSettings) (old : StoreAreas V) (fault : RestartFault V) → IsRefused g s old fault → IsRefused known s (states_in g old) (fault_in fault)
  refused_known s old fault is = record {
    cause = cause_in s (g.files old.wal) old.wal fault.areas.wal (data_of old) (data_of fault.areas) fault.why is.cause;
    untouched = λ damage e told.
        let x = is.untouched damage e told in
        (changes_in _ old.wal fault.areas.wal x.0, ap data_in x.1);
    wal_others = changes_in _ old.wal fault.areas.wal is.wal_others;
    data_others = each_in _ (data_of old) (data_of fault.areas) is.data_others;
  }
