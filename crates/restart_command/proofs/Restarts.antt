-- What `restart` comes to over the areas of a store, whose settings were read before.
use Rattle.std.proofs.Common.{◌≡◌, ℕ, ◌≤◌, List, Option, IfSome, IsSome, refl, sym, subst, arith, inl, inr}
use Rattle.lsn_core.specs.Files.{Files}
use Rattle.lsn_core.specs.Segment.{StoreSettings}
use Rattle.lsn_core.specs.declared.lsn.Lsn.{Lsn}
use Rattle.lsn_core.specs.declared.fault.StoreArea.TheVariants.{Wal, Data, Sums}
use Rattle.vault.specs.declared.area.Vault.{Ghosts as Vaults}
use Rattle.vault.specs.Boxed.{on_heap}
use Rattle.vault.specs.Area.{Related}
use Rattle.vault.specs.Frame.{ChangesOnly, OnlyReads}
use Rattle.vault.specs.Site.{AreaState, state_in}
use Rattle.vault.proofs.Changed.{changes_on}
use Rattle.rel_files.proofs.ForkFrames.{reads_change}
use Rattle.recovery.specs.Causes.{HasSettings}
use Rattle.data_areas.specs.declared.areas.DataAreas.{DataAreas}
use Rattle.restart_areas.specs.Areas.{EachChanges}
use Rattle.store_areas.specs.declared.areas.StoreAreas.{StoreAreas}
use Rattle.store_areas.specs.Begin.{data_of}
use Rattle.store_restart.specs.declared.fault.RestartFault.{RestartFault}
use Rattle.store_restart.specs.declared.fault.RestartWhy.{RestartWhy}
use Rattle.store_restart.specs.declared.fault.RestartWhy.TheVariants.{Damaged, BadDelta, Failed, NoMemory}
use Rattle.store_restart.specs.declared.restarting.Restarted.{Restarted}
use Rattle.store_restart.specs.Restart.{BringsBack, IsForkOrMark}
use Rattle.store_restart.specs.Restarted.{IsBack, IsBackFrom, IsCutBack, IsRefused, IsRefusedFrom, plain, plain_back, plain_fault}
use Rattle.store_restart.specs.Trimmed.{IsArchiveFile}
use Rattle.store_commands.proofs.ReplayCauses.{rises}
use Rattle.restart_command.specs.Restart.{known, StoreState, RestartDone, IsUnrestarted}
use Rattle.restart_command.specs.Inner.{states_in}
use Rattle.restart_command.proofs.Known.{Why, back_in, back_known, fault_in, refused_known}

-- a store with another area of its WAL
abbrev with_wal : {A : Type 0} → StoreAreas A → A → StoreAreas A
with_wal areas wal = record areas { wal = wal }

-- ---- its settings were read before

before : (Among : List ℕ → Type 0) (x y z : AreaState) → OnlyReads known x y → ChangesOnly known Among y z → ChangesOnly known Among x z
before Among x y z reads changes = changes_on known Among x y z (reads_change known Among x y reads) changes

back_before : (s : StoreSettings) (old : StoreState) (mid : AreaState) (back : Restarted AreaState) → OnlyReads known old.wal mid → IsBack known s (with_wal old mid) back → IsBack known s old back
back_before s old mid back reads is = record {
  wal = subst (λ (o : Option Files). Related (IsCutBack s back.tip) o back.areas.wal.files) reads.files is.wal;
  wal_durable = is.wal_durable;
  wal_others = before (IsArchiveFile s.segment) old.wal mid back.areas.wal reads is.wal_others;
  brings = subst (λ (o : Option Files). IfSome o (BringsBack known s back.tip (data_of old) (data_of back.areas) (record { forks = back.forks; pages = back.pages }))) reads.files is.brings;
  data_durable = is.data_durable;
  data_others = is.data_others;
}

cause_before : (s : StoreSettings) (told : Option Files) (old mid now : AreaState) (pages new : DataAreas AreaState) (why : RestartWhy) → old.faults ≤ mid.faults → Why known s told mid now pages new why → Why known s told old now pages new why
cause_before s told old mid now pages new (Damaged damage) later cause = cause
cause_before s told old mid now pages new (BadDelta place) later cause = cause
cause_before s told old mid now pages new (Failed Wal) later cause = rises old.faults mid.faults now.faults now.faults later (omega arith) cause
cause_before s told old mid now pages new (Failed (Data q)) later cause = cause
cause_before s told old mid now pages new (Failed Sums) later cause = cause
cause_before s told old mid now pages new NoMemory later cause = cause

refused_before : (s : StoreSettings) (old : StoreState) (mid : AreaState) (fault : RestartFault AreaState) → OnlyReads known old.wal mid → IsRefused known s (with_wal old mid) fault → IsRefused known s old fault
refused_before s old mid fault reads is = record {
  cause = cause_before s old.wal.files old.wal mid fault.areas.wal (data_of old) (data_of fault.areas) fault.why reads.faults
      (subst (λ (o : Option Files). Why known s o mid fault.areas.wal (data_of old) (data_of fault.areas) fault.why) reads.files is.cause);
  untouched = λ damage e told.
      let x = is.untouched damage e (subst (λ (o : Option Files). IsSome o) (sym reads.files) told) in
      (before (λ name. ⊥) old.wal mid fault.areas.wal reads x.0, x.1);
  wal_others = before (IsArchiveFile s.segment) old.wal mid fault.areas.wal reads is.wal_others;
  data_others = is.data_others;
}

-- ---- memory ran out before anything was done

same_area : (Among : List ℕ → Type 0) (x : AreaState) → ChangesOnly known Among x x
same_area Among x = reads_change known Among x x (record { files = refl; past = refl; faults = omega arith })

same_each : (Among : List ℕ → Type 0) (areas : DataAreas AreaState) → EachChanges known Among areas areas
same_each Among areas = record {
  data0 = same_area Among areas.data0;
  data1 = same_area Among areas.data1;
  data2 = same_area Among areas.data2;
  data3 = same_area Among areas.data3;
}

no_memory : (s : StoreSettings) (old : StoreState) → IsRefused known s old (record { areas = old; why = NoMemory })
no_memory s old = record {
  cause = tt;
  untouched = λ damage e told. absurd cc;
  wal_others = same_area (IsArchiveFile s.segment) old.wal;
  data_others = same_each IsForkOrMark (data_of old);
}

-- ---- what it comes to

module _ {V : Type 0} (g : Vaults V) where
  reads_in : (old new : V) → OnlyReads g old new → OnlyReads known (state_in g old) (state_in g new)
  reads_in old new reads = record { files = reads.files; past = reads.past; faults = reads.faults }

  -- a store was brought back, whose areas were on the heap meanwhile
  back_there : (s : StoreSettings) (old : StoreAreas V) (back : Restarted V) → IsBackFrom g s old back → IsBack known s (states_in g old) (back_in g back)
  back_there s old back is =
      let there : IsBack known s (states_in g (plain is.before)) (back_in g (plain_back is.behind)) = back_known (on_heap g) s is.before is.behind is.is in
      subst (λ (x : StoreAreas V). IsBack known s (states_in g x) (back_in g back)) is.before_is
      (subst (λ (b : Restarted V). IsBack known s (states_in g (plain is.before)) (back_in g b)) (sym is.behind_is) there)

  refused_there : (s : StoreSettings) (old : StoreAreas V) (fault : RestartFault V) → IsRefusedFrom g s old fault → IsRefused known s (states_in g old) (fault_in g fault)
  refused_there s old fault (inl none) =
      subst (λ (a : StoreAreas V). IsRefused known s (states_in g old) (record { areas = states_in g a; why = fault.why })) (sym none.0)
      (subst (λ (w : RestartWhy). IsRefused known s (states_in g old) (record { areas = states_in g old; why = w })) (sym none.1) (no_memory s (states_in g old)))
  refused_there s old fault (inr is) =
      let there : IsRefused known s (states_in g (plain is.before)) (fault_in g (plain_fault is.behind)) = refused_known (on_heap g) s is.before is.behind is.is in
      subst (λ (x : StoreAreas V). IsRefused known s (states_in g x) (fault_in g fault)) is.before_is
      (subst (λ (f : RestartFault V). IsRefused known s (states_in g (plain is.before)) (fault_in g f)) (sym is.behind_is) there)

  pub is_done : (s : StoreSettings) (old : StoreAreas V) (mid : V) (back : Restarted V) (end : Lsn) → end.0 ≡ back.tip.end → HasSettings (g.files old.wal) s → OnlyReads g old.wal mid → IsBackFrom g s (with_wal old mid) back
      → RestartDone (states_in g old) (states_in g back.areas) (record { end = end; forks = back.forks; pages = back.pages })
  is_done s old mid back end ends given reads is = record {
    settings = s;
    given = given;
    tip = back.tip;
    back = back_before s (states_in g old) (state_in g mid) (back_in g back) (reads_in old.wal mid reads) (back_there s (with_wal old mid) back is);
    end = ends;
  }

  pub is_refused : (s : StoreSettings) (old : StoreAreas V) (mid : V) (fault : RestartFault V) (mib : ℕ) → mib ≡ s.segment → HasSettings (g.files old.wal) s → OnlyReads g old.wal mid → IsRefusedFrom g s (with_wal old mid) fault
      → IsUnrestarted (states_in g old) (states_in g fault.areas) mib fault.why
  is_refused s old mid fault mib segment given reads is = record {
    settings = s;
    given = given;
    segment = segment;
    refused = refused_before s (states_in g old) (state_in g mid) (fault_in g fault) (reads_in old.wal mid reads) (refused_there s (with_wal old mid) fault is);
  }
