-- Filled data areas that are made durable, and what comes of several calls.
use Rattle.std.specs.Prelude.{IfOk, IfErr}
use Rattle.std.proofs.Common.{◌≡◌, ℕ, inl, inr, Result, Ok, Err, zero, suc, ◌≤◌, List, Option, Some, None, IfSome, refl, sym, subst, arith}
use Rattle.lsn_core.specs.Causes.{Rose}
use Rattle.lsn_core.specs.Files.{Files}
use Rattle.lsn_core.specs.Segment.{StoreSettings}
use Rattle.lsn_core.specs.Store.{Store}
use Rattle.lsn_core.specs.Tip.{Tip}
use Rattle.lsn_core.specs.declared.fault.StoreArea.TheVariants.{Wal, Data, Sums}
use Rattle.lsn_core.specs.declared.lsn.Lsn.{Lsn}
use Rattle.vault.specs.declared.area.Vault.{Ghosts}
use Rattle.vault.specs.Area.{Related}
use Rattle.vault.specs.Stops.{Event}
use Rattle.vault.specs.Frame.{AgreeBut, ChangesOnly, IsDurable, OnlyReads}
use Rattle.vault.proofs.Changed.{changes_on}
use Rattle.wal_archive.specs.declared.fault.Damage.{Damage}
use Rattle.recovery.specs.declared.tally.Tally.{Tally}
use Rattle.rel_files.specs.Forks.{Holds}
use Rattle.rel_files.proofs.ForkFrames.{reads_change}
use Rattle.data_areas.specs.declared.areas.DataAreas.{DataAreas}
use Rattle.data_areas.specs.Areas.{area_of}
use Rattle.data_areas.specs.Marking.{IsMark}
use Rattle.data_areas.specs.Rebuilt.{HoldsPages}
use Rattle.data_areas.proofs.Exact.{apart}
use Rattle.data_areas.specs.Settling.{AreSynced}
use Rattle.data_areas.proofs.Stored.{of_each}
use Rattle.data_areas.proofs.Turned.{on_answer, on_fault}
use Rattle.data_areas.proofs.Phases.{cause_on}
use Rattle.restart_areas.specs.Areas.{AreNeat, ForksChange, KeepPages, NoneChanges}
use Rattle.restart_areas.specs.Counting.{CountsAll, CountsPages, EachReads}
use Rattle.restart_areas.specs.Pages.{HoldParts}
use Rattle.store_restart.specs.declared.fault.RestartWhy.{RestartWhy}
use Rattle.store_restart.specs.declared.fault.RestartWhy.TheVariants.{Damaged, BadDelta, Failed, NoMemory}
use Rattle.store_restart.specs.Causes.{RestartCause, IsDataWhy, why_of}
use Rattle.store_restart.specs.Restart.{IsForkOrMark, OthersStay, AreDurable, HoldWhole, RedoesFrom, BringsOn, IsBadOver, IsBadBehind}
use Rattle.store_restart.specs.Steps.{IsSettled, IsUnsettled, IsFinished}
use Rattle.store_restart.proofs.Filled.{data_why, each_on, mark_changes, none_change, none_fell}
use Rattle.store_restart.proofs.Neatened.{same_files}

-- ---- what is held

pub synced_hold : {V : Type 0} (g : Ghosts V) (x y : DataAreas V) → NoneChanges g x y → (relseg : ℕ) (store : Store) → HoldParts g relseg x store → HoldParts g relseg y store
synced_hold g x y none relseg store holds q below =
    let has = holds q below in
    let same = of_each (λ u v. g.files v ≡ g.files u) x y (same_files g x.data0 y.data0 none.data0) (same_files g x.data1 y.data1 none.data1) (same_files g x.data2 y.data2 none.data2) (same_files g x.data3 y.data3 none.data3) q in
    (has.0, (has.1.0, subst (λ (o : Option Files). HoldsPages relseg o has.0) (sym same) has.1.1))

some_files : (a b : Files) → ◌≡◌ {A = Option Files} (Some a) (Some b) → b ≡ a
some_files a b e = cc

none_files : (a : Files) → ◌≡◌ {A = Option Files} None (Some a) → ⊥
none_files a e = cc

pub but_mark : (relseg : ℕ) (part : Store) (u v : Option Files) → Related (AgreeBut IsMark) u v → HoldsPages relseg u part → HoldsPages relseg v part
but_mark relseg part (Some a) (Some b) agree holds = record {
  files = record {
    files = b;
    are_told = refl;
    hold = apart relseg part a b agree (subst (λ (m : Files). Holds relseg m part) (some_files a holds.files.files holds.files.are_told) holds.files.hold);
  };
  whole = holds.whole;
}
but_mark relseg part None v agree holds = absurd (none_files holds.files.files holds.files.are_told)
but_mark relseg part (Some a) None agree holds = absurd agree

pub unmarked_hold : {V : Type 0} (g : Ghosts V) (y : DataAreas V) (now : V) → ChangesOnly g IsMark y.data0 now → (relseg : ℕ) (store : Store) → HoldParts g relseg y store → HoldParts g relseg (record y { data0 = now }) store
unmarked_hold g y now is relseg store holds zero below =
    let has = holds 0 below in
    (has.0, (has.1.0, but_mark relseg has.0 (g.files y.data0) (g.files now) is.files has.1.1))
unmarked_hold g y now is relseg store holds (suc zero) below = holds 1 below
unmarked_hold g y now is relseg store holds (suc (suc zero)) below = holds 2 below
unmarked_hold g y now is relseg store holds (suc (suc (suc zero))) below = holds 3 below
unmarked_hold g y now is relseg store holds (suc (suc (suc (suc q)))) below = absurd (omega (arith, below))

pub unmarked_change : {V : Type 0} (g : Ghosts V) (x y : DataAreas V) (now : V) → NoneChanges g x y → ChangesOnly g IsMark y.data0 now → OthersStay g x (record y { data0 = now })
unmarked_change g x y now is mark =
    let on = none_change g x y is in
    record {
      data0 = changes_on g IsForkOrMark x.data0 y.data0 now on.data0 (mark_changes g y.data0 now mark);
      data1 = on.data1;
      data2 = on.data2;
      data3 = on.data3;
    }

pub whole_on : {V : Type 0} (g : Ghosts V) (s : StoreSettings) (tip : Tip) (told : Option Files) (b c : DataAreas V) (tally : Tally) → ((relseg : ℕ) (store : Store) → HoldParts g relseg b store → HoldParts g relseg c store)
    → IfSome told (HoldWhole g s tip b tally) → IfSome told (HoldWhole g s tip c tally)
whole_on g s tip None b c tally on is = tt
whole_on g s tip (Some m) b c tally on is = record {
  records = is.records;
  survive = is.survive;
  store = is.store;
  made = is.made;
  held = on s.relseg is.store is.held;
  counted = is.counted;
}

-- ---- causes

rose_before : (a b c : ℕ) → a ≤ b → Rose b c → Rose a c
rose_before a b c le rose = omega (arith, le, rose)

-- a cause since a later moment is one since an earlier one
pub cause_since : {V : Type 0} (g : Ghosts V) (damaged : Damage → Type 0) (bad : Lsn → Type 0) (wal mid now : V) (a b c : DataAreas V) (why : RestartWhy) → g.faults wal ≤ g.faults mid → ((q : ℕ) → g.faults (area_of a q) ≤ g.faults (area_of b q))
    → RestartCause g damaged bad mid now b c why → RestartCause g damaged bad wal now a c why
cause_since g damaged bad wal mid now a b c (Damaged damage) le grow cause = cause
cause_since g damaged bad wal mid now a b c (BadDelta place) le grow cause = cause
cause_since g damaged bad wal mid now a b c (Failed Wal) le grow cause = rose_before (g.faults wal) (g.faults mid) (g.faults now) le cause
cause_since g damaged bad wal mid now a b c (Failed (Data q)) le grow cause = (cause.0, rose_before (g.faults (area_of a q)) (g.faults (area_of b q)) (g.faults (area_of c q)) (grow q) cause.1)
cause_since g damaged bad wal mid now a b c (Failed Sums) le grow cause = absurd cause
cause_since g damaged bad wal mid now a b c NoMemory le grow cause = tt

-- ---- what was redone

pub redoes_on : {V : Type 0} (g : Ghosts V) (s : StoreSettings) (tip : Tip) (from : Lsn) (told : Option Files) (old mid b c : DataAreas V) → AreNeat g s.relseg mid → KeepPages g s.relseg old mid → ForksChange g old mid → NoneChanges g b c
    → IfSome told (RedoesFrom g s tip from mid b) → IfSome told (BringsOn g s tip from old c)
redoes_on g s tip from None old mid b c neat keeps changes none is = tt
redoes_on g s tip from (Some m) old mid b c neat keeps changes none is = record {
  mid = mid;
  neat = neat;
  keeps = keeps;
  changes = changes;
  redoes = record {
    records = is.records;
    survive = is.survive;
    redone = λ store holds.
        let made = is.redone store holds in
        (made.0, (made.1.0, synced_hold g b c none s.relseg made.0 made.1.1));
  };
}

pub bad_behind : {V : Type 0} (g : Ghosts V) (s : StoreSettings) (tip : Tip) (from place : Lsn) (told : Option Files) (old mid : DataAreas V) → AreNeat g s.relseg mid → KeepPages g s.relseg old mid
    → IfSome told (IsBadOver g s tip from mid place) → IfSome told (IsBadBehind g s tip from old place)
bad_behind g s tip from place None old mid neat keeps is = tt
bad_behind g s tip from place (Some m) old mid neat keeps is = record { mid = mid; neat = neat; keeps = keeps; bad = is }

-- an entry that can't be redone is so for another reason
pub cause_with : {V : Type 0} (g : Ghosts V) (damaged : Damage → Type 0) (bad worse : Lsn → Type 0) (wal now : V) (a b : DataAreas V) (why : RestartWhy) → ((place : Lsn) → bad place → worse place)
    → RestartCause g damaged bad wal now a b why → RestartCause g damaged worse wal now a b why
cause_with g damaged bad worse wal now a b (Damaged damage) up cause = cause
cause_with g damaged bad worse wal now a b (BadDelta place) up cause = up place cause
cause_with g damaged bad worse wal now a b (Failed Wal) up cause = cause
cause_with g damaged bad worse wal now a b (Failed (Data q)) up cause = cause
cause_with g damaged bad worse wal now a b (Failed Sums) up cause = absurd cause
cause_with g damaged bad worse wal now a b NoMemory up cause = tt

-- ---- areas that were only read

pub none_read : {V : Type 0} (g : Ghosts V) (a b : DataAreas V) → EachReads g a b → NoneChanges g a b
none_read g a b is = record {
  data0 = reads_change g (λ name. ⊥) a.data0 b.data0 is.data0;
  data1 = reads_change g (λ name. ⊥) a.data1 b.data1 is.data1;
  data2 = reads_change g (λ name. ⊥) a.data2 b.data2 is.data2;
  data3 = reads_change g (λ name. ⊥) a.data3 b.data3 is.data3;
}

durable_still : {V : Type 0} (g : Ghosts V) (x y : V) → OnlyReads g x y → IsDurable (g.files x) (g.past x) → IsDurable (g.files y) (g.past y)
durable_still g x y is durable = subst (λ (o : Option Files). IsDurable o (g.past y)) (sym is.files) (subst (λ (p : Option (List Event)). IsDurable (g.files x) p) (sym is.past) durable)

pub durable_read : {V : Type 0} (g : Ghosts V) (a b : DataAreas V) → EachReads g a b → AreDurable g a → AreDurable g b
durable_read g a b is durable = record {
  data0 = durable_still g a.data0 b.data0 is.data0 durable.data0;
  data1 = durable_still g a.data1 b.data1 is.data1 durable.data1;
  data2 = durable_still g a.data2 b.data2 is.data2 durable.data2;
  data3 = durable_still g a.data3 b.data3 is.data3 durable.data3;
}

counts_at : (relseg : ℕ) (told now : Option Files) (tally : Tally) → now ≡ told → CountsPages relseg told tally → CountsPages relseg now tally
counts_at relseg told now tally same counts = subst (λ (o : Option Files). CountsPages relseg o tally) (sym same) counts

pub counts_read : {V : Type 0} (g : Ghosts V) (relseg : ℕ) (a b : DataAreas V) (tally : Tally) → EachReads g a b → CountsAll g relseg a tally → CountsAll g relseg b tally
counts_read g relseg a b tally is counts = record {
  first = counts.first;
  second = counts.second;
  third = counts.third;
  fourth = counts.fourth;
  data0 = counts_at relseg (g.files a.data0) (g.files b.data0) counts.first is.data0.files counts.data0;
  data1 = counts_at relseg (g.files a.data1) (g.files b.data1) counts.second is.data1.files counts.data1;
  data2 = counts_at relseg (g.files a.data2) (g.files b.data2) counts.third is.data2.files counts.data2;
  data3 = counts_at relseg (g.files a.data3) (g.files b.data3) counts.fourth is.data3.files counts.data3;
  together = counts.together;
}

pub synced_durable : {V : Type 0} (g : Ghosts V) (x y : DataAreas V) → AreSynced g x y → AreDurable g y
synced_durable g x y is = record { data0 = is.data0.settled; data1 = is.data1.settled; data2 = is.data2.settled; data3 = is.data3.settled }

-- ---- what comes of filled areas

rose_behind : (a b c : ℕ) → Rose a b → b ≤ c → Rose a c
rose_behind a b c rose le = omega (arith, rose, le)

-- a cause up to a moment is one up to a later one
cause_until : {V : Type 0} (g : Ghosts V) (damaged : Damage → Type 0) (bad : Lsn → Type 0) (wal now : V) (a b c : DataAreas V) (why : RestartWhy) → ((q : ℕ) → g.faults (area_of b q) ≤ g.faults (area_of c q)) → RestartCause g damaged bad wal now a b why → RestartCause g damaged bad wal now a c why
cause_until g damaged bad wal now a b c (Damaged damage) grow cause = cause
cause_until g damaged bad wal now a b c (BadDelta place) grow cause = cause
cause_until g damaged bad wal now a b c (Failed Wal) grow cause = cause
cause_until g damaged bad wal now a b c (Failed (Data q)) grow cause = (cause.0, rose_behind (g.faults (area_of a q)) (g.faults (area_of b q)) (g.faults (area_of c q)) cause.1 (grow q))
cause_until g damaged bad wal now a b c (Failed Sums) grow cause = absurd cause
cause_until g damaged bad wal now a b c NoMemory grow cause = tt

module _ {V : Type 0} (g : Ghosts V) (damaged : Damage → Type 0) (bad : Lsn → Type 0) (wal now : V) (old mid b c : DataAreas V) (done : Result Tally RestartWhy) (first : OthersStay g old mid) (second : OthersStay g mid b) (third : OthersStay g b c)
    (filled : IfErr done (RestartCause g damaged bad wal now mid b)) where
  grown : (q : ℕ) → g.faults (area_of old q) ≤ g.faults (area_of b q)
  grown q = (let x = none_fell g IsForkOrMark old mid first q in let y = none_fell g IsForkOrMark mid b second q in omega (arith, x, y))

  unsettled : (why : RestartWhy) → IsUnsettled g b c done why → RestartCause g damaged bad wal now old c why
  unsettled why (inl is) =
      cause_since g damaged bad wal wal now old mid c why (omega arith) (none_fell g IsForkOrMark old mid first)
      (cause_until g damaged bad wal now mid b c why (none_fell g IsForkOrMark b c third) (subst (λ (r : Result Tally RestartWhy). IfErr r (RestartCause g damaged bad wal now mid b)) is filled))
  unsettled why (inr is) =
      subst (RestartCause g damaged bad wal now old c) (sym is.1.0)
      (cause_since g damaged bad wal wal now old b c (why_of is.0) (omega arith) grown (data_why g damaged bad wal now b c is.0 is.1.1))

  pub unsettled_cause : (result : Result Tally RestartWhy) → IfErr result (IsUnsettled g b c done) → IfErr result (RestartCause g damaged bad wal now old c)
  unsettled_cause result is = on_fault result (IsUnsettled g b c done) (RestartCause g damaged bad wal now old c) unsettled is

pub settled_whole : {V : Type 0} (g : Ghosts V) (s : StoreSettings) (tip : Tip) (told : Option Files) (b c : DataAreas V) (done result : Result Tally RestartWhy) → IfOk result (IsSettled g b c done) → IfOk done (λ t. IfSome told (HoldWhole g s tip b t)) → IfOk result (λ t. IfSome told (HoldWhole g s tip c t))
settled_whole g s tip told b c done (Ok tally) settled whole = whole_on g s tip told b c tally settled.held (subst (λ (r : Result Tally RestartWhy). IfOk r (λ t. IfSome told (HoldWhole g s tip b t))) settled.done_is whole)
settled_whole g s tip told b c done (Err why) settled whole = tt

pub finished_brings : {V : Type 0} (g : Ghosts V) (s : StoreSettings) (tip : Tip) (from : Lsn) (told : Option Files) (relseg : ℕ) (old mid b c : DataAreas V) (done result : Result Tally RestartWhy) → AreNeat g s.relseg mid → KeepPages g s.relseg old mid → ForksChange g old mid → NoneChanges g b c
    → IfOk result (IsFinished g relseg b c done) → IfOk done (λ t. IfSome told (RedoesFrom g s tip from mid b)) → IfOk result (λ t. IfSome told (BringsOn g s tip from old c))
finished_brings g s tip from told relseg old mid b c done (Ok tally) neat keeps changes none finished redone =
    redoes_on g s tip from told old mid b c neat keeps changes none (subst (λ (r : Result Tally RestartWhy). IfOk r (λ t. IfSome told (RedoesFrom g s tip from mid b))) finished.done_is redone)
finished_brings g s tip from told relseg old mid b c done (Err why) neat keeps changes none finished redone = tt

pub finished_counts : {V : Type 0} (g : Ghosts V) (relseg now : ℕ) (b c : DataAreas V) (done result : Result Tally RestartWhy) → relseg ≡ now → IfOk result (IsFinished g relseg b c done) → IfOk result (CountsAll g now c)
finished_counts g relseg now b c done (Ok tally) same finished = subst (λ (n : ℕ). CountsAll g n c tally) same finished.counts
finished_counts g relseg now b c done (Err why) same finished = tt

pub bad_cause : {V : Type 0} (g : Ghosts V) (s : StoreSettings) (tip : Tip) (from : Lsn) (told : Option Files) (damaged : Damage → Type 0) (wal now : V) (old mid b : DataAreas V) (done : Result Tally RestartWhy) → AreNeat g s.relseg mid → KeepPages g s.relseg old mid
    → IfErr done (RestartCause g damaged (λ place. IfSome told (IsBadOver g s tip from mid place)) wal now mid b) → IfErr done (RestartCause g damaged (λ place. IfSome told (IsBadBehind g s tip from old place)) wal now mid b)
bad_cause g s tip from told damaged wal now old mid b (Ok tally) neat keeps cause = tt
bad_cause g s tip from told damaged wal now old mid b (Err why) neat keeps cause =
    cause_with g damaged (λ place. IfSome told (IsBadOver g s tip from mid place)) (λ place. IfSome told (IsBadBehind g s tip from old place)) wal now mid b why (λ place bad. bad_behind g s tip from place told old mid neat keeps bad) cause

-- areas that were synced, and counted
module _ {V : Type 0} (g : Ghosts V) (relseg : ℕ) (a b c : DataAreas V) (done : Result Tally RestartWhy) (synced : AreSynced g a b) (none : NoneChanges g a b) (read : EachReads g b c) where
  pub counted_none : NoneChanges g a c
  counted_none = each_on g (λ name. ⊥) a b c none (none_read g b c read)

  finished : (was tally : Tally) → done ≡ Ok was → CountsAll g relseg b tally → IsFinished g relseg a c done tally
  finished was tally is counts = record { was = was; done_is = is; durable = durable_read g b c read (synced_durable g a b synced); counts = counts_read g relseg b c tally read counts }

  pub finished_all : (was : Tally) (result : Result Tally RestartWhy) → done ≡ Ok was → IfOk result (CountsAll g relseg b) → IfOk result (IsFinished g relseg a c done)
  finished_all was result is counts = on_answer result (CountsAll g relseg b) (IsFinished g relseg a c done) (λ tally counted. finished was tally is counted) counts

  uncounted : (why : RestartWhy) → IsDataWhy g b c why → IsUnsettled g a c done why
  uncounted why is = inr (is.0, (is.1.0, cause_on g a b c is.0 (none_fell g (λ name. ⊥) a b none) is.1.1))

  pub uncounted_all : (result : Result Tally RestartWhy) → IfErr result (IsDataWhy g b c) → IfErr result (IsUnsettled g a c done)
  uncounted_all result cause = on_fault result (IsDataWhy g b c) (IsUnsettled g a c done) uncounted cause
