-- A store that is brought back: what the survivors tell, and what comes of both ways.
use Rattle.std.proofs.Common.{◌≡◌, ℕ, ◌≤◌, length, Result, Ok, Err, Bool, true, false, true≢false, cond, inl, inr, List, Option, Some, None, IfSome, IsSome, is_some, refl, sym, ap, subst, ◌∙◌, arith}
use Rattle.std.specs.Prelude.{◌≢◌, ◌⊎◌, IfOk, IfErr, OnOk}
use Rattle.std.specs.FinMap.{get}
use Rattle.std.specs.Option.{option_map}
use Rattle.lsn_core.specs.Causes.{Rose}
use Rattle.lsn_core.specs.Files.{Files}
use Rattle.lsn_core.specs.declared.fault.AreaFault.{AreaFault}
use Rattle.lsn_core.specs.declared.fault.AreaFault.TheVariants as area
use Rattle.lsn_core.specs.declared.fault.StoreArea.TheVariants.{Wal, Data, Sums}
use Rattle.lsn_core.specs.Segment.{IsSegmentMib, StoreSettings}
use Rattle.lsn_core.specs.Tip.{Tip}
use Rattle.lsn_core.specs.declared.lsn.Lsn.{Lsn}
use Rattle.vault.specs.declared.area.Vault.{Ghosts}
use Rattle.vault.specs.Area.{Related, IsSizeIn}
use Rattle.vault.specs.Stops.{noted, synced}
use Rattle.vault.specs.Frame.{Has, IsDurable, OnlyReads}
use Rattle.vault.proofs.Changed.{changes_on}
use Rattle.vault.proofs.Through.{durable_behind}
use Rattle.wal_record.specs.declared.record.Record.{Record}
use Rattle.wal_archive.specs.declared.fault.Damage.{Damage}
use Rattle.wal_reader.specs.declared.fault.WalFault.{WalFault}
use Rattle.wal_reader.specs.declared.fault.WalFault.TheVariants as wal
use Rattle.wal_reader.specs.Causes.{CauseOf}
use Rattle.recovery.specs.declared.tally.Tally.{Tally}
use Rattle.rel_files.specs.Forks.{IsForkPath}
use Rattle.rel_files.proofs.ForkFrames.{reads_change, changes_none}
use Rattle.rel_neat.proofs.Staying.{keeps_on, reads_keep}
use Rattle.data_areas.specs.declared.areas.DataAreas.{DataAreas}
use Rattle.data_areas.specs.Areas.{area_of, data_fault}
use Rattle.data_areas.specs.Marking.{rebuilding_name}
use Rattle.restart_areas.specs.Areas.{EachChanges, KeepPages}
use Rattle.restart_areas.specs.Counting.{CountsAll}
use Rattle.data_areas.proofs.Exact.{nothing_told}
use Rattle.store_restart.specs.declared.fault.RestartWhy.{RestartWhy}
use Rattle.store_restart.specs.declared.fault.RestartWhy.TheVariants.{Damaged, BadDelta, Failed, NoMemory}
use Rattle.store_restart.specs.declared.survivors.Survivors.{Survivors}
use Rattle.store_restart.specs.Causes.{RestartCause, reader_why, why_of, why_of_wal}
use Rattle.store_restart.specs.Restart.{IsForkOrMark, OthersStay, IsUnmarked, EndWith, HoldWhole, IsBadEntry, StartsAt, BringsOn, IsBadBehind, BeginsAt, BringsBack, IsBadSurvivor}
use Rattle.store_restart.specs.Restarted.{IsCutBack, IsUnread}
use Rattle.store_restart.specs.Survivors.{AreRead, IsSpoilt, has_start, if_started, last_named, survivor_causes}
use Rattle.store_restart.specs.Trimmed.{AreCutAt}
use Rattle.store_restart.proofs.Filled.{none_fell}
use Rattle.store_restart.proofs.Settled.{cause_since, cause_with}
use Rattle.store_restart.proofs.Survived.{by_test}
use Rattle.store_restart.proofs.Upto.{cut_is_wal}

-- ---- what the survivors tell

pub ends_with : (s : StoreSettings) (told : Option Files) (found : Survivors) → AreRead s told found → IfSome told (EndWith s found.tip)
ends_with s None found read = tt
ends_with s (Some m) found read = (read.records, read.off.survive)

pub begins_at : (s : StoreSettings) (told : Option Files) (found : Survivors) (start : Option Lsn) → AreRead s told found → found.redo ≡ start → IfSome told (BeginsAt s found.tip start)
begins_at s None found start read is = tt
begins_at s (Some m) found start read is = record { records = read.records; survive = read.off.survive; start_is = sym read.redo ∙ is }

some_lsn : (a b : Lsn) → ◌≡◌ {A = Option Lsn} (Some a) (Some b) → a ≡ b
some_lsn a b e = cc

none_lsn : (a : Lsn) → ◌≡◌ {A = Option Lsn} None (Some a) → ⊥
none_lsn a e = cc

has_place : (rs : List Record) (place from : Lsn) → cond (has_start rs place.0) (Some place) None ≡ Some from → has_start rs from.0 ≡ true
has_place rs place from is =
    by_test (has_start rs place.0)
    (λ there. subst (λ (l : Lsn). has_start rs l.0 ≡ true) (some_lsn place from (ap (λ (b : Bool). cond b (Some place) None) (sym there) ∙ is)) there)
    (λ missing. absurd (none_lsn from (ap (λ (b : Bool). cond b (Some place) None) (sym missing) ∙ is)))

has_named : (rs : List Record) (named : Option Lsn) (from : Lsn) → if_started rs named ≡ Some from → has_start rs from.0 ≡ true
has_named rs None from is = absurd (none_lsn from is)
has_named rs (Some place) from is = has_place rs place from is

pub starts_at : (s : StoreSettings) (told : Option Files) (tip : Tip) (from : Lsn) → IfSome told (BeginsAt s tip (Some from)) → IfSome told (StartsAt s tip from)
starts_at s None tip from begins = tt
starts_at s (Some m) tip from begins = record { records = begins.records; survive = begins.survive; starts = has_named begins.records (last_named None begins.records) from begins.start_is }

-- ---- the mark

there_is : (o : Option (List ℕ)) (marked : Bool) → marked ≡ is_some o → marked ≡ true → o ≢ None
there_is None marked is yeah none = true≢false (sym yeah ∙ is)
there_is (Some bytes) marked is yeah none = absurd cc

none_is : (o : Option (List ℕ)) (marked : Bool) → marked ≡ is_some o → marked ≡ false → o ≡ None
none_is None marked is nope = refl
none_is (Some bytes) marked is nope = absurd (true≢false (sym is ∙ nope))

pub has_mark : (told : Option Files) (marked : Bool) → IfSome told (λ m. marked ≡ is_some (get m rebuilding_name)) → marked ≡ true → IfSome told (Has rebuilding_name)
has_mark None marked is yeah = tt
has_mark (Some m) marked is yeah = there_is (get m rebuilding_name) marked is yeah

pub no_mark : (told : Option Files) (marked : Bool) → IfSome told (λ m. marked ≡ is_some (get m rebuilding_name)) → marked ≡ false → IfSome told (λ m. get m rebuilding_name ≡ None)
no_mark None marked is nope = tt
no_mark (Some m) marked is nope = none_is (get m rebuilding_name) marked is nope

-- ---- both ways, of areas of which the first was read before

pub rebuilt_back : {V : Type 0} (g : Ghosts V) (s : StoreSettings) (tip : Tip) (told : Option Files) (old new : DataAreas V) (tally : Tally) → IfSome (g.files old.data0) (Has rebuilding_name) ⊎ IfSome told (BeginsAt s tip None)
    → IfSome told (HoldWhole g s tip new tally) → IsUnmarked g new → IfSome told (BringsBack g s tip old new tally)
rebuilt_back g s tip None old new tally why whole unmarked = tt
rebuilt_back g s tip (Some m) old new tally why whole unmarked = inl (why, (whole, unmarked))

-- nothing of areas changes where the first is only read
pub first_read : {V : Type 0} (g : Ghosts V) (Among : List ℕ → Type 0) (old : DataAreas V) (read : V) → OnlyReads g old.data0 read → EachChanges g Among old (record old { data0 = read })
first_read g Among old read reads = record {
  data0 = reads_change g Among old.data0 read reads;
  data1 = changes_none g Among old.data1;
  data2 = changes_none g Among old.data2;
  data3 = changes_none g Among old.data3;
}

keep_before : {V : Type 0} (g : Ghosts V) (relseg : ℕ) (old mid : DataAreas V) (read : V) → OnlyReads g old.data0 read → KeepPages g relseg (record old { data0 = read }) mid → KeepPages g relseg old mid
keep_before g relseg old mid read reads keeps = record {
  data0 = keeps_on g relseg old.data0 read mid.data0 (reads_keep g relseg old.data0 read reads) keeps.data0;
  data1 = keeps.data1;
  data2 = keeps.data2;
  data3 = keeps.data3;
}

change_before : {V : Type 0} (g : Ghosts V) (Among : List ℕ → Type 0) (old mid : DataAreas V) (read : V) → OnlyReads g old.data0 read → EachChanges g Among (record old { data0 = read }) mid → EachChanges g Among old mid
change_before g Among old mid read reads changes = record {
  data0 = changes_on g Among old.data0 read mid.data0 (reads_change g Among old.data0 read reads) changes.data0;
  data1 = changes.data1;
  data2 = changes.data2;
  data3 = changes.data3;
}

pub others_before : {V : Type 0} (g : Ghosts V) (old mid : DataAreas V) (read : V) → OnlyReads g old.data0 read → OthersStay g (record old { data0 = read }) mid → OthersStay g old mid
others_before g old mid read reads changes = change_before g IsForkOrMark old mid read reads changes

pub redone_back : {V : Type 0} (g : Ghosts V) (s : StoreSettings) (tip : Tip) (from : Lsn) (told : Option Files) (old new : DataAreas V) (read : V) (tally : Tally) → OnlyReads g old.data0 read → IfSome told (BeginsAt s tip (Some from)) → IsUnmarked g old
    → IfSome told (BringsOn g s tip from (record old { data0 = read }) new) → CountsAll g s.relseg new tally → IfSome told (BringsBack g s tip old new tally)
redone_back g s tip from None old new read tally reads begins unmarked is counts = tt
redone_back g s tip from (Some m) old new read tally reads begins unmarked is counts = inr (
  from,
  (
    begins,
    (
      unmarked,
      (
        record {
          mid = is.mid;
          neat = is.neat;
          keeps = keep_before g s.relseg old is.mid read reads is.keeps;
          changes = change_before g IsForkPath old is.mid read reads is.changes;
          redoes = is.redoes;
        },
        counts,
      ),
    ),
  ),
)

pub bad_entry : {V : Type 0} (g : Ghosts V) (s : StoreSettings) (tip : Tip) (place : Lsn) (told : Option Files) (old : DataAreas V) → IfSome told (IsBadEntry s tip place) → IfSome told (IsBadSurvivor g s tip old place)
bad_entry g s tip place None old bad = tt
bad_entry g s tip place (Some m) old bad = inl bad

pub bad_redo : {V : Type 0} (g : Ghosts V) (s : StoreSettings) (tip : Tip) (from place : Lsn) (told : Option Files) (old : DataAreas V) (read : V) → OnlyReads g old.data0 read → IfSome told (BeginsAt s tip (Some from)) → IsUnmarked g old
    → IfSome told (IsBadBehind g s tip from (record old { data0 = read }) place) → IfSome told (IsBadSurvivor g s tip old place)
bad_redo g s tip from place None old read reads begins unmarked bad = tt
bad_redo g s tip from place (Some m) old read reads begins unmarked bad = inr (from, (begins, (unmarked, record { mid = bad.mid; neat = bad.neat; keeps = keep_before g s.relseg old bad.mid read reads bad.keeps; bad = bad.bad })))

-- ---- the WAL

pub cut_back : (s : StoreSettings) (found : Survivors) (first mid last : Option Files) (end : ℕ) → IsSegmentMib s.segment → mid ≡ first → end ≡ found.tip.end → AreRead s first found → Related (AreCutAt s.segment end) mid last → Related (IsCutBack s found.tip) first last
cut_back s found first mid last end size same is read cut = go first last read (subst (λ (n : ℕ). Related (AreCutAt s.segment n) first last) is (subst (λ (o : Option Files). Related (AreCutAt s.segment end) o last) same cut))
  where
    go : (o p : Option Files) → AreRead s o found → Related (AreCutAt s.segment found.tip.end) o p → Related (IsCutBack s found.tip) o p
    go None None told at = tt
    go (Some m) (Some n) told at = record { records = told.records; off = told.off; wal = cut_is_wal s m n told.records found.tip size told.off.survive at }
    go None (Some n) told at = absurd at
    go (Some m) None told at = absurd at

-- ---- why the survivors aren't read, and what comes of the WAL's area

pub unread_sync : {V : Type 0} (g : Ghosts V) (s : StoreSettings) (old new : V) (why : AreaFault) → (why ≡ area.Failed → Rose (g.faults old) (g.faults new)) → IsUnread g s old new (why_of_wal why)
unread_sync g s old new area.Failed rose = rose refl
unread_sync g s old new area.NoMemory rose = tt

spoilt_in : (s : StoreSettings) (damage : Damage) (mid told : Option Files) → mid ≡ told → IfSome mid (IsSpoilt s damage) → IfSome told (IsSpoilt s damage)
spoilt_in s damage mid told same is = subst (λ (o : Option Files). IfSome o (IsSpoilt s damage)) same is

pub unread_by : {V : Type 0} (g : Ghosts V) (s : StoreSettings) (old mid new : V) (fault : WalFault) → g.files mid ≡ g.files old → g.faults old ≤ g.faults mid → CauseOf (survivor_causes s (g.files mid)) (g.faults mid) (g.faults new) fault → IsUnread g s old new (reader_why fault)
unread_by g s old mid new (wal.Damaged damage) same le cause = spoilt_in s damage (g.files mid) (g.files old) same cause
unread_by g s old mid new wal.SettingsDamaged same le cause = absurd cause
unread_by g s old mid new (wal.Timeline name) same le cause = absurd cause
unread_by g s old mid new wal.NotInit same le cause = absurd cause
unread_by g s old mid new wal.Failed same le cause = omega (arith, le, cause)
unread_by g s old mid new wal.NoMemory same le cause = tt

pub unread_cause : {V : Type 0} (g : Ghosts V) (s : StoreSettings) (bad : Lsn → Type 0) (old new : V) (a : DataAreas V) (why : RestartWhy) → IsUnread g s old new why → RestartCause g (λ damage. IfSome (g.files old) (IsSpoilt s damage)) bad old new a a why
unread_cause g s bad old new a (Damaged damage) is = is
unread_cause g s bad old new a (BadDelta place) is = absurd is
unread_cause g s bad old new a (Failed Wal) is = is
unread_cause g s bad old new a (Failed (Data q)) is = absurd is
unread_cause g s bad old new a (Failed Sums) is = absurd is
unread_cause g s bad old new a NoMemory is = tt

pub trim_cause : {V : Type 0} (g : Ghosts V) (damaged : Damage → Type 0) (bad : Lsn → Type 0) (wal mid now : V) (a b : DataAreas V) (why : AreaFault) → g.faults wal ≤ g.faults mid → (why ≡ area.Failed → Rose (g.faults mid) (g.faults now)) → RestartCause g damaged bad wal now a b (why_of_wal why)
trim_cause g damaged bad wal mid now a b area.Failed le rose = (let r = rose refl in omega (arith, le, r))
trim_cause g damaged bad wal mid now a b area.NoMemory le rose = tt

-- what was refused behind a reading of the survivors: damage is told of no WAL whose area tells its files
pub late_cause : {V : Type 0} (g : Ghosts V) (s : StoreSettings) (tip : Tip) (old mid now : V) (a b : DataAreas V) (why : RestartWhy) → g.files mid ≡ g.files old → g.faults old ≤ g.faults mid → IfSome (g.files old) (EndWith s tip)
    → RestartCause g (λ damage. IfSome (g.files mid) (λ m. ⊥)) (λ place. IfSome (g.files mid) (IsBadSurvivor g s tip a place)) mid now a b why
    → RestartCause g (λ damage. IfSome (g.files old) (IsSpoilt s damage)) (λ place. IfSome (g.files old) (λ m. (t : Tip) × (EndWith s t m × IsBadSurvivor g s t a place m))) old now a b why
late_cause g s tip old mid now a b (Damaged damage) same le ends cause = spoilt (g.files mid) (g.files old) same cause
  where
    spoilt : (o p : Option Files) → o ≡ p → IfSome o (λ m. ⊥) → IfSome p (IsSpoilt s damage)
    spoilt o None is none = tt
    spoilt o (Some m) is none = absurd (subst (λ (x : Option Files). IfSome x (λ n. ⊥)) is none)
late_cause g s tip old mid now a b (BadDelta place) same le ends cause = bad (g.files mid) (g.files old) same ends cause
  where
    bad : (o p : Option Files) → o ≡ p → IfSome p (EndWith s tip) → IfSome o (IsBadSurvivor g s tip a place) → IfSome p (λ m. (t : Tip) × (EndWith s t m × IsBadSurvivor g s t a place m))
    bad o None is ending at = tt
    bad o (Some m) is ending at = (tip, (ending, subst (λ (x : Option Files). IfSome x (IsBadSurvivor g s tip a place)) is at))
late_cause g s tip old mid now a b (Failed Wal) same le ends cause = omega (arith, le, cause)
late_cause g s tip old mid now a b (Failed (Data q)) same le ends cause = cause
late_cause g s tip old mid now a b (Failed Sums) same le ends cause = absurd cause
late_cause g s tip old mid now a b NoMemory same le ends cause = tt

-- nor is it told at all
pub none_late : {V : Type 0} (g : Ghosts V) (bad : Lsn → Type 0) (old mid now : V) (a b : DataAreas V) (why : RestartWhy) (damage : Damage) → g.files mid ≡ g.files old → RestartCause g (λ damage. IfSome (g.files mid) (λ m. ⊥)) bad mid now a b why → why ≡ Damaged damage → IsSome (g.files old) → ⊥
none_late g bad old mid now a b why damage same cause is told =
    none (g.files mid) (g.files old) same told (subst (RestartCause g (λ damage. IfSome (g.files mid) (λ m. ⊥)) bad mid now a b) is cause)
  where
    none : (o p : Option Files) → o ≡ p → IsSome p → IfSome o (λ m. ⊥) → ⊥
    none o None same some at = nothing_told some
    none o (Some m) same some at = subst (λ (x : Option Files). IfSome x (λ n. ⊥)) same at

pub trim_spares : (why : AreaFault) (damage : Damage) → why_of_wal why ≡ Damaged damage → ⊥
trim_spares area.Failed damage e = absurd cc
trim_spares area.NoMemory damage e = absurd cc

-- ---- whether a mark is there

same_some : (o : Option (List ℕ)) → is_some (option_map length o) ≡ is_some o
same_some None = refl
same_some (Some bytes) = refl

pub marked_is : (told : Option Files) (size : Option ℕ) (marked : Bool) → marked ≡ is_some size → IsSizeIn told rebuilding_name size → IfSome told (λ m. marked ≡ is_some (get m rebuilding_name))
marked_is None size marked is sized = tt
marked_is (Some m) size marked is sized = is ∙ ap is_some sized ∙ same_some (get m rebuilding_name)

-- ---- where replay begins

none_start : (marked : Bool) (redo : Option Lsn) → cond marked None redo ≡ None → (marked ≡ true) ⊎ (redo ≡ None)
none_start true redo is = inl refl
none_start false redo is = inr is

some_start : (marked : Bool) (redo : Option Lsn) (from : Lsn) → cond marked None redo ≡ Some from → (marked ≡ false) × (redo ≡ Some from)
some_start true redo from is = absurd (none_lsn from is)
some_start false redo from is = (refl, is)

pub begins_anew : (s : StoreSettings) (told first : Option Files) (found : Survivors) (marked : Bool) → AreRead s told found → IfSome first (λ m. marked ≡ is_some (get m rebuilding_name)) → cond marked None found.redo ≡ None → IfSome first (Has rebuilding_name) ⊎ IfSome told (BeginsAt s found.tip None)
begins_anew s told first found marked read mark start =
    elim (none_start marked found.redo start) [
      | inl yeah ↦ inl (has_mark first marked mark yeah)
      | inr none ↦ inr (begins_at s told found None read none)
    ]

pub begins_from : (s : StoreSettings) (told : Option Files) (found : Survivors) (marked : Bool) (from : Lsn) → AreRead s told found → cond marked None found.redo ≡ Some from → IfSome told (BeginsAt s found.tip (Some from))
begins_from s told found marked from read start = begins_at s told found (Some from) read (some_start marked found.redo from start).1

pub unmarked_from : (first : Option Files) (marked : Bool) (redo : Option Lsn) (from : Lsn) → IfSome first (λ m. marked ≡ is_some (get m rebuilding_name)) → cond marked None redo ≡ Some from → IfSome first (λ m. get m rebuilding_name ≡ None)
unmarked_from first marked redo from mark start = no_mark first marked mark (some_start marked redo from start).0

-- ---- what comes of the areas, of which the first was read before

pub both_ok : {T E : Type 0} (r : Result T E) (P Q R : T → Type 0) → ((t : T) → P t → Q t → R t) → IfOk r P → IfOk r Q → IfOk r R
both_ok (Ok t) P Q R leads p q = leads t p q
both_ok (Err e) P Q R leads p q = tt

pub marked_fault : {V : Type 0} (g : Ghosts V) (damaged : Damage → Type 0) (bad : Lsn → Type 0) (wal : V) (areas : DataAreas V) (read : V) (why : AreaFault) → (why ≡ area.Failed → Rose (g.faults areas.data0) (g.faults read))
    → RestartCause g damaged bad wal wal areas (record areas { data0 = read }) (why_of (data_fault 0 why))
marked_fault g damaged bad wal areas read area.Failed rose = (omega arith, rose refl)
marked_fault g damaged bad wal areas read area.NoMemory rose = tt

read_grows : {V : Type 0} (g : Ghosts V) (areas : DataAreas V) (read : V) → OnlyReads g areas.data0 read → (q : ℕ) → g.faults (area_of areas q) ≤ g.faults (area_of (record areas { data0 = read }) q)
read_grows g areas read reads = none_fell g IsForkOrMark areas (record areas { data0 = read }) (first_read g IsForkOrMark areas read reads)

pub rebuild_cause : {V : Type 0} (g : Ghosts V) (s : StoreSettings) (tip : Tip) (told : Option Files) (damaged : Damage → Type 0) (wal now : V) (areas new : DataAreas V) (read : V) (result : Result Tally RestartWhy) → OnlyReads g areas.data0 read
    → IfErr result (RestartCause g damaged (λ place. IfSome told (IsBadEntry s tip place)) wal now (record areas { data0 = read }) new) → IfErr result (RestartCause g damaged (λ place. IfSome told (IsBadSurvivor g s tip areas place)) wal now areas new)
rebuild_cause g s tip told damaged wal now areas new read (Ok tally) reads cause = tt
rebuild_cause g s tip told damaged wal now areas new read (Err why) reads cause =
    let bad : Lsn → Type 0 = λ place. IfSome told (IsBadSurvivor g s tip areas place) in
    cause_since g damaged bad wal wal now areas (record areas { data0 = read }) new why (omega arith) (read_grows g areas read reads)
    (cause_with g damaged (λ place. IfSome told (IsBadEntry s tip place)) bad wal now (record areas { data0 = read }) new why (λ place at. bad_entry g s tip place told areas at) cause)

pub redo_cause : {V : Type 0} (g : Ghosts V) (s : StoreSettings) (tip : Tip) (from : Lsn) (told : Option Files) (damaged : Damage → Type 0) (wal now : V) (areas new : DataAreas V) (read : V) (result : Result Tally RestartWhy) → OnlyReads g areas.data0 read → IfSome told (BeginsAt s tip (Some from)) → IsUnmarked g areas
    → IfErr result (RestartCause g damaged (λ place. IfSome told (IsBadBehind g s tip from (record areas { data0 = read }) place)) wal now (record areas { data0 = read }) new) → IfErr result (RestartCause g damaged (λ place. IfSome told (IsBadSurvivor g s tip areas place)) wal now areas new)
redo_cause g s tip from told damaged wal now areas new read (Ok tally) reads begins unmarked cause = tt
redo_cause g s tip from told damaged wal now areas new read (Err why) reads begins unmarked cause =
    let bad : Lsn → Type 0 = λ place. IfSome told (IsBadSurvivor g s tip areas place) in
    cause_since g damaged bad wal wal now areas (record areas { data0 = read }) new why (omega arith) (read_grows g areas read reads)
    (cause_with g damaged (λ place. IfSome told (IsBadBehind g s tip from (record areas { data0 = read }) place)) bad wal now (record areas { data0 = read }) new why (λ place at. bad_redo g s tip from place told areas read reads begins unmarked at) cause)

-- ---- a WAL that is synced, and then read

pub durable_find : {V : Type 0} (g : Ghosts V) (old mid new : V) (result : Result (Unit {0}) AreaFault) (done : Unit {0}) → result ≡ Ok done → g.files mid ≡ g.files old → OnOk result (g.past mid ≡ noted (synced (g.files old)) (g.past old)) → OnlyReads g mid new → IsDurable (g.files old) (g.past new)
durable_find g old mid new result done ok same noted_is reads =
    durable_behind (g.files old) (g.past old) (g.past new) (reads.past ∙ subst (λ (r : Result (Unit {0}) AreaFault). OnOk r (g.past mid ≡ noted (synced (g.files old)) (g.past old))) ok noted_is)
