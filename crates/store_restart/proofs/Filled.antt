-- Data areas into which the survivors of a WAL are replayed.
use Rattle.std.proofs.Common.{◌≡◌, ℕ, ◌<◌, ◌≤◌, Bool, true, false, cond, inl, inr, List, map, Option, Some, None, Result, Ok, Err, IfSome, IsSome, refl, sym, ap, subst, ◌∙◌, arith}
use Rattle.std.specs.Prelude.{IfOk, IfErr}
use Rattle.std.specs.FinMap.{get, empty, get-empty}
use Rattle.lsn_core.specs.Files.{Files}
use Rattle.lsn_core.specs.Segment.{IsSegmentMib, StoreSettings}
use Rattle.lsn_core.specs.Store.{Store, ForkPages, fork_cmp}
use Rattle.lsn_core.specs.Tip.{Tip}
use Rattle.lsn_core.specs.declared.fault.StoreArea.TheVariants as area
use Rattle.lsn_core.specs.declared.ids.ForkId.{ForkId}
use Rattle.lsn_core.specs.declared.fault.StoreFault.{StoreFault}
use Rattle.lsn_core.specs.declared.fault.StoreFault.TheVariants as store
use Rattle.lsn_core.specs.declared.lsn.Lsn.{Lsn}
use Rattle.lsn_core.specs.declared.pages.Pages.{Ghosts as PagesGhosts}
use Rattle.vault.specs.declared.area.Vault.{Ghosts}
use Rattle.vault.specs.Area.{Related}
use Rattle.vault.specs.Stops.{Event}
use Rattle.vault.specs.Frame.{AgreeBut, ChangesOnly, IsAmong}
use Rattle.vault.proofs.Changed.{changes_on}
use Rattle.wal_record.specs.declared.record.Record.{Record}
use Rattle.wal_archive.specs.Rules.{lsn}
use Rattle.wal_archive.specs.declared.fault.Damage.{Damage}
use Rattle.history.specs.Whole.{whole}
use Rattle.history.specs.partitions.Parts.{is_of, IsPart}
use Rattle.recovery.specs.declared.fault.RecoveryFault.{RecoveryFault}
use Rattle.recovery.specs.declared.fault.RecoveryFault.TheVariants as recovery
use Rattle.recovery.specs.declared.fault.ReplayFault.{ReplayFault}
use Rattle.recovery.specs.declared.fault.ReplayFault.TheVariants as replay
use Rattle.recovery.specs.declared.reading.Beginning.TheVariants.{FirstEntry}
use Rattle.recovery.specs.declared.replaying.Replayed.{Replayed}
use Rattle.recovery.specs.Causes.{CauseOf, IsShortFrom}
use Rattle.recovery.specs.Onward.{HasDamageFrom}
use Rattle.recovery.specs.Reading.{IsReadTo}
use Rattle.recovery.specs.Replay.{HasBadDelta}
use Rattle.recovery.specs.Replayed.{ShowsWhole, ReplaysInto, into_causes}
use Rattle.recovery.proofs.OneWal.{both_end, ends_or_damaged, same_lsn}
use Rattle.rel_files.specs.Forks.{IsForkPath}
use Rattle.rel_files.specs.Laws.{HasNoForks}
use Rattle.rel_files.proofs.Events.{adds_weaker}
use Rattle.rel_files.proofs.WholeStores.{nothing_is_held}
use Rattle.data_areas.specs.declared.areas.DataAreas.{DataAreas}
use Rattle.data_areas.specs.Areas.{area_of, listed, data_fault, DataCause}
use Rattle.data_areas.specs.Marking.{IsMark}
use Rattle.data_areas.specs.Rebuilt.{HoldsPages}
use Rattle.data_areas.specs.Stored.{AreForksOf}
use Rattle.data_areas.proofs.Exact.{nothing_told}
use Rattle.data_areas.proofs.Stored.{of_each, changed, held_part, named_cause}
use Rattle.restart_areas.specs.Areas.{AreClear, EachChanges, ForksChange, NoneChanges}
use Rattle.restart_areas.specs.Pages.{HoldParts, ShowsPages, KeepsPages, seen}
use Rattle.restart_areas.specs.declared.store_pages.StorePages.{StorePages}
use Rattle.store_restart.specs.declared.fault.RestartWhy.{RestartWhy}
use Rattle.store_restart.specs.Causes.{RestartCause, replayed_to_tally, replay_why, why_of}
use Rattle.store_restart.specs.Restart.{IsForkOrMark, OthersStay, EndWith, HoldWhole, IsBadEntry}
use Rattle.store_restart.proofs.Upto.{survivors_read}

-- ---- files that change

among_more : (Few More : List ℕ → Type 0) → ((name : List ℕ) → Few name → More name) → (event : Event) → IsAmong Few event → IsAmong More event
among_more Few More up (inl w) is = up w.0 is
among_more Few More up (inr (inl k)) is = up k.0 is
among_more Few More up (inr (inr (inl name))) is = up name is
among_more Few More up (inr (inr (inr files))) is = tt

agree_more : (Few More : List ℕ → Type 0) (x y : Option Files) → ((name : List ℕ) → Few name → More name) → Related (AgreeBut Few) x y → Related (AgreeBut More) x y
agree_more Few More None None up agree = tt
agree_more Few More (Some a) (Some b) up agree = λ q out. agree q (λ is. out (up q is))
agree_more Few More None (Some b) up agree = absurd agree
agree_more Few More (Some a) None up agree = absurd agree

-- where some files alone changed, only more of them did
pub changes_more : {V : Type 0} (g : Ghosts V) (Few More : List ℕ → Type 0) (x y : V) → ((name : List ℕ) → Few name → More name) → ChangesOnly g Few x y → ChangesOnly g More x y
changes_more g Few More x y up is = record {
  files = agree_more Few More (g.files x) (g.files y) up is.files;
  past = adds_weaker (IsAmong Few) (IsAmong More) (g.past x) (g.past y) (among_more Few More up) is.past;
  faults = is.faults;
}

pub fork_changes : {V : Type 0} (g : Ghosts V) (x y : V) → ChangesOnly g IsForkPath x y → ChangesOnly g IsForkOrMark x y
fork_changes g x y is = changes_more g IsForkPath IsForkOrMark x y (λ name fork. inl fork) is

pub mark_changes : {V : Type 0} (g : Ghosts V) (x y : V) → ChangesOnly g IsMark x y → ChangesOnly g IsForkOrMark x y
mark_changes g x y is = changes_more g IsMark IsForkOrMark x y (λ name mark. inr mark) is

-- of each of four areas
pub each_more : {V : Type 0} (g : Ghosts V) (Few More : List ℕ → Type 0) (x y : DataAreas V) → ((name : List ℕ) → Few name → More name) → EachChanges g Few x y → EachChanges g More x y
each_more g Few More x y up is = record {
  data0 = changes_more g Few More x.data0 y.data0 up is.data0;
  data1 = changes_more g Few More x.data1 y.data1 up is.data1;
  data2 = changes_more g Few More x.data2 y.data2 up is.data2;
  data3 = changes_more g Few More x.data3 y.data3 up is.data3;
}

pub forks_change : {V : Type 0} (g : Ghosts V) (x y : DataAreas V) → ForksChange g x y → OthersStay g x y
forks_change g x y is = each_more g IsForkPath IsForkOrMark x y (λ name fork. inl fork) is

pub none_change : {V : Type 0} (g : Ghosts V) (x y : DataAreas V) → NoneChanges g x y → OthersStay g x y
none_change g x y is = each_more g (λ name. ⊥) IsForkOrMark x y (λ name none. absurd none) is

pub each_on : {V : Type 0} (g : Ghosts V) (Among : List ℕ → Type 0) (x y z : DataAreas V) → EachChanges g Among x y → EachChanges g Among y z → EachChanges g Among x z
each_on g Among x y z first second = record {
  data0 = changes_on g Among x.data0 y.data0 z.data0 first.data0 second.data0;
  data1 = changes_on g Among x.data1 y.data1 z.data1 first.data1 second.data1;
  data2 = changes_on g Among x.data2 y.data2 z.data2 first.data2 second.data2;
  data3 = changes_on g Among x.data3 y.data3 z.data3 first.data3 second.data3;
}

pub none_fell : {V : Type 0} (g : Ghosts V) (Among : List ℕ → Type 0) (x y : DataAreas V) → EachChanges g Among x y → (q : ℕ) → g.faults (area_of x q) ≤ g.faults (area_of y q)
none_fell g Among x y is = of_each (λ u v. g.faults u ≤ g.faults v) x y is.data0.faults is.data1.faults is.data2.faults is.data3.faults

-- ---- areas without segment files

none_there : (fork : ForkId) → get {X = ForkPages} {R = fork_cmp} empty fork ≡ None
none_there fork = get-empty fork_cmp fork

none_of : (q : ℕ) → IsPart q empty empty
none_of q f = go (is_of q f) (get {X = ForkPages} {R = fork_cmp} empty f) (none_there f)
  where
    go : (b : Bool) (o : Option ForkPages) → o ≡ None → o ≡ cond b o None
    go true o e = refl
    go false o e = e

bare : (relseg : ℕ) (told : Option Files) → IsSome told → IfSome told HasNoForks → HoldsPages relseg told empty
bare relseg None told none = absurd (nothing_told told)
bare relseg (Some m) told none = record {
  files = record { files = m; are_told = refl; hold = nothing_is_held relseg m none };
  whole = λ fork pages there. absurd (let t = sym (none_there fork) ∙ there in cc);
}

pub clear_holds : {V : Type 0} (g : Ghosts V) (relseg : ℕ) (areas : DataAreas V) → ((q : ℕ) → IsSome (g.files (area_of areas q))) → AreClear g areas → HoldParts g relseg areas empty
clear_holds g relseg areas told clear q below =
    (empty, (none_of q, bare relseg (g.files (area_of areas q)) (told q) (of_each (λ u v. IfSome (g.files v) HasNoForks) areas areas clear.data0 clear.data1 clear.data2 clear.data3 q)))

-- ---- what came of a replay

-- a data area failed
pub data_why : {V : Type 0} (g : Ghosts V) (damaged : Damage → Type 0) (bad : Lsn → Type 0) (wal now : V) (a b : DataAreas V) (f : StoreFault) → DataCause g a b f → RestartCause g damaged bad wal now a b (why_of f)
data_why g damaged bad wal now a b (store.Failed (area.Data q)) cause = cause
data_why g damaged bad wal now a b (store.Failed area.Wal) cause = absurd cause
data_why g damaged bad wal now a b (store.Failed area.Sums) cause = absurd cause
data_why g damaged bad wal now a b store.NoMemory cause = tt

module _ {V : Type 0} (g : Ghosts V) (relseg : ℕ) (a b : DataAreas V) (x y : StorePages V) (were : AreForksOf relseg a (seen x)) (kept : KeepsPages g x y) (are : map (λ f. f.area) y.parts ≡ listed b) where
  went : (q : ℕ) → q < 4 → ChangesOnly g IsForkOrMark (area_of a q) (area_of b q)
  went q below = fork_changes g (area_of a q) (area_of b q) (changed g relseg a b (seen x) (seen y) were kept are q below)

  pub others_stayed : OthersStay g a b
  others_stayed = record { data0 = went 0 (omega arith); data1 = went 1 (omega arith); data2 = went 2 (omega arith); data3 = went 3 (omega arith) }

  forks_went : (q : ℕ) → q < 4 → ChangesOnly g IsForkPath (area_of a q) (area_of b q)
  forks_went q below = changed g relseg a b (seen x) (seen y) were kept are q below

  pub forks_changed : ForksChange g a b
  forks_changed = record { data0 = forks_went 0 (omega arith); data1 = forks_went 1 (omega arith); data2 = forks_went 2 (omega arith); data3 = forks_went 3 (omega arith) }

  pub held : (store : Store) → ShowsPages g y store → HoldParts g relseg b store
  held store shows q below = held_part g relseg a b (seen x) (seen y) were kept are store shows q below

module _ {V : Type 0} (g : Ghosts V) (s : StoreSettings) (wal now : V) (target : Lsn) (tip : Tip) (a b : DataAreas V) (x y : StorePages V) (size : IsSegmentMib s.segment) (is : target.0 ≡ tip.end) (end : IfSome (g.files wal) (EndWith s tip))
    (were : AreForksOf s.relseg a (seen x)) (kept : KeepsPages g x y) (are : map (λ f. f.area) y.parts ≡ listed b) where
  abbrev pub over : PagesGhosts (StorePages V)
  over = record { shows = λ f t. ShowsPages g f t; keeps = λ f h. KeepsPages g f h; faults = λ f. f.faults.count }

  whole_at : (o : Option Files) (entries : List Record) (last : Tip) (forks pages : ℕ) → IfSome o (EndWith s tip) → IsReadTo s o (Some target) entries last → (IsSome o → ShowsWhole (ShowsPages g y) entries target.0 forks pages)
      → IfSome o (HoldWhole g s tip b (record { forks = forks; pages = pages }))
  whole_at None entries last forks pages ending read shows = tt
  whole_at (Some m) entries last forks pages ending read shows =
      let one = both_end s m (Some target) ending.0 entries tip last (survivors_read s m target ending.0 tip size is ending.1) read.archive in
      let made = shows refl in
      record {
        records = ending.0;
        survive = ending.1;
        store = made.last;
        made = ap (whole ending.0) (sym is) ∙ ap (λ (rs : List Record). whole rs target.0) one.0 ∙ made.whole;
        held = held g s.relseg a b x y were kept are made.last made.shown;
        counted = record { forks = made.forks_are; pages = made.pages_are };
      }

  pub filled : (answer : Result Replayed ReplayFault) → (IsSome (g.files wal) → ShowsPages g x empty) → ReplaysInto g over s (Some target) wal now x y answer
      → IfOk (replayed_to_tally y.faults.last answer) (λ tally. IfSome (g.files wal) (HoldWhole g s tip b tally))
  filled (Ok done) fresh comes = whole_at (g.files wal) comes.entries done.tip done.forks done.pages end comes.read (λ told. comes.fresh (fresh told))
  filled (Err (replay.Wal why)) fresh comes = tt
  filled (Err (replay.Out why)) fresh comes = tt

  none_damaged : (o : Option Files) (damage : Damage) → IfSome o (EndWith s tip) → IfSome o (λ m. HasDamageFrom s m FirstEntry (Some target) damage) → IfSome o (λ m. ⊥)
  none_damaged None damage ending cause = tt
  none_damaged (Some m) damage ending cause = ends_or_damaged s m (Some target) ending.0 tip damage (survivors_read s m target ending.0 tip size is ending.1) cause

  bad_at : (o : Option Files) (place : Lsn) (clean : Type 0) → (IsSome o → clean) → IfSome o (λ m. clean → HasBadDelta s m (Some target) place) → IfSome o (IsBadEntry s tip place)
  bad_at None place clean fresh cause = tt
  bad_at (Some m) place clean fresh cause = subst (λ (t : Lsn). HasBadDelta s m (Some t) place) (same_lsn target (lsn tip.end) is) (cause (fresh refl))

  lsn_is : (l k : Lsn) → ◌≡◌ {A = Option Lsn} (Some l) (Some k) → l ≡ k
  lsn_is l k e = cc

  none_short : (o : Option Files) (early to : Lsn) → IfSome o (EndWith s tip) → IfSome o (λ m. IsShortFrom s m FirstEntry (Some target) early to) → IfSome o (λ m. ⊥)
  none_short None early to ending cause = tt
  none_short (Some m) early to ending cause =
      let at : to.0 ≡ tip.end = ap (λ (l : Lsn). l.0) (sym (lsn_is target to cause.0)) ∙ is in
      let one = both_end s m (Some to) ending.0 cause.1.entries tip cause.1.last (survivors_read s m to ending.0 tip size at ending.1) cause.1.read in
      omega (arith, cause.1.short, cause.1.end_is, ap (λ (t : Tip). t.end) one.1, at)

  -- it came to no end
  abbrev pub Refused : RestartWhy → Type 0
  Refused why = RestartCause g (λ damage. IfSome (g.files wal) (λ m. ⊥)) (λ place. IfSome (g.files wal) (IsBadEntry s tip place)) wal now a b why

  wal_refused : (why : RecoveryFault) → (IsSome (g.files wal) → ShowsPages g x empty) → CauseOf (into_causes s (Some target) (g.files wal) (ShowsPages g x empty)) (g.faults wal) (g.faults now) why → Refused (replay_why why)
  wal_refused (recovery.Damaged mib damage) fresh cause = none_damaged (g.files wal) damage end cause.1
  wal_refused (recovery.Short early to) fresh cause = none_short (g.files wal) early to end cause
  wal_refused (recovery.BadDelta place) fresh cause = bad_at (g.files wal) place (ShowsPages g x empty) fresh cause
  wal_refused recovery.SettingsDamaged fresh cause = absurd cause
  wal_refused (recovery.Timeline name) fresh cause = absurd cause
  wal_refused recovery.NotInit fresh cause = absurd cause
  wal_refused recovery.Failed fresh cause = cause
  wal_refused recovery.NoMemory fresh cause = tt

  pub refused : (answer : Result Replayed ReplayFault) → x.faults.count ≡ 0 → (IsSome (g.files wal) → ShowsPages g x empty) → ReplaysInto g over s (Some target) wal now x y answer → IfErr (replayed_to_tally y.faults.last answer) Refused
  refused (Ok done) none fresh comes = tt
  refused (Err (replay.Wal why)) none fresh comes = wal_refused why fresh comes
  refused (Err (replay.Out why)) none fresh comes =
      data_why g (λ damage. IfSome (g.files wal) (λ m. ⊥)) (λ place. IfSome (g.files wal) (IsBadEntry s tip place)) wal now a b (data_fault y.faults.last why)
      (named_cause g s.relseg a b (seen x) (seen y) were kept are why none comes)
