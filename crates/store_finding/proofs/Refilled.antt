-- Cleared areas into which a WAL is replayed.
use Rattle.std.proofs.Common.{◌≡◌, ℕ, ◌<◌, ◌≤◌, List, map, Option, IfSome, IsSome, is_some, inl, sym, subst, ◌∙◌, arith}
use Rattle.std.specs.Prelude.{box_value}
use Rattle.lsn_core.specs.Causes.{Rose}
use Rattle.lsn_core.specs.Files.{Files}
use Rattle.lsn_core.specs.Segment.{StoreSettings}
use Rattle.lsn_core.specs.Tip.{Tip}
use Rattle.lsn_core.specs.declared.fault.AreaFault.{AreaFault}
use Rattle.lsn_core.specs.declared.fault.AreaFault.TheVariants.{Failed}
use Rattle.vault.specs.declared.area.Vault.{Ghosts}
use Rattle.vault.specs.Frame.{Adds, IsAmong, OnlyReads}
use Rattle.history.specs.Entry.{Entry}
use Rattle.recovery.specs.declared.fault.RecoveryFault.{RecoveryFault}
use Rattle.recovery.specs.declared.fault.RecoveryFault.TheVariants as recovery
use Rattle.recovery.specs.Causes.{HasSettings}
use Rattle.lsn_core.specs.declared.fault.StoreFault.{StoreFault}
use Rattle.lsn_core.specs.declared.fault.StoreFault.TheVariants as store
use Rattle.data_areas.specs.declared.areas.DataAreas.{DataAreas}
use Rattle.vault.specs.declared.boxed.BoxedArea.{BoxedArea}
use Rattle.data_areas.specs.declared.store_forks.StoreForks.{StoreForks}
use Rattle.data_areas.specs.Areas.{area_of, listed, data_fault, FaultsGrow}
use Rattle.vault.specs.Boxed.{on_heap}
use Rattle.data_areas.specs.Clearing.{AreBare}
use Rattle.data_areas.specs.Marking.{IsOther}
use Rattle.data_areas.specs.Phases.{first_past, CameSoFar}
use Rattle.data_areas.specs.Settling.{HasPages}
use Rattle.data_areas.specs.Stored.{AreForksOf, KeepsAll}
use Rattle.data_areas.proofs.Phases.{forks_are_others}
use Rattle.data_areas.proofs.Stored.{of_each, changed, faults_grow, tell_alike, named_cause, held_part, filled}
use Rattle.store_areas.specs.declared.areas.StoreAreas.{StoreAreas}
use Rattle.store_finding.specs.declared.boxing.BoxedAreas.{BoxedAreas}
use Rattle.store_areas.specs.declared.found.BeginFault.{BeginFault}
use Rattle.store_faults.specs.declared.begin_why.BeginWhy.{BeginWhy}
use Rattle.store_faults.specs.declared.begin_why.BeginWhy.TheVariants as why
use Rattle.store_areas.specs.Opened.{Opened}
use Rattle.store_areas.specs.Begin.{faults_of, data_of, BeginCause, MayComeLate, IsWalPart, DataFails, BeginsNot, HasBegun, IsBegun, IsUnbegun}
use Rattle.store_areas.specs.Read.{IsFound}
use Rattle.store_finding.specs.Filling.{areas_with, ShowsHistory, HoldHistory, AreFilledBy, IsUnsettled, IsUnfilled}
use Rattle.store_finding.proofs.Begun.{fell_boxed}
use Rattle.store_finding.proofs.Unbegun.{among_held, unfilled_of, unfilled_at}

-- all areas tell where the WAL's does
pub all_told : {V : Type 0} (g : Ghosts V) (wal : V) (areas : DataAreas (BoxedArea V)) → ((v : V) → is_some (g.files v) ≡ is_some (g.files wal)) → IsSome (g.files wal) → (q : ℕ) → IsSome ((on_heap g).files (area_of areas q))
all_told g wal areas alike told q = alike (box_value (area_of areas q).area) ∙ told

-- ---- a store begun on areas that had other faults before

pub begun_before : {V : Type 0} (g : Ghosts V) (wal now : V) (x y : DataAreas (BoxedArea V)) (o : Opened) (tip : Tip) → g.files now ≡ g.files wal → g.faults wal ≤ g.faults now → FaultsGrow (on_heap g) x y → IsBegun g (areas_with now y) o tip → IsBegun g (areas_with wal x) o tip
begun_before g wal now x y o tip same counted grow is = record {
  has = subst (λ (fs : Option Files). HasBegun fs o tip) same is.has;
  later = λ area. omega (arith, fell_boxed g wal now x y counted grow area, is.later area);
}

-- a WAL is refused for what came since it had other faults before
cause_earlier : (files : Option Files) (before mid now : ℕ) (f : RecoveryFault) → before ≤ mid → BeginCause files mid now f → BeginCause files before now f
cause_earlier files before mid now (recovery.Damaged mib damage) le cause = cause
cause_earlier files before mid now (recovery.Short end target) le cause = cause
cause_earlier files before mid now (recovery.BadDelta place) le cause = cause
cause_earlier files before mid now recovery.SettingsDamaged le cause = cause
cause_earlier files before mid now (recovery.Timeline name) le cause = cause
cause_earlier files before mid now recovery.NotInit le cause = cause
cause_earlier files before mid now recovery.Failed le cause = omega (arith, le, cause)
cause_earlier files before mid now recovery.NoMemory le cause = cause

-- no store begun on areas that had other faults before
pub unbegun_before : {V : Type 0} (g : Ghosts V) (wal now : V) (pages : DataAreas (BoxedArea V)) (fault : BeginFault V) → g.files now ≡ g.files wal → g.faults wal ≤ g.faults now → IsUnbegun g (areas_with now pages) fault → IsUnbegun g (areas_with wal pages) fault
unbegun_before {V} g wal now pages fault same counted is = record {
  wal = is.wal ∙ same;
  later = λ area. omega (arith, fell_boxed g wal now pages pages counted (λ q. omega arith) area, is.later area);
  cause = go fault.why is.cause;
}
  where
    cause_at : (f : RecoveryFault) → BeginCause (g.files now) (g.faults now) (g.faults fault.areas.wal) f → BeginCause (g.files wal) (g.faults wal) (g.faults fault.areas.wal) f
    cause_at f cause = subst (λ (o : Option Files). BeginCause o (g.faults wal) (g.faults fault.areas.wal) f) same (cause_earlier (g.files now) (g.faults wal) (g.faults now) (g.faults fault.areas.wal) f counted cause)

    data_at : (f : StoreFault) → DataFails (faults_of g (areas_with now pages)) (faults_of g fault.areas) f → DataFails (faults_of g (areas_with wal pages)) (faults_of g fault.areas) f
    data_at (store.Failed area) cause = cause
    data_at store.NoMemory cause = tt

    go : (w : BeginWhy) → BeginsNot g (areas_with now pages) fault.areas w → BeginsNot g (areas_with wal pages) fault.areas w
    go (why.Wal f) c = (cause_at f c.0, (c.1.0, record { data0 = c.1.1.data0; data1 = c.1.1.data1; data2 = c.1.1.data2; data3 = c.1.1.data3 }))
    go (why.Replay f) c = (cause_at f c.0, (subst (λ (o : Option Files). IfSome o (λ m. MayComeLate f)) same c.1.0, c.1.1))
    go (why.Data f) c = (
      data_at f c.0,
      record {
        settings = c.1.settings;
        given = subst (λ (o : Option Files). HasSettings o c.1.settings) same c.1.given;
        came = subst (λ (o : Option Files). CameSoFar g c.1.settings.relseg (IsWalPart o c.1.settings) (data_of (areas_with wal pages)) (data_of fault.areas)) same c.1.came;
      },
    )

-- ---- what comes of the areas

module _ {V : Type 0} (g : Ghosts V) (s : StoreSettings) (old : BoxedAreas V) (wal : V) (b : DataAreas (BoxedArea V)) (x y : StoreForks (BoxedArea V)) (were : AreForksOf s.relseg old.pages x) (kept : KeepsAll (on_heap g) x y) (are : map (λ f. f.area) y.parts ≡ listed b)
    (reads : OnlyReads g old.wal wal) where
  grown : FaultsGrow (on_heap g) old.pages b
  grown = faults_grow (on_heap g) s.relseg old.pages b x y were kept are

  others : Adds (IsAmong IsOther) (first_past (on_heap g) old.pages) (first_past (on_heap g) b)
  others = forks_are_others (first_past (on_heap g) old.pages) (first_past (on_heap g) b) (changed (on_heap g) s.relseg old.pages b x y were kept are 0 (omega arith)).past

  -- the WAL wasn't replayed
  pub unreplayed_wal : (areas : StoreAreas V) (f : RecoveryFault) → areas ≡ areas_with wal b → BeginCause (g.files old.wal) (g.faults old.wal) (g.faults wal) f → IfSome (g.files old.wal) (λ m. MayComeLate f) → IsUnfilled g s old (record { areas = areas; why = why.Replay f })
  unreplayed_wal areas f is cause late =
      unfilled_at g s old wal b areas (why.Replay f) is reads.files reads.faults grown (cause, (late, others))

  -- a call on the pages failed
  pub unreplayed_pages : (areas : StoreAreas V) (f : AreaFault) → areas ≡ areas_with wal b → x.faults.count ≡ 0 → (f ≡ Failed → Rose x.faults.count y.faults.count) → IsUnfilled g s old (record { areas = areas; why = why.Data (data_fault y.faults.last f) })
  unreplayed_pages areas f is none rose =
      unfilled_at g s old wal b areas (why.Data (data_fault y.faults.last f)) is reads.files reads.faults grown
      (named_cause (on_heap g) s.relseg old.pages b x y were kept are f none rose, inl others)

  -- it was
  module _ (alike : (v : V) → is_some (g.files v) ≡ is_some (g.files old.wal)) (history : List Entry) (pages : ℕ) (tip : Tip) (found : IsFound (g.files old.wal) s history pages tip) (shows : ShowsHistory (on_heap g) (g.files old.wal) y history) where
    holds : HoldHistory (on_heap g) s.relseg (g.files old.wal) b history
    holds told store made q below = held_part (on_heap g) s.relseg old.pages b x y were kept are store (shows told store made) q below

    has_pages : (q : ℕ) → q < 4 → HasPages (on_heap g) s.relseg (area_of b q)
    has_pages q below some =
        let told : IsSome (g.files old.wal) = sym (alike (box_value (area_of b q).area)) ∙ some in
        let has = holds told found.has.store (found.has.made told) q below in
        (has.0, has.1.1)

    pub filled_by : AreBare (on_heap g) old.pages → AreFilledBy g s.relseg (g.files wal) history b
    filled_by bare = subst (λ (o : Option Files). AreFilledBy g s.relseg o history b) (sym reads.files) (record {
      filled = filled (on_heap g) s.relseg old.pages b x y were kept are bare
          (of_each (λ u v. HasPages (on_heap g) s.relseg v) b b (has_pages 0 (omega arith)) (has_pages 1 (omega arith)) (has_pages 2 (omega arith)) (has_pages 3 (omega arith)));
      held = holds;
    })

    pub found_again : IsFound (g.files wal) s history pages tip
    found_again = subst (λ (o : Option Files). IsFound o s history pages tip) (sym reads.files) found

    -- and the areas weren't opened
    pub unopened : (fault : BeginFault V) → IsUnsettled g s.relseg (record { wal = wal; pages = b }) fault → IsUnfilled g s old fault
    unopened fault is =
        unfilled_of g s old (record { wal = wal; pages = b }) fault reads.files reads.faults grown (tell_alike (on_heap g) s.relseg old.pages b x y were kept are) others
        (among_held g s (g.files old.wal) history pages tip b found holds) is

  -- they were
  pub begun_over : (o : Opened) (tip : Tip) → IsBegun g (areas_with wal b) o tip → IsBegun g (areas_with old.wal old.pages) o tip
  begun_over o tip is = begun_before g old.wal wal old.pages b o tip reads.files reads.faults grown is
