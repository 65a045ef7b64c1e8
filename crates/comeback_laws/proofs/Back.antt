-- A store that was restarted, with its areas moved back from the heap, is whole.
use Rattle.std.proofs.Common.{◌≡◌, ℕ, zero, suc, ◌<◌, inl, inr, Bool, true, false, cond, List, map, Option, Some, None, IfSome, refl, sym, ap, subst, ◌∙◌, arith, eq-eqb}
use Rattle.std.specs.FinMap.{get}
use Rattle.std.proofs.Math.Nat.{mod-lt}
use Rattle.lsn_core.specs.Files.{Files}
use Rattle.lsn_core.specs.Laws.{HasNamedForks}
use Rattle.lsn_core.specs.Segment.{StoreSettings}
use Rattle.lsn_core.specs.Store.{Store, ForkPages, segment_in}
use Rattle.lsn_core.proofs.StoreFiles as store_files
use Rattle.vault.specs.Area.{Related}
use Rattle.vault.specs.Boxed.{on_heap}
use Rattle.vault.specs.declared.area.Vault.{Ghosts}
use Rattle.vault.specs.declared.boxed.BoxedArea.{BoxedArea}
use Rattle.wal_record.specs.declared.record.Record.{Record}
use Rattle.wal_reader.specs.Wal.{IsWal}
use Rattle.history.specs.Whole.{entry_of, whole}
use Rattle.history.specs.partitions.Parts.{partition_of, is_of}
use Rattle.history.proofs.partitions.Puts.{own}
use Rattle.rel_neat.specs.Neat.{HasLeft}
use Rattle.stop_laws.specs.Window.{window_base}
use Rattle.data_areas.specs.Areas.{area_of}
use Rattle.data_areas.specs.Rebuilt.{HoldsPages}
use Rattle.data_areas.specs.declared.areas.DataAreas.{DataAreas}
use Rattle.store_areas.specs.declared.areas.StoreAreas.{StoreAreas}
use Rattle.store_areas.specs.Begin.{data_of}
use Rattle.recovery.specs.declared.tally.Tally.{Tally}
use Rattle.restart_areas.specs.Pages.{HoldParts}
use Rattle.store_restart.specs.declared.restarting.Restarted.{Restarted}
use Rattle.store_restart.specs.Restart.{BringsBack}
use Rattle.store_restart.specs.Restarted.{IsBack, IsCutBack, plain, plain_back}
use Rattle.neat_laws.specs.Room.{AreOwnFiles}
use Rattle.comeback_laws.specs.Laws.{AreSettings, RestartsHoldWhole}
use Rattle.comeback_laws.specs.Restorable.{DeltasFollowRedo, AreLeftSince, AreRestorableAreas, HaveFilesOf, IsWholeBack}
use Rattle.comeback_laws.proofs.Survived.{survive_once}
use Rattle.comeback_laws.proofs.Wholes.{comebacks}

-- ---- files

module _ {V : Type 0} (g : Ghosts V) (relseg : ℕ) (areas : DataAreas V) (store : Store) (some : 0 < relseg) (has : HoldParts g relseg areas store) where
  -- the forks of a store whose parts are held are named
  named : HasNamedForks store
  named fork pages is =
      let q = partition_of fork.rel in
      let part = has q (mod-lt fork.rel.rel (omega arith)) in
      let held = part.1.1 in
      let files = held.files in
      let hold = files.hold in
      hold.named fork pages (own q store part.0 fork part.1.0 (eq-eqb q q refl) ∙ is)

  chosen : (b : Bool) (o : Option ForkPages) (seg : ℕ) → segment_in relseg seg (cond b o None) ≡ cond b (segment_in relseg seg o) None
  chosen true o seg = refl
  chosen false o seg = refl

  pub have_files : HaveFilesOf g relseg areas store
  have_files q less =
      let part = has q less in
      let held = part.1.1 in
      let files = held.files in
      let hold = files.hold in (
        files.files,
        (
          files.are_told,
          λ fork seg fits.
              hold.segments fork seg fits ∙ ap (segment_in relseg seg) (part.1.0 fork) ∙ chosen (is_of q fork) (get store fork) seg
              ∙ ap (λ (o : Option (List ℕ)). cond (is_of q fork) o None) (sym (store_files.held relseg store fork seg some named fits)),
        ),
      )

-- ---- the heap

-- an area tells the same files where it is on the heap
same_files : {V : Type 0} (g : Ghosts V) (areas : StoreAreas (BoxedArea V)) (q : ℕ) → q < 4 → (on_heap g).files (area_of (data_of areas) q) ≡ g.files (area_of (data_of (plain areas)) q)
same_files g areas zero less = refl
same_files g areas (suc zero) less = refl
same_files g areas (suc (suc zero)) less = refl
same_files g areas (suc (suc (suc zero))) less = refl
same_files g areas (suc (suc (suc (suc q)))) less = absurd (omega (arith, less))

module _ {V : Type 0} (g : Ghosts V) (s : StoreSettings) (history : List Record) (flushed : ℕ) where
  left_there : (records : List Record) (areas : StoreAreas (BoxedArea V)) (from : ℕ) → AreLeftSince g s.relseg records (data_of (plain areas)) from → AreLeftSince (on_heap g) s.relseg records (data_of areas) from
  left_there records areas from l = record {
    store = l.store;
    made = l.made;
    fits = l.fits;
    left = λ q less. subst (HasLeft s.relseg (window_base q from (map entry_of records) l.store)) (sym (same_files g areas q less)) (l.left q less);
    own = λ q less. subst (AreOwnFiles s.relseg q) (sym (same_files g areas q less)) (l.own q less);
  }

  pub restorable_there : (areas : StoreAreas (BoxedArea V)) → AreRestorableAreas g s history flushed (plain areas) → AreRestorableAreas (on_heap g) s history flushed areas
  restorable_there areas r = record {
    wal = r.wal;
    told = r.told;
    records = r.records;
    tip = r.tip;
    survive = r.survive;
    first = r.first;
    left = elim r.left [
      | inl mark ↦ inl mark
      | inr left ↦ inr (λ from start. left_there r.records areas from.0 (left from start))
    ];
  }

  parts_here : (areas : StoreAreas (BoxedArea V)) (store : Store) → HoldParts (on_heap g) s.relseg (data_of areas) store → HoldParts g s.relseg (data_of (plain areas)) store
  parts_here areas store has q less =
      let part = has q less in
      (part.0, (part.1.0, subst (λ (o : Option Files). HoldsPages s.relseg o part.0) (same_files g areas q less) part.1.1))

  -- ---- what is back

  related : (R : Files → Files → Type 0) (a : Files) (new : Option Files) → Related R (Some a) new → (m : Files) × ((new ≡ Some m) × R a m)
  related R a None is = absurd is
  related R a (Some m) is = (m, (refl, is))

  whole_back : (before : StoreAreas (BoxedArea V)) (behind : Restarted (BoxedArea V)) → AreSettings s → DeltasFollowRedo history → AreRestorableAreas (on_heap g) s history flushed before → IsBack (on_heap g) s before behind → IsWholeBack g s history flushed (plain_back behind)
  whole_back before behind settings deltas r is =
      let tally : Tally = record { forks = behind.forks; pages = behind.pages } in
      let cut = related (IsCutBack s behind.tip) r.wal ((on_heap g).files behind.areas.wal) (subst (λ (o : Option Files). Related (IsCutBack s behind.tip) o ((on_heap g).files behind.areas.wal)) r.told is.wal) in
      let left = cut.1.1 in
      let off = left.off in
      let brings : BringsBack (on_heap g) s behind.tip (data_of before) (data_of behind.areas) tally r.wal =
      subst (λ (o : Option Files). IfSome o (BringsBack (on_heap g) s behind.tip (data_of before) (data_of behind.areas) tally)) r.told is.brings in
      let made = comebacks (on_heap g) s history flushed before (data_of behind.areas) behind.tip tally r.wal settings deltas r r.told brings in
      let one = survive_once s r.wal made.records r.records behind.tip r.tip made.survive r.survive in
      let other = survive_once s r.wal left.records r.records behind.tip r.tip off.survive r.survive in
      let held = parts_here behind.areas made.store made.held in
      record {
        records = r.records;
        first = r.first;
        wal = cut.0;
        told = cut.1.0;
        is_wal = subst (λ (rs : List Record). IsWal s cut.0 rs behind.tip) other left.wal;
        store = made.store;
        made = ap (λ (rs : List Record). whole rs behind.tip.end) (sym one) ∙ made.made;
        held = held;
        files = have_files g s.relseg (data_of (plain behind.areas)) made.store settings.relseg held;
        counted = made.counted;
      }

pub restarts : {V : Type 0} (g : Ghosts V) → RestartsHoldWhole g
restarts g s history flushed old back settings deltas r is =
    subst (IsWholeBack g s history flushed) (sym is.behind_is)
    (whole_back g s history flushed is.before is.behind settings deltas
    (restorable_there g s history flushed is.before (subst (AreRestorableAreas g s history flushed) (sym is.before_is) r)) is.is)
