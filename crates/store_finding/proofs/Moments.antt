-- What a stop leaves while data areas are cleared, filled by a replay and opened.
use Rattle.std.proofs.Common.{◌≡◌, ℕ, zero, suc, ◌<◌, ◌≤◌, inl, inr, List, map, Option, Some, IsSome, Result, OnOk, OnErr, refl, sym, ap, subst, ◌∙◌, arith}
use Rattle.std.specs.Prelude.{◌⊎◌, box_value}
use Rattle.std.specs.FinMap.{empty}
use Rattle.lsn_core.specs.Files.{Files}
use Rattle.lsn_core.specs.Segment.{StoreSettings}
use Rattle.lsn_core.specs.Store.{Store, files_of}
use Rattle.lsn_core.specs.Tip.{Tip}
use Rattle.vault.specs.declared.area.Vault.{Ghosts}
use Rattle.lsn_core.specs.declared.fault.AreaFault.{AreaFault}
use Rattle.vault.specs.Stops.{synced, noted}
use Rattle.vault.specs.Frame.{Adds, IsAmong, IsDurable, Has, LeavesNow, OnlyReads}
use Rattle.vault.proofs.Through.{adds_none, adds_on, adds_sync}
use Rattle.history.specs.Entry.{Entry}
use Rattle.history.specs.Apply.{apply_all}
use Rattle.history.specs.partitions.Parts.{IsPart}
use Rattle.data_areas.specs.declared.areas.DataAreas.{DataAreas}
use Rattle.vault.specs.declared.boxed.BoxedArea.{BoxedArea}
use Rattle.data_areas.specs.declared.settling.Partitions.{Partitions}
use Rattle.data_areas.specs.declared.store_forks.StoreForks.{StoreForks}
use Rattle.data_areas.specs.Areas.{area_of, listed}
use Rattle.vault.specs.Boxed.{on_heap}
use Rattle.data_areas.specs.Clearing.{ClearedSoFar}
use Rattle.data_areas.specs.Marking.{rebuilding_name, IsOther}
use Rattle.data_areas.specs.Moments.{Past, pasts_of, pasts_in, AllGoOn, AreLeftNow, StopsLeave}
use Rattle.data_areas.specs.Phases.{first_past, HaveMarkSince}
use Rattle.data_areas.specs.Rebuilt.{held_by, AreRebuilt}
use Rattle.data_areas.specs.Settling.{HaveEnded, SettledSoFar}
use Rattle.data_areas.specs.Stored.{AreForksOf, KeepsAll}
use Rattle.data_areas.proofs.Moments.{stops_join, stops_with, filling_leaves, mark_stays, mark_is_left, clearing_leaves, uncleared_leaves, untouched_leaves, AreWhole, AllHold, settling_leaves, unsettled_leaves, rebuilt_leaves}
use Rattle.data_areas.proofs.Phases.{forks_are_others}
use Rattle.data_areas.proofs.Stored.{changed, pasts_go_on}
use Rattle.store_areas.specs.declared.areas.StoreAreas.{StoreAreas}
use Rattle.store_finding.specs.declared.boxing.BoxedAreas.{BoxedAreas}
use Rattle.store_areas.specs.declared.found.Found.{Found}
use Rattle.store_areas.specs.Opened.{past_of}
use Rattle.store_areas.specs.Begin.{AllTell, data_of, shown_of}
use Rattle.store_areas.specs.Moments.{IsSync, IsReplayed, IsMarkedOrReplayed, LeavesReplay, IsSafelyLeft, RebuildsSafely}
use Rattle.store_areas.specs.Read.{IsFound}
use Rattle.store_finding.specs.Filling.{areas_with, AreFilledBy, FillsSafely}

-- ---- filled areas that are made durable and opened

module _ {V : Type 0} (g : Ghosts V) (s : StoreSettings) (old : BoxedAreas V) (history : List Entry) (pages : ℕ) (tip : Tip) (found : IsFound (g.files old.wal) s history pages tip) (filled : AreFilledBy g s.relseg (g.files old.wal) history old.pages) (some : 0 < s.relseg) (told : IsSome (g.files old.wal)) where
  store_made : apply_all empty history ≡ Some found.has.store
  store_made = found.has.made told

  held_at : (q : ℕ) → q < 4 → (part : Store) × (IsPart q found.has.store part × held_by (on_heap g) s.relseg old.pages q part)
  held_at q below = filled.held told found.has.store store_made q below

  held0 : (part : Store) × (IsPart 0 found.has.store part × held_by (on_heap g) s.relseg old.pages 0 part)
  held0 = held_at 0 (omega arith)

  held1 : (part : Store) × (IsPart 1 found.has.store part × held_by (on_heap g) s.relseg old.pages 1 part)
  held1 = held_at 1 (omega arith)

  held2 : (part : Store) × (IsPart 2 found.has.store part × held_by (on_heap g) s.relseg old.pages 2 part)
  held2 = held_at 2 (omega arith)

  held3 : (part : Store) × (IsPart 3 found.has.store part × held_by (on_heap g) s.relseg old.pages 3 part)
  held3 = held_at 3 (omega arith)

  abbrev parts_held : DataAreas Store
  parts_held = record { data0 = held0.0; data1 = held1.0; data2 = held2.0; data3 = held3.0 }

  all_held : AllHold (on_heap g) s.relseg old.pages parts_held
  all_held = record { data0 = held0.1.1; data1 = held1.1.1; data2 = held2.1.1; data3 = held3.1.1 }

  replayed : (left : DataAreas Files) → AreWhole s.relseg parts_held left → IsReplayed (g.files old.wal) left
  replayed left whole = record {
    settings = s;
    given = found.given;
    entries = found.has.found;
    tip = tip;
    read = found.has.read;
    store = found.has.store;
    made = ap (λ (es : List Entry). apply_all empty es) (sym found.has.history_is) ∙ store_made;
    files = go;
  }
    where
      go : (q : ℕ) → q < 4 → (part : Store) × (IsPart q found.has.store part × (area_of left q ≡ files_of s.relseg part))
      go zero below = (held0.0, (held0.1.0, whole.data0))
      go (suc zero) below = (held1.0, (held1.1.0, whole.data1))
      go (suc (suc zero)) below = (held2.0, (held2.1.0, whole.data2))
      go (suc (suc (suc zero))) below = (held3.0, (held3.1.0, whole.data3))
      go (suc (suc (suc (suc q)))) below = absurd (omega (arith, below))

  marked_or_replayed : (left : DataAreas Files) → Has rebuilding_name left.data0 ⊎ AreWhole s.relseg parts_held left → IsMarkedOrReplayed (g.files old.wal) left
  marked_or_replayed left (inl has) = inl has
  marked_or_replayed left (inr whole) = inr (replayed left whole)

  opened_replay : (from : ℕ) (parts : Partitions V) → AreRebuilt (on_heap g) s.relseg from old.pages parts → LeavesReplay (g.files old.wal) (pasts_in parts)
  opened_replay from parts rebuilt left there = replayed left (rebuilt_leaves (on_heap g) s.relseg from old.pages parts_held parts all_held rebuilt left there)

  module _ (here : LeavesNow (Has rebuilding_name) (first_past (on_heap g) old.pages)) where
    opened_leaves : (from : ℕ) (parts : Partitions V) → AreRebuilt (on_heap g) s.relseg from old.pages parts → HaveEnded (on_heap g) s.relseg old.pages parts.part0.past → AllGoOn (pasts_of (on_heap g) old.pages) (pasts_in parts)
        → StopsLeave (IsMarkedOrReplayed (g.files old.wal)) (pasts_of (on_heap g) old.pages) (pasts_in parts)
    opened_leaves from parts rebuilt ended on =
        stops_with (λ left. Has rebuilding_name left.data0 ⊎ AreWhole s.relseg parts_held left) (IsMarkedOrReplayed (g.files old.wal)) (pasts_of (on_heap g) old.pages) (pasts_in parts) marked_or_replayed
        (settling_leaves (on_heap g) s.relseg old.pages parts_held some filled.filled.data0 all_held here from parts rebuilt ended on)

    unopened_leaves : (new : DataAreas (BoxedArea V)) → SettledSoFar (on_heap g) s.relseg (held_by (on_heap g) s.relseg old.pages) old.pages new → AllGoOn (pasts_of (on_heap g) old.pages) (pasts_of (on_heap g) new)
        → StopsLeave (IsMarkedOrReplayed (g.files old.wal)) (pasts_of (on_heap g) old.pages) (pasts_of (on_heap g) new)
    unopened_leaves new came on =
        stops_with (λ left. Has rebuilding_name left.data0 ⊎ AreWhole s.relseg parts_held left) (IsMarkedOrReplayed (g.files old.wal)) (pasts_of (on_heap g) old.pages) (pasts_of (on_heap g) new) marked_or_replayed
        (unsettled_leaves (on_heap g) s.relseg old.pages parts_held some filled.filled.data0 all_held here new came on)

module _ {V : Type 0} (g : Ghosts V) (s : StoreSettings) (old : BoxedAreas V) (history : List Entry) (pages : ℕ) (tip : Tip) (found : IsFound (g.files old.wal) s history pages tip) (filled : AreFilledBy g s.relseg (g.files old.wal) history old.pages) (relseg : ℕ) (some : 1 ≤ relseg) (size : relseg ≡ s.relseg) where
  more : 0 < s.relseg
  more = omega (arith, some, size)

  pub opened_safely : (store : Found V) (from : ℕ) → store.wal ≡ old.wal → AreRebuilt (on_heap g) relseg from old.pages store.parts → HaveEnded (on_heap g) relseg old.pages store.parts.part0.past → AllGoOn (pasts_of (on_heap g) old.pages) (pasts_in store.parts)
      → FillsSafely g old (shown_of g store).past
  opened_safely store from area rebuilt ended on = record {
    wal = ap g.past area;
    stops = λ told here. opened_leaves g s old history pages tip found filled more told here from store.parts
        (subst (λ (n : ℕ). AreRebuilt (on_heap g) n from old.pages store.parts) size rebuilt) (subst (λ (n : ℕ). HaveEnded (on_heap g) n old.pages store.parts.part0.past) size ended) on;
  }

  pub opened_durably : (store : Found V) (from : ℕ) → AreRebuilt (on_heap g) relseg from old.pages store.parts → IsSome (g.files old.wal) → LeavesReplay (g.files old.wal) (data_of (shown_of g store).past)
  opened_durably store from rebuilt told =
      opened_replay g s old history pages tip found filled more told from store.parts (subst (λ (n : ℕ). AreRebuilt (on_heap g) n from old.pages store.parts) size rebuilt)

  pub unopened_safely : (wal : V) (new : DataAreas (BoxedArea V)) (areas : StoreAreas V) → areas ≡ areas_with wal new → wal ≡ old.wal → SettledSoFar (on_heap g) relseg (held_by (on_heap g) relseg old.pages) old.pages new → AllGoOn (pasts_of (on_heap g) old.pages) (pasts_of (on_heap g) new)
      → FillsSafely g old (past_of g areas)
  unopened_safely wal new areas is area came on = subst (λ (a : StoreAreas V). FillsSafely g old (past_of g a)) (sym is) (record {
    wal = ap g.past area;
    stops = λ told here. unopened_leaves g s old history pages tip found filled more told here new
        (subst (λ (n : ℕ). SettledSoFar (on_heap g) n (held_by (on_heap g) n old.pages) old.pages new) size came) on;
  })

-- ---- areas into which a WAL is replayed

module _ {V : Type 0} (g : Ghosts V) (s : StoreSettings) (old : BoxedAreas V) (wal : V) (b : DataAreas (BoxedArea V)) (x y : StoreForks (BoxedArea V)) (were : AreForksOf s.relseg old.pages x) (kept : KeepsAll (on_heap g) x y) (are : map (λ f. f.area) y.parts ≡ listed b) (reads : OnlyReads g old.wal wal) where
  others : Adds (IsAmong IsOther) (first_past (on_heap g) old.pages) (first_past (on_heap g) b)
  others = forks_are_others (first_past (on_heap g) old.pages) (first_past (on_heap g) b) (changed (on_heap g) s.relseg old.pages b x y were kept are 0 (omega arith)).past

  replay_leaves : LeavesNow (Has rebuilding_name) (first_past (on_heap g) old.pages) → StopsLeave (IsMarkedOrReplayed (g.files old.wal)) (pasts_of (on_heap g) old.pages) (pasts_of (on_heap g) b)
  replay_leaves here =
      stops_with (λ left. Has rebuilding_name left.data0) (IsMarkedOrReplayed (g.files old.wal)) (pasts_of (on_heap g) old.pages) (pasts_of (on_heap g) b) (λ left has. inl has)
      (filling_leaves (pasts_of (on_heap g) old.pages) (pasts_of (on_heap g) b) here others (pasts_go_on (on_heap g) s.relseg old.pages b x y were kept are))

  -- it wasn't
  pub unfilled_safely : (areas : StoreAreas V) → areas ≡ areas_with wal b → FillsSafely g old (past_of g areas)
  unfilled_safely areas is = subst (λ (a : StoreAreas V). FillsSafely g old (past_of g a)) (sym is) (record { wal = reads.past; stops = λ told here. replay_leaves here })

  -- it was, and then they were opened or not
  pub filled_safely : (new : StoreAreas Past) → FillsSafely g (record { wal = wal; pages = b }) new → FillsSafely g old new
  filled_safely new safe = record {
    wal = safe.wal ∙ reads.past;
    stops = λ told here. stops_join (IsMarkedOrReplayed (g.files old.wal)) (pasts_of (on_heap g) old.pages) (pasts_of (on_heap g) b) (data_of new) (replay_leaves here)
        (subst (λ (o : Option Files). StopsLeave (IsMarkedOrReplayed o) (pasts_of (on_heap g) b) (data_of new)) reads.files
        (safe.stops (subst (λ (o : Option Files). IsSome o) (sym reads.files) told) (mark_stays (first_past (on_heap g) old.pages) (first_past (on_heap g) b) here others)));
  }

-- ---- areas that are cleared before

safely : {V : Type 0} (g : Ghosts V) (areas : StoreAreas V) (left : DataAreas Files) → AreLeftNow (data_of (past_of g areas)) left ⊎ Has rebuilding_name left.data0 → IsSafelyLeft (g.files areas.wal) (data_of (past_of g areas)) left
safely g areas left (inl now) = inl now
safely g areas left (inr has) = inr (inl has)

module _ {V : Type 0} (g : Ghosts V) (wal : V) (x y : DataAreas (BoxedArea V)) (told : AllTell g (areas_with wal x)) (durable : IsDurable (g.files wal) (g.past wal)) (on : AllGoOn (pasts_of (on_heap g) x) (pasts_of (on_heap g) y)) where
  pub uncleared_safely : (areas : StoreAreas V) → areas ≡ areas_with wal y → ClearedSoFar (on_heap g) x y → RebuildsSafely g (areas_with wal x) (past_of g areas)
  uncleared_safely areas is so_far = subst (λ (a : StoreAreas V). RebuildsSafely g (areas_with wal x) (past_of g a)) (sym is) (record {
    wal = adds_none IsSync (g.past wal) (g.past wal) refl;
    durable = inr durable;
    stops = stops_with (λ left. AreLeftNow (pasts_of (on_heap g) x) left ⊎ Has rebuilding_name left.data0) (IsSafelyLeft (g.files wal) (data_of (past_of g (areas_with wal x)))) (pasts_of (on_heap g) x) (pasts_of (on_heap g) y) (safely g (areas_with wal x))
        (uncleared_leaves (on_heap g) x y (told.pages 0 (omega arith)) so_far on);
  })

  pub cleared_safely : (new : StoreAreas Past) → HaveMarkSince (on_heap g) x y → FillsSafely g (record { wal = wal; pages = y }) new → RebuildsSafely g (areas_with wal x) new
  cleared_safely new begins safe = record {
    wal = adds_none IsSync (g.past wal) new.wal safe.wal;
    durable = inr (subst (IsDurable (g.files wal)) (sym safe.wal) durable);
    stops = stops_join (IsSafelyLeft (g.files wal) (data_of (past_of g (areas_with wal x)))) (pasts_of (on_heap g) x) (pasts_of (on_heap g) y) (data_of new)
        (stops_with (λ left. AreLeftNow (pasts_of (on_heap g) x) left ⊎ Has rebuilding_name left.data0) (IsSafelyLeft (g.files wal) (data_of (past_of g (areas_with wal x)))) (pasts_of (on_heap g) x) (pasts_of (on_heap g) y) (safely g (areas_with wal x))
        (clearing_leaves (on_heap g) x y (told.pages 0 (omega arith)) begins on))
        (stops_with (IsMarkedOrReplayed (g.files wal)) (IsSafelyLeft (g.files wal) (data_of (past_of g (areas_with wal x)))) (pasts_of (on_heap g) y) (data_of new) (λ left is. inr is)
        (safe.stops told.wal (mark_is_left (IsSome (g.files (box_value x.data0.area))) (first_past (on_heap g) x) (first_past (on_heap g) y) (told.pages 0 (omega arith)) begins)));
  }

-- ---- a WAL that was read or synced before

pub replay_before : {V : Type 0} (g : Ghosts V) (wal now : V) (new : DataAreas Past) → g.files now ≡ g.files wal → (IsSome (g.files now) → LeavesReplay (g.files now) new) → IsSome (g.files wal) → LeavesReplay (g.files wal) new
replay_before g wal now new same leaves = subst (λ (o : Option Files). IsSome o → LeavesReplay o new) same leaves

durable_before : {V : Type 0} (g : Ghosts V) (wal now : V) (x : DataAreas (BoxedArea V)) (new : StoreAreas Past) → g.files now ≡ g.files wal → (data_of new ≡ data_of (past_of g (areas_with now x))) ⊎ IsDurable (g.files now) new.wal
    → (data_of new ≡ data_of (past_of g (areas_with wal x))) ⊎ IsDurable (g.files wal) new.wal
durable_before g wal now x new same (inl none) = inl none
durable_before g wal now x new same (inr durable) = inr (subst (λ (o : Option Files). IsDurable o new.wal) same durable)

pub safely_before : {V : Type 0} (g : Ghosts V) (wal now : V) (x : DataAreas (BoxedArea V)) (new : StoreAreas Past) → g.files now ≡ g.files wal → Adds IsSync (g.past wal) (g.past now) → RebuildsSafely g (areas_with now x) new → RebuildsSafely g (areas_with wal x) new
safely_before g wal now x new same synced safe = record {
  wal = adds_on IsSync (g.past wal) (g.past now) new.wal synced safe.wal;
  durable = durable_before g wal now x new same safe.durable;
  stops = subst (λ (o : Option Files). StopsLeave (IsSafelyLeft o (data_of (past_of g (areas_with wal x)))) (data_of (past_of g (areas_with wal x))) (data_of new)) same safe.stops;
}

pub tell_behind : {V : Type 0} (g : Ghosts V) (wal now : V) (x : DataAreas (BoxedArea V)) → g.files now ≡ g.files wal → AllTell g (areas_with wal x) → AllTell g (areas_with now x)
tell_behind g wal now x same told = record { wal = subst (λ (o : Option Files). IsSome o) (sym same) told.wal; pages = told.pages }

-- a WAL is read, synced and read
pub synced_between : {T : Type 0} (files : Option Files) (a b c d : Past) (result : Result T AreaFault) → b ≡ a → OnOk result (c ≡ noted (synced files) b) → OnErr result (c ≡ b) → d ≡ c → Adds IsSync a d
synced_between files a b c d result before ok err behind =
    adds_on IsSync a c d (adds_on IsSync a b c (adds_none IsSync a b before) (adds_sync IsSync files b c result tt ok err)) (adds_none IsSync c d behind)

pub unboxed_safely : {V : Type 0} (g : Ghosts V) (areas back : StoreAreas V) → back ≡ areas → RebuildsSafely g areas (past_of g back)
unboxed_safely {V} g areas back is = subst (λ (a : StoreAreas V). RebuildsSafely g areas (past_of g a)) (sym is) (record {
  wal = adds_none IsSync (g.past areas.wal) (g.past areas.wal) refl;
  durable = inl refl;
  stops = stops_with (λ left. AreLeftNow (data_of (past_of g areas)) left ⊎ Has rebuilding_name left.data0) (IsSafelyLeft (g.files areas.wal) (data_of (past_of g areas))) (data_of (past_of g areas)) (data_of (past_of g areas)) (safely g areas)
      (untouched_leaves (data_of (past_of g areas)));
})

-- no data area was touched
pub unread_safely : {V : Type 0} (g : Ghosts V) (areas : StoreAreas V) (wal now : V) (x : DataAreas (BoxedArea V)) (back : StoreAreas V) → areas_with wal x ≡ areas → back ≡ areas_with now x → g.files now ≡ g.files wal → Adds IsSync (g.past wal) (g.past now) → RebuildsSafely g areas (past_of g back)
unread_safely {V} g areas wal now x back at is same synced =
    subst (λ (a : StoreAreas V). RebuildsSafely g a (past_of g back)) at
    (safely_before g wal now x (past_of g back) same synced (unboxed_safely g (areas_with now x) back is))
