-- What a stop leaves of data areas that are made anew, part by part.
use Rattle.std.proofs.Common.{◌≡◌, ℕ, zero, suc, inl, inr, List, Option, Some, None, IfSome, IsSome, Result, Ok, Err, refl, sym, ap, subst, arith}
use Rattle.std.specs.Prelude.{◌⊎◌, IfOk, OnErr}
use Rattle.lsn_core.specs.Files.{Files}
use Rattle.lsn_core.specs.Segment.{StoreSettings}
use Rattle.lsn_core.specs.Store.{Store}
use Rattle.lsn_core.specs.Tip.{Tip}
use Rattle.vault.specs.declared.area.Vault.{Ghosts}
use Rattle.vault.specs.Stops.{Event}
use Rattle.vault.specs.Frame.{AgreeBut, Adds, ChangesOnly, Has, IsAmong, IsDurable, LeavesNow}
use Rattle.rel_files.specs.Forks.{IsForkPath}
use Rattle.rel_files.proofs.Events.{adds_weaker}
use Rattle.recovery.specs.declared.tally.Tally.{Tally}
use Rattle.data_areas.specs.declared.areas.DataAreas.{DataAreas}
use Rattle.data_areas.specs.Clearing.{ClearedSoFar}
use Rattle.data_areas.specs.Marking.{rebuilding_name, IsMark, IsMarking, IsOther}
use Rattle.data_areas.specs.Moments.{Past, AllGoOn, AreLeftNow, AreLeftSince, StopsLeave, pasts_of}
use Rattle.data_areas.specs.Phases.{HaveMarkSince}
use Rattle.data_areas.specs.Rebuilt.{HoldsPages}
use Rattle.data_areas.proofs.Moments.{goes_on, stays, one_part, stops_join, stops_with, filling_leaves, mark_is_left, mark_stays, clearing_leaves, uncleared_leaves, untouched_leaves}
use Rattle.data_areas.proofs.Exact.{no_mark}
use Rattle.data_areas.proofs.Phases.{begun, forks_are_others}
use Rattle.restart_areas.specs.Areas.{EachChanges, ForksChange, NoneChanges}
use Rattle.restart_areas.specs.Pages.{HoldParts}
use Rattle.store_restart.specs.declared.fault.RestartWhy.{RestartWhy}
use Rattle.store_restart.specs.Moments.{as_left, AreWholeLeft, IsRemadeLeft, RemakesSafely}
use Rattle.store_restart.specs.Restart.{AreDurable, HoldWhole, OthersStay, IsForkOrMark}
use Rattle.store_restart.specs.Steps.{SettlesFilled, UnmarksLast}
use Rattle.store_restart.proofs.Filled.{changes_more}
use Rattle.store_restart.proofs.LeftBy.{agree_since, unmoved}
use Rattle.store_restart.proofs.Settled.{but_mark, synced_hold}

-- ---- more happened

pub each_goes : {V : Type 0} (g : Ghosts V) (Among : List ℕ → Type 0) (x y : DataAreas V) → EachChanges g Among x y → AllGoOn (pasts_of g x) (pasts_of g y)
each_goes g Among x y is = record {
  data0 = goes_on (IsAmong Among) (g.past x.data0) (g.past y.data0) is.data0.past;
  data1 = goes_on (IsAmong Among) (g.past x.data1) (g.past y.data1) is.data1.past;
  data2 = goes_on (IsAmong Among) (g.past x.data2) (g.past y.data2) is.data2.past;
  data3 = goes_on (IsAmong Among) (g.past x.data3) (g.past y.data3) is.data3.past;
}

none_other : (event : Event) → IsAmong (λ name. ⊥) event → IsAmong IsOther event
none_other (inl w) is = absurd is
none_other (inr (inl k)) is = absurd is
none_other (inr (inr (inl name))) is = absurd is
none_other (inr (inr (inr files))) is = tt

pub none_others : (x y : Past) → Adds (IsAmong (λ name. ⊥)) x y → Adds (IsAmong IsOther) x y
none_others x y adds = adds_weaker (IsAmong (λ name. ⊥)) (IsAmong IsOther) x y none_other adds

-- ---- areas that are marked and cleared

pub anyway_not : {T E : Type 0} (result : Result T E) (P : Type 0) → P → OnErr result P
anyway_not (Ok done) P holds = tt
anyway_not (Err fault) P holds = holds

pub marked_first : {V : Type 0} (g : Ghosts V) (x z : DataAreas V) (y : V) → ChangesOnly g IsMark x.data0 y → Adds IsMarking (g.past x.data0) (g.past y) → IfSome (g.files y) (λ m. LeavesNow (Has rebuilding_name) (g.past y)) → ForksChange g (record x { data0 = y }) z → HaveMarkSince g x z
marked_first g x z y first marking there forks = begun g x.data0 y z.data0 first marking there (changes_more g IsForkPath IsOther y z.data0 no_mark forks.data0)

-- ---- the mark goes from durable areas

held_same : (relseg : ℕ) (told : Option Files) (part : Store) (past : Past) (now : Past) (left : Files) → HoldsPages relseg told part → IsDurable told past → ((m : Files) → LeavesNow (λ l. l ≡ m) past → left ≡ m) → HoldsPages relseg (Some left) part
held_same relseg None part past now left holds durable is = absurd (let files = holds.files in let e : ◌≡◌ {A = Option Files} None (Some files.files) = files.are_told in cc)
held_same relseg (Some m) part past now left holds durable is = subst (λ (f : Files). HoldsPages relseg (Some f) part) (sym (is m durable)) holds

held_marked : (relseg : ℕ) (told : Option Files) (part : Store) (x y : Past) (left : Files) → HoldsPages relseg told part → IsDurable told x → ((m : Files) → LeavesNow (λ l. l ≡ m) x → AgreeBut IsMark m left) → HoldsPages relseg (Some left) part
held_marked relseg None part x y left holds durable is = absurd (let files = holds.files in let e : ◌≡◌ {A = Option Files} None (Some files.files) = files.are_told in cc)
held_marked relseg (Some m) part x y left holds durable is = but_mark relseg part (Some m) (Some left) (is m durable) holds

module _ {V : Type 0} (g : Ghosts V) (s : StoreSettings) (tip : Tip) (wal : Files) (x y : DataAreas V) (durable : AreDurable g x) (data0 : ChangesOnly g IsMark x.data0 y.data0) (data1 : y.data1 ≡ x.data1) (data2 : y.data2 ≡ x.data2) (data3 : y.data3 ≡ x.data3) (tally : Tally) (whole : HoldWhole g s tip x tally wal) where
  held_left : (left : DataAreas Files) → AreLeftSince (pasts_of g x) (pasts_of g y) left → HoldParts as_left s.relseg left whole.store
  held_left left there zero below =
      let has = whole.held 0 below in (
        has.0,
        (
          has.1.0,
          held_marked s.relseg (g.files x.data0) has.0 (g.past x.data0) (g.past y.data0) left.data0 has.1.1 durable.data0
              (λ m settled. agree_since IsMark m (g.past x.data0) (g.past y.data0) left.data0 settled data0.past there.data0),
        ),
      )
  held_left left there (suc zero) below =
      let has = whole.held 1 below in (
        has.0,
        (
          has.1.0,
          held_same s.relseg (g.files x.data1) has.0 (g.past x.data1) (g.past y.data1) left.data1 has.1.1 durable.data1
              (λ m settled. unmoved (λ l. l ≡ m) (g.past x.data1) (g.past y.data1) left.data1 (ap g.past data1) settled there.data1),
        ),
      )
  held_left left there (suc (suc zero)) below =
      let has = whole.held 2 below in (
        has.0,
        (
          has.1.0,
          held_same s.relseg (g.files x.data2) has.0 (g.past x.data2) (g.past y.data2) left.data2 has.1.1 durable.data2
              (λ m settled. unmoved (λ l. l ≡ m) (g.past x.data2) (g.past y.data2) left.data2 (ap g.past data2) settled there.data2),
        ),
      )
  held_left left there (suc (suc (suc zero))) below =
      let has = whole.held 3 below in (
        has.0,
        (
          has.1.0,
          held_same s.relseg (g.files x.data3) has.0 (g.past x.data3) (g.past y.data3) left.data3 has.1.1 durable.data3
              (λ m settled. unmoved (λ l. l ≡ m) (g.past x.data3) (g.past y.data3) left.data3 (ap g.past data3) settled there.data3),
        ),
      )
  held_left left there (suc (suc (suc (suc q)))) below = absurd (omega (arith, below))

  whole_left : (left : DataAreas Files) → AreLeftSince (pasts_of g x) (pasts_of g y) left → AreWholeLeft s tip wal left
  whole_left left there = (
    tally,
    record {
      records = whole.records;
      survive = whole.survive;
      store = whole.store;
      made = whole.made;
      held = held_left left there;
      counted = whole.counted;
    },
  )

  pub unmarking_leaves : StopsLeave (AreWholeLeft s tip wal) (pasts_of g x) (pasts_of g y)
  unmarking_leaves = one_part (AreWholeLeft s tip wal) (pasts_of g x) (pasts_of g y) (record {
    on = record {
      data0 = goes_on (IsAmong IsMark) (g.past x.data0) (g.past y.data0) data0.past;
      data1 = stays (g.past x.data1) (g.past y.data1) (ap g.past data1);
      data2 = stays (g.past x.data2) (g.past y.data2) (ap g.past data2);
      data3 = stays (g.past x.data3) (g.past y.data3) (ap g.past data3);
    };
    stops = λ left there. whole_left left there;
  })

-- ---- all parts

abbrev IsBefore : DataAreas Past → DataAreas Files → Type 0
IsBefore now left = AreLeftNow now left ⊎ Has rebuilding_name left.data0

module _ {V : Type 0} (g : Ghosts V) (s : StoreSettings) (tip : Tip) (wal : Files) where
  before_remade : (now : DataAreas Past) (left : DataAreas Files) → IsBefore now left → IsRemadeLeft s tip now wal left
  before_remade now left (inl is) = inl is
  before_remade now left (inr has) = inr (inl has)

  -- nothing of areas happened
  pub untouched_safely : (old new : DataAreas V) → pasts_of g new ≡ pasts_of g old → RemakesSafely g s tip old new wal
  untouched_safely old new same =
      subst (StopsLeave (IsRemadeLeft s tip (pasts_of g old) wal) (pasts_of g old)) (sym same)
      (stops_with (IsBefore (pasts_of g old)) (IsRemadeLeft s tip (pasts_of g old) wal) (pasts_of g old) (pasts_of g old) (before_remade (pasts_of g old)) (untouched_leaves (pasts_of g old)))

  pub uncleared_safely : (old new : DataAreas V) → IsSome (g.files old.data0) → ClearedSoFar g old new → OthersStay g old new → RemakesSafely g s tip old new wal
  uncleared_safely old new told so_far changes =
      stops_with (IsBefore (pasts_of g old)) (IsRemadeLeft s tip (pasts_of g old) wal) (pasts_of g old) (pasts_of g new) (before_remade (pasts_of g old))
      (uncleared_leaves g old new told so_far (each_goes g IsForkOrMark old new changes))

  module _ (old mid b c : DataAreas V) (done : Result Tally RestartWhy) (begun : HaveMarkSince g old mid) (first : OthersStay g old mid) (forks : ForksChange g mid b) (settles : SettlesFilled g b c done) (filled : IfOk done (λ t. HoldWhole g s tip b t wal)) (told : IsSome (g.files old.data0)) where
    abbrev P : DataAreas Files → Type 0
    P = IsRemadeLeft s tip (pasts_of g old) wal

    abbrev M : DataAreas Files → Type 0
    M left = Has rebuilding_name left.data0

    here_mid : LeavesNow (Has rebuilding_name) (g.past mid.data0)
    here_mid = mark_is_left (IsSome (g.files old.data0)) (g.past old.data0) (g.past mid.data0) told begun

    others_b : Adds (IsAmong IsOther) (g.past mid.data0) (g.past b.data0)
    others_b = forks_are_others (g.past mid.data0) (g.past b.data0) forks.data0.past

    here_b : LeavesNow (Has rebuilding_name) (g.past b.data0)
    here_b = mark_stays (g.past mid.data0) (g.past b.data0) here_mid others_b

    to_b : StopsLeave P (pasts_of g old) (pasts_of g b)
    to_b = stops_join P (pasts_of g old) (pasts_of g mid) (pasts_of g b)
        (stops_with (IsBefore (pasts_of g old)) P (pasts_of g old) (pasts_of g mid) (before_remade (pasts_of g old)) (clearing_leaves g old mid told begun (each_goes g IsForkOrMark old mid first)))
        (stops_with M P (pasts_of g mid) (pasts_of g b) (λ left has. inr (inl has)) (filling_leaves (pasts_of g mid) (pasts_of g b) here_mid others_b (each_goes g IsForkPath mid b forks)))

    synced : (d : DataAreas V) → NoneChanges g b d → StopsLeave P (pasts_of g b) (pasts_of g d)
    synced d none =
        stops_with M P (pasts_of g b) (pasts_of g d) (λ left has. inr (inl has))
        (filling_leaves (pasts_of g b) (pasts_of g d) here_b (none_others (g.past b.data0) (g.past d.data0) none.data0.past) (each_goes g (λ name. ⊥) b d none))

    pub rebuilt_leaves : StopsLeave P (pasts_of g old) (pasts_of g c)
    rebuilt_leaves = elim settles [
      | inl none ↦ stops_join P (pasts_of g old) (pasts_of g b) (pasts_of g c) to_b (synced c none)
      | inr is ↦ last is.0 is.1.0 is.1.1
    ]
      where
        last : (was : Tally) → done ≡ Ok was → UnmarksLast g b c → StopsLeave P (pasts_of g old) (pasts_of g c)
        last was ok is =
            let whole : HoldWhole g s tip b was wal = subst (λ (r : Result Tally RestartWhy). IfOk r (λ t. HoldWhole g s tip b t wal)) ok filled in
            let there : HoldWhole g s tip is.mid was wal = record {
              records = whole.records;
              survive = whole.survive;
              store = whole.store;
              made = whole.made;
              held = synced_hold g b is.mid is.none s.relseg whole.store whole.held;
              counted = whole.counted;
            } in
            stops_join P (pasts_of g old) (pasts_of g is.mid) (pasts_of g c)
            (stops_join P (pasts_of g old) (pasts_of g b) (pasts_of g is.mid) to_b (synced is.mid is.none))
            (stops_with (AreWholeLeft s tip wal) P (pasts_of g is.mid) (pasts_of g c) (λ left w. inr (inr w)) (unmarking_leaves g s tip wal is.mid c is.durable is.data0 is.data1 is.data2 is.data3 was there))

-- where the WAL's area tells its files
module _ {V : Type 0} (g : Ghosts V) (s : StoreSettings) (tip : Tip) (old mid b c : DataAreas V) (done : Result Tally RestartWhy) (begun : HaveMarkSince g old mid) (first : OthersStay g old mid) (forks : ForksChange g mid b) (settles : SettlesFilled g b c done) where
  pub rebuilt_safely : (told : Option Files) → (IsSome told → IsSome (g.files old.data0)) → IfOk done (λ t. IfSome told (HoldWhole g s tip b t)) → IfSome told (RemakesSafely g s tip old c)
  rebuilt_safely None tells filled = tt
  rebuilt_safely (Some m) tells filled = rebuilt_leaves g s tip m old mid b c done begun first forks settles filled (tells refl)

pub cleared_safely : {V : Type 0} (g : Ghosts V) (s : StoreSettings) (tip : Tip) (told : Option Files) (old new : DataAreas V) → (IsSome told → IsSome (g.files old.data0)) → ClearedSoFar g old new → OthersStay g old new → IfSome told (RemakesSafely g s tip old new)
cleared_safely g s tip None old new tells so_far changes = tt
cleared_safely g s tip (Some m) old new tells so_far changes = uncleared_safely g s tip m old new (tells refl) so_far changes
