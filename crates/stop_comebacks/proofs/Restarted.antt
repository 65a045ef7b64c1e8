-- What a stop leaves of restorable areas while they are restarted anew, or begun: restorable areas.
use Rattle.std.proofs.Common.{◌≡◌, ℕ, ◌<◌, ◌≤◌, zero, suc, inl, inr, List, ◌++◌, map, Option, Some, None, IfSome, refl, sym, ap, subst, ◌∙◌, arith}
use Rattle.std.specs.List.{All}
use Rattle.std.specs.FinMap.{empty, get}
use Rattle.lsn_core.specs.Files.{Files}
use Rattle.lsn_core.specs.Segment.{StoreSettings}
use Rattle.lsn_core.specs.Store.{Store}
use Rattle.lsn_core.specs.Tip.{Tip}
use Rattle.lsn_core.specs.declared.lsn.Lsn.{Lsn}
use Rattle.vault.specs.Boxed.{on_heap}
use Rattle.vault.specs.Frame.{Adds, Has, IsAmong, IsDurable, LeavesNow}
use Rattle.vault.proofs.Through.{adds_none}
use Rattle.vault.specs.declared.area.Vault.{Ghosts}
use Rattle.vault.specs.declared.boxed.BoxedArea.{BoxedArea}
use Rattle.wal_record.specs.declared.record.Record.{Record}
use Rattle.wal_archive.specs.Archive.{Extends, archive_of}
use Rattle.survivor_laws.proofs.One.{one as are_one}
use Rattle.wal_record.specs.Decoding.{record_at}
use Rattle.wal_record.specs.Tips.{first_tip}
use Rattle.history.specs.Apply.{apply_all}
use Rattle.history.specs.Whole.{entry_of, whole}
use Rattle.data_areas.specs.Marking.{rebuilding_name}
use Rattle.data_areas.specs.Moments.{Past, AreLeftNow, LeftNow, LeftSince, pasts_of}
use Rattle.data_areas.specs.Rebuilt.{HoldsPages}
use Rattle.data_areas.specs.declared.areas.DataAreas.{DataAreas}
use Rattle.data_areas.proofs.Moments.{goes_on}
use Rattle.restart_areas.specs.Pages.{HoldParts}
use Rattle.store_areas.specs.Begin.{data_of}
use Rattle.store_areas.specs.Opened.{past_of}
use Rattle.store_areas.specs.declared.areas.StoreAreas.{StoreAreas}
use Rattle.store_restart.specs.Moments.{as_left, BringsLast, BringsSafely, IsRemadeLeft, RestartsFrom, TrimsLast}
use Rattle.store_restart.specs.Restart.{AreDurable, BeginsAt, BringsBack, EndWith, IsUnmarked}
use Rattle.store_restart.specs.Restarted.{areas_of, plain}
use Rattle.store_restart.specs.Survivors.{SurviveIn}
use Rattle.store_restart.specs.Trimmed.{HoldsFront, IsArchiveFile, KeepsFront}
use Rattle.store_restart.proofs.LeftBy.{left_has, left_since, synced_left, synced_now}
use Rattle.store_restart.proofs.Upto.{survivors_rise}
use Rattle.comeback_laws.specs.Laws.{AreSettings}
use Rattle.comeback_laws.specs.Restorable.{AreRestorableAreas, HasMark}
use Rattle.comeback_laws.proofs.Back.{restorable_there}
use Rattle.comeback_laws.proofs.Survived.{rise_all, survive_once}
use Rattle.stop_comebacks.specs.Moments.{StoreStopsLeave}
use Rattle.stop_comebacks.specs.Restarts.{AreRestorableNow, AreRestorableUnlessByChance, IsAnew, IsHistory, RebuildingRestartsLeaveRestorableAreas}
use Rattle.stop_comebacks.proofs.Chance.{more_survive, walk_on}
use Rattle.stop_comebacks.proofs.HeldWhole.{all_behind, all_front, none_before, whole_is_all, whole_since}
use Rattle.stop_comebacks.proofs.StoreMoments.{data_stops, stops_join, wal_stops}

pub one_of : (told : Option Files) (a b : Files) → told ≡ Some a → told ≡ Some b → a ≡ b
one_of told a b e f = cc

pub told_of : (P : Files → Type 0) (told : Option Files) (m : Files) → told ≡ Some m → IfSome told P → P m
told_of P told m is has = subst (λ (o : Option Files). IfSome o P) is has

-- a mark, and none
pub mark_gone : {P : Type 0} (told : Option Files) → HasMark told → IfSome told (λ m. get m rebuilding_name ≡ None) → P
mark_gone told mark none = absurd (mark.1.1 (told_of (λ m. get m rebuilding_name ≡ None) told mark.0 mark.1.0 none))

-- ---- durable areas

durable_held : (relseg : ℕ) (told : Option Files) (part : Store) (past : Past) (left : Files) → HoldsPages relseg told part → IsDurable told past → LeftNow past left → HoldsPages relseg (Some left) part
durable_held relseg None part past left holds durable there = absurd (let files = holds.files in let e : ◌≡◌ {A = Option Files} None (Some files.files) = files.are_told in cc)
durable_held relseg (Some m) part past left holds durable there = subst (λ (f : Files). HoldsPages relseg (Some f) part) (sym (left_has (λ l. l ≡ m) past left durable there)) holds

parts_left : {V : Type 0} (g : Ghosts V) (relseg : ℕ) (x : DataAreas V) (store : Store) (left : DataAreas Files) → HoldParts g relseg x store → AreDurable g x → AreLeftNow (pasts_of g x) left → HoldParts as_left relseg left store
parts_left g relseg x store left held durable there zero less =
    let has = held 0 less in
    (has.0, (has.1.0, durable_held relseg (g.files x.data0) has.0 (g.past x.data0) left.data0 has.1.1 durable.data0 there.data0))
parts_left g relseg x store left held durable there (suc zero) less =
    let has = held 1 less in
    (has.0, (has.1.0, durable_held relseg (g.files x.data1) has.0 (g.past x.data1) left.data1 has.1.1 durable.data1 there.data1))
parts_left g relseg x store left held durable there (suc (suc zero)) less =
    let has = held 2 less in
    (has.0, (has.1.0, durable_held relseg (g.files x.data2) has.0 (g.past x.data2) left.data2 has.1.1 durable.data2 there.data2))
parts_left g relseg x store left held durable there (suc (suc (suc zero))) less =
    let has = held 3 less in
    (has.0, (has.1.0, durable_held relseg (g.files x.data3) has.0 (g.past x.data3) left.data3 has.1.1 durable.data3 there.data3))
parts_left g relseg x store left held durable there (suc (suc (suc (suc q)))) less = absurd (omega (arith, less))

-- ---- restorable areas

module _ {V : Type 0} (g : Ghosts V) (s : StoreSettings) (history : List Record) (flushed : ℕ) (old : StoreAreas V) (settings : AreSettings s) (h : IsHistory s history flushed) (now : AreRestorableNow g s history flushed old) where
  abbrev r : AreRestorableAreas g s history flushed old
  r = now.restorable

  abbrev U : StoreAreas Files → Type 0
  U = AreRestorableUnlessByChance s history flushed

  -- a WAL that stands up to its survivors' end, and marked areas
  pub marked_left : (left : StoreAreas Files) → left.wal ≡ r.wal → Has rebuilding_name left.data0 → U left
  marked_left left same mark chance = record {
    wal = left.wal;
    told = refl;
    records = r.records;
    tip = r.tip;
    survive = subst (λ (m : Files). SurviveIn s m r.records r.tip) (sym same) r.survive;
    first = r.first;
    left = inl (left.data0, (refl, mark));
  }

  -- and areas that hold what the survivors make
  pub whole_left : (left : StoreAreas Files) (store : Store) → Extends (archive_of s.segment r.wal) (archive_of s.segment left.wal) r.tip.end → apply_all empty (map entry_of r.records) ≡ Some store → HoldParts as_left s.relseg (data_of left) store → U left
  whole_left left store extends all held chance =
      let f = r.first in
      let m = more_survive s history flushed h.last h.log left.wal chance r.records f r.tip (walk_on s r.wal left.wal r.records r.tip settings.segment extends (let survive = r.survive in survive.walk)) in
      let first = m.first in
      let rise = rise_all s left.wal (r.records ++ m.more) m.tip settings.segment m.survive in
      record {
        wal = left.wal;
        told = refl;
        records = r.records ++ m.more;
        tip = m.tip;
        survive = m.survive;
        first = m.first;
        left = inr (λ from start.
            let before = h.redos (r.records ++ m.more) first.lost from first.parts start in
            let here = all_front (λ x. x.start.0 < from.0 → x.end.0 ≤ flushed) (r.records ++ m.more) first.lost (subst (All (λ x. x.start.0 < from.0 → x.end.0 ≤ flushed)) first.parts before) in
            whole_since s.relseg settings.relseg history h.is_store r.records m.more first.lost first.parts rise store all (data_of left) held from
            (none_before from.0 flushed m.more (all_behind (λ x. x.start.0 < from.0 → x.end.0 ≤ flushed) r.records m.more here) m.late));
      }

  pub same_extends : (left : Files) (end : ℕ) → left ≡ r.wal → Extends (archive_of s.segment r.wal) (archive_of s.segment left) end
  same_extends left end same x b less held = subst (λ (m : Files). (archive_of s.segment m).byte x ≡ Some b) (sym same) held

  all_made : (tip : Tip) (store : Store) (records : List Record) → SurviveIn s r.wal records tip → whole records tip.end ≡ Some store → apply_all empty (map entry_of r.records) ≡ Some store
  all_made tip store records survive made =
      let same = survive_once s r.wal records r.records tip r.tip survive r.survive in
      ap (λ (l : List Record). apply_all empty (map entry_of l)) (sym same)
      ∙ sym (whole_is_all s r.wal (first_tip s.segment) tip records (survivors_rise s r.wal records tip settings.segment survive) survive.walk) ∙ made

  tip_is : (tip : Tip) → EndWith s tip r.wal → tip ≡ r.tip
  tip_is tip ends = (are_one record_at s.segment s.system r.wal ends.0 r.records tip r.tip ends.1 r.survive).1

  -- ---- the WAL's area is synced

  pub synced_stops : (w : Past) → Adds (IsAmong (λ name. ⊥)) (g.past old.wal) w → StoreStopsLeave U (past_of g old) (areas_of w (pasts_of g (data_of old)))
  synced_stops w adds =
      wal_stops U (g.past old.wal) w (pasts_of g (data_of old)) (goes_on (IsAmong (λ name. ⊥)) (g.past old.wal) w adds)
      (λ left wal pages. now.left left (record { wal = synced_left (g.past old.wal) w left.wal adds wal; pages = record { data0 = pages.data0; data1 = pages.data1; data2 = pages.data2; data3 = pages.data3 } }))

  module _ (w : Past) (adds : Adds (IsAmong (λ name. ⊥)) (g.past old.wal) w) (durable : IsDurable (g.files old.wal) w) where
    pub wal_same : (left : Files) → LeftNow w left → left ≡ r.wal
    wal_same left there = left_has (λ l. l ≡ r.wal) w left (told_of (λ m. LeavesNow (λ l. l ≡ m) w) (g.files old.wal) r.wal r.told durable) there

    -- ---- data areas are made anew

    pub before_left : (left : StoreAreas Files) → LeftNow w left.wal → AreLeftNow (pasts_of g (data_of old)) (data_of left) → U left
    before_left left wal pages = now.left left (record { wal = synced_now (g.past old.wal) w left.wal adds wal; pages = record { data0 = pages.data0; data1 = pages.data1; data2 = pages.data2; data3 = pages.data3 } })

    pub remade_left : (tip : Tip) (left : StoreAreas Files) → LeftNow w left.wal → IsRemadeLeft s tip (pasts_of g (data_of old)) r.wal (data_of left) → U left
    remade_left tip left wal (inl is) = before_left left wal is
    remade_left tip left wal (inr (inl mark)) = marked_left left (wal_same left.wal wal) mark
    remade_left tip left wal (inr (inr is)) =
        let holds = is.1 in
        whole_left left holds.store (same_extends left.wal r.tip.end (wal_same left.wal wal)) (all_made tip holds.store holds.records holds.survive holds.made) holds.held

    -- ---- the archive is cut

    cut_left : (tip : Tip) (new : StoreAreas V) (store : Store) → EndWith s tip r.wal → AreDurable g (data_of new) → KeepsFront s.segment tip.end w (g.past new.wal) → apply_all empty (map entry_of r.records) ≡ Some store → HoldParts g s.relseg (data_of new) store
        → (left : StoreAreas Files) → LeftSince w (g.past new.wal) left.wal → AreLeftNow (pasts_of g (data_of new)) (data_of left) → U left
    cut_left tip new store ends kept keeps all held left wal pages =
        let front = left_since (HoldsFront s.segment tip.end (archive_of s.segment r.wal)) w (g.past new.wal) left.wal (keeps (archive_of s.segment r.wal) front_now) wal in
        whole_left left store (subst (λ (t : Tip). Extends (archive_of s.segment r.wal) (archive_of s.segment left.wal) t.end) (tip_is tip ends) front) all (parts_left g s.relseg (data_of new) store (data_of left) held kept pages)
      where
        front_by : (o : Past) → LeavesNow (λ l. l ≡ r.wal) o → LeavesNow (HoldsFront s.segment tip.end (archive_of s.segment r.wal)) o
        front_by None leaves = tt
        front_by (Some events) leaves = λ c may. same_extends c tip.end (leaves c may)

        front_now : LeavesNow (HoldsFront s.segment tip.end (archive_of s.segment r.wal)) w
        front_now = front_by w (told_of (λ m. LeavesNow (λ l. l ≡ m) w) (g.files old.wal) r.wal r.told durable)

    pub cut_stops : (tip : Tip) (new : StoreAreas V) (store : Store) → EndWith s tip r.wal → AreDurable g (data_of new) → Adds (IsAmong (IsArchiveFile s.segment)) w (g.past new.wal) → KeepsFront s.segment tip.end w (g.past new.wal) → apply_all empty (map entry_of r.records) ≡ Some store → HoldParts g s.relseg (data_of new) store
        → StoreStopsLeave U (areas_of w (pasts_of g (data_of new))) (past_of g new)
    cut_stops tip new store ends kept cut keeps all held = wal_stops U w (g.past new.wal) (pasts_of g (data_of new)) (goes_on (IsAmong (IsArchiveFile s.segment)) w (g.past new.wal) cut) (cut_left tip new store ends kept keeps all held)

-- ---- a restart that makes data areas anew

module _ {V : Type 0} (g : Ghosts V) (s : StoreSettings) (history : List Record) (flushed : ℕ) (old : StoreAreas V) (settings : AreSettings s) (h : IsHistory s history flushed) (now : AreRestorableNow g s history flushed old) (anew : IsAnew g s old) where
  abbrev m : Files
  m = let r = now.restorable in r.wal

  abbrev is_told : Type 0
  is_told = g.files old.wal ≡ Some m

  told : is_told
  told = let r = now.restorable in r.told

  abbrev P : StoreAreas Files → Type 0
  P = AreRestorableUnlessByChance s history flushed

  none_some : {Q : Type 0} (l : Lsn) → ◌≡◌ {A = Option Lsn} None (Some l) → Q
  none_some l e = absurd (let f : ◌≡◌ {A = Option Lsn} None (Some l) = e in cc)

  not_on : {Q : Type 0} (tip : Tip) (from : Lsn) → BeginsAt s tip (Some from) m → IsUnmarked g (data_of old) → IsAnew g s old → Q
  not_on tip from begins unmarked (inl mark) = mark_gone (g.files old.data0) mark unmarked
  not_on tip from begins unmarked (inr none) = none_some from (sym (none m begins.records tip told begins.survive) ∙ begins.start_is)

  module _ (wal : V) (adds : Adds (IsAmong (λ name. ⊥)) (g.past old.wal) (g.past wal)) (durable : IsDurable (g.files old.wal) (g.past wal)) where
    brought_stops : (tip : Tip) (new : DataAreas V) → BringsSafely g s tip (data_of old) new m → StoreStopsLeave P (areas_of (g.past wal) (pasts_of g (data_of old))) (areas_of (g.past wal) (pasts_of g new))
    brought_stops tip new (inl remakes) =
        data_stops P (IsRemadeLeft s tip (pasts_of g (data_of old)) m) (g.past wal) (pasts_of g (data_of old)) (pasts_of g new)
        (remade_left g s history flushed old settings h now (g.past wal) adds durable tip) remakes
    brought_stops tip new (inr redoes) = not_on tip redoes.from redoes.begins redoes.unmarked anew

    back_stops : (tip : Tip) (new : StoreAreas V) → EndWith s tip m → (trims : TrimsLast g s tip old wal new) → BringsBack g s tip (data_of old) (data_of new) trims.tally m → StoreStopsLeave P (areas_of (g.past wal) (pasts_of g (data_of new))) (past_of g new)
    back_stops tip new ends trims (inl is) =
        let whole = is.1.0 in
        cut_stops g s history flushed old settings h now (g.past wal) adds durable tip new whole.store ends trims.durable trims.cut trims.keeps
        (all_made g s history flushed old settings h now tip whole.store whole.records whole.survive whole.made) whole.held
    back_stops tip new ends trims (inr on) = not_on tip on.0 on.1.0 on.1.1.0 anew

    trimmed_stops : (tip : Tip) (new : StoreAreas V) → EndWith s tip m → (trims : TrimsLast g s tip old wal new) → StoreStopsLeave P (areas_of (g.past wal) (pasts_of g (data_of new))) (past_of g new)
    trimmed_stops tip new ends trims = back_stops tip new ends trims (told_of (BringsBack g s tip (data_of old) (data_of new) trims.tally) (g.files old.wal) m told trims.brings)

    last_stops : (new : StoreAreas V) → BringsLast g s old wal new → StoreStopsLeave P (areas_of (g.past wal) (pasts_of g (data_of old))) (past_of g new)
    last_stops new is =
        let brought = brought_stops is.tip (data_of new) (told_of (BringsSafely g s is.tip (data_of old) (data_of new)) (g.files old.wal) m told is.brings) in
        let ends = told_of (EndWith s is.tip) (g.files old.wal) m told is.ends in
        elim is.last [
          | inl same ↦
              subst (λ (p : Past). StoreStopsLeave P (areas_of (g.past wal) (pasts_of g (data_of old))) (areas_of p (pasts_of g (data_of new)))) (sym same) brought
          | inr trims ↦
              stops_join P (areas_of (g.past wal) (pasts_of g (data_of old))) (areas_of (g.past wal) (pasts_of g (data_of new))) (past_of g new) brought (trimmed_stops is.tip new ends trims)
        ]

  pub restarted_stops : (new : StoreAreas V) → RestartsFrom g s old new → StoreStopsLeave P (past_of g old) (past_of g new)
  restarted_stops new is =
      let read = is.read in
      let synced = synced_stops g s history flushed old settings h now (g.past is.wal) read.past in
      elim is.later [
        | inl same ↦
            subst (λ (p : Past). StoreStopsLeave P (past_of g old) (areas_of p (pasts_of g (data_of new)))) (sym same.0)
            (subst (λ (x : DataAreas V). StoreStopsLeave P (past_of g old) (areas_of (g.past is.wal) (pasts_of g x))) (sym same.1) synced)
        | inr last ↦
            stops_join P (past_of g old) (areas_of (g.past is.wal) (pasts_of g (data_of old))) (past_of g new) synced
            (last_stops is.wal read.past last.synced new last)
      ]

pub now_there : {V : Type 0} (g : Ghosts V) (s : StoreSettings) (history : List Record) (flushed : ℕ) (areas : StoreAreas (BoxedArea V)) → AreRestorableNow g s history flushed (plain areas) → AreRestorableNow (on_heap g) s history flushed areas
now_there g s history flushed areas now = record { restorable = restorable_there g s history flushed areas now.restorable; left = now.left }

pub restarts_leave : {V : Type 0} (g : Ghosts V) → RebuildingRestartsLeaveRestorableAreas g
restarts_leave {V} g s history flushed old new settings h now anew (inl same) =
    subst (λ (a : StoreAreas V). StoreStopsLeave (AreRestorableUnlessByChance s history flushed) (past_of g old) (past_of g a)) (sym same)
    (synced_stops g s history flushed old settings h now (g.past old.wal) (adds_none (IsAmong (λ name. ⊥)) (g.past old.wal) (g.past old.wal) refl))
restarts_leave {V} g s history flushed old new settings h now anew (inr there) =
    let before_now = now_there g s history flushed there.before (subst (AreRestorableNow g s history flushed) (sym there.before_is) now) in
    let before_anew : IsAnew (on_heap g) s there.before = subst (IsAnew g s) (sym there.before_is) anew in
    subst (λ (a : StoreAreas V). StoreStopsLeave (AreRestorableUnlessByChance s history flushed) (past_of g a) (past_of g new)) there.before_is
    (subst (λ (a : StoreAreas V). StoreStopsLeave (AreRestorableUnlessByChance s history flushed) (past_of g (plain there.before)) (past_of g a)) there.behind_is
    (restarted_stops (on_heap g) s history flushed there.before settings h before_now before_anew there.behind there.is))
