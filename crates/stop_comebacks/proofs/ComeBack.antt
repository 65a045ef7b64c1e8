-- Restorable areas come back: nothing in their WAL is damage that no stop leaves, and each survivor is
-- applied or redone.
use Rattle.std.proofs.Common.{◌≡◌, ℕ, zero, suc, ◌<◌, ◌≤◌, ◌&&◌, inl, inr, Bool, true, List, [], ◌∷◌, ◌++◌, map, Option, Some, None, IfSome, Result, Ok, Err, refl, sym, ap, subst, ◌∙◌, arith, true≢false}
use Rattle.std.specs.Prelude.{◌⊎◌, box_value}
use Rattle.std.specs.FinMap.{empty}
use Rattle.std.proofs.lemmas.Bool.{lt-ltb}
use Rattle.std.proofs.lemmas.List.{map-append}
use Rattle.lsn_core.specs.Causes.{Rose}
use Rattle.lsn_core.specs.Files.{Files}
use Rattle.lsn_core.specs.Segment.{StoreSettings}
use Rattle.lsn_core.specs.Store.{Store}
use Rattle.lsn_core.specs.Tip.{Tip}
use Rattle.lsn_core.specs.byte_words.Numbers.{◌>>=◌}
use Rattle.lsn_core.specs.declared.fault.StoreArea.TheVariants.{Wal, Data, Sums}
use Rattle.lsn_core.specs.declared.lsn.Lsn.{Lsn}
use Rattle.vault.specs.Boxed.{on_heap}
use Rattle.vault.specs.declared.area.Vault.{Ghosts}
use Rattle.vault.specs.declared.boxed.BoxedArea.{BoxedArea}
use Rattle.wal_record.specs.Decoding.{record_at}
use Rattle.wal_record.specs.Tips.{first_tip, tip_after, tip_behind}
use Rattle.wal_record.specs.declared.record.Record.{Record}
use Rattle.wal_record.specs.declared.record.RecordFault.{RecordFault}
use Rattle.wal_record.specs.declared.record.RecordFault.TheVariants as refusal
use Rattle.wal_archive.specs.Archive.{archive_of}
use Rattle.wal_archive.specs.Rules.{Bad, End, Found, Gives, found, judged, lsn, next_bytes, next_in, place_behind, refused}
use Rattle.wal_archive.specs.declared.fault.Damage.{Damage}
use Rattle.survivor_laws.specs.Survivors.{FailsTests, PassesTests}
use Rattle.survivor_laws.proofs.One.{one as are_one}
use Rattle.std.specs.List.{All}
use Rattle.history.specs.Apply.{apply_all}
use Rattle.history.proofs.Pushes.{all_first}
use Rattle.history.specs.Redo.{redo, redo_all}
use Rattle.history.specs.Whole.{entry_of, whole}
use Rattle.history.proofs.fuzzy_copies.Replay.{applied_in_two}
use Rattle.history.proofs.fuzzy_copies.View.{middle}
use Rattle.recovery.specs.Recovered.{first_bad_redo}
use Rattle.recovery.specs.Replay.{bad_behind, first_bad}
use Rattle.recovery.specs.Onward.{ending_by}
use Rattle.recovery.proofs.OneWal.{both_end}
use Rattle.recovery.proofs.SoFar.{good_or_bad}
use Rattle.data_areas.specs.Areas.{area_of}
use Rattle.store_areas.specs.Begin.{data_of}
use Rattle.store_areas.specs.declared.areas.StoreAreas.{StoreAreas}
use Rattle.neat_laws.proofs.Kept.{neat_areas}
use Rattle.store_restart.specs.declared.fault.RestartFault.{RestartFault}
use Rattle.store_restart.specs.declared.fault.RestartWhy.{RestartWhy}
use Rattle.store_restart.specs.declared.fault.RestartWhy.TheVariants.{BadDelta, Damaged, Failed, NoMemory}
use Rattle.store_restart.specs.Causes.{RestartCause}
use Rattle.store_restart.specs.Restart.{BeginsAt, EndWith, IsBadBehind, IsBadEntry, IsBadSurvivor, replayed_from}
use Rattle.store_restart.specs.Restarted.{IsRefused, plain}
use Rattle.store_restart.specs.Survivors.{IsSpoilt, SurviveIn, cuts_off, is_torn, replay_start}
use Rattle.store_restart.proofs.Upto.{survivors_read, survivors_rise}
use Rattle.comeback_laws.specs.Laws.{AreSettings}
use Rattle.comeback_laws.specs.Restorable.{AreLeftSince, AreRestorableAreas, DeltasFollowRedo}
use Rattle.comeback_laws.proofs.Back.{restorable_there}
use Rattle.comeback_laws.proofs.Survived.{survive_once}
use Rattle.comeback_laws.proofs.Wholes.{replayed}
use Rattle.stop_comebacks.specs.Restarts.{HasFailed, IsFirstFlushed, IsHistory, NothingByChance, RestorableAreasComeBack}
use Rattle.stop_comebacks.proofs.Chance.{MoreSurvive, more_survive, walk_tip}
use Rattle.stop_comebacks.proofs.HeldWhole.{whole_is_all}
use Rattle.stop_comebacks.proofs.Restarted.{mark_gone, one_of, told_of}
use Rattle.stop_comebacks.proofs.TornBytes.{next_torn}

-- ---- damage

end_or_bad : (d : Damage) → ◌≡◌ {A = Found} End (Bad d) → ⊥
end_or_bad d e = cc

gives_or_bad : (f : Found) (r : Record) (d : Damage) → f ≡ Gives r → f ≡ Bad d → ⊥
gives_or_bad f r d e k = absurd (let x : ◌≡◌ {A = Found} (Gives r) (Bad d) = sym e ∙ k in cc)

one_bad : (a b : Damage) → ◌≡◌ {A = Found} (Bad a) (Bad b) → a ≡ b
one_bad a b e = cc

refused_torn : (start : ℕ) (why : RecordFault) (none : PassesTests (Err why) → ⊥) → is_torn (refused start why) ≡ true
refused_torn start refusal.Length none = refl
refused_torn start refusal.Prev none = refl
refused_torn start refusal.Crc none = refl
refused_torn start (refusal.Unsupported manager info) none = absurd (none tt)
refused_torn start refusal.Header none = absurd (none tt)
refused_torn start (refusal.Content why) none = absurd (none tt)
refused_torn start refusal.NoMemory none = refl

judged_torn : (start : ℕ) (x : Result Record RecordFault) (d : Damage) → (PassesTests x → ⊥) → judged start x ≡ Bad d → is_torn d ≡ true
judged_torn start (Ok r) d none e = absurd (let k : ◌≡◌ {A = Found} (Gives r) (Bad d) = e in cc)
judged_torn start (Err why) d none e = ap is_torn (sym (one_bad (refused start why) d e)) ∙ refused_torn start why none

module _ (s : StoreSettings) (m : Files) (tip : Tip) (fails : FailsTests record_at s.segment s.system (archive_of s.segment m) tip) where
  found_torn : (o : Result (Option (List ℕ)) Damage) (d : Damage) → next_bytes (archive_of s.segment m) s.segment s.system tip.end ≡ o → found record_at s.segment tip.end (Some (lsn tip.prev)) o ≡ Bad d → is_torn d ≡ true
  found_torn (Ok None) d is e = absurd (end_or_bad d e)
  found_torn (Ok (Some bytes)) d is e = judged_torn _ (record_at (place_behind s.segment tip.end bytes) (Some (lsn tip.prev)) bytes) d (fails bytes is) e
  found_torn (Err why) d is e = ap is_torn (sym (one_bad why d e)) ∙ next_torn (archive_of s.segment m) s.segment s.system tip.end why is

  pub damage_torn : (d : Damage) → next_in record_at s.segment s.system (archive_of s.segment m) tip ≡ Bad d → is_torn d ≡ true
  unfolding next_in
  damage_torn d e = found_torn (next_bytes (archive_of s.segment m) s.segment s.system tip.end) d refl e

count_grows : (start : Tip) (rs : List Record) → start.count ≤ (tip_behind start rs).count
count_grows start [] = omega arith
count_grows start (r ∷ rs) = let more = count_grows (tip_after start r) rs in omega (arith, more)

-- ---- what is redone

good_redo : (store : Store) (rs : List Record) (last : Store) (place : ℕ) → redo_all store rs ≡ Some last → first_bad_redo store rs ≡ Some place → ⊥
good_redo store [] last place done bad = absurd (let k : ◌≡◌ {A = Option ℕ} None (Some place) = bad in cc)
good_redo store (r ∷ rs) last place done bad = by (redo store r) (λ s a b. good_redo s rs last place a b) done bad
  where
    by : (o : Option Store) → ((s : Store) → redo_all s rs ≡ Some last → first_bad_redo s rs ≡ Some place → ⊥) → (o >>= λ next. redo_all next rs) ≡ Some last → bad_behind r.start.0 o (λ next. first_bad_redo next rs) ≡ Some place → ⊥
    by None step a b = absurd (let k : ◌≡◌ {A = Option Store} None (Some last) = a in cc)
    by (Some s) step a b = step s a b

first_none : (history records lost : List Record) (flushed : ℕ) → history ≡ records ++ lost → IsFirstFlushed history flushed → records ≡ [] → (r : Record) × ((rest : List Record) × ((lost ≡ r ∷ rest) × (r.end.0 ≤ flushed)))
first_none [] records lost flushed parts first none = absurd first
first_none (r ∷ rest) records lost flushed parts first none = (r, (rest, (sym (parts ∙ ap (λ (l : List Record). l ++ lost) none), first)))

-- ---- a refusal

module _ {V : Type 0} (g : Ghosts V) (s : StoreSettings) (history : List Record) (flushed : ℕ) (old : StoreAreas V) (settings : AreSettings s) (h : IsHistory s history flushed) (deltas : DeltasFollowRedo history) (flush : IsFirstFlushed history flushed) (r : AreRestorableAreas g s history flushed old) (chance : NothingByChance s history r.wal) where
  m : MoreSurvive s history flushed r.wal r.records
  m = let survive = r.survive in more_survive s history flushed h.last h.log r.wal chance r.records r.first r.tip survive.walk

  fails : FailsTests record_at s.segment s.system (archive_of s.segment r.wal) r.tip
  fails =
      let survive = m.survive in
      subst (FailsTests record_at s.segment s.system (archive_of s.segment r.wal))
      (are_one record_at s.segment s.system r.wal (r.records ++ m.more) r.records m.tip r.tip survive r.survive).1 m.fails

  counted : (records : List Record) → r.records ≡ records → 0 < (tip_behind (first_tip s.segment) records).count
  counted [] is =
      let first = r.first in
      let one = first_none history r.records first.lost flushed first.parts flush is in
      let late = all_first (λ (x : Record). flushed < x.end.0) one.0 one.1.0 (subst (All (λ (x : Record). flushed < x.end.0)) one.1.1.0 first.late) in
      let low = one.1.1.1 in
      absurd (omega (arith, late, low))
  counted (x ∷ xs) is = let more = count_grows (tip_after (first_tip s.segment) x) xs in omega (arith, more)

  pub not_spoilt : (damage : Damage) → IsSpoilt s damage r.wal → ⊥
  not_spoilt damage spoilt =
      let same = are_one record_at s.segment s.system r.wal spoilt.records r.records spoilt.tip r.tip
      (record { walk = spoilt.walk; stopped = λ x e. gives_or_bad _ x damage e spoilt.broken }) r.survive in
      let survive = r.survive in
      let torn = damage_torn s r.wal r.tip fails damage (subst (λ (t : Tip). next_in record_at s.segment s.system (archive_of s.segment r.wal) t ≡ Bad damage) same.1 spoilt.broken) in
      let some = counted r.records refl in
      let at = walk_tip record_at s.segment s.system (archive_of s.segment r.wal) (first_tip s.segment) r.tip r.records survive.walk in
      let count : 0 < spoilt.tip.count = subst (λ (t : Tip). 0 < t.count) (sym (same.1 ∙ at)) some in
      let off : cuts_off spoilt.tip damage ≡ true = ap (λ (b : Bool). b && is_torn damage) (lt-ltb 0 spoilt.tip.count count) ∙ torn in
      true≢false (sym off ∙ spoilt.here)

  made : (store : Store) × (whole r.records r.tip.end ≡ Some store)
  made =
      let first = r.first in
      let survive = r.survive in
      let is_store = h.is_store in
      let makes = is_store.makes in
      let all : apply_all empty (map entry_of r.records ++ map entry_of first.lost) ≡ Some is_store.now =
      sym (ap (apply_all empty) (ap (map entry_of) first.parts ∙ map-append entry_of r.records first.lost)) ∙ makes.made in
      middle (apply_all empty (map entry_of r.records)) (λ t. apply_all t (map entry_of first.lost)) is_store.now (sym (applied_in_two empty (map entry_of r.records) (map entry_of first.lost)) ∙ all) (λ mid is rest.
      (mid, whole_is_all s r.wal (first_tip s.segment) r.tip r.records (survivors_rise s r.wal r.records r.tip settings.segment r.survive) survive.walk ∙ is))

  not_bad_entry : (tip : Tip) (place : Lsn) → EndWith s tip r.wal → IsBadEntry s tip place r.wal → ⊥
  not_bad_entry tip place ends bad =
      let same = are_one record_at s.segment s.system r.wal ends.0 r.records tip r.tip ends.1 r.survive in
      let survive : SurviveIn s r.wal r.records tip = subst (λ (l : List Record). SurviveIn s r.wal l tip) same.0 ends.1 in
      let one = both_end s r.wal (Some (lsn tip.end)) bad.entries r.records bad.last tip bad.read (survivors_read s r.wal (lsn tip.end) r.records tip settings.segment refl survive) in
      good_or_bad empty (map entry_of (ending_by tip.end r.records)) made.0 place.0 (ap (whole r.records) (ap (λ (t : Tip). t.end) same.1) ∙ made.1)
      (sym (ap (λ (l : List Record). first_bad empty (map entry_of (ending_by tip.end l))) one.0) ∙ bad.bad)

  not_bad_behind : (tip : Tip) (from place : Lsn) → BeginsAt s tip (Some from) r.wal → AreLeftSince g s.relseg r.records (data_of old) from.0 → IsBadBehind g s tip from (data_of old) place r.wal → ⊥
  not_bad_behind tip from place begins l behind =
      let first = r.first in
      let bad = behind.bad in
      let one = survive_once s r.wal bad.records r.records tip r.tip bad.survive r.survive in
      let other = are_one record_at s.segment s.system r.wal begins.records r.records tip r.tip begins.survive r.survive in
      let survive : SurviveIn s r.wal r.records tip = subst (λ (l : List Record). SurviveIn s r.wal l tip) other.0 begins.survive in
      let start : replay_start r.records ≡ Some from = sym (ap replay_start other.0) ∙ begins.start_is in
      let copy = neat_areas g s.relseg (data_of old) behind.mid settings.relseg l.own behind.keeps behind.neat in
      let done = replayed g s r.records from settings.relseg (data_of old) behind.mid l behind.keeps copy.0 copy.1 history first.lost tip r.wal settings deltas first.parts survive start in
      good_redo copy.0 (replayed_from r.records from.0 tip.end) made.0 place.0 (done ∙ ap (whole r.records) (ap (λ (t : Tip). t.end) other.1) ∙ made.1)
      (sym (ap (λ (x : List Record). first_bad_redo copy.0 (replayed_from x from.0 tip.end)) one) ∙ bad.bad copy.0 copy.1)

  pub not_bad : (tip : Tip) (place : Lsn) → EndWith s tip r.wal → IsBadSurvivor g s tip (data_of old) place r.wal → ⊥
  not_bad tip place ends (inl bad) = not_bad_entry tip place ends bad
  not_bad tip place ends (inr bad) =
      let from = bad.0 in
      let begins = bad.1.0 in
      let other = survive_once s r.wal begins.records r.records tip r.tip begins.survive r.survive in
      elim r.left [
        | inl mark ↦ mark_gone (g.files old.data0) mark bad.1.1.0
        | inr left ↦ not_bad_behind tip from place begins (left from (sym (ap replay_start other) ∙ begins.start_is)) bad.1.1.1
      ]

  pub comes : (fault : RestartFault V) → IsRefused g s old fault → (fault.why ≡ NoMemory) ⊎ HasFailed g old fault.areas
  comes fault is = by fault.why refl is.cause
    where
      by : (why : RestartWhy) → fault.why ≡ why
          → RestartCause g (λ damage. IfSome (g.files old.wal) (IsSpoilt s damage)) (λ place. IfSome (g.files old.wal) (λ m. (tip : Tip) × (EndWith s tip m × IsBadSurvivor g s tip (data_of old) place m))) old.wal fault.areas.wal (data_of old) (data_of fault.areas) why
          → (fault.why ≡ NoMemory) ⊎ HasFailed g old fault.areas
      by (Damaged damage) why cause = absurd (not_spoilt damage (told_of (IsSpoilt s damage) (g.files old.wal) r.wal r.told cause))
      by (BadDelta place) why cause =
          let bad = told_of (λ m. (tip : Tip) × (EndWith s tip m × IsBadSurvivor g s tip (data_of old) place m)) (g.files old.wal) r.wal r.told cause in
          absurd (not_bad bad.0 place bad.1.0 bad.1.1)
      by (Failed Wal) why cause = inr (inl cause)
      by (Failed (Data q)) why cause = inr (inr (q, cause))
      by (Failed Sums) why cause = absurd cause
      by NoMemory why cause = inl why

-- ---- on the heap

failed_there : {V : Type 0} (g : Ghosts V) (old new : StoreAreas (BoxedArea V)) → HasFailed (on_heap g) old new → HasFailed g (plain old) (plain new)
failed_there g old new (inl rose) = inl rose
failed_there g old new (inr (q, (less, rose))) = inr (q, (less, at q less rose))
  where
    at : (k : ℕ) → k < 4 → Rose ((on_heap g).faults (area_of (data_of old) k)) ((on_heap g).faults (area_of (data_of new) k)) → Rose (g.faults (area_of (data_of (plain old)) k)) (g.faults (area_of (data_of (plain new)) k))
    at zero below rose = rose
    at (suc zero) below rose = rose
    at (suc (suc zero)) below rose = rose
    at (suc (suc (suc zero))) below rose = rose
    at (suc (suc (suc (suc k)))) below rose = absurd (omega (arith, below))

pub areas_come_back : {V : Type 0} (g : Ghosts V) → RestorableAreasComeBack g
areas_come_back {V} g s history flushed wal old fault settings h deltas flush r told chance (inl none) = inl none.1
areas_come_back {V} g s history flushed wal old fault settings h deltas flush r told chance (inr there) =
    let before : AreRestorableAreas (on_heap g) s history flushed there.before = restorable_there g s history flushed there.before (subst (AreRestorableAreas g s history flushed) (sym there.before_is) r) in
    let same : wal ≡ before.wal = one_of (g.files (box_value there.before.wal.area)) wal before.wal (subst (λ (a : StoreAreas V). g.files a.wal ≡ Some wal) (sym there.before_is) told) before.told in
    elim (comes (on_heap g) s history flushed there.before settings h deltas flush before (subst (NothingByChance s history) same chance) there.behind there.is) [
      | inl none ↦ inl (ap (λ (f : RestartFault V). f.why) there.behind_is ∙ none)
      | inr failed ↦
          inr (subst (λ (f : RestartFault V). HasFailed g old f.areas) (sym there.behind_is)
          (subst (λ (a : StoreAreas V). HasFailed g a (plain there.behind.areas)) there.before_is (failed_there g there.before there.behind.areas failed)))
    ]
