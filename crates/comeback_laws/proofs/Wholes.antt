-- Data areas that were brought back hold what the survivors make from nothing.
use Rattle.std.proofs.Common.{◌≡◌, ℕ, zero, suc, ◌++◌, ◌<◌, inl, inr, List, map, Option, Some, None, IfSome, refl, sym, ap, subst, ◌∙◌, arith}
use Rattle.std.specs.List.{list_any}
use Rattle.std.specs.FinMap.{get}
use Rattle.lsn_core.specs.Files.{Files}
use Rattle.lsn_core.specs.Segment.{StoreSettings}
use Rattle.lsn_core.specs.Store.{Store}
use Rattle.lsn_core.specs.Tip.{Tip}
use Rattle.lsn_core.specs.declared.lsn.Lsn.{Lsn}
use Rattle.vault.specs.declared.area.Vault.{Ghosts}
use Rattle.wal_record.specs.declared.record.Record.{Record}
use Rattle.wal_record.specs.Tips.{first_tip}
use Rattle.history.specs.Whole.{entry_of, whole}
use Rattle.history.specs.partitions.Parts.{is_of, IsPart}
use Rattle.history.specs.fuzzy_copies.Covers.{Covers}
use Rattle.history.specs.fuzzy_copies.Recovered.{recovered_records}
use Rattle.history.specs.fuzzy_copies.Taken.{since}
use Rattle.history.proofs.partitions.Puts.{made_of_parts}
use Rattle.recovery.specs.declared.tally.Tally.{Tally}
use Rattle.rel_neat.specs.Neat.{HasLeft, KeepsWhatStays}
use Rattle.stop_areas.specs.Left.{IsLeftOf}
use Rattle.stop_laws.specs.Window.{window_base}
use Rattle.stop_laws.proofs.Agreed.{agree}
use Rattle.restart_laws.proofs.Restart.{restarts_whole}
use Rattle.data_areas.specs.Marking.{rebuilding_name}
use Rattle.data_areas.specs.Rebuilt.{HoldsPages}
use Rattle.data_areas.specs.declared.areas.DataAreas.{DataAreas}
use Rattle.store_areas.specs.declared.areas.StoreAreas.{StoreAreas}
use Rattle.store_areas.specs.Begin.{data_of}
use Rattle.restart_areas.specs.Areas.{KeepPages}
use Rattle.restart_areas.specs.Counting.{CountsAll}
use Rattle.restart_areas.specs.Pages.{HoldParts}
use Rattle.store_restart.specs.Restart.{BringsBack, BringsOn, BeginsAt, HoldWhole, IsUnmarked}
use Rattle.store_restart.specs.Survivors.{SurviveIn, replay_start}
use Rattle.store_restart.proofs.Upto.{survivors_rise}
use Rattle.neat_laws.proofs.Kept.{neat_areas}
use Rattle.comeback_laws.specs.Laws.{AreSettings, ComebacksAreWhole}
use Rattle.comeback_laws.specs.Restorable.{DeltasFollowRedo, AreLeftSince, AreRestorableAreas, HasMark}
use Rattle.comeback_laws.proofs.Survived.{survive_once, starts_there, entries_start, starts_below, ends_there, all_before, rise_all}
use Rattle.comeback_laws.proofs.Tallies.{counts_are_tallies}

-- the parts that areas hold, by their numbers
abbrev part_of : Store → Store → Store → Store → ℕ → Store
part_of a b c d zero = a
part_of a b c d (suc zero) = b
part_of a b c d (suc (suc zero)) = c
part_of a b c d (suc (suc (suc q))) = d

one_files : (told : Option Files) (a b : Files) → told ≡ Some a → told ≡ Some b → a ≡ b
one_files told a b e f = cc

module _ {V : Type 0} (g : Ghosts V) (s : StoreSettings) (records : List Record) (from : Lsn) (some : 0 < s.relseg) (old mid : DataAreas V) (l : AreLeftSince g s.relseg records old from.0) (keeps : KeepPages g s.relseg old mid) where
  -- a part that one of them holds, once its files are neat, covers the records
  covers : (q : ℕ) (part : Store) (before behind : V) → KeepsWhatStays g s.relseg before behind → HasLeft s.relseg (window_base q from.0 (map entry_of records) l.store) (g.files before) → HoldsPages s.relseg (g.files behind) part
      → Covers (is_of q) part (map entry_of records) from.0
  covers q part before behind kept left held =
      let fits = l.fits in
      let stays = (kept (window_base q from.0 (map entry_of records) l.store) fits.named left).0 in
      let files = held.files in
      let same = one_files (g.files behind) stays.0 files.files stays.1.0 files.are_told in
      record {
        base = l.store;
        defined = l.made;
        agrees = agree (is_of q) s.relseg l.store part (since from.0 (map entry_of records)) files.files some fits.named fits.pages files.hold held.whole
            (subst (IsLeftOf s.relseg (window_base q from.0 (map entry_of records) l.store)) same stays.1.1);
      }

  module _ (copy : Store) (has : HoldParts g s.relseg mid copy) where
    has0 : (part : Store) × (IsPart 0 copy part × HoldsPages s.relseg (g.files mid.data0) part)
    has0 = has 0 (omega arith)

    has1 : (part : Store) × (IsPart 1 copy part × HoldsPages s.relseg (g.files mid.data1) part)
    has1 = has 1 (omega arith)

    has2 : (part : Store) × (IsPart 2 copy part × HoldsPages s.relseg (g.files mid.data2) part)
    has2 = has 2 (omega arith)

    has3 : (part : Store) × (IsPart 3 copy part × HoldsPages s.relseg (g.files mid.data3) part)
    has3 = has 3 (omega arith)

    abbrev parts : ℕ → Store
    parts q = part_of has0.0 has1.0 has2.0 has3.0 q

    each_part : (q : ℕ) → q < 4 → IsPart q copy (parts q)
    each_part zero less = has0.1.0
    each_part (suc zero) less = has1.1.0
    each_part (suc (suc zero)) less = has2.1.0
    each_part (suc (suc (suc zero))) less = has3.1.0
    each_part (suc (suc (suc (suc q)))) less = absurd (omega (arith, less))

    each_covers : (q : ℕ) → q < 4 → Covers (is_of q) (parts q) (map entry_of records) from.0
    each_covers zero less = covers 0 has0.0 old.data0 mid.data0 keeps.data0 (l.left 0 less) has0.1.1
    each_covers (suc zero) less = covers 1 has1.0 old.data1 mid.data1 keeps.data1 (l.left 1 less) has1.1.1
    each_covers (suc (suc zero)) less = covers 2 has2.0 old.data2 mid.data2 keeps.data2 (l.left 2 less) has2.1.1
    each_covers (suc (suc (suc zero))) less = covers 3 has3.0 old.data3 mid.data3 keeps.data3 (l.left 3 less) has3.1.1
    each_covers (suc (suc (suc (suc q)))) less = absurd (omega (arith, less))

    -- so replay from there on makes the whole of what they hold together
    pub replayed : (history lost : List Record) (tip : Tip) (wal : Files) → AreSettings s → DeltasFollowRedo history → history ≡ records ++ lost → SurviveIn s wal records tip → replay_start records ≡ Some from
        → recovered_records copy records from.0 tip.end ≡ whole records tip.end
    replayed history lost tip wal settings deltas parted survive start =
        let there = starts_there records from start in
        let first = first_tip s.segment in
        let rise = survivors_rise s wal records tip settings.segment survive in
        restarts_whole records parts copy from.0 tip.end tip.end
        (record {
          rise = rise_all s wal records tip settings.segment survive;
          covers = each_covers;
          deltas = deltas records lost from tip.end parted start;
          starts = entries_start records from.0 ∙ there;
          ends = ends_there s wal tip first records from.0 survive.walk there;
          above = starts_below s wal tip first records from.0 rise survive.walk there;
          all = λ t none. ap (list_any t) (all_before s wal tip first records from.0 rise survive.walk) ∙ none;
        })
        (made_of_parts copy parts each_part) (omega arith)

-- ---- brought on

-- areas that have the mark aren't brought on
marked : (told : Option Files) {P : Type 0} → HasMark told → IfSome told (λ m. get m rebuilding_name ≡ None) → P
marked None has none = absurd (let e : ◌≡◌ {A = Option Files} None (Some has.0) = has.1.0 in cc)
marked (Some m) has none =
    let same = one_files (Some m) m has.0 refl has.1.0 in
    absurd (has.1.1 (subst (λ (f : Files). get f rebuilding_name ≡ None) same none))

module _ {V : Type 0} (g : Ghosts V) (s : StoreSettings) (history : List Record) (flushed : ℕ) (old : StoreAreas V) (new : DataAreas V) (tip : Tip) (tally : Tally) (settings : AreSettings s) (deltas : DeltasFollowRedo history) (r : AreRestorableAreas g s history flushed old) where
  brought : (from : Lsn) → replay_start r.records ≡ Some from → AreLeftSince g s.relseg r.records (data_of old) from.0 → BringsOn g s tip from (data_of old) new r.wal → CountsAll g s.relseg new tally → HoldWhole g s tip new tally r.wal
  brought from start l on counts =
      let first = r.first in
      let redoes = on.redoes in
      let one = survive_once s r.wal redoes.records r.records tip r.tip redoes.survive r.survive in
      let survive : SurviveIn s r.wal r.records tip = subst (λ (rs : List Record). SurviveIn s r.wal rs tip) one redoes.survive in
      let copy = neat_areas g s.relseg (data_of old) on.mid settings.relseg l.own on.keeps on.neat in
      let next = redoes.redone copy.0 copy.1 in
      let same : recovered_records copy.0 redoes.records from.0 tip.end ≡ whole r.records tip.end =
      ap (λ (rs : List Record). recovered_records copy.0 rs from.0 tip.end) one
      ∙ replayed g s r.records from settings.relseg (data_of old) on.mid l on.keeps copy.0 copy.1 history first.lost tip r.wal settings deltas first.parts survive start in
      record {
        records = r.records;
        survive = survive;
        store = next.0;
        made = sym same ∙ next.1.0;
        held = next.1.1;
        counted = counts_are_tallies g s.relseg new tally next.0 counts next.1.1;
      }

  by_data : (from : Lsn) → BeginsAt s tip (Some from) r.wal → IsUnmarked g (data_of old) → BringsOn g s tip from (data_of old) new r.wal → CountsAll g s.relseg new tally → HoldWhole g s tip new tally r.wal
  by_data from begins unmarked on counts =
      let one = survive_once s r.wal begins.records r.records tip r.tip begins.survive r.survive in
      let start : replay_start r.records ≡ Some from = sym (ap replay_start one) ∙ begins.start_is in
      elim r.left [
        | inl mark ↦ marked (g.files old.data0) mark unmarked
        | inr left ↦ brought from start (left from start) on counts
      ]

  pub comes_back : BringsBack g s tip (data_of old) new tally r.wal → HoldWhole g s tip new tally r.wal
  comes_back (inl anew) = anew.1.0
  comes_back (inr on) = by_data on.0 on.1.0 on.1.1.0 on.1.1.1.0 on.1.1.1.1

pub comebacks : {V : Type 0} (g : Ghosts V) → ComebacksAreWhole g
comebacks g s history flushed old new tip tally wal settings deltas r told brings =
    let same = one_files (g.files old.wal) wal r.wal told r.told in
    subst (HoldWhole g s tip new tally) (sym same)
    (comes_back g s history flushed old new tip tally settings deltas r (subst (BringsBack g s tip (data_of old) new tally) same brings))
