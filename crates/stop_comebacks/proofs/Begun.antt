-- What a stop leaves of restorable areas while their data areas are rebuilt, when the store is begun.
use Rattle.std.proofs.Common.{◌≡◌, ℕ, ◌<◌, inl, inr, Bool, true, false, cond, List, [], ◌∷◌, ◌++◌, map, length, Option, Some, None, refl, sym, ap, subst, ◌∙◌, arith}
use Rattle.std.specs.List.{All}
use Rattle.std.specs.FinMap.{empty, get}
use Rattle.lsn_core.specs.Files.{Files}
use Rattle.lsn_core.specs.Laws.{HasNamedForks}
use Rattle.lsn_core.specs.Segment.{StoreSettings}
use Rattle.lsn_core.specs.Store.{ForkPages, Store, files_of}
use Rattle.lsn_core.specs.Tip.{Tip}
use Rattle.lsn_core.specs.declared.ids.ForkId.{ForkId}
use Rattle.lsn_core.proofs.StoreFiles as store_files
use Rattle.vault.specs.Frame.{IsDurable}
use Rattle.vault.specs.declared.area.Vault.{Ghosts}
use Rattle.wal_record.specs.Decoding.{record_at}
use Rattle.wal_record.specs.Tips.{first_tip, tip_after}
use Rattle.wal_record.specs.declared.record.Record.{Record}
use Rattle.wal_archive.specs.Rules.{End, Found, Gives, next_in}
use Rattle.wal_archive.specs.Archive.{archive_of}
use Rattle.wal_reader.specs.Settings.{IsSettingsOf}
use Rattle.wal_reader.specs.Wal.{ReadsOn}
use Rattle.wal_reader.proofs.OneSettings.{one_settings}
use Rattle.history.specs.Apply.{apply_all}
use Rattle.history.specs.Whole.{entry_of}
use Rattle.history.specs.partitions.Parts.{IsPart, is_of}
use Rattle.history.proofs.Pushes.{all_first, all_rest}
use Rattle.recovery.specs.Causes.{HasSettings}
use Rattle.recovery.specs.Onward as onward
use Rattle.recovery.specs.declared.reading.Beginning.TheVariants.{FirstEntry}
use Rattle.rel_files.specs.Forks.{AreHeld, HasHeldPages, HasWholePages, Holds}
use Rattle.backup_restore.specs.Directories.{IsWritable}
use Rattle.data_areas.specs.Areas.{area_of}
use Rattle.data_areas.specs.Moments.{Past, LeftNow, pasts_of}
use Rattle.data_areas.specs.declared.areas.DataAreas.{DataAreas}
use Rattle.restart_areas.specs.Pages.{HoldParts}
use Rattle.store_areas.specs.Begin.{data_of}
use Rattle.store_areas.specs.Moments.{IsReplayed, IsSafelyLeft, RebuildsSafely}
use Rattle.store_areas.specs.Opened.{past_of}
use Rattle.store_areas.specs.declared.areas.StoreAreas.{StoreAreas}
use Rattle.store_restart.specs.Moments.{as_left}
use Rattle.store_restart.specs.Restarted.{areas_of}
use Rattle.store_restart.specs.Survivors.{SurviveIn}
use Rattle.comeback_laws.specs.Laws.{AreSettings}
use Rattle.comeback_laws.proofs.Survived.{survive_once}
use Rattle.stop_comebacks.specs.Moments.{StoreStopsLeave}
use Rattle.stop_comebacks.specs.Restarts.{AreRestorableNow, AreRestorableUnlessByChance, BeginningsLeaveRestorableAreas, IsHistory}
use Rattle.stop_comebacks.proofs.Restarted.{before_left, marked_left, same_extends, synced_stops, told_of, wal_same, whole_left}
use Rattle.stop_comebacks.proofs.StoreMoments.{data_stops, stops_join}

-- ---- the files of a store hold it

are_held : (pages : ForkPages) → All (λ page. length page ≡ 8192) pages → AreHeld pages
are_held [] all = tt
are_held (page ∷ []) all = let size = all_first (λ (p : List ℕ). length p ≡ 8192) page [] all in omega (arith, size)
are_held (page ∷ (next ∷ pages)) all =
    (all_first (λ (p : List ℕ). length p ≡ 8192) page (next ∷ pages) all, are_held (next ∷ pages) (all_rest (λ (p : List ℕ). length p ≡ 8192) page (next ∷ pages) all))

pub files_hold : (relseg : ℕ) (store : Store) → 0 < relseg → IsWritable store → Holds relseg (files_of relseg store) store
files_hold relseg store some fits = record {
  segments = λ fork seg is. store_files.held relseg store fork seg some fits.named is;
  named = fits.named;
  held = λ fork pages is. are_held pages (fits.pages fork pages is);
}

-- a part of a store that fits files does so too
part_there : (b : Bool) (o : Option ForkPages) (pages : ForkPages) → cond b o None ≡ Some pages → o ≡ Some pages
part_there true o pages is = is
part_there false o pages is = absurd (let none : ◌≡◌ {A = Option ForkPages} None (Some pages) = is in cc)

part_fits : (q : ℕ) (store part : Store) → IsPart q store part → IsWritable store → IsWritable part
part_fits q store part is fits = record {
  named = λ fork pages there. fits.named fork pages (part_there (is_of q fork) (get store fork) pages (sym (is fork) ∙ there));
  pages = λ fork pages there. fits.pages fork pages (part_there (is_of q fork) (get store fork) pages (sym (is fork) ∙ there));
}

-- ---- what was read whole survives

walks : (s : StoreSettings) (m : Files) (tip last : Tip) (rs : List Record) → onward.ReadsOn s m None false tip rs last → ReadsOn s m tip rs last
walks s m tip last [] reads = reads
walks s m tip last (r ∷ rs) reads = (reads.0, walks s m (tip_after tip r) last rs reads.1)

never_given : (f : Found) (r : Record) → f ≡ End → f ≡ Gives r → ⊥
never_given f r e k = absurd (let x : End ≡ Gives r = sym e ∙ k in cc)

read_survive : (s : StoreSettings) (m : Files) (rs : List Record) (tip : Tip) (read : onward.IsReadFromTo s (Some m) FirstEntry None rs tip) → SurviveIn s m rs tip
read_survive s m rs tip read =
    let archive = read.archive in
    record {
      walk = walks s m (first_tip s.segment) tip rs archive.reads;
      stopped = λ r e. never_given (next_in record_at s.segment s.system (archive_of s.segment m) tip) r (ended rs archive.behind) e;
    }
  where
    ended : (l : List Record) → onward.found_on s m None (onward.is_set_behind false l) tip ≡ End → next_in record_at s.segment s.system (archive_of s.segment m) tip ≡ End
    ended l e = e

-- ---- a store that is begun

module _ {V : Type 0} (g : Ghosts V) (s : StoreSettings) (history : List Record) (flushed : ℕ) (old : StoreAreas V) (settings : AreSettings s) (given : HasSettings (g.files old.wal) s) (h : IsHistory s history flushed) (now : AreRestorableNow g s history flushed old) where
  abbrev m : Files
  m = let r = now.restorable in r.wal

  told : g.files old.wal ≡ Some m
  told = let r = now.restorable in r.told

  abbrev P : StoreAreas Files → Type 0
  P = AreRestorableUnlessByChance s history flushed

  module _ (new : StoreAreas Past) (is : RebuildsSafely g old new) where
    replayed_left : (durable : IsDurable (g.files old.wal) new.wal) (left : StoreAreas Files) → LeftNow new.wal left.wal → IsReplayed (g.files old.wal) (data_of left) → P left
    replayed_left durable left wal replayed =
        let r = now.restorable in
        let f = r.first in
        let set = given.given in
        let other = let x = replayed.given in x.given in
        let same : replayed.settings ≡ s = one_settings m replayed.settings s (told_of (λ (x : Files). IsSettingsOf x replayed.settings) (g.files old.wal) m told other) (told_of (λ (x : Files). IsSettingsOf x s) (g.files old.wal) m told set) in
        let read : onward.IsReadFromTo s (Some m) FirstEntry None replayed.entries replayed.tip =
        subst (λ (t : StoreSettings). onward.IsReadFromTo t (Some m) FirstEntry None replayed.entries replayed.tip) same
        (subst (λ (o : Option Files). onward.IsReadFromTo replayed.settings o FirstEntry None replayed.entries replayed.tip) told replayed.read) in
        let survive = read_survive s m replayed.entries replayed.tip read in
        let records_are = survive_once s m replayed.entries r.records replayed.tip r.tip survive r.survive in
        let all : apply_all empty (map entry_of r.records) ≡ Some replayed.store = ap (λ (l : List Record). apply_all empty (map entry_of l)) (sym records_are) ∙ replayed.made in
        let is_store = h.is_store in
        let fits = is_store.fit r.records f.lost replayed.store f.parts all in
        whole_left g s history flushed old settings h now left replayed.store
        (same_extends g s history flushed old settings h now left.wal r.tip.end (wal_same g s history flushed old settings h now new.wal is.wal durable left.wal wal)) all
        (λ q less.
        let part = replayed.files q less in
        let file : area_of (data_of left) q ≡ files_of s.relseg part.0 = part.1.1 ∙ ap (λ (t : StoreSettings). files_of t.relseg part.0) same in
        let part_is = part_fits q replayed.store part.0 part.1.0 fits in (
          part.0,
          (
            part.1.0,
            record {
              files = record {
                files = area_of (data_of left) q;
                are_told = refl;
                hold = subst (λ (x : Files). Holds s.relseg x part.0) (sym file) (files_hold s.relseg part.0 settings.relseg part_is);
              };
              whole = part_is.pages;
            },
          ),
        ))

    safely_left : (durable : IsDurable (g.files old.wal) new.wal) (left : StoreAreas Files) → LeftNow new.wal left.wal → IsSafelyLeft (g.files old.wal) (pasts_of g (data_of old)) (data_of left) → P left
    safely_left durable left wal (inl before) = before_left g s history flushed old settings h now new.wal is.wal durable left wal before
    safely_left durable left wal (inr (inl mark)) = marked_left g s history flushed old settings h now left (wal_same g s history flushed old settings h now new.wal is.wal durable left.wal wal) mark
    safely_left durable left wal (inr (inr replayed)) = replayed_left durable left wal replayed

    synced : StoreStopsLeave P (past_of g old) (areas_of new.wal (pasts_of g (data_of old)))
    synced = synced_stops g s history flushed old settings h now new.wal is.wal

    pub begun_stops : StoreStopsLeave P (past_of g old) new
    begun_stops = elim is.durable [
      | inl same ↦ subst (λ (x : DataAreas Past). StoreStopsLeave P (past_of g old) (areas_of new.wal x)) (sym same) synced
      | inr durable ↦
          stops_join P (past_of g old) (areas_of new.wal (pasts_of g (data_of old))) new synced
          (data_stops P (IsSafelyLeft (g.files old.wal) (pasts_of g (data_of old))) new.wal (pasts_of g (data_of old)) (data_of new) (safely_left durable) is.stops)
    ]

pub beginnings_leave : {V : Type 0} (g : Ghosts V) → BeginningsLeaveRestorableAreas g
beginnings_leave g s history flushed old new settings given h now is = begun_stops g s history flushed old settings given h now new is
