-- While a store is restarted its survivors stay, where nothing of the WAL was unsynced.
use Rattle.std.proofs.Common.{◌≡◌, ℕ, ◌≤◌, inl, inr, List, [], ◌∷◌, Option, Some, None, IfSome, refl, sym, ap, subst, ◌∙◌, arith}
use Rattle.lsn_core.specs.Files.{Files}
use Rattle.lsn_core.specs.Segment.{StoreSettings}
use Rattle.lsn_core.specs.Tip.{Tip}
use Rattle.vault.specs.Boxed.{on_heap}
use Rattle.vault.specs.Frame.{Adds, IsAmong, IsDurable, LeavesNow}
use Rattle.vault.specs.declared.area.Vault.{Ghosts}
use Rattle.vault.specs.declared.boxed.BoxedArea.{BoxedArea}
use Rattle.vault.proofs.Through.{adds_none}
use Rattle.wal_record.specs.Decoding.{record_at}
use Rattle.wal_record.specs.Tips.{first_tip, tip_after}
use Rattle.wal_record.specs.declared.record.Record.{Record}
use Rattle.wal_archive.specs.Archive.{Archive, Extends, archive_of}
use Rattle.wal_archive.specs.Rules.{Found, Judge, Walks, next_in, Gives}
use Rattle.wal_archive.specs.Stands.{IsEnd}
use Rattle.wal_archive.specs.Laws.{IsFair}
use Rattle.wal_archive.proofs.Chain.{walk_reach}
use Rattle.wal_archive.proofs.Judged.{record_is_fair}
use Rattle.wal_archive.proofs.Read.{origin_end}
use Rattle.survivor_laws.specs.Survivors.{IsStopped}
use Rattle.survivor_laws.proofs.One.{one as are_one}
use Rattle.data_areas.specs.Moments.{Past, LeftNow, pasts_of}
use Rattle.data_areas.specs.declared.areas.DataAreas.{DataAreas}
use Rattle.data_areas.proofs.Moments.{goes_on}
use Rattle.store_areas.specs.Begin.{data_of}
use Rattle.store_areas.specs.Opened.{past_of}
use Rattle.store_areas.specs.declared.areas.StoreAreas.{StoreAreas}
use Rattle.store_restart.specs.Moments.{BringsLast, BringsSafely, IsRemadeLeft, RestartsFrom, TrimsLast}
use Rattle.store_restart.specs.Restart.{EndWith}
use Rattle.store_restart.specs.Restarted.{areas_of, plain}
use Rattle.store_restart.specs.Survivors.{SurviveIn}
use Rattle.store_restart.specs.Trimmed.{HoldsFront, IsArchiveFile}
use Rattle.store_restart.proofs.LeftBy.{left_has, left_since, synced_left, synced_now}
use Rattle.comeback_laws.specs.Laws.{AreSettings}
use Rattle.stop_comebacks.specs.Moments.{StoreStopsLeave}
use Rattle.stop_comebacks.specs.Restarts.{EndsNoSooner, RestartsKeepSurvivors}
use Rattle.stop_comebacks.proofs.Chance.{walk_on}
use Rattle.stop_comebacks.proofs.Restarted.{told_of}
use Rattle.stop_comebacks.proofs.StoreMoments.{any_stops, data_stops, stops_join, wal_stops}

one_given : (x : Found) (q r : Record) → x ≡ Gives q → x ≡ Gives r → q ≡ r
one_given x q r e f = cc

-- a walk that stops goes as far as each other one
no_shorter : (judge : Judge) (mib system : ℕ) (a : Archive) (start tip end : Tip) (rs others : List Record) → 1 ≤ mib → IsFair judge → IsEnd mib start.end → Walks judge mib system a start rs tip → Walks judge mib system a start others end → IsStopped judge mib system a end → tip.end ≤ end.end
no_shorter judge mib system a start tip end [] others some fair at walk other ended =
    let reach = walk_reach judge mib system a start others end some fair at other in
    let later = reach.later in
    omega (arith, ap (λ (t : Tip). t.end) walk, later)
no_shorter judge mib system a start tip end (q ∷ rs) [] some fair at walk other ended = absurd (ended q (subst (λ (t : Tip). next_in judge mib system a t ≡ Gives q) (sym other) walk.0))
no_shorter judge mib system a start tip end (q ∷ rs) (r ∷ others) some fair at walk other ended =
    let same : q ≡ r = one_given (next_in judge mib system a start) q r walk.0 other.0 in
    let one = walk_reach judge mib system a start (q ∷ []) (tip_after start q) some fair at (walk.0, refl) in
    no_shorter judge mib system a (tip_after start q) tip end rs others some fair one.is_end walk.1 (subst (λ (x : Record). Walks judge mib system a (tip_after start x) others end) (sym same) other.1) ended

module _ {V : Type 0} (g : Ghosts V) (s : StoreSettings) (m : Files) (records : List Record) (tip : Tip) (old : StoreAreas V) (settings : AreSettings s) (told : g.files old.wal ≡ Some m) (survive : SurviveIn s m records tip) (durable : IsDurable (g.files old.wal) (g.past old.wal)) where
  abbrev P : StoreAreas Files → Type 0
  P = EndsNoSooner s tip

  front_ends : (left : StoreAreas Files) → Extends (archive_of s.segment m) (archive_of s.segment left.wal) tip.end → P left
  front_ends left extends others end survived =
      let size = settings.segment in
      no_shorter record_at s.segment s.system (archive_of s.segment left.wal) (first_tip s.segment) tip end records others size.least record_is_fair (origin_end s.segment)
      (walk_on s m left.wal records tip settings.segment extends survive.walk) survived.walk survived.stopped

  same : (left : Files) → LeftNow (g.past old.wal) left → left ≡ m
  same left there = left_has (λ l. l ≡ m) (g.past old.wal) left (told_of (λ f. LeavesNow (λ l. l ≡ f) (g.past old.wal)) (g.files old.wal) m told durable) there

  same_ends : (left : StoreAreas Files) → LeftNow (g.past old.wal) left.wal → P left
  same_ends left there = front_ends left (λ x b less held. subst (λ (f : Files). (archive_of s.segment f).byte x ≡ Some b) (sym (same left.wal there)) held)

  module _ (wal : V) (adds : Adds (IsAmong (λ name. ⊥)) (g.past old.wal) (g.past wal)) where
    pub wal_synced : StoreStopsLeave P (past_of g old) (areas_of (g.past wal) (pasts_of g (data_of old)))
    wal_synced =
        wal_stops P (g.past old.wal) (g.past wal) (pasts_of g (data_of old)) (goes_on (IsAmong (λ name. ⊥)) (g.past old.wal) (g.past wal) adds)
        (λ left there pages. same_ends left (synced_left (g.past old.wal) (g.past wal) left.wal adds there))

    same_now : (left : StoreAreas Files) → LeftNow (g.past wal) left.wal → P left
    same_now left there = same_ends left (synced_now (g.past old.wal) (g.past wal) left.wal adds there)

    brought : (end : Tip) (new : DataAreas V) → BringsSafely g s end (data_of old) new m → StoreStopsLeave P (areas_of (g.past wal) (pasts_of g (data_of old))) (areas_of (g.past wal) (pasts_of g new))
    brought end new (inl remakes) = data_stops P (IsRemadeLeft s end (pasts_of g (data_of old)) m) (g.past wal) (pasts_of g (data_of old)) (pasts_of g new) (λ left there is. same_now left there) remakes
    brought end new (inr redoes) = any_stops P (g.past wal) (pasts_of g (data_of old)) (pasts_of g new) redoes.on same_now

    front_by : (end : Tip) (o : Past) → ((left : Files) → LeftNow o left → left ≡ m) → LeavesNow (HoldsFront s.segment end.end (archive_of s.segment m)) o
    front_by end None is = tt
    front_by end (Some events) is = λ c may x b less held. subst (λ (f : Files). (archive_of s.segment f).byte x ≡ Some b) (sym (is c may)) held

    trimmed : (end : Tip) (new : StoreAreas V) → end ≡ tip → TrimsLast g s end old wal new → StoreStopsLeave P (areas_of (g.past wal) (pasts_of g (data_of new))) (past_of g new)
    trimmed end new at trims =
        wal_stops P (g.past wal) (g.past new.wal) (pasts_of g (data_of new)) (goes_on (IsAmong (IsArchiveFile s.segment)) (g.past wal) (g.past new.wal) trims.cut)
        (λ left there pages.
        let front = front_by end (g.past wal) (λ c may. same c (synced_now (g.past old.wal) (g.past wal) c adds may)) in
        front_ends left (subst (λ (t : Tip). Extends (archive_of s.segment m) (archive_of s.segment left.wal) t.end) at
        (left_since (HoldsFront s.segment end.end (archive_of s.segment m)) (g.past wal) (g.past new.wal) left.wal (trims.keeps (archive_of s.segment m) front) there)))

    last : (new : StoreAreas V) → BringsLast g s old wal new → StoreStopsLeave P (areas_of (g.past wal) (pasts_of g (data_of old))) (past_of g new)
    last new is =
        let on = brought is.tip (data_of new) (told_of (BringsSafely g s is.tip (data_of old) (data_of new)) (g.files old.wal) m told is.brings) in
        let ends = told_of (EndWith s is.tip) (g.files old.wal) m told is.ends in
        let at = (are_one record_at s.segment s.system m ends.0 records is.tip tip ends.1 survive).1 in
        elim is.last [
          | inl none ↦
              subst (λ (p : Past). StoreStopsLeave P (areas_of (g.past wal) (pasts_of g (data_of old))) (areas_of p (pasts_of g (data_of new)))) (sym none) on
          | inr trims ↦
              stops_join P (areas_of (g.past wal) (pasts_of g (data_of old))) (areas_of (g.past wal) (pasts_of g (data_of new))) (past_of g new) on (trimmed is.tip new at trims)
        ]

  pub kept : (new : StoreAreas V) → RestartsFrom g s old new → StoreStopsLeave P (past_of g old) (past_of g new)
  kept new is =
      let read = is.read in
      let first = wal_synced is.wal read.past in
      elim is.later [
        | inl none ↦
            subst (λ (p : Past). StoreStopsLeave P (past_of g old) (areas_of p (pasts_of g (data_of new)))) (sym none.0)
            (subst (λ (x : DataAreas V). StoreStopsLeave P (past_of g old) (areas_of (g.past is.wal) (pasts_of g x))) (sym none.1) first)
        | inr brings ↦
            stops_join P (past_of g old) (areas_of (g.past is.wal) (pasts_of g (data_of old))) (past_of g new) first (last is.wal read.past new brings)
      ]

pub keep_survivors : {V : Type 0} (g : Ghosts V) → RestartsKeepSurvivors g
keep_survivors {V} g s wal records tip old new settings told survive durable (inl same) =
    subst (λ (a : StoreAreas V). StoreStopsLeave (EndsNoSooner s tip) (past_of g old) (past_of g a)) (sym same)
    (wal_synced g s wal records tip old settings told survive durable old.wal (adds_none (IsAmong (λ name. ⊥)) (g.past old.wal) (g.past old.wal) refl))
keep_survivors {V} g s wal records tip old new settings told survive durable (inr there) =
    let told_there : (on_heap g).files there.before.wal ≡ Some wal = subst (λ (a : StoreAreas V). g.files a.wal ≡ Some wal) (sym there.before_is) told in
    let kept_there : IsDurable ((on_heap g).files there.before.wal) ((on_heap g).past there.before.wal) = subst (λ (a : StoreAreas V). IsDurable (g.files a.wal) (g.past a.wal)) (sym there.before_is) durable in
    subst (λ (a : StoreAreas V). StoreStopsLeave (EndsNoSooner s tip) (past_of g a) (past_of g new)) there.before_is
    (subst (λ (a : StoreAreas V). StoreStopsLeave (EndsNoSooner s tip) (past_of g (plain there.before)) (past_of g a)) there.behind_is
    (kept (on_heap g) s wal records tip there.before settings told_there survive kept_there there.behind there.is))
