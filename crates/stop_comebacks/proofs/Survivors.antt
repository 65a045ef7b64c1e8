-- Of the WAL that a stop left the first records survive, with all that were flushed.
use Rattle.std.proofs.Common.{◌≡◌, ℕ, ◌<◌, ◌≤◌, List, [], ◌∷◌, ◌++◌, Option, Some, None, IfSome, Bool, true, false, cond, refl, sym, ap, subst, ◌∙◌, arith, append_assoc}
use Rattle.std.specs.List.{All}
use Rattle.std.proofs.lemmas.List.Elements.{All-nil, All-cons}
use Rattle.lsn_core.specs.Files.{Files}
use Rattle.lsn_core.specs.Segment.{IsSegmentMib, StoreSettings}
use Rattle.lsn_core.specs.Tip.{Tip}
use Rattle.lsn_core.specs.declared.lsn.Lsn.{Lsn}
use Rattle.wal_record.specs.Decoding.{record_at}
use Rattle.wal_record.specs.Tips.{first_tip}
use Rattle.wal_record.specs.declared.record.Record.{Record}
use Rattle.wal_archive.specs.Archive.{archive_of}
use Rattle.wal_archive.specs.Stands.{IsEnd}
use Rattle.wal_archive.proofs.Chain.{walk_reach}
use Rattle.wal_archive.proofs.Judged.{record_is_fair}
use Rattle.wal_archive.proofs.Read.{origin_end, chain_reach}
use Rattle.history.proofs.Pushes.{all_first, all_rest}
use Rattle.survivor_laws.specs.Laws.{FirstSurvive}
use Rattle.survivor_laws.proofs.First as first
use Rattle.store_restart.specs.Survivors.{SurviveIn, has_start, if_started, last_named, later_named, named_by, replay_start}
use Rattle.comeback_laws.specs.Restorable.{AreFirst}
use Rattle.stop_comebacks.specs.Stopped.{IsPastRedo, IsWalLeft}
use Rattle.stop_comebacks.proofs.Zeros.{zeros_fail, chain_ends}

-- ---- which survive

pub record Survive (s : StoreSettings) (history : List Record) (flushed : ℕ) (files : Files) : Type 0 where
  pub records : List Record
  pub tip : Tip
  pub survive : SurviveIn s files records tip
  pub first : AreFirst history flushed records

module _ (s : StoreSettings) (history : List Record) (flushed : ℕ) (files : Files) (size : IsSegmentMib s.segment) (w : IsWalLeft s.segment s.system history flushed files) where
  is_end : IsEnd s.segment w.tip.end
  is_end = (walk_reach record_at s.segment s.system (archive_of s.segment files) (first_tip s.segment) w.stable w.tip size.least record_is_fair (origin_end s.segment) w.read).is_end

  last_end : IsEnd s.segment w.last.end
  last_end = (chain_reach record_at s.segment s.system w.tip w.waiting w.last size.least is_end w.chain).is_end

  firsts : FirstSurvive record_at s.segment s.system (archive_of s.segment files) (first_tip s.segment) w.stable w.waiting
  firsts = first.first record_at s.segment s.system (archive_of s.segment files) (first_tip s.segment) w.tip w.last w.stable w.waiting w.read w.chain w.chance
      (zeros_fail record_at (archive_of s.segment files) s.segment s.system w.last size.least last_end w.zeros)

  behind_late : (done behind : List Record) → All (λ r. flushed < r.end.0) (done ++ behind) → All (λ r. flushed < r.end.0) behind
  behind_late [] behind all = all
  behind_late (r ∷ done) behind all = behind_late done behind (all_rest (λ (x : Record). flushed < x.end.0) r (done ++ behind) all)

  pub survive : Survive s history flushed files
  survive = record {
    records = w.stable ++ firsts.done;
    tip = firsts.mid;
    survive = record { walk = firsts.walk; stopped = firsts.stopped };
    first = record {
      lost = firsts.behind;
      parts = w.parts ∙ ap (λ (l : List Record). w.stable ++ l) firsts.all ∙ sym (append_assoc w.stable firsts.done firsts.behind);
      late = behind_late firsts.done firsts.behind (subst (All (λ r. flushed < r.end.0)) firsts.all (chain_ends record_at s.segment flushed w.tip w.last w.waiting size.least is_end w.reached w.chain));
    };
  }

-- ---- the known ones do

pub record Known (known later records lost : List Record) : Type 0 where
  pub more : List Record
  pub all : records ≡ known ++ more
  pub rest : later ≡ more ++ lost

one_first : (a b : Record) (xs ys : List Record) → ◌≡◌ {A = List Record} (a ∷ xs) (b ∷ ys) → a ≡ b
one_first a b xs ys e = cc

one_rest : (a b : Record) (xs ys : List Record) → ◌≡◌ {A = List Record} (a ∷ xs) (b ∷ ys) → xs ≡ ys
one_rest a b xs ys e = cc

pub known_first : (flushed : ℕ) (known later records lost : List Record) → known ++ later ≡ records ++ lost → All (λ r. r.end.0 ≤ flushed) known → All (λ r. flushed < r.end.0) lost → Known known later records lost
known_first flushed [] later records lost e done late = record { more = records; all = refl; rest = e }
known_first flushed (k ∷ known) later [] lost e done late =
    let low = all_first (λ (r : Record). r.end.0 ≤ flushed) k known done in
    let high = all_first (λ (r : Record). flushed < r.end.0) k (known ++ later) (subst (All (λ (r : Record). flushed < r.end.0)) (sym e) late) in
    absurd (omega (arith, low, high))
known_first flushed (k ∷ known) later (r ∷ records) lost e done late =
    let rest = known_first flushed known later records lost (one_rest k r (known ++ later) (records ++ lost) e) (all_rest (λ (x : Record). x.end.0 ≤ flushed) k known done) late in
    record {
      more = rest.more;
      all = ap (λ (x : Record). x ∷ records) (sym (one_first k r (known ++ later) (records ++ lost) e)) ∙ ap (λ (l : List Record). k ∷ l) rest.all;
      rest = rest.rest;
    }

-- ---- where replay of them starts

pub started_is : (rs : List Record) (o : Option Lsn) (from : Lsn) → if_started rs o ≡ Some from → o ≡ Some from
started_is rs None from e = absurd (let none : ◌≡◌ {A = Option Lsn} None (Some from) = e in cc)
started_is rs (Some place) from e = by (has_start rs place.0) refl
  where
    by : (b : Bool) → has_start rs place.0 ≡ b → ◌≡◌ {A = Option Lsn} (Some place) (Some from)
    by true is = sym (ap (λ (b : Bool). cond b (Some place) None) is) ∙ e
    by false is = absurd (let none : ◌≡◌ {A = Option Lsn} None (Some from) = sym (ap (λ (b : Bool). cond b (Some place) None) is) ∙ e in cc)

module _ (point : ℕ) where
  abbrev IsWithin : Option Lsn → Type 0
  IsWithin o = IfSome o (λ at. at.0 ≤ point)

  later_within : (found named : Option Lsn) → IsWithin found → IsWithin named → IsWithin (later_named found named)
  later_within found None a b = a
  later_within found (Some place) a b = b

  named_within : (found : Option Lsn) (rs : List Record) → IsWithin found → IsPastRedo rs point → IsWithin (last_named found rs)
  named_within found [] within all = within
  named_within found (r ∷ rs) within all =
      named_within (later_named found (named_by r.kind)) rs (later_within found (named_by r.kind) within (all_first (λ (x : Record). IfSome (named_by x.kind) (λ redo. redo.0 ≤ point)) r rs all))
      (all_rest (λ (x : Record). IfSome (named_by x.kind) (λ redo. redo.0 ≤ point)) r rs all)

  front_past : (records lost : List Record) → IsPastRedo (records ++ lost) point → IsPastRedo records point
  front_past [] lost all = All-nil (λ (x : Record). IfSome (named_by x.kind) (λ redo. redo.0 ≤ point))
  front_past (r ∷ records) lost all =
      All-cons (λ (x : Record). IfSome (named_by x.kind) (λ redo. redo.0 ≤ point)) r records
      (all_first (λ (x : Record). IfSome (named_by x.kind) (λ redo. redo.0 ≤ point)) r (records ++ lost) all)
      (front_past records lost (all_rest (λ (x : Record). IfSome (named_by x.kind) (λ redo. redo.0 ≤ point)) r (records ++ lost) all))

  -- a point past the redo points is past the one that the last checkpoint names
  pub starts_within : (history records lost : List Record) (from : Lsn) → history ≡ records ++ lost → IsPastRedo history point → replay_start records ≡ Some from → from.0 ≤ point
  starts_within history records lost from parts past start =
      let all = front_past records lost (subst (λ (l : List Record). IsPastRedo l point) parts past) in
      subst IsWithin (started_is records (last_named None records) from start) (named_within None records tt all)
