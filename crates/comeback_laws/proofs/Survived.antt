-- The survivors of a WAL are one list, and they end where their tip does.
use Rattle.std.proofs.Common.{◌≡◌, ℕ, ◌<◌, ◌≤◌, ◌&&◌, ◌||◌, Bool, true, false, cond, List, [], ◌∷◌, map, Option, Some, None, refl, sym, ap, ◌∙◌, arith, eq-eqb, eqb-true}
use Rattle.std.specs.Prelude.{◌==◌, nat_le, nat_lt}
use Rattle.std.specs.List.{list_any}
use Rattle.std.proofs.lemmas.Bool.{lt-ltb, or_right, or_left}
use Rattle.lsn_core.specs.Files.{Files}
use Rattle.lsn_core.specs.Segment.{IsSegmentMib, StoreSettings}
use Rattle.lsn_core.specs.Tip.{Tip}
use Rattle.lsn_core.specs.declared.lsn.Lsn.{Lsn}
use Rattle.wal_record.specs.declared.record.Record.{Record}
use Rattle.wal_record.specs.Decoding.{record_at}
use Rattle.wal_record.specs.Tips.{first_tip, tip_after}
use Rattle.wal_reader.specs.Wal.{ReadsOn}
use Rattle.survivor_laws.proofs.One.{one as are_one}
use Rattle.history.specs.Entry.{Entry}
use Rattle.history.specs.Whole.{entry_of}
use Rattle.history.specs.fuzzy_copies.Orderly.{RecordsRise}
use Rattle.history.specs.fuzzy_copies.Sound.{window}
use Rattle.history.specs.fuzzy_copies.Taken.{since}
use Rattle.backup_restore.proofs.Rising.{rise_from}
use Rattle.store_restart.specs.Survivors.{SurviveIn, has_start, if_started, last_named, replay_start}
use Rattle.store_restart.proofs.Upto.{reach_on, survivors_rise}

pub survive_once : (s : StoreSettings) (files : Files) (rs qs : List Record) (one other : Tip) → SurviveIn s files rs one → SurviveIn s files qs other → rs ≡ qs
survive_once s files rs qs one other a b = (are_one record_at s.segment s.system files rs qs one other a b).0

-- ---- where they begin and end

started : (rs : List Record) (o : Option Lsn) (from : Lsn) → if_started rs o ≡ Some from → has_start rs from.0 ≡ true
started rs None from e = absurd (let none : ◌≡◌ {A = Option Lsn} None (Some from) = e in cc)
started rs (Some place) from e = by (has_start rs place.0) refl
  where
    by : (b : Bool) → has_start rs place.0 ≡ b → has_start rs from.0 ≡ true
    by true is =
        let same : ◌≡◌ {A = Option Lsn} (Some place) (Some from) = sym (ap (λ (b : Bool). cond b (Some place) None) is) ∙ e in
        let one : place ≡ from = cc in
        ap (λ (l : Lsn). has_start rs l.0) (sym one) ∙ is
    by false is = absurd (let none : ◌≡◌ {A = Option Lsn} None (Some from) = sym (ap (λ (b : Bool). cond b (Some place) None) is) ∙ e in cc)

pub starts_there : (rs : List Record) (from : Lsn) → replay_start rs ≡ Some from → has_start rs from.0 ≡ true
starts_there rs from e = started rs (last_named None rs) from e

pub entries_start : (rs : List Record) (place : ℕ) → list_any (λ (e : Entry). e.start == place) (map entry_of rs) ≡ has_start rs place
entries_start [] place = refl
entries_start (r ∷ rs) place = ap (λ (b : Bool). (r.start.0 == place) || b) (entries_start rs place)

module _ (s : StoreSettings) (files : Files) (last : Tip) where
  pub starts_below : (tip : Tip) (rs : List Record) (from : ℕ) → RecordsRise tip.end rs → ReadsOn s files tip rs last → has_start rs from ≡ true → from < last.end
  starts_below tip [] from rise walk there = absurd (let no : false ≡ true = there in cc)
  starts_below tip (r ∷ rs) from rise walk there = here_or (r.start.0 == from) refl (λ more. starts_below (tip_after tip r) rs from rise.3 walk.1 more)
    where
      here_or : (b : Bool) → (r.start.0 == from) ≡ b → (has_start rs from ≡ true → from < last.end) → from < last.end
      here_or true is later =
          let same = eqb-true r.start.0 from is in
          let reach : r.end.0 ≤ last.end = reach_on s files (tip_after tip r) last rs rise.3 walk.1 in
          omega (arith, same, rise.1, reach)
      here_or false is later = later (sym (ap (λ (b : Bool). b || has_start rs from) is) ∙ there)

  -- the last of them ends at the tip
  ends_at : (r : Record) (tip : Tip) (rs : List Record) → ReadsOn s files (tip_after tip r) rs last → list_any (λ (e : Entry). e.end == last.end) (map entry_of (r ∷ rs)) ≡ true
  ends_at r tip [] walk = or_left (r.end.0 == last.end) false (eq-eqb r.end.0 last.end (sym (ap (λ (t : Tip). t.end) walk)))
  ends_at r tip (q ∷ rs) walk = or_right (r.end.0 == last.end) (list_any (λ (e : Entry). e.end == last.end) (map entry_of (q ∷ rs))) (ends_at q (tip_after tip r) rs walk.1)

  pub ends_there : (tip : Tip) (rs : List Record) (from : ℕ) → ReadsOn s files tip rs last → has_start rs from ≡ true → list_any (λ (e : Entry). e.end == last.end) (map entry_of rs) ≡ true
  ends_there tip [] from walk there = absurd (let no : false ≡ true = there in cc)
  ends_there tip (r ∷ rs) from walk there = ends_at r tip rs walk.1

  -- and none of them starts there or past it
  pub all_before : (tip : Tip) (rs : List Record) (from : ℕ) → RecordsRise tip.end rs → ReadsOn s files tip rs last → since from (map entry_of rs) ≡ window (map entry_of rs) from last.end
  all_before tip [] from rise walk = refl
  all_before tip (r ∷ rs) from rise walk =
      let reach : r.end.0 ≤ last.end = reach_on s files (tip_after tip r) last rs rise.3 walk.1 in
      let before : nat_lt r.start.0 last.end ≡ true = lt-ltb r.start.0 last.end (omega (arith, rise.1, reach)) in
      let rest = all_before (tip_after tip r) rs from rise.3 walk.1 in
      ap (λ (l : List Entry). cond (nat_le from r.start.0) (entry_of r ∷ l) l) rest
      ∙ either (nat_le from r.start.0) (nat_lt r.start.0 last.end) (entry_of r ∷ window (map entry_of rs) from last.end) (window (map entry_of rs) from last.end) before
    where
      either : (a b : Bool) (x y : List Entry) → b ≡ true → cond a x y ≡ cond (a && b) x y
      either true b x y e = sym (ap (λ (c : Bool). cond c x y) e)
      either false b x y e = refl

pub rise_all : (s : StoreSettings) (files : Files) (rs : List Record) (tip : Tip) → IsSegmentMib s.segment → SurviveIn s files rs tip → RecordsRise 0 rs
rise_all s files rs tip size survive = rise_from 0 (first_tip s.segment).end rs (omega arith) (survivors_rise s files rs tip size survive)
