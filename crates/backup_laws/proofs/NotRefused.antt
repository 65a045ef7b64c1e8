-- A WAL that is read to its end is refused for nothing up to a target that isn't past that end.
use Rattle.std.proofs.Common.{◌≡◌, ℕ, ◌≤◌, Bool, true, false, cond, List, [], ◌∷◌, ◌++◌, map, codes, Option, Some, None, IfSome, refl, sym, ap, subst, ◌∙◌, arith, inl, inr}
use Rattle.std.specs.Prelude.{nat_le, ◌==◌, if◌then◌else◌}
use Rattle.std.specs.List.{list_any}
use Rattle.std.specs.FinMap.{empty, get}
use Rattle.std.proofs.lemmas.Bool.{cases_Bool, cases_lt, eqb-true, le-leb, lt-leb}
use Rattle.lsn_core.specs.byte_words.Numbers.{◌>>=◌}
use Rattle.lsn_core.proofs.byte_words.Fields.{bind_some}
use Rattle.lsn_core.specs.Files.{Files}
use Rattle.lsn_core.specs.Segment.{IsSegmentMib, StoreSettings}
use Rattle.lsn_core.specs.Store.{Store}
use Rattle.lsn_core.specs.Tip.{Tip}
use Rattle.lsn_core.specs.declared.lsn.Lsn.{Lsn}
use Rattle.wal_record.specs.Tips.{first_tip, tip_after}
use Rattle.wal_record.specs.declared.record.Record.{Record}
use Rattle.wal_archive.specs.declared.fault.Damage.{Damage}
use Rattle.wal_archive.specs.Rules.{Found, End, Bad}
use Rattle.wal_reader.specs.Cursor.{found_at}
use Rattle.wal_reader.specs.Wal.{ReadsOn, stands_behind}
use Rattle.wal_reader.specs.declared.fault.WalFault.TheVariants as reader
use Rattle.wal_reader.proofs.OneSettings.{one_settings, settings_or_refused}
use Rattle.wal_reader.proofs.Reached.{first_reached}
use Rattle.history.specs.Entry.{Entry}
use Rattle.history.specs.Apply.{apply, apply_all}
use Rattle.history.specs.Whole.{entry_of, whole}
use Rattle.history.specs.fuzzy_copies.Orderly.{RecordsRise}
use Rattle.history.proofs.fuzzy_copies.Completed.{or_second}
use Rattle.recovery.specs.declared.fault.RecoveryFault.{RecoveryFault}
use Rattle.recovery.specs.declared.fault.RecoveryFault.TheVariants.{Damaged, Short, BadDelta, SettingsDamaged, Timeline, NotInit, Failed, NoMemory}
use Rattle.recovery.specs.declared.reading.Beginning.{Beginning}
use Rattle.recovery.specs.declared.reading.Beginning.TheVariants.{FirstEntry}
use Rattle.recovery.specs.Onward.{IsReadFrom, HasDamageFrom, EndsEarlyFrom, is_at_place, begin_tip, is_set_behind, found_on, replayed_to, ending_by}
use Rattle.recovery.specs.Onward as onward
use Rattle.recovery.specs.Replay.{HasBadDelta}
use Rattle.recovery.specs.Causes.{IsShortFrom, WalCause}
use Rattle.recovery.proofs.SoFar.{good_or_bad}
use Rattle.backup_restore.proofs.OneReading.{both_end, ends_or_damaged}
use Rattle.backup_restore.proofs.Rising.{none_left, reads_rise, wal_rises}
use Rattle.command_base.specs.Faults.{wal_status}
use Rattle.command_base.proofs.Told.{at_told}
use Rattle.backup_laws.specs.Success.{IsDoneOrFails, IsNotPast, IsReplayable, IsSoundWal}
use Rattle.backup_laws.proofs.Reading.{end_stops, given_there, reads_alike}
use Rattle.backup_laws.proofs.Settled.{segment_size}
use Rattle.backup_laws.proofs.WalsLeft.{entries_both}

-- ---- what a reading up to a target finds

bad_before : (reached : Bool) (f : Found) (d : Damage) → (if reached then End else f) ≡ Bad d → f ≡ Bad d
bad_before true f d bad = absurd cc
bad_before false f d bad = bad

bad_there : (s : StoreSettings) (files : Files) (upto : Option Lsn) (set : Bool) (tip : Tip) (d : Damage) → found_on s files upto set tip ≡ Bad d → found_on s files None set tip ≡ Bad d
bad_there s files None set tip d bad = bad
bad_there s files (Some target) set tip d bad = bad_before (nat_le target.0 tip.end) (found_at s set tip files) d bad

not_reached : (reached : Bool) (f g : Found) → reached ≡ false → (if reached then End else f) ≡ g → f ≡ g
not_reached true f g e found = absurd cc
not_reached false f g e found = found

-- what is read up to a target is read without one
reads_whole : (s : StoreSettings) (files : Files) (upto : Option Lsn) (set : Bool) (tip : Tip) (rs : List Record) (last : Tip) → onward.ReadsOn s files upto set tip rs last → onward.ReadsOn s files None set tip rs last
reads_whole s files upto set tip [] last reads = reads
reads_whole s files upto set tip (r ∷ rs) last reads = (given_there s files upto set tip r reads.0, reads_whole s files upto false (tip_after tip r) rs last reads.1)

-- where it is read from a beginning to its end
module _ (s : StoreSettings) (files : Files) (begin : Beginning) (rs : List Record) (last : Tip) (read : IsReadFrom s files begin None rs last End) (upto : Option Lsn) where
  -- it isn't damaged before a target
  pub not_damaged : (d : Damage) → HasDamageFrom s files begin upto d → ⊥
  not_damaged d h =
      ends_or_damaged s files begin None rs last d read
      (record {
        entries = h.entries;
        last = h.last;
        read = record {
          reads = reads_whole s files upto (is_at_place begin) (begin_tip s.segment begin) h.entries h.last h.read.reads;
          behind = bad_there s files upto (is_set_behind (is_at_place begin) h.entries) h.last d h.read.behind;
        };
      })

  -- and doesn't end before one that isn't past its end
  pub not_short : (place : ℕ) (end target : Lsn) → last.end ≡ place → IfSome upto (λ t. t.0 ≤ place) → IsShortFrom s files begin upto end target → ⊥
  not_short place end target ends within short =
      let at : target.0 ≤ place = at_told upto target (λ t. t.0 ≤ place) short.0 within in
      let e : EndsEarlyFrom s files begin end target = short.1 in
      let past : nat_le target.0 e.last.end ≡ false = lt-leb target.0 e.last.end (omega (arith, e.short, e.end_is)) in
      let set : Bool = is_set_behind (is_at_place begin) e.entries in
      let whole : IsReadFrom s files begin None e.entries e.last End = record {
        reads = reads_whole s files (Some target) (is_at_place begin) (begin_tip s.segment begin) e.entries e.last e.read.reads;
        behind = not_reached (nat_le target.0 e.last.end) (found_at s set e.last files) End past e.read.behind;
      } in
      let one = both_end s files begin None rs e.entries last e.last read whole in
      omega (arith, at, ends, e.short, e.end_is, ap (λ (t : Tip). t.end) one.tips)

-- ---- entries that can be applied

-- the first of them can be too
front_applied : (store : Store) (es fs : List Entry) (last : Store) → apply_all store (es ++ fs) ≡ Some last → (mid : Store) × (apply_all store es ≡ Some mid)
front_applied store [] fs last made = (store, refl)
front_applied store (e ∷ es) fs last made =
    let b = bind_some (apply store e) (λ s. apply_all s (es ++ fs)) last made in
    let more = front_applied b.0 es fs last b.2 in
    (more.0, ap (λ (o : Option Store). o >>= λ s. apply_all s es) b.1 ∙ more.1)

-- those that end by a place are the first ones
ending_front : (last place : ℕ) (rs : List Record) → RecordsRise last rs → (more : List Record) × (rs ≡ ending_by place rs ++ more)
ending_front last place [] rise = ([], refl)
ending_front last place (r ∷ rs) rise =
    let rest : List Record = ending_by place rs in
    elim (cases_lt place r.end.0) [
      | inl lt ↦
          let none : rest ≡ [] = none_left r.end.0 place rs (omega (arith, lt)) rise.3 in
          let all : ending_by place (r ∷ rs) ≡ [] = ap (λ (b : Bool). cond b (r ∷ rest) rest) (lt-leb r.end.0 place lt) ∙ none in
          (r ∷ rs, ap (λ (l : List Record). l ++ (r ∷ rs)) (sym all))
      | inr le ↦
          let more = ending_front r.end.0 place rs rise.3 in
          let all : ending_by place (r ∷ rs) ≡ r ∷ rest = ap (λ (b : Bool). cond b (r ∷ rest) rest) (le-leb r.end.0 place le) in
          (more.0, ap (λ (l : List Record). r ∷ l) more.1 ∙ ap (λ (l : List Record). l ++ more.0) (sym all))
    ]

-- so up to each place they make a store
pub whole_made : (rs : List Record) (store : Store) (place : ℕ) → RecordsRise 0 rs → apply_all empty (map entry_of rs) ≡ Some store → (mid : Store) × (whole rs place ≡ Some mid)
whole_made rs store place rise made =
    let f = ending_front 0 place rs rise in
    front_applied empty (map entry_of (ending_by place rs)) (map entry_of f.0) store
    (subst (λ (es : List Entry). apply_all empty es ≡ Some store) (entries_both rs (ending_by place rs) f.0 f.1) made)

-- ---- where entries end

ends_later : (s : StoreSettings) (files : Files) (tip : Tip) (rs : List Record) (last : Tip) → ReadsOn s files tip rs last → RecordsRise tip.end rs → tip.end ≤ last.end
ends_later s files tip [] last walk rise = omega (arith, ap (λ (t : Tip). t.end) walk)
ends_later s files tip (r ∷ rs) last walk rise =
    let more = ends_later s files (tip_after tip r) rs last walk.1 rise.3 in
    omega (arith, more, rise.0, rise.1)

-- none ends past the WAL's end
pub ends_within : (s : StoreSettings) (files : Files) (tip : Tip) (rs : List Record) (last : Tip) (to : ℕ) → ReadsOn s files tip rs last → RecordsRise tip.end rs → list_any (λ (e : Entry). e.end == to) (map entry_of rs) ≡ true → to ≤ last.end
ends_within s files tip [] last to walk rise there = absurd cc
ends_within s files tip (r ∷ rs) last to walk rise there =
    elim (cases_Bool (r.end.0 == to)) [
      | inl is ↦ (let more = ends_later s files (tip_after tip r) rs last walk.1 rise.3 in omega (arith, more, eqb-true r.end.0 to is))
      | inr not ↦ ends_within s files (tip_after tip r) rs last to walk.1 rise.3 (or_second (r.end.0 == to) (list_any (λ (e : Entry). e.end == to) (map entry_of rs)) there not)
    ]

-- ---- a sound WAL

pub reads_all : (s : StoreSettings) (files : Files) (tip : Tip) (rs : List Record) (last : Tip) → ReadsOn s files tip rs last → onward.ReadsOn s files None false tip rs last
reads_all s files tip [] last walk = walk
reads_all s files tip (r ∷ rs) last walk = (walk.0, reads_all s files (tip_after tip r) rs last walk.1)

module _ (end : Lsn) (files : Files) (wal : IsSoundWal end files) where
  abbrev s : StoreSettings
  s = wal.settings

  abbrev is : IsReplayable s files end.0
  is = wal.replayable

  pub wal_size : IsSegmentMib wal.settings.segment
  wal_size = segment_size (get files (codes "settings")) s.segment s.relseg wal.given.given

  -- its entries rise
  pub wal_rise : RecordsRise (first_tip wal.settings.segment).end wal.replayable.records
  wal_rise = reads_rise s files (first_tip s.segment) is.records is.last wal_size (first_reached s.segment wal_size) is.read.walk

  pub wal_rise_all : RecordsRise 0 wal.replayable.records
  wal_rise_all = wal_rises s files is.records is.last wal_size is.read

  whole_read : IsReadFrom s files FirstEntry None is.records is.last End
  whole_read = record { reads = reads_all s files (first_tip s.segment) is.records is.last is.read.walk; behind = is.read.ended }

  -- each of its entries can be applied up to a target
  not_bad : (upto : Option Lsn) (place : Lsn) → HasBadDelta s files upto place → ⊥
  not_bad upto place b =
      let to : ℕ = replayed_to upto b.last in
      let alike = reads_alike s files upto (first_tip s.segment) b.last is.last b.last b.entries is.records b.read.reads b.read.behind is.read.walk (end_stops (stands_behind s files is.last) is.read.ended) wal_rise in
      let made = whole_made is.records is.store to wal_rise_all is.applied in
      good_or_bad empty (map entry_of (ending_by to b.entries)) made.0 place.0 (ap (λ (l : List Record). apply_all empty (map entry_of l)) alike.ending ∙ made.1) b.bad

  -- it is refused for nothing up to a target that isn't past its end
  pub wal_not_refused : (upto : Option Lsn) (before now : ℕ) (why : RecoveryFault) → IsNotPast upto end → WalCause upto (Some files) before now why → IsDoneOrFails (wal_status why)
  wal_not_refused upto before now (Damaged mib d) within cause =
      absurd (not_damaged s files FirstEntry is.records is.last whole_read upto d (subst (λ (t : StoreSettings). HasDamageFrom t files FirstEntry upto d) (one_settings files cause.0 s cause.1.0 wal.given) cause.1.1.1))
  wal_not_refused upto before now (Short stop target) within cause =
      absurd (not_short s files FirstEntry is.records is.last whole_read upto end.0 stop target is.ends within (subst (λ (t : StoreSettings). IsShortFrom t files FirstEntry upto stop target) (one_settings files cause.0 s cause.1.0 wal.given) cause.1.1))
  wal_not_refused upto before now (BadDelta place) within cause =
      absurd (not_bad upto place (subst (λ (t : StoreSettings). HasBadDelta t files upto place) (one_settings files cause.0 s cause.1.0 wal.given) cause.1.1))
  wal_not_refused upto before now SettingsDamaged within cause = absurd (settings_or_refused files s reader.SettingsDamaged (λ e. absurd cc, λ e. absurd cc) wal.given cause)
  wal_not_refused upto before now (Timeline name) within cause = absurd (settings_or_refused files s (reader.Timeline name) (λ e. absurd cc, λ e. absurd cc) wal.given cause)
  wal_not_refused upto before now NotInit within cause = absurd (settings_or_refused files s reader.NotInit (λ e. absurd cc, λ e. absurd cc) wal.given cause)
  wal_not_refused upto before now Failed within cause = tt
  wal_not_refused upto before now NoMemory within cause = tt
