-- What a loop over a cursor keeps of what it read, and what its answers come to.
use Rattle.std.proofs.Common.{◌≡◌, ℕ, ◌<◌, ◌≤◌, ◌^◌, inl, inr, Bool, true, false, cond, List, [], ◌∷◌, ◌++◌, Option, Some, None, Result, Ok, Err, IfSome, refl, sym, ap, subst, ◌∙◌, arith}
use Rattle.std.specs.Prelude.{nat_le}
use Rattle.std.proofs.lemmas.Bool.{le-leb, lt-leb, cases_lt}
use Rattle.lsn_core.specs.byte_words.Told.{when_told}
use Rattle.lsn_core.specs.Causes.{Rose}
use Rattle.lsn_core.specs.Files.{Files}
use Rattle.lsn_core.specs.Segment.{StoreSettings, IsSegmentMib}
use Rattle.lsn_core.specs.Tip.{Tip}
use Rattle.lsn_core.specs.declared.lsn.Lsn.{Lsn}
use Rattle.vault.specs.Frame.{OnlyReads}
use Rattle.vault.specs.declared.area.Vault.{Ghosts}
use Rattle.wal_record.specs.declared.record.Record.{Record}
use Rattle.wal_record.specs.Tips.{wal_limit, tip_after, IsWithin}
use Rattle.wal_archive.specs.Rules.{Found, End, Gives, Bad}
use Rattle.wal_reader.specs.declared.fault.WalFault.{WalFault}
use Rattle.wal_reader.specs.declared.fault.WalFault.TheVariants as wal
use Rattle.wal_reader.specs.Causes.{CauseOf as WalCauseOf}
use Rattle.wal_reader.specs.Cursor.{Cursor, found_at, IsGiven, step_causes, StepAnswer, cursor_after, NextAnswer, Steps}
use Rattle.wal_reader.proofs.Reached.{first_reached}
use Rattle.recovery.specs.declared.fault.RecoveryFault.{RecoveryFault}
use Rattle.recovery.specs.declared.fault.RecoveryFault.TheVariants as fault
use Rattle.recovery.specs.declared.reading.Beginning.{Beginning}
use Rattle.recovery.specs.declared.reading.Beginning.TheVariants.{FirstEntry, AtPlace}
use Rattle.recovery.specs.Onward.{begin_tip, cursor_from, is_at_place, is_set_behind, found_on, StandsWithin, IsReadFromTo}
use Rattle.recovery.specs.Reading.{Reads}
use Rattle.recovery.specs.Causes.{CauseOf, fault_of, reading_causes}
use Rattle.recovery.specs.Inside.{IsAtTarget, as_step, StepsTo, EndAnswer}
use Rattle.recovery.proofs.SoFar.{IsReadSoFar, none_read, not_set, one_more, at_end, at_damage, ends_short}

-- ---- what is found up to a target

end_or : (b : Bool) (f : Found) → b ≡ true → cond b End f ≡ End
end_or true f e = refl
end_or false f e = absurd cc

other_or : (b : Bool) (f : Found) → b ≡ false → cond b End f ≡ f
other_or true f e = absurd cc
other_or false f e = refl

-- at the target nothing more is found
found_at_target : (s : StoreSettings) (m : Files) (upto : Option Lsn) (set : Bool) (tip : Tip) → IsAtTarget upto tip.end → found_on s m upto set tip ≡ End
found_at_target s m None set tip there = absurd there
found_at_target s m (Some target) set tip there = end_or (nat_le target.0 tip.end) (found_at s set tip m) (le-leb target.0 tip.end there)

-- before it what stands there
found_before : (s : StoreSettings) (m : Files) (upto : Option Lsn) (set : Bool) (tip : Tip) → (IsAtTarget upto tip.end → ⊥) → found_on s m upto set tip ≡ found_at s set tip m
found_before s m None set tip before = refl
found_before s m (Some target) set tip before = elim (cases_lt tip.end target.0) [
  | inl lt ↦ other_or (nat_le target.0 tip.end) (found_at s set tip m) (lt-leb target.0 tip.end lt)
  | inr le ↦ absurd (before le)
]

found_told : (s : StoreSettings) (files : Option Files) (upto : Option Lsn) (set : Bool) (tip : Tip) (found : Found) → (IsAtTarget upto tip.end → ⊥) → IfSome files (λ m. found_at s set tip m ≡ found) → IfSome files (λ m. found_on s m upto set tip ≡ found)
found_told s files upto set tip found before told =
    when_told files (λ m. found_at s set tip m ≡ found) (λ m. found_on s m upto set tip ≡ found) (λ m e. found_before s m upto set tip before ∙ e) told

end_told : (s : StoreSettings) (files : Option Files) (upto : Option Lsn) (set : Bool) (tip : Tip) → IsAtTarget upto tip.end → IfSome files (λ m. found_on s m upto set tip ≡ End)
end_told s None upto set tip there = tt
end_told s (Some m) upto set tip there = found_at_target s m upto set tip there

-- ---- a step

rose_earlier : (before now later : ℕ) → before ≤ now → Rose now later → Rose before later
rose_earlier before now later le rose = omega (arith, le, rose)

step_is : (mib : ℕ) (r : Result (Option Record) WalFault) (x : Option Record) → ◌≡◌ {A = Result (Option Record) RecoveryFault} (Ok x) (as_step mib r) → r ≡ Ok x
step_is mib (Ok y) x e = cc
step_is mib (Err f) x e = absurd cc

fault_is : (mib : ℕ) (r : Result (Option Record) WalFault) (f : RecoveryFault) → ◌≡◌ {A = Result (Option Record) RecoveryFault} (Err f) (as_step mib r) → (w : WalFault) × ((r ≡ Err w) × (f ≡ fault_of mib w))
fault_is mib (Ok y) f e = absurd cc
fault_is mib (Err w) f e = (w, (refl, cc))

-- an answer of a cursor that had met no fault
answered : (s : StoreSettings) (set : Bool) (c new : Cursor) (files : Option Files) (before now : ℕ) (result : Result (Option Record) WalFault) → c.fault ≡ None → c.settings ≡ s → c.set ≡ set → NextAnswer c.fault c new files before now result
    → (new ≡ cursor_after c result) × StepAnswer s set c.tip files before now result
answered s set c new files before now result fresh settings is answer =
    let a : NextAnswer None c new files before now result = subst (λ (f : Option WalFault). NextAnswer f c new files before now result) fresh answer in
    (a.0, subst (λ (b : Bool). StepAnswer s b c.tip files before now result) is (subst (λ (t : StoreSettings). StepAnswer t c.set c.tip files before now result) settings a.1))

-- the WAL's room is far below 2^64 bytes
room_fits : (mib place : ℕ) → mib ≤ 1024 → place ≤ wal_limit mib → place < 2 ^ 64
room_fits mib place most within = omega (arith, most, within)

module _ {V : Type 0} (g : Ghosts V) where
  -- the area was only read, and the cursor gave these entries
  pub record HasRead (s : StoreSettings) (begin : Beginning) (upto : Option Lsn) (old now : V) (cursor : Cursor) (entries : List Record) : Type 0 where
    pub fresh : cursor.fault ≡ None
    pub settings : cursor.settings ≡ s
    pub set : cursor.set ≡ is_set_behind (is_at_place begin) entries
    pub mib : s.segment ≤ 1024
    pub reads : OnlyReads g old now
    pub so_far : IsReadSoFar s begin upto (g.files old) cursor.tip entries
    pub within : StandsWithin s.segment (is_set_behind (is_at_place begin) entries) cursor.tip

  -- before the first step
  start_within : (s : StoreSettings) (begin : Beginning) → IsSegmentMib s.segment → StandsWithin s.segment (is_set_behind (is_at_place begin) []) (begin_tip s.segment begin)
  start_within s FirstEntry mib = (first_reached s.segment mib).within
  start_within s (AtPlace from) mib = tt

  start_cursor : (s : StoreSettings) (begin : Beginning) → (cursor_from s begin ≡ record { settings = s; set = is_set_behind (is_at_place begin) []; tip = begin_tip s.segment begin; fault = None })
  start_cursor s FirstEntry = refl
  start_cursor s (AtPlace from) = refl

  pub start_tip : (s : StoreSettings) (begin : Beginning) → (cursor_from s begin).tip ≡ begin_tip s.segment begin
  start_tip s FirstEntry = refl
  start_tip s (AtPlace from) = refl

  pub nothing_read : (s : StoreSettings) (begin : Beginning) (upto : Option Lsn) (v : V) (c : Cursor) → IsSegmentMib s.segment → c ≡ cursor_from s begin → HasRead s begin upto v v c []
  nothing_read s begin upto v c mib start = subst (λ (x : Cursor). HasRead s begin upto v v x []) (sym (start ∙ start_cursor s begin)) (record {
    fresh = refl;
    settings = refl;
    set = refl;
    mib = mib.most;
    reads = record { files = refl; past = refl; faults = omega arith };
    so_far = none_read s begin upto (g.files v);
    within = start_within s begin mib;
  })

  step_kept : (s : StoreSettings) (begin : Beginning) (upto : Option Lsn) (old now later : V) (c new : Cursor) (entries : List Record) (result : Result (Option Record) WalFault) → HasRead s begin upto old now c entries → Steps g c new now later result
      → (new ≡ cursor_after c result) × StepAnswer s (is_set_behind (is_at_place begin) entries) c.tip (g.files old) (g.faults now) (g.faults later) result
  step_kept s begin upto old now later c new entries result kept answer =
      let a = answered s (is_set_behind (is_at_place begin) entries) c new (g.files now) (g.faults now) (g.faults later) result kept.fresh kept.settings kept.set answer in
      (a.0, subst (λ (f : Option Files). StepAnswer s (is_set_behind (is_at_place begin) entries) c.tip f (g.faults now) (g.faults later) result) kept.reads.files a.1)

  both_read : (old now later : V) → OnlyReads g old now → OnlyReads g now later → OnlyReads g old later
  both_read old now later first second = record { files = second.files ∙ first.files; past = second.past ∙ first.past; faults = omega (arith, first.faults, second.faults) }

  -- an entry that the cursor gave
  given_of : (s : StoreSettings) (begin : Beginning) (upto : Option Lsn) (old now later : V) (c new : Cursor) (entries : List Record) (r : Record) → HasRead s begin upto old now c entries → StepsTo g s.segment upto c new now later (Ok (Some r))
      → (new ≡ cursor_after c (Ok (Some r))) × (IsGiven s.segment c.tip r × IfSome (g.files old) (λ m. found_on s m upto (is_set_behind (is_at_place begin) entries) c.tip ≡ Gives r))
  given_of s begin upto old now later c new entries r kept (inl stays) = absurd (let e : ◌≡◌ {A = Result (Option Record) RecoveryFault} (Ok (Some r)) (Ok None) = stays.1.1 in cc)
  given_of s begin upto old now later c new entries r kept (inr steps) =
      let is : steps.1.0 ≡ Ok (Some r) = step_is s.segment steps.1.0 (Some r) steps.1.1.1 in
      let answer : Steps g c new now later (Ok (Some r)) = subst (λ (x : Result (Option Record) WalFault). Steps g c new now later x) is steps.1.1.0 in
      let a = step_kept s begin upto old now later c new entries (Ok (Some r)) kept answer in
      (a.0, (a.1.0, found_told s (g.files old) upto (is_set_behind (is_at_place begin) entries) c.tip (Gives r) steps.0 a.1.1))

  pub given_kept : (s : StoreSettings) (begin : Beginning) (upto : Option Lsn) (old now later : V) (c new : Cursor) (entries : List Record) (r : Record) → HasRead s begin upto old now c entries → StepsTo g s.segment upto c new now later (Ok (Some r)) → IsGiven s.segment c.tip r
  given_kept s begin upto old now later c new entries r kept answer = (given_of s begin upto old now later c new entries r kept answer).1.0

  given_within : (mib : ℕ) (set : Bool) (entries : List Record) (tip : Tip) (r : Record) → IsWithin mib (tip_after tip r) → StandsWithin mib (is_set_behind set (entries ++ (r ∷ []))) (tip_after tip r)
  given_within mib set entries tip r within = subst (λ (b : Bool). StandsWithin mib b (tip_after tip r)) (sym (not_set set entries r)) within

  pub next_read : (s : StoreSettings) (begin : Beginning) (upto : Option Lsn) (old now later : V) (c new : Cursor) (entries : List Record) (r : Record) → HasRead s begin upto old now c entries → StepsTo g s.segment upto c new now later (Ok (Some r))
      → OnlyReads g now later → HasRead s begin upto old later new (entries ++ (r ∷ []))
  next_read s begin upto old now later c new entries r kept answer reads =
      let a = given_of s begin upto old now later c new entries r kept answer in
      let fits : r.end.0 < 2 ^ 64 = room_fits s.segment r.end.0 kept.mib a.1.0.reached.within.most in
      subst (λ (cursor : Cursor). HasRead s begin upto old later cursor (entries ++ (r ∷ []))) (sym a.0)
      (record {
        fresh = kept.fresh;
        settings = kept.settings;
        set = sym (not_set (is_at_place begin) entries r);
        mib = kept.mib;
        reads = both_read old now later kept.reads reads;
        so_far = one_more s begin upto (g.files old) c.tip entries r kept.so_far a.1.0.later fits a.1.1;
        within = given_within s.segment (is_at_place begin) entries c.tip r a.1.0.reached.within;
      })

  -- no entry follows: what was read up to a tip
  pub record IsAllRead (s : StoreSettings) (begin : Beginning) (upto : Option Lsn) (old : V) (tip : Tip) (entries : List Record) : Type 0 where
    pub so_far : IsReadSoFar s begin upto (g.files old) tip entries
    pub within : StandsWithin s.segment (is_set_behind (is_at_place begin) entries) tip
    pub ends : IfSome (g.files old) (λ m. found_on s m upto (is_set_behind (is_at_place begin) entries) tip ≡ End)

  end_of : (s : StoreSettings) (begin : Beginning) (upto : Option Lsn) (old now later : V) (c new : Cursor) (entries : List Record) → HasRead s begin upto old now c entries → StepsTo g s.segment upto c new now later (Ok None)
      → (new ≡ c) × IfSome (g.files old) (λ m. found_on s m upto (is_set_behind (is_at_place begin) entries) c.tip ≡ End)
  end_of s begin upto old now later c new entries kept (inl stays) = (stays.1.0, end_told s (g.files old) upto (is_set_behind (is_at_place begin) entries) c.tip stays.0)
  end_of s begin upto old now later c new entries kept (inr steps) =
      let is : steps.1.0 ≡ Ok None = step_is s.segment steps.1.0 None steps.1.1.1 in
      let answer : Steps g c new now later (Ok None) = subst (λ (x : Result (Option Record) WalFault). Steps g c new now later x) is steps.1.1.0 in
      let a = step_kept s begin upto old now later c new entries (Ok None) kept answer in
      (a.0, found_told s (g.files old) upto (is_set_behind (is_at_place begin) entries) c.tip End steps.0 a.1)

  pub all_read : (s : StoreSettings) (begin : Beginning) (upto : Option Lsn) (old now later : V) (c new : Cursor) (entries : List Record) (tip : Tip) → HasRead s begin upto old now c entries → StepsTo g s.segment upto c new now later (Ok None)
      → tip ≡ new.tip → IsAllRead s begin upto old tip entries
  all_read s begin upto old now later c new entries tip kept answer tip_is =
      let a = end_of s begin upto old now later c new entries kept answer in
      subst (λ (t : Tip). IsAllRead s begin upto old t entries) (sym (tip_is ∙ ap (λ (x : Cursor). x.tip) a.0))
      (record { so_far = kept.so_far; within = kept.within; ends = a.1 })

  pub read_ended : (s : StoreSettings) (begin : Beginning) (upto : Option Lsn) (old later : V) (tip : Tip) (entries : List Record) (result : Result Tip RecoveryFault) → IsAllRead s begin upto old tip entries → EndAnswer upto tip result → Reads g s begin upto old later result
  read_ended s begin upto old later tip entries (Ok last) all done =
      (entries, subst (IsReadFromTo s (g.files old) begin upto entries) (sym done.0) (at_end s begin upto (g.files old) tip entries all.so_far all.within all.ends done.1))
  read_ended s begin upto old later tip entries (Err (fault.Damaged mib damage)) all done = absurd done
  read_ended s begin upto old later tip entries (Err (fault.Short end target)) all done = ends_short s begin upto (g.files old) tip entries end target all.so_far all.ends done.0 done.1.0 done.1.1
  read_ended s begin upto old later tip entries (Err (fault.BadDelta place)) all done = absurd done
  read_ended s begin upto old later tip entries (Err fault.SettingsDamaged) all done = absurd done
  read_ended s begin upto old later tip entries (Err (fault.Timeline name)) all done = absurd done
  read_ended s begin upto old later tip entries (Err fault.NotInit) all done = absurd done
  read_ended s begin upto old later tip entries (Err fault.Failed) all done = absurd done
  read_ended s begin upto old later tip entries (Err fault.NoMemory) all done = absurd done

  -- a refusal
  refused : (s : StoreSettings) (begin : Beginning) (upto : Option Lsn) (old now later : V) (tip : Tip) (entries : List Record) (w : WalFault) → OnlyReads g old now → IsReadSoFar s begin upto (g.files old) tip entries → (IsAtTarget upto tip.end → ⊥)
      → WalCauseOf (step_causes s (is_set_behind (is_at_place begin) entries) tip (g.files old)) (g.faults now) (g.faults later) w → CauseOf (reading_causes s begin upto (g.files old)) (g.faults old) (g.faults later) (fault_of s.segment w)
  refused s begin upto old now later tip entries (wal.Damaged damage) reads so before cause =
      (refl, at_damage s begin upto (g.files old) tip entries damage so (found_told s (g.files old) upto (is_set_behind (is_at_place begin) entries) tip (Bad damage) before cause))
  refused s begin upto old now later tip entries wal.SettingsDamaged reads so before cause = absurd cause
  refused s begin upto old now later tip entries (wal.Timeline name) reads so before cause = absurd cause
  refused s begin upto old now later tip entries wal.NotInit reads so before cause = absurd cause
  refused s begin upto old now later tip entries wal.Failed reads so before cause = rose_earlier (g.faults old) (g.faults now) (g.faults later) reads.faults cause
  refused s begin upto old now later tip entries wal.NoMemory reads so before cause = tt

  pub fault_read : (s : StoreSettings) (begin : Beginning) (upto : Option Lsn) (old now later : V) (c new : Cursor) (entries : List Record) (f : RecoveryFault) → HasRead s begin upto old now c entries → StepsTo g s.segment upto c new now later (Err f)
      → CauseOf (reading_causes s begin upto (g.files old)) (g.faults old) (g.faults later) f
  fault_read s begin upto old now later c new entries f kept (inl stays) = absurd (let e : ◌≡◌ {A = Result (Option Record) RecoveryFault} (Err f) (Ok None) = stays.1.1 in cc)
  fault_read s begin upto old now later c new entries f kept (inr steps) =
      let is = fault_is s.segment steps.1.0 f steps.1.1.1 in
      let answer : Steps g c new now later (Err is.0) = subst (λ (x : Result (Option Record) WalFault). Steps g c new now later x) is.1.0 steps.1.1.0 in
      let a = step_kept s begin upto old now later c new entries (Err is.0) kept answer in
      subst (λ (x : RecoveryFault). CauseOf (reading_causes s begin upto (g.files old)) (g.faults old) (g.faults later) x) (sym is.1.1) (refused s begin upto old now later c.tip entries is.0 kept.reads kept.so_far steps.0 a.1)
