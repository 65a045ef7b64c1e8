-- What a loop over a cursor keeps of a piece, and what its answers come to.
use Rattle.std.proofs.Common.{◌≡◌, ℕ, ◌<◌, ◌≤◌, inl, inr, Bool, true, false, List, [], ◌∷◌, ◌++◌, length, Option, Some, None, Result, Ok, Err, IfSome, refl, sym, ap, subst, ◌∙◌, arith, length-append}
use Rattle.lsn_core.specs.byte_words.Told.{when_told, when_both_told}
use Rattle.lsn_core.specs.Causes.{Rose}
use Rattle.lsn_core.specs.Files.{Files}
use Rattle.lsn_core.specs.Segment.{StoreSettings}
use Rattle.lsn_core.specs.Tip.{Tip}
use Rattle.lsn_core.specs.declared.lsn.Lsn.{Lsn}
use Rattle.vault.specs.Frame.{OnlyReads}
use Rattle.vault.specs.declared.area.Vault.{Ghosts}
use Rattle.wal_record.specs.declared.record.Record.{Record}
use Rattle.wal_record.specs.Tips.{tip_after, tip_behind}
use Rattle.wal_record.proofs.Tips.{tip_behind-append}
use Rattle.wal_archive.specs.declared.fault.Damage.{Damage}
use Rattle.wal_archive.specs.Rules.{Found, End, Gives, Bad}
use Rattle.wal_reader.specs.declared.fault.WalFault.{WalFault}
use Rattle.wal_reader.specs.declared.fault.WalFault.TheVariants as wal
use Rattle.wal_reader.specs.Causes.{CauseOf}
use Rattle.wal_reader.specs.Cursor.{Cursor, at_place, found_at, IsGiven, step_causes, StepAnswer, cursor_after, NextAnswer, Steps}
use Rattle.wal_reader.specs.Wal.{stands_behind, tip_at, ReadsOn, ReadsFrom, found_from}
use Rattle.wal_reader.specs.wal_pieces.Piece.{is_reached, AreBefore, AreGiven, tip_from, IsPiece, HasDamagedPiece, piece_causes}
use Rattle.wal_reader.specs.wal_pieces.Inside.{StepsBefore}

-- ---- one more entry

-- a cursor that gave these entries is set still
abbrev pub is_set_yet : List Record → Bool
is_set_yet [] = true
is_set_yet (r ∷ rs) = false

set_push : (rs : List Record) (r : Record) → is_set_yet (rs ++ (r ∷ [])) ≡ false
set_push [] r = refl
set_push (q ∷ rs) r = refl

before_push : (upto : Option Lsn) (t : Tip) (rs : List Record) (r : Record) → AreBefore upto t.end rs → is_reached upto (tip_behind t rs).end ≡ false → AreBefore upto t.end (rs ++ (r ∷ []))
before_push upto t [] r before short = (short, tt)
before_push upto t (q ∷ rs) r before short = (before.0, before_push upto (tip_after t q) rs r before.1 short)

given_push : (mib : ℕ) (t : Tip) (rs : List Record) (r : Record) → AreGiven mib t rs → IsGiven mib (tip_behind t rs) r → AreGiven mib t (rs ++ (r ∷ []))
given_push mib t [] r given is = (is, tt)
given_push mib t (q ∷ rs) r given is = (given.0, given_push mib (tip_after t q) rs r given.1 is)

on_push : (s : StoreSettings) (m : Files) (t : Tip) (rs : List Record) (r : Record) → ReadsOn s m t rs (tip_behind t rs) → stands_behind s m (tip_behind t rs) ≡ Gives r → ReadsOn s m t (rs ++ (r ∷ [])) (tip_behind t (rs ++ (r ∷ [])))
on_push s m t [] r walk gives = (gives, refl)
on_push s m t (q ∷ rs) r walk gives = (walk.0, on_push s m (tip_after t q) rs r walk.1 gives)

from_push : (s : StoreSettings) (m : Files) (from : ℕ) (rs : List Record) (r : Record) → ReadsFrom s m from rs (tip_from from rs) → found_from s m from rs (tip_from from rs) ≡ Gives r → ReadsFrom s m from (rs ++ (r ∷ [])) (tip_from from (rs ++ (r ∷ [])))
from_push s m from [] r walk gives = (gives, refl)
from_push s m from (q ∷ rs) r walk gives = (walk.0, on_push s m (tip_after (tip_at from) q) rs r walk.1 gives)

-- what a cursor finds behind entries from a place on
found_is : (s : StoreSettings) (m : Files) (from : ℕ) (rs : List Record) (f : Found) → found_at s (is_set_yet rs) (tip_from from rs) m ≡ f → found_from s m from rs (tip_from from rs) ≡ f
found_is s m from [] f e = e
found_is s m from (q ∷ rs) f e = e

found_told : (s : StoreSettings) (files : Option Files) (from : ℕ) (rs : List Record) (f : Found) → IfSome files (λ m. found_at s (is_set_yet rs) (tip_from from rs) m ≡ f) → IfSome files (λ m. found_from s m from rs (tip_from from rs) ≡ f)
found_told s files from rs f told =
    when_told files (λ m. found_at s (is_set_yet rs) (tip_from from rs) m ≡ f) (λ m. found_from s m from rs (tip_from from rs) ≡ f) (λ m e. found_is s m from rs f e) told

-- ---- a step

-- an answer of a cursor that had met no fault
answered : (s : StoreSettings) (set : Bool) (tip : Tip) (c new : Cursor) (files : Option Files) (before now : ℕ) (result : Result (Option Record) WalFault) → c.fault ≡ None → c.settings ≡ s → c.set ≡ set → c.tip ≡ tip → NextAnswer c.fault c new files before now result
    → (new ≡ cursor_after c result) × StepAnswer s set tip files before now result
answered s set tip c new files before now result fresh settings is at answer =
    let a : NextAnswer None c new files before now result = subst (λ (f : Option WalFault). NextAnswer f c new files before now result) fresh answer in
    (a.0, subst (λ (t : Tip). StepAnswer s set t files before now result) at (subst (λ (b : Bool). StepAnswer s b c.tip files before now result) is (subst (λ (t : StoreSettings). StepAnswer t c.set c.tip files before now result) settings a.1)))

rose_earlier : (before now later : ℕ) → before ≤ now → Rose now later → Rose before later
rose_earlier before now later le rose = omega (arith, le, rose)

is_and_isn't : (b : Bool) → b ≡ true → b ≡ false → ⊥
is_and_isn't b is not = (let e : true ≡ false = sym is ∙ not in absurd cc)

module _ {V : Type 0} (g : Ghosts V) where
  -- the area was only read, and the cursor gave these entries
  pub record HasPiece (s : StoreSettings) (from : ℕ) (upto : Option Lsn) (most : ℕ) (old now : V) (cursor : Cursor) (rs : List Record) : Type 0 where
    pub fresh : cursor.fault ≡ None
    pub settings : cursor.settings ≡ s
    pub set : cursor.set ≡ is_set_yet rs
    pub tip : cursor.tip ≡ tip_from from rs
    pub reads : OnlyReads g old now
    pub few : length rs ≤ most
    pub before : AreBefore upto from rs
    pub given : AreGiven s.segment (tip_at from) rs
    pub read : IfSome (g.files old) (λ m. ReadsFrom s m from rs (tip_from from rs))

  always_told : (files : Option Files) (P : Files → Type 0) → ((m : Files) → P m) → IfSome files P
  always_told None P all = tt
  always_told (Some m) P all = all m

  pub nothing_read : (s : StoreSettings) (from most : ℕ) (upto : Option Lsn) (v : V) (c : Cursor) → c ≡ at_place s from → HasPiece s from upto most v v c []
  nothing_read s from most upto v c start = subst (λ (x : Cursor). HasPiece s from upto most v v x []) (sym start) (record {
    fresh = refl;
    settings = refl;
    set = refl;
    tip = refl;
    reads = record { files = refl; past = refl; faults = omega arith };
    few = omega arith;
    before = tt;
    given = tt;
    read = always_told (g.files v) (λ m. ReadsFrom s m from [] (tip_from from [])) (λ m. refl);
  })

  step_kept : (s : StoreSettings) (from most : ℕ) (upto : Option Lsn) (old now later : V) (c new : Cursor) (rs : List Record) (result : Result (Option Record) WalFault) → HasPiece s from upto most old now c rs → Steps g c new now later result
      → (new ≡ cursor_after c result) × StepAnswer s (is_set_yet rs) (tip_from from rs) (g.files old) (g.faults now) (g.faults later) result
  step_kept s from most upto old now later c new rs result kept answer =
      let a = answered s (is_set_yet rs) (tip_from from rs) c new (g.files now) (g.faults now) (g.faults later) result kept.fresh kept.settings kept.set kept.tip answer in
      (a.0, subst (λ (f : Option Files). StepAnswer s (is_set_yet rs) (tip_from from rs) f (g.faults now) (g.faults later) result) kept.reads.files a.1)

  both_read : (old now later : V) → OnlyReads g old now → OnlyReads g now later → OnlyReads g old later
  both_read old now later first second = record { files = second.files ∙ first.files; past = second.past ∙ first.past; faults = omega (arith, first.faults, second.faults) }

  short_of : (from : ℕ) (upto : Option Lsn) (c : Cursor) (rs : List Record) → c.tip ≡ tip_from from rs → is_reached upto c.tip.end ≡ false → is_reached upto (tip_from from rs).end ≡ false
  short_of from upto c rs at short = subst (λ (t : Tip). is_reached upto t.end ≡ false) at short

  -- an entry that the cursor gave
  pub next_read : (s : StoreSettings) (from most : ℕ) (upto : Option Lsn) (old now later : V) (c new : Cursor) (rs : List Record) (r : Record) → HasPiece s from upto most old now c rs → length rs < most → StepsBefore g upto c new now later (Ok (Some r))
      → OnlyReads g now later → HasPiece s from upto most old later new (rs ++ (r ∷ []))
  next_read s from most upto old now later c new rs r kept room (inl stays) reads = absurd (let e : ◌≡◌ {A = Result (Option Record) WalFault} (Ok (Some r)) (Ok None) = stays.1.1 in cc)
  next_read s from most upto old now later c new rs r kept room (inr steps) reads =
      let a = step_kept s from most upto old now later c new rs (Ok (Some r)) kept steps.1 in
      let gives = found_told s (g.files old) from rs (Gives r) a.1.1 in
      subst (λ (cursor : Cursor). HasPiece s from upto most old later cursor (rs ++ (r ∷ []))) (sym a.0)
      (record {
        fresh = kept.fresh;
        settings = kept.settings;
        set = sym (set_push rs r);
        tip = ap (λ (t : Tip). tip_after t r) kept.tip ∙ sym (tip_behind-append (tip_at from) rs (r ∷ []));
        reads = both_read old now later kept.reads reads;
        few = omega (arith, room, length-append rs (r ∷ []));
        before = before_push upto (tip_at from) rs r kept.before (short_of from upto c rs kept.tip steps.0);
        given = given_push s.segment (tip_at from) rs r kept.given a.1.0;
        read = when_both_told (g.files old) (λ m. ReadsFrom s m from rs (tip_from from rs)) (λ m. found_from s m from rs (tip_from from rs) ≡ Gives r) (λ m. ReadsFrom s m from (rs ++ (r ∷ [])) (tip_from from (rs ++ (r ∷ []))))
            (λ m walk e. from_push s m from rs r walk e) kept.read gives;
      })

  -- no entry follows
  pub piece_ended : (s : StoreSettings) (from most : ℕ) (upto : Option Lsn) (old now later : V) (c new : Cursor) (rs : List Record) → HasPiece s from upto most old now c rs → StepsBefore g upto c new now later (Ok None) → IsPiece s (g.files old) from upto most rs
  piece_ended s from most upto old now later c new rs kept (inl stays) = record {
    few = kept.few;
    before = kept.before;
    given = kept.given;
    read = kept.read;
    whole = λ room short. absurd (is_and_isn't (is_reached upto (tip_from from rs).end) (subst (λ (t : Tip). is_reached upto t.end ≡ true) kept.tip stays.0) short);
  }
  piece_ended s from most upto old now later c new rs kept (inr steps) =
      let a = step_kept s from most upto old now later c new rs (Ok None) kept steps.1 in
      record {
        few = kept.few;
        before = kept.before;
        given = kept.given;
        read = kept.read;
        whole = λ room short. found_told s (g.files old) from rs End a.1;
      }

  -- it is full
  pub piece_filled : (s : StoreSettings) (from most : ℕ) (upto : Option Lsn) (old now : V) (c : Cursor) (rs : List Record) → HasPiece s from upto most old now c rs → most ≤ length rs → IsPiece s (g.files old) from upto most rs
  piece_filled s from most upto old now c rs kept full = record {
    few = kept.few;
    before = kept.before;
    given = kept.given;
    read = kept.read;
    whole = λ room short. absurd (omega (arith, room, full));
  }

  -- a refusal
  damaged : (s : StoreSettings) (files : Option Files) (from most : ℕ) (upto : Option Lsn) (rs : List Record) (damage : Damage) → length rs < most → AreBefore upto from rs → is_reached upto (tip_from from rs).end ≡ false
      → IfSome files (λ m. ReadsFrom s m from rs (tip_from from rs)) → IfSome files (λ m. found_from s m from rs (tip_from from rs) ≡ Bad damage) → IfSome files (λ m. HasDamagedPiece s m from upto most damage)
  damaged s files from most upto rs damage room before short read broken =
      when_both_told files (λ m. ReadsFrom s m from rs (tip_from from rs)) (λ m. found_from s m from rs (tip_from from rs) ≡ Bad damage) (λ m. HasDamagedPiece s m from upto most damage)
      (λ m walk bad. record { entries = rs; few = room; before = before; short = short; read = walk; broken = bad }) read broken

  refused : (s : StoreSettings) (from most : ℕ) (upto : Option Lsn) (old now later : V) (c : Cursor) (rs : List Record) (w : WalFault) → HasPiece s from upto most old now c rs → length rs < most → is_reached upto (tip_from from rs).end ≡ false
      → CauseOf (step_causes s (is_set_yet rs) (tip_from from rs) (g.files old)) (g.faults now) (g.faults later) w → CauseOf (piece_causes s (g.files old) from upto most) (g.faults old) (g.faults later) w
  refused s from most upto old now later c rs (wal.Damaged damage) kept room short cause =
      damaged s (g.files old) from most upto rs damage room kept.before short kept.read (found_told s (g.files old) from rs (Bad damage) cause)
  refused s from most upto old now later c rs wal.SettingsDamaged kept room short cause = absurd cause
  refused s from most upto old now later c rs (wal.Timeline name) kept room short cause = absurd cause
  refused s from most upto old now later c rs wal.NotInit kept room short cause = absurd cause
  refused s from most upto old now later c rs wal.Failed kept room short cause = rose_earlier (g.faults old) (g.faults now) (g.faults later) kept.reads.faults cause
  refused s from most upto old now later c rs wal.NoMemory kept room short cause = tt

  pub piece_refused : (s : StoreSettings) (from most : ℕ) (upto : Option Lsn) (old now later : V) (c new : Cursor) (rs : List Record) (w : WalFault) → HasPiece s from upto most old now c rs → length rs < most → StepsBefore g upto c new now later (Err w)
      → CauseOf (piece_causes s (g.files old) from upto most) (g.faults old) (g.faults later) w
  piece_refused s from most upto old now later c new rs w kept room (inl stays) = absurd (let e : ◌≡◌ {A = Result (Option Record) WalFault} (Err w) (Ok None) = stays.1.1 in cc)
  piece_refused s from most upto old now later c new rs w kept room (inr steps) =
      let a = step_kept s from most upto old now later c new rs (Err w) kept steps.1 in
      refused s from most upto old now later c rs w kept room (short_of from upto c rs kept.tip steps.0) a.1
