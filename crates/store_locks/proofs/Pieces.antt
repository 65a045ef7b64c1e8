-- What is answered of the records that a store's WAL has for its history.
use Rattle.std.proofs.Common.{◌≡◌, ℕ, ◌<◌, ◌≤◌, ◌||◌, Bool, true, false, Result, Ok, Err, IfOk, IfErr, IsOk, List, [], ◌∷◌, take, get_or, Option, Some, IsSome, IfSome, refl, sym, ap, subst, ◌∙◌, arith, inl, inr}
use Rattle.std.specs.Prelude.{◌==◌, nat_le, slice_index_or}
use Rattle.std.specs.Global.{Vec}
use Rattle.std.specs.List.{All, list_any}
use Rattle.std.proofs.Math.Seq.{take-nil}
use Rattle.std.specs.Ordering.{is_le, nat_cmp}
use Rattle.std.specs.Cmp.{nat_cmp_is}
use Rattle.std.specs.declared.cmp.Ordering.TheVariants.{Less, Equal}
use Rattle.std.proofs.lemmas.Bool.{cases_lt, eq-eqb, or_right}
use Rattle.std.proofs.lemmas.List.Elements.{All-nil, All-from_get_or, All-filter, All-take, All-same}
use Rattle.std.proofs.lemmas.List.Folds.{list_any_at, list_any-append}
use Rattle.lsn_core.specs.Files.{Files}
use Rattle.lsn_core.specs.Segment.{IsSegmentMib, StoreSettings, segment_bytes}
use Rattle.lsn_core.specs.Tip.{Tip}
use Rattle.lsn_core.specs.declared.lsn.Lsn.{Lsn}
use Rattle.lsn_core.specs.declared.fault.StoreArea.TheVariants.{Wal}
use Rattle.lsn_core.specs.declared.fault.StoreFault.{StoreFault}
use Rattle.lsn_core.specs.declared.fault.StoreFault.TheVariants as store
use Rattle.vault.specs.Frame.{OnlyReads}
use Rattle.vault.specs.declared.area.Vault.{Ghosts}
use Rattle.wal_pages.specs.Places.{start_after}
use Rattle.wal_record.specs.declared.record.Record.{Record}
use Rattle.wal_record.specs.Tips.{tip_after}
use Rattle.wal_archive.specs.Rules.{lsn}
use Rattle.wal_archive.specs.declared.fault.Damage.{Damage}
use Rattle.wal_reader.specs.declared.fault.WalFault.{WalFault}
use Rattle.wal_reader.specs.declared.fault.WalFault.TheVariants as wal
use Rattle.wal_reader.specs.Wal.{tip_at}
use Rattle.wal_writer.specs.Log.{Log, IsLog}
use Rattle.wal_reader.specs.wal_pieces.Piece.{AreGiven, IsPiece, HasDamagedPiece, PieceAnswer}
use Rattle.wal_reader.specs.wal_pieces.Laws.{is_place_of as is_record_place, IsPlaceAmong, from_place}
use Rattle.wal_reader.proofs.wal_pieces.Places.{Rise, known_rise, going_on, going_on_whole, none_behind}
use Rattle.history.specs.Entry.{Entry}
use Rattle.history.specs.Written.{tip_of}
use Rattle.history.specs.fuzzy_copies.Logged.{log_of}
use Rattle.journal.specs.Lawful.{StandInPlace}
use Rattle.journal.specs.Journal.{EndsWith, Written, IsJournal}
use Rattle.journal.proofs.Ends.{entry_ends, record_ends, log_ends}
use Rattle.journal.proofs.Stands.{start_later}
use Rattle.store_locks.specs.Open.{IsWalOf}
use Rattle.store_locks.specs.Records.{is_place_of, IsPlaceOf, ArePartOf, HasRecords, EndBehind, AreSome, RecordsEndAtEntries, PlacesStay}
use Rattle.store_locks.specs.Inside.{AreaCause, KeepsWal, EndsAtDamage, written_end}
use Rattle.store_locks.specs.Calls.{MayWriteWal}
use Rattle.store_locks.proofs.Goes.{writes_none, writes_on}
use Rattle.store_locks.proofs.Recorded.{IsHeld, history_held, some_of}

-- ---- the places of a history's entries are those of its records

first_same : (a b : ℕ) (ms ns : List ℕ) → ◌≡◌ {A = List ℕ} (a ∷ ms) (b ∷ ns) → a ≡ b
first_same a b ms ns e = cc

rest_same : (a b : ℕ) (ms ns : List ℕ) → ◌≡◌ {A = List ℕ} (a ∷ ms) (b ∷ ns) → ms ≡ ns
rest_same a b ms ns e = cc

places_same : (mib at place : ℕ) (rs : List Record) (es : List Entry) → Rise mib at rs → StandInPlace mib at es → record_ends rs ≡ entry_ends es → list_any (is_record_place place) rs ≡ list_any (is_place_of place) es
places_same mib at place [] [] rise stand ends = refl
places_same mib at place [] (e ∷ es) rise stand ends = absurd (let c : ◌≡◌ {A = List ℕ} [] (e.end ∷ entry_ends es) = ends in cc)
places_same mib at place (r ∷ rs) [] rise stand ends = absurd (let c : ◌≡◌ {A = List ℕ} (r.end.0 ∷ record_ends rs) [] = ends in cc)
places_same mib at place (r ∷ rs) (e ∷ es) rise stand ends =
    let start : r.start.0 ≡ e.start = rise.0.start ∙ sym stand.0 in
    let end : r.end.0 ≡ e.end = first_same r.end.0 e.end (record_ends rs) (entry_ends es) ends in
    let more = places_same mib r.end.0 place rs es rise.1 (subst (λ (n : ℕ). StandInPlace mib n es) (sym end) stand.2) (rest_same r.end.0 e.end (record_ends rs) (entry_ends es) ends) in
    ap (λ (n : ℕ). ((n == place) || (r.end.0 == place)) || list_any (is_record_place place) rs) start
    ∙ (ap (λ (n : ℕ). ((e.start == place) || (n == place)) || list_any (is_record_place place) rs) end
    ∙ ap (λ (b : Bool). ((e.start == place) || (e.end == place)) || b) more)

-- by what is held of a history
held_places : (s : StoreSettings) (history : List Entry) (files : Files) (place : ℕ) → IsSegmentMib s.segment → (h : IsHeld s.segment s.system history files)
    → list_any (is_record_place place) (log_of s.segment h.lawful.found h.lawful.own) ≡ list_any (is_place_of place) history
held_places s history files place size h =
    let log : List Record = log_of s.segment h.lawful.found h.lawful.own in
    let rise = known_rise s files log h.held.tip size h.held.walk in
    let ends : record_ends log ≡ entry_ends history = log_ends s.segment h.lawful.found h.lawful.own h.lawful.logged ∙ ap entry_ends (sym h.lawful.grown) in
    places_same s.segment (segment_bytes s.segment) place log history rise h.lawful.places ends

-- ---- a piece of what is held

-- the first records of what is held of a history, from a place on
pub record IsPart (s : StoreSettings) (history : List Entry) (files : Files) (from most : ℕ) (records : List Record) : Type 0 where
  pub held : IsHeld s.segment s.system history files
  pub are : records ≡ take most (from_place from (log_of s.segment held.lawful.found held.lawful.own))

part_of : (s : StoreSettings) (history : List Entry) (o : Option Files) (files : Files) (from most : ℕ) (records : List Record) → o ≡ Some files → IsPart s history files from most records → ArePartOf s history o from most records
part_of s history o files from most records e p = record {
  lawful = p.held.lawful;
  files = files;
  told = e;
  held = record { tip = p.held.held.tip; at = p.held.held.at; read = p.held.held.walk; whole = p.held.held.whole };
  are = p.are;
}

-- behind its end there is none
part_none : (s : StoreSettings) (history : List Entry) (files : Files) (from most : ℕ) → IsSegmentMib s.segment → IsHeld s.segment s.system history files → (tip_of s.segment history).end ≤ from → IsPart s history files from most []
part_none s history files from most size h le =
    let log : List Record = log_of s.segment h.lawful.found h.lawful.own in
    let none : from_place from log ≡ [] = none_behind s files log h.held.tip from size h.held.walk (let at = h.held.at in omega (arith, le, at)) in
    record { held = h; are = sym (ap (take most) none ∙ take-nil most) }

at_tip : (s : StoreSettings) (files : Option Files) (at top end most : ℕ) (records : List Record) → end ≡ top → IsPiece s files at (Some (lsn top)) most records → IsPiece s files at (Some (lsn end)) most records
at_tip s files at top end most records e p = subst (λ (n : ℕ). IsPiece s files at (Some (lsn n)) most records) (sym e) p

-- before it a piece is
part_piece : (s : StoreSettings) (history : List Entry) (files : Files) (from most : ℕ) (records : List Record) → IsSegmentMib s.segment → IsHeld s.segment s.system history files → IsPlaceOf history from → from < (tip_of s.segment history).end
    → IsPiece s (Some files) (start_after s.segment from) (Some (lsn (tip_of s.segment history).end)) most records → IsPart s history files from most records
part_piece s history files from most records size h place below p =
    let log : List Record = log_of s.segment h.lawful.found h.lawful.own in
    let there : IsPlaceAmong log from = held_places s history files from size h ∙ place in
    record {
      held = h;
      are = going_on s files log records h.held.tip from most size h.held.walk there (let at = h.held.at in omega (arith, below, at))
          (at_tip s (Some files) (start_after s.segment from) (tip_of s.segment history).end h.held.tip.end most records h.held.at p);
    }

-- and it meets no damage
part_whole : (s : StoreSettings) (history : List Entry) (files : Files) (from most : ℕ) (damage : Damage) → IsSegmentMib s.segment → IsHeld s.segment s.system history files → IsPlaceOf history from → from < (tip_of s.segment history).end
    → HasDamagedPiece s files (start_after s.segment from) (Some (lsn (tip_of s.segment history).end)) most damage → ⊥
part_whole s history files from most damage size h place below p =
    let log : List Record = log_of s.segment h.lawful.found h.lawful.own in
    let there : IsPlaceAmong log from = held_places s history files from size h ∙ place in
    going_on_whole s files log h.held.tip from most damage size h.held.walk there (let at = h.held.at in omega (arith, below, at))
    (subst (λ (n : ℕ). HasDamagedPiece s files (start_after s.segment from) (Some (lsn n)) most damage) (sym h.held.at) p)

-- ---- what is answered

-- all of a WAL is flushed, which ends where its history does
pub record IsWholeFlushed {V : Type 0} (journal : Written V) : Type 0 where
  pub known : IsLog journal.wal.tail
  pub ended : EndsWith journal.wal.tail journal.pen
  pub all : journal.wal.tail.flushed ≡ journal.wal.tail.tip.end

pub whole_flushed : {V : Type 0} (j : Written V) → IsLog j.wal.tail → EndsWith j.wal.tail j.pen → j.wal.tail.flushed ≡ written_end j → IsWholeFlushed j
whole_flushed j known ended all = record { known = known; ended = ended; all = all ∙ ended.end }

-- the WAL's area tells its files, and these hold the history
record IsToldNow {V : Type 0} (g : Ghosts V) (s : StoreSettings) (j : Written V) : Type 0 where
  files : Files
  told : g.files j.wal.area ≡ Some files
  held : IsHeld s.segment s.system j.pen files
  size : IsSegmentMib s.segment
  top : j.wal.tail.flushed ≡ (tip_of s.segment j.pen).end

told_now : {V : Type 0} (g : Ghosts V) (s : StoreSettings) (tells : Type 0) (j : Written V) → IsWholeFlushed j → IsWalOf g s tells j.wal 0 → IsJournal g j.wal j.pen j.pages → tells → IsToldNow g s j
told_now g s tells j w is told t =
    let found = some_of (g.files j.wal.area) (is.told t) in
    let h = history_held j.wal.tail (g.files j.wal.area) found.0 j.pen j.pages w.known found.1 told w.all in
    record {
      files = found.0;
      told = found.1;
      held = subst (λ n. IsHeld s.segment n j.pen found.0) is.system (subst (λ n. IsHeld n j.wal.tail.system j.pen found.0) is.segment h);
      size = subst IsSegmentMib is.segment w.known.segment;
      top = w.all ∙ (sym w.ended.end ∙ ap (λ (n : ℕ). (tip_of n j.pen).end) is.segment);
    }

pub none_read : {V : Type 0} (g : Ghosts V) (s : StoreSettings) (tells : Type 0) (j : Written V) (from most : ℕ) (v : Vec Record) → IsWholeFlushed j → IsWalOf g s tells j.wal 0 → (tells → IsJournal g j.wal j.pen j.pages) → j.wal.tail.tip.end ≤ from → v.items ≡ []
    → tells → ArePartOf s j.pen (g.files j.wal.area) from most v.items
none_read g s tells j from most v w is told le none t =
    let n = told_now g s tells j w is (told t) t in
    subst (λ (rs : List Record). ArePartOf s j.pen (g.files j.wal.area) from most rs) (sym none)
    (part_of s j.pen (g.files j.wal.area) n.files from most [] n.told
    (part_none s j.pen n.files from most n.size n.held (let top = n.top in let all = w.all in omega (arith, le, top, all))))

-- a reading behind a place that ends as it is taken
answered_part : (s : StoreSettings) (history : List Entry) (o : Option Files) (files : Files) (from most top before now : ℕ) (read : Result (Vec Record) WalFault) (result : Result (Vec Record) StoreFault) → o ≡ Some files → IsSegmentMib s.segment
    → IsHeld s.segment s.system history files → IsPlaceOf history from → top ≡ (tip_of s.segment history).end → from < top → PieceAnswer s o (start_after s.segment from) (Some (lsn top)) most before now read → EndsAtDamage read result
    → IfOk result (λ v. ArePartOf s history o from most v.items)
answered_part s history o files from most top before now (Ok v) result e size h place up below answer ends =
    let p : IsPiece s (Some files) (start_after s.segment from) (Some (lsn (tip_of s.segment history).end)) most v.items =
    subst (λ (n : ℕ). IsPiece s (Some files) (start_after s.segment from) (Some (lsn n)) most v.items) up (subst (λ (x : Option Files). IsPiece s x (start_after s.segment from) (Some (lsn top)) most v.items) e answer) in
    subst (λ (r : Result (Vec Record) StoreFault). IfOk r (λ v. ArePartOf s history o from most v.items)) (sym ends)
    (part_of s history o files from most v.items e (part_piece s history files from most v.items size h place (omega (arith, below, up)) p))
answered_part s history o files from most top before now (Err (wal.Damaged damage)) result e size h place up below answer ends =
    let d : HasDamagedPiece s files (start_after s.segment from) (Some (lsn top)) most damage =
    subst (λ (x : Option Files). IfSome x (λ m. HasDamagedPiece s m (start_after s.segment from) (Some (lsn top)) most damage)) e answer in
    absurd (part_whole s history files from most damage size h place (omega (arith, below, up)) (subst (λ (n : ℕ). HasDamagedPiece s files (start_after s.segment from) (Some (lsn n)) most damage) up d))
answered_part s history o files from most top before now (Err wal.SettingsDamaged) result e size h place up below answer ends = absurd answer
answered_part s history o files from most top before now (Err (wal.Timeline name)) result e size h place up below answer ends = absurd answer
answered_part s history o files from most top before now (Err wal.NotInit) result e size h place up below answer ends = absurd answer
answered_part s history o files from most top before now (Err wal.Failed) result e size h place up below answer ends = subst (λ (r : Result (Vec Record) StoreFault). IfOk r (λ v. ArePartOf s history o from most v.items)) (sym ends) tt
answered_part s history o files from most top before now (Err wal.NoMemory) result e size h place up below answer ends = subst (λ (r : Result (Vec Record) StoreFault). IfOk r (λ v. ArePartOf s history o from most v.items)) (sym ends) tt

pub part_read : {V : Type 0} (g : Ghosts V) (s : StoreSettings) (tells : Type 0) (j new : Written V) (from start most before now : ℕ) (read : Result (Vec Record) WalFault) (result : Result (Vec Record) StoreFault) → IsWholeFlushed j → IsWalOf g s tells j.wal 0
    → (tells → IsJournal g j.wal j.pen j.pages) → (tells → IsPlaceOf j.pen from) → from < j.wal.tail.tip.end → start ≡ start_after s.segment from → PieceAnswer s (g.files j.wal.area) start (Some (lsn j.wal.tail.flushed)) most before now read → EndsAtDamage read result
    → g.files new.wal.area ≡ g.files j.wal.area → new.pen ≡ j.pen → tells → IfOk result (λ v. ArePartOf s new.pen (g.files new.wal.area) from most v.items)
part_read g s tells j new from start most before now read result w is told place below starts answer ends files pen t =
    let n = told_now g s tells j w is (told t) t in
    let done : IfOk result (λ v. ArePartOf s j.pen (g.files j.wal.area) from most v.items) =
    answered_part s j.pen (g.files j.wal.area) n.files from most j.wal.tail.flushed before now read result n.told n.size n.held (place t) n.top (let all = w.all in omega (arith, below, all))
    (subst (λ (x : ℕ). PieceAnswer s (g.files j.wal.area) x (Some (lsn j.wal.tail.flushed)) most before now read) starts answer) ends in
    subst (λ (h : List Entry). IfOk result (λ v. ArePartOf s h (g.files new.wal.area) from most v.items)) (sym pen)
    (subst (λ (o : Option Files). IfOk result (λ v. ArePartOf s j.pen o from most v.items)) (sym files) done)

-- a reading leaves the WAL
pub keeps_read : {V : Type 0} (g : Ghosts V) (old new : Written V) → IsLog old.wal.tail → EndsWith old.wal.tail old.pen → OnlyReads g old.wal.area new.wal.area → new.wal.tail ≡ old.wal.tail → new.pen ≡ old.pen → new.pages ≡ old.pages → KeepsWal g old new
keeps_read g old new is ends reads tail pen pages =
    let place : new.wal.tail.flushed ≡ old.wal.tail.flushed = ap (λ (l : Log). l.flushed) tail in
    record {
      pen = pen;
      pages = pages;
      segment = ap (λ (l : Log). l.mib) tail;
      system = ap (λ (l : Log). l.system) tail;
      flushed = omega (arith, place);
      within = (let p = is.pending in let e = ends.end in omega (arith, place, p, e));
      files = subst (λ (o : Option Files). MayWriteWal old.wal.tail.mib old.wal.tail.flushed (written_end old) (g.files old.wal.area) o) (sym reads.files) (writes_none old.wal.tail.mib old.wal.tail.flushed (written_end old) (g.files old.wal.area));
      told = λ some. subst (λ (o : Option Files). IsSome o) (sym reads.files) some;
      faults = reads.faults;
    }

-- places compared
le_is_le : (a b : ℕ) → a ≤ b → is_le (nat_cmp a b) ≡ true
le_is_le a b le =
    elim (cases_lt a b) [
      | inl lt ↦ ap is_le (sym (nat_cmp_is a b Less lt))
      | inr ge ↦ ap is_le (sym (nat_cmp_is a b Equal (let e : a ≡ b = omega (arith, le, ge) in e)))
    ]

pub not_le : (a b : ℕ) → is_le (nat_cmp a b) ≡ false → b < a
not_le a b not =
    elim (cases_lt b a) [
      | inl lt ↦ lt
      | inr le ↦ absurd (let c : true ≡ false = sym (le_is_le a b le) ∙ not in cc)
    ]

-- ---- whatever the area tells

ends_behind : (mib place : ℕ) (tip : Tip) (rs : List Record) → place ≤ tip.end → AreGiven mib tip rs → EndBehind mib place rs
ends_behind mib place tip [] le given = tt
ends_behind mib place tip (r ∷ rs) le given =
    let later = given.0.later in
    (omega (arith, le, later), given.0.reached.within.most, given.0.sound, ends_behind mib r.end.0 (tip_after tip r) rs (omega arith) given.1)

some_none : (mib place most : ℕ) (v : Vec Record) → v.items ≡ [] → AreSome mib place most v.items
some_none mib place most v e = subst (λ (rs : List Record). AreSome mib place most rs) (sym e) (omega arith, tt)

ok_none : (mib place most : ℕ) (result : Result (Vec Record) StoreFault) → IfOk result (λ v. v.items ≡ []) → IfOk result (λ v. AreSome mib place most v.items)
ok_none mib place most (Ok v) e = some_none mib place most v e
ok_none mib place most (Err why) e = tt

pub some_read : (s : StoreSettings) (o : Option Files) (upto : Option Lsn) (from start most before now : ℕ) (read : Result (Vec Record) WalFault) (result : Result (Vec Record) StoreFault) → start ≡ start_after s.segment from
    → PieceAnswer s o start upto most before now read → EndsAtDamage read result → IfOk result (λ v. AreSome s.segment from most v.items)
some_read s o upto from start most before now (Ok v) result starts answer ends =
    subst (λ (r : Result (Vec Record) StoreFault). IfOk r (λ v. AreSome s.segment from most v.items)) (sym ends)
    (answer.few, ends_behind s.segment from (tip_at start) v.items (omega (arith, starts, start_later s.segment from)) answer.given)
some_read s o upto from start most before now (Err (wal.Damaged damage)) result starts answer ends = ok_none s.segment from most result ends.1
some_read s o upto from start most before now (Err wal.SettingsDamaged) result starts answer ends = ok_none s.segment from most result ends.1
some_read s o upto from start most before now (Err (wal.Timeline name)) result starts answer ends = ok_none s.segment from most result ends.1
some_read s o upto from start most before now (Err wal.NotInit) result starts answer ends = ok_none s.segment from most result ends.1
some_read s o upto from start most before now (Err wal.Failed) result starts answer ends = subst (λ (r : Result (Vec Record) StoreFault). IfOk r (λ v. AreSome s.segment from most v.items)) (sym ends) tt
some_read s o upto from start most before now (Err wal.NoMemory) result starts answer ends = subst (λ (r : Result (Vec Record) StoreFault). IfOk r (λ v. AreSome s.segment from most v.items)) (sym ends) tt

ok_no_fault : (before now : ℕ) (result : Result (Vec Record) StoreFault) → IsOk result → IfErr result (AreaCause Wal before now)
ok_no_fault before now (Ok v) is = tt
ok_no_fault before now (Err why) is = absurd cc

pub read_cause : (s : StoreSettings) (o : Option Files) (upto : Option Lsn) (start most before now : ℕ) (read : Result (Vec Record) WalFault) (result : Result (Vec Record) StoreFault)
    → PieceAnswer s o start upto most before now read → EndsAtDamage read result → IfErr result (AreaCause Wal before now)
read_cause s o upto start most before now (Ok v) result answer ends = subst (λ (r : Result (Vec Record) StoreFault). IfErr r (AreaCause Wal before now)) (sym ends) tt
read_cause s o upto start most before now (Err (wal.Damaged damage)) result answer ends = ok_no_fault before now result ends.0
read_cause s o upto start most before now (Err wal.SettingsDamaged) result answer ends = ok_no_fault before now result ends.0
read_cause s o upto start most before now (Err (wal.Timeline name)) result answer ends = ok_no_fault before now result ends.0
read_cause s o upto start most before now (Err wal.NotInit) result answer ends = ok_no_fault before now result ends.0
read_cause s o upto start most before now (Err wal.Failed) result answer ends = subst (λ (r : Result (Vec Record) StoreFault). IfErr r (AreaCause Wal before now)) (sym ends) (refl, answer)
read_cause s o upto start most before now (Err wal.NoMemory) result answer ends = subst (λ (r : Result (Vec Record) StoreFault). IfErr r (AreaCause Wal before now)) (sym ends) tt

-- ---- laws

ends_there : (r : Record) → is_record_place r.end.0 r ≡ true
ends_there r = or_right (r.start.0 == r.end.0) (r.end.0 == r.end.0) (eq-eqb r.end.0 r.end.0 refl)

all_there : (rs : List Record) → All (λ r. IsPlaceAmong rs r.end.0) rs
all_there [] = All-nil (λ (r : Record). IsPlaceAmong [] r.end.0)
all_there (q ∷ rs) =
    All-from_get_or (λ (r : Record). IsPlaceAmong (q ∷ rs) r.end.0) (q ∷ rs) q
    (λ i lt. list_any_at (is_record_place (get_or (q ∷ rs) i q).end.0) (q ∷ rs) i q lt (ends_there (get_or (q ∷ rs) i q)))

pub ends_at_entries : RecordsEndAtEntries
ends_at_entries s seen from most records size (wal, has) =
    let log : List Record = log_of s.segment has.lawful.found has.lawful.own in
    let h : IsHeld s.segment s.system seen has.files = record { lawful = has.lawful; held = record { tip = has.held.tip; at = has.held.at; walk = has.held.read; whole = has.held.whole } } in
    let P : Record → Type 0 = λ r. IsPlaceOf seen r.end.0 in
    let all : All P log = λ k d lt. sym (held_places s seen has.files (slice_index_or log k d).end.0 size h) ∙ all_there log k d lt in
    All-same P records (take most (from_place from log)) has.are (All-take P most (from_place from log) (All-filter (λ r. nat_le from r.start.0) P log all))

pub places_stay : PlacesStay
places_stay place old new is p =
    ap (list_any (is_place_of place)) (sym p.1) ∙ (list_any-append (is_place_of place) old p.0 ∙ ap (λ b. b || list_any (is_place_of place) p.0) is)

-- ---- of a WAL that is flushed first

pub keeps_on : {V : Type 0} (g : Ghosts V) (old mid new : Written V) → KeepsWal g old mid → KeepsWal g mid new → KeepsWal g old new
keeps_on g old mid new one two =
    let ends : written_end mid ≡ written_end old = cc (one.pen, one.segment) in
    let next = subst (λ n. MayWriteWal n mid.wal.tail.flushed (written_end mid) (g.files mid.wal.area) (g.files new.wal.area)) one.segment two.files in
    record {
      pen = two.pen ∙ one.pen;
      pages = two.pages ∙ one.pages;
      segment = two.segment ∙ one.segment;
      system = two.system ∙ one.system;
      flushed = omega (arith, one.flushed, two.flushed);
      within = omega (arith, two.within, ends);
      files = writes_on old.wal.tail.mib old.wal.tail.flushed (written_end old) mid.wal.tail.flushed (written_end old) (g.files old.wal.area) (g.files mid.wal.area) (g.files new.wal.area)
          one.flushed one.within (omega arith) one.files (subst (λ n. MayWriteWal old.wal.tail.mib mid.wal.tail.flushed n (g.files mid.wal.area) (g.files new.wal.area)) ends next);
      told = λ some. two.told (one.told some);
      faults = omega (arith, one.faults, two.faults);
    }

cause_one : (before mid now : ℕ) (why : StoreFault) → before ≤ mid → AreaCause Wal mid now why → AreaCause Wal before now why
cause_one before mid now (store.Failed other) le cause = (cause.0, omega (arith, le, cause.1))
cause_one before mid now store.NoMemory le cause = tt

pub cause_from : {T : Type 0} (before mid now : ℕ) (r : Result T StoreFault) → before ≤ mid → IfErr r (AreaCause Wal mid now) → IfErr r (AreaCause Wal before now)
cause_from before mid now (Ok x) le cause = tt
cause_from before mid now (Err why) le cause = cause_one before mid now why le cause

pub records_of : (s : StoreSettings) (old new : List Entry) (wal : Option Files) (from most : ℕ) (r : Result (Vec Record) StoreFault) → new ≡ old → IfOk r (λ v. ArePartOf s new wal from most v.items) → IfOk r (λ v. HasRecords s old from most v.items)
records_of s old new wal from most (Ok v) same is = (wal, subst (λ (l : List Entry). ArePartOf s l wal from most v.items) same is)
records_of s old new wal from most (Err why) same is = tt
