-- What is read of a WAL from one of its entries on, and what that makes of a sound copy. Of the WAL it is
-- known that no entry stands behind its records, whether it ends there or is damaged.
use Rattle.std.proofs.Common.{◌≡◌, ℕ, ◌/◌, ◌<◌, ◌≤◌, ◌⊎◌, Bool, true, false, cond, List, [], ◌∷◌, ◌++◌, map, Option, Some, None, refl, sym, ap, subst, ◌∙◌, arith, inl, inr}
use Rattle.std.specs.Prelude.{nat_le, ◌==◌, if◌then◌else◌}
use Rattle.std.specs.List.{list_any}
use Rattle.std.proofs.lemmas.Bool.{cases_Bool, eqb-true, le-leb, leb-true}
use Rattle.std.proofs.lemmas.List.Elements.{filter-append}
use Rattle.lsn_core.specs.Files.{Files}
use Rattle.lsn_core.specs.Segment.{IsSegmentMib, StoreSettings, segment_bytes}
use Rattle.lsn_core.specs.Store.{Store}
use Rattle.lsn_core.specs.Tip.{Tip}
use Rattle.lsn_core.specs.declared.lsn.Lsn.{Lsn}
use Rattle.wal_record.specs.Tips.{first_tip, tip_after, tip_behind}
use Rattle.wal_record.specs.declared.record.Record.{Record}
use Rattle.wal_record.proofs.Tips.{tip_behind-append}
use Rattle.wal_archive.specs.Archive.{Archive, archive_of}
use Rattle.wal_archive.specs.Rules.{Judge, Found, End, Gives, Bad, missing, next_bytes, next_in}
use Rattle.wal_reader.specs.Cursor.{found_at}
use Rattle.wal_reader.specs.Wal.{ReadsOn, stands_behind, stands_at, tip_at}
use Rattle.wal_reader.proofs.Reached.{first_reached}
use Rattle.history.specs.Entry.{Entry}
use Rattle.history.specs.Redo.{redo_all}
use Rattle.history.specs.Whole.{entry_of, whole}
use Rattle.history.specs.fuzzy_copies.Orderly.{RecordsRise}
use Rattle.history.specs.fuzzy_copies.Sound.{IsSoundCopy}
use Rattle.history.proofs.fuzzy_copies.Completed.{or_second}
use Rattle.history.proofs.fuzzy_copies.Ranges.{end_behind}
use Rattle.history.proofs.fuzzy_copies.Records.{records_complete}
use Rattle.history.proofs.fuzzy_copies.Repeats.{entries_rise}
use Rattle.recovery.specs.declared.reading.Beginning.TheVariants.{FirstEntry, AtPlace}
use Rattle.recovery.specs.Onward.{is_set_behind, found_on, IsReadFrom, replayed_to, ending_by, end_from}
use Rattle.recovery.specs.Onward as onward
use Rattle.recovery.proofs.OneWal.{Stops}
use Rattle.store_locks.specs.Records.{HoldsRecords}
use Rattle.wal_reader.proofs.wal_pieces.Onwards.{entry_found, goes_on}
use Rattle.backup_restore.proofs.Rising.{reads_rise, rise_from, parted_at, replayed_in, starts_behind, rest_rises, replayed_rest, none_left}

-- ---- no entry stands behind the records of a WAL

pub end_stops : (f : Found) → f ≡ End → Stops f
end_stops f e r gives = (let c : ◌≡◌ {A = Found} End (Gives r) = sym e ∙ gives in absurd cc)

-- where a file is missing none does
missing_stops : (judge : Judge) (mib system : ℕ) (a : Archive) (tip : Tip) → nat_le a.top tip.end ≡ false → a.has_file (tip.end / segment_bytes mib) ≡ false → next_in judge mib system a tip ≡ Bad (missing (tip.end / segment_bytes mib))
unfolding next_in next_bytes
missing_stops judge mib system a tip past none = rw (past, none) refl

pub none_behind : (s : StoreSettings) (records : List Record) (end : ℕ) (files : Files) (held : HoldsRecords s records end files) → Stops (stands_behind s files held.tip)
none_behind s records end files held =
    let a : Archive = archive_of s.segment files in
    elim (cases_Bool (nat_le a.top held.tip.end)) [
      | inl within ↦ end_stops (stands_behind s files held.tip) (held.whole (inl (leb-true a.top held.tip.end within))).ended
      | inr past ↦ elim (cases_Bool (a.has_file (held.tip.end / segment_bytes s.segment))) [
        | inl there ↦ end_stops (stands_behind s files held.tip) (held.whole (inr there)).ended
        | inr none ↦ λ r gives. (let e : stands_behind s files held.tip ≡ Bad (missing (held.tip.end / segment_bytes s.segment)) = missing_stops _ s.segment s.system a held.tip past none in let c : ◌≡◌ {A = Found} (Bad (missing (held.tip.end / segment_bytes s.segment))) (Gives r) = sym e ∙ gives in absurd cc)
      ]
    ]

-- ---- entries that are read rise

pub records_rise : (s : StoreSettings) (files : Files) (rs : List Record) (last : Tip) → IsSegmentMib s.segment → ReadsOn s files (first_tip s.segment) rs last → RecordsRise 0 rs
records_rise s files rs last size walk =
    rise_from 0 (first_tip s.segment).end rs (omega arith) (reads_rise s files (first_tip s.segment) rs last size (first_reached s.segment size) walk)

-- ---- from an entry on

pub record IsSplit (s : StoreSettings) (files : Files) (tip : Tip) (older rest : List Record) (last : Tip) : Type 0 where
  pub mid : Tip
  pub up : ReadsOn s files tip older mid
  pub on : ReadsOn s files mid rest last

pub split : (s : StoreSettings) (files : Files) (tip : Tip) (older rest : List Record) (last : Tip) → ReadsOn s files tip (older ++ rest) last → IsSplit s files tip older rest last
split s files tip [] rest last walk = record { mid = tip; up = refl; on = walk }
split s files tip (q ∷ older) rest last walk =
    let more = split s files (tip_after tip q) older rest last walk.1 in
    record { mid = more.mid; up = (walk.0, more.up); on = more.on }

-- the same entries are read behind an entry, whatever was read before it, and the same stands behind
-- them
record GoesTo (s : StoreSettings) (files : Files) (tip : Tip) (rs : List Record) (last : Tip) : Type 0 where
  to : Tip
  walk : ReadsOn s files tip rs to
  same : stands_behind s files to ≡ stands_behind s files last
  end : to.end ≡ last.end

goes_alike : (s : StoreSettings) (files : Files) (mid at : Tip) (r : Record) (rs : List Record) (last : Tip) → ReadsOn s files (tip_after mid r) rs last → GoesTo s files (tip_after at r) rs last
goes_alike s files mid at r [] last walk = record {
  to = tip_after at r;
  walk = refl;
  same = goes_on s files at mid r ∙ ap (stands_behind s files) (sym walk);
  end = ap (λ (t : Tip). t.end) (sym walk);
}
goes_alike s files mid at r (q ∷ rs) last walk =
    let more = goes_alike s files (tip_after mid r) (tip_after at r) q rs last walk.1 in
    record { to = more.to; walk = (goes_on s files at mid r ∙ walk.0, more.walk); same = more.same; end = more.end }

record IsRest (s : StoreSettings) (files : Files) (r : Record) (later : List Record) (last : Tip) : Type 0 where
  first : stands_at s files r.start.0 ≡ Gives r
  rest : GoesTo s files (tip_after (tip_at r.start.0) r) later last

rest_of : (s : StoreSettings) (files : Files) (older : List Record) (r : Record) (later : List Record) (last : Tip) → IsSegmentMib s.segment → ReadsOn s files (first_tip s.segment) (older ++ (r ∷ later)) last → IsRest s files r later last
rest_of s files older r later last size walk =
    let parts = split s files (first_tip s.segment) older (r ∷ later) last walk in
    record {
      first = entry_found s files older parts.mid r size parts.up parts.on.0;
      rest = goes_alike s files parts.mid (tip_at r.start.0) r later last parts.on.1;
    }

-- ---- up to a target

pub same_gives : (f : Found) (r q : Record) → f ≡ Gives r → f ≡ Gives q → r ≡ q
same_gives f r q a b = (let c : ◌≡◌ {A = Found} (Gives r) (Gives q) = sym a ∙ b in cc)

gives_before : (reached : Bool) (f : Found) (r : Record) → (if reached then End else f) ≡ Gives r → f ≡ Gives r
gives_before true f r gives = absurd cc
gives_before false f r gives = gives

ends_before : (reached : Bool) (f : Found) → (if reached then End else f) ≡ End → (reached ≡ true) ⊎ (f ≡ End)
ends_before true f ends = inl refl
ends_before false f ends = inr ends

pub given_there : (s : StoreSettings) (files : Files) (upto : Option Lsn) (set : Bool) (tip : Tip) (r : Record) → found_on s files upto set tip ≡ Gives r → found_at s set tip files ≡ Gives r
given_there s files None set tip r gives = gives
given_there s files (Some target) set tip r gives = gives_before (nat_le target.0 tip.end) (found_at s set tip files) r gives

-- a target is reached there, or the WAL ends there
abbrev ReachesOrEnds : StoreSettings → Files → Option Lsn → Bool → Tip → Tip → Type 0
ReachesOrEnds s files upto set tip to = ((replayed_to upto to ≤ tip.end) × (upto ≡ None → ⊥)) ⊎ (found_at s set tip files ≡ End)

ended_there : (s : StoreSettings) (files : Files) (upto : Option Lsn) (set : Bool) (tip to : Tip) → found_on s files upto set tip ≡ End → ReachesOrEnds s files upto set tip to
ended_there s files None set tip to ends = inr ends
ended_there s files (Some target) set tip to ends = elim (ends_before (nat_le target.0 tip.end) (found_at s set tip files) ends) [
  | inl reached ↦ inl (leb-true target.0 tip.end reached, λ none. absurd cc)
  | inr none ↦ inr none
]

-- a reading up to a target and one to the end have the same entries as far as they end by where a replay
-- does; and without a target they end at one place
pub record ReadsAlike (upto : Option Lsn) (last end to : Tip) (rs qs : List Record) : Type 0 where
  pub ending : ending_by (replayed_to upto to) rs ≡ ending_by (replayed_to upto to) qs
  pub whole : upto ≡ None → last.end ≡ end.end

pub reads_alike : (s : StoreSettings) (files : Files) (upto : Option Lsn) (tip last end to : Tip) (rs qs : List Record) → onward.ReadsOn s files upto false tip rs last → found_on s files upto false last ≡ End → ReadsOn s files tip qs end → Stops (stands_behind s files end) → RecordsRise tip.end qs → ReadsAlike upto last end to rs qs
reads_alike s files upto tip last end to [] [] reads stops walk none rise = record { ending = refl; whole = λ is. ap (λ (t : Tip). t.end) (reads ∙ sym walk) }
reads_alike s files upto tip last end to [] (q ∷ qs) reads stops walk none rise =
    let found : found_on s files upto false tip ≡ End = subst (λ (t : Tip). found_on s files upto false t ≡ End) reads stops in
    elim (ended_there s files upto false tip to found) [
      | inl reached ↦ record { ending = sym (none_left tip.end (replayed_to upto to) (q ∷ qs) reached.0 rise); whole = λ is. absurd (reached.1 is) }
      | inr ended ↦ absurd (end_stops (stands_behind s files tip) ended q walk.0)
    ]
reads_alike s files upto tip last end to (r ∷ rs) [] reads stops walk none rise =
    absurd (none r (subst (λ (t : Tip). stands_behind s files t ≡ Gives r) (sym walk) (given_there s files upto false tip r reads.0)))
reads_alike s files upto tip last end to (r ∷ rs) (q ∷ qs) reads stops walk none rise =
    let same : r ≡ q = same_gives (stands_behind s files tip) r q (given_there s files upto false tip r reads.0) walk.0 in
    let on : onward.ReadsOn s files upto false (tip_after tip q) rs last = subst (λ (x : Record). onward.ReadsOn s files upto false (tip_after tip x) rs last) same reads.1 in
    let more = reads_alike s files upto (tip_after tip q) last end to rs qs on stops walk.1 none rise.3 in
    record {
      ending = ap (λ (x : Record). ending_by (replayed_to upto to) (x ∷ rs)) same ∙ ap (λ (l : List Record). cond (nat_le q.end.0 (replayed_to upto to)) (q ∷ l) l) more.ending;
      whole = more.whole;
    }

-- the same of a reading that begins at an entry
from_entry : (s : StoreSettings) (files : Files) (upto : Option Lsn) (start : Lsn) (r : Record) (later entries : List Record) (last tip : Tip) → r.start.0 ≡ start.0 → IsRest s files r later last → Stops (stands_behind s files last) → RecordsRise r.start.0 (r ∷ later)
    → IsReadFrom s files (AtPlace start) upto entries tip End → start.0 < replayed_to upto tip → ReadsAlike upto tip last tip entries (r ∷ later)
from_entry s files upto start r later [] last tip starts is none rise read past =
    let begun : found_on s files upto true (tip_at start.0) ≡ End = subst (λ (t : Tip). found_on s files upto true t ≡ End) read.reads read.behind in
    let gives : stands_at s files start.0 ≡ Gives r = subst (λ (n : ℕ). stands_at s files n ≡ Gives r) starts is.first in
    elim (ended_there s files upto true (tip_at start.0) tip begun) [
      | inl reached ↦ absurd (omega (arith, reached.0, past))
      | inr ended ↦ absurd (end_stops (stands_at s files start.0) ended r gives)
    ]
from_entry s files upto start r later (e ∷ es) last tip starts is none rise read past =
    let gives : stands_at s files start.0 ≡ Gives r = subst (λ (n : ℕ). stands_at s files n ≡ Gives r) starts is.first in
    let same : e ≡ r = same_gives (stands_at s files start.0) e r (given_there s files upto true (tip_at start.0) e read.reads.0) gives in
    let on : onward.ReadsOn s files upto false (tip_after (tip_at start.0) r) es tip = subst (λ (x : Record). onward.ReadsOn s files upto false (tip_after (tip_at start.0) x) es tip) same read.reads.1 in
    let rest : GoesTo s files (tip_after (tip_at start.0) r) later last = subst (λ (n : ℕ). GoesTo s files (tip_after (tip_at n) r) later last) starts is.rest in
    let halts : Stops (stands_behind s files rest.to) = subst Stops (sym rest.same) none in
    let more = reads_alike s files upto (tip_after (tip_at start.0) r) tip rest.to tip es later on read.behind rest.walk halts rise.3 in
    record {
      ending = ap (λ (x : Record). ending_by (replayed_to upto tip) (x ∷ es)) same ∙ ap (λ (l : List Record). cond (nat_le r.end.0 (replayed_to upto tip)) (r ∷ l) l) more.ending;
      whole = λ is. more.whole is ∙ rest.end;
    }

-- ---- where the last entry ends

-- where an entry past a place ends there, the first one past the place ends there or before
ends_by : (last to : ℕ) (older : List Record) (r : Record) (later : List Record) → RecordsRise last (older ++ (r ∷ later)) → list_any (λ (e : Entry). e.end == to) (map entry_of (older ++ (r ∷ later))) ≡ true → r.start.0 < to → r.end.0 ≤ to
ends_by last to [] r later rise any past =
    elim (cases_Bool (r.end.0 == to)) [
      | inl is ↦ omega (arith, eqb-true r.end.0 to is)
      | inr not ↦ (let below = end_behind to r.end.0 (map entry_of later) (entries_rise r.end.0 later rise.3) (or_second (r.end.0 == to) (list_any (λ (e : Entry). e.end == to) (map entry_of later)) any not) in omega (arith, below))
    ]
ends_by last to (q ∷ older) r later rise any past =
    elim (cases_Bool (q.end.0 == to)) [
      | inl is ↦ absurd (omega (arith, eqb-true q.end.0 to is, starts_behind q.end.0 older r later rise.3, past))
      | inr not ↦ ends_by q.end.0 to older r later rise.3 (or_second (q.end.0 == to) (list_any (λ (e : Entry). e.end == to) (map entry_of (older ++ (r ∷ later)))) any not) past
    ]

end_alike : (t u : Tip) (rs : List Record) → t.end ≡ u.end → (tip_behind t rs).end ≡ (tip_behind u rs).end
end_alike t u [] same = same
end_alike t u (r ∷ rs) same = end_alike (tip_after t r) (tip_after u r) rs refl

-- ---- what is made of a sound copy

-- what is read from a sound copy's start on makes of the copy what all records make from nothing, and
-- ends where these do
pub record IsCompleted (s : StoreSettings) (records entries : List Record) (last tip : Tip) (copy : Store) (start : Lsn) (upto : Option Lsn) : Type 0 where
  pub made : redo_all copy (ending_by (replayed_to upto tip) entries) ≡ whole records (replayed_to upto tip)
  pub ends : end_from s.segment (AtPlace start) (ending_by (replayed_to upto tip) entries) ≡ end_from s.segment FirstEntry (ending_by (replayed_to upto tip) records)
  pub reached : upto ≡ None → tip.end ≡ last.end

pub completed : (s : StoreSettings) (files : Files) (records entries : List Record) (last tip : Tip) (copy : Store) (start : Lsn) (to : ℕ) (upto : Option Lsn) → IsSegmentMib s.segment → ReadsOn s files (first_tip s.segment) records last → Stops (stands_behind s files last)
    → IsSoundCopy copy (map entry_of records) start.0 to → IsReadFrom s files (AtPlace start) upto entries tip End → to ≤ replayed_to upto tip → IsCompleted s records entries last tip copy start upto
completed s files records entries last tip copy start to upto size walk none sound read far =
    let place : ℕ = replayed_to upto tip in
    let parts = parted_at start.0 records sound.starts in
    let rise : RecordsRise 0 records = records_rise s files records last size walk in
    let rise_parted = subst (λ (rs : List Record). RecordsRise 0 rs) parts.is rise in
    let is = rest_of s files parts.older parts.r parts.later last size (subst (λ (rs : List Record). ReadsOn s files (first_tip s.segment) rs last) parts.is walk) in
    let above : start.0 < to = sound.above in
    let alike = from_entry s files upto start parts.r parts.later entries last tip parts.starts is none (rest_rises 0 parts.older parts.r parts.later rise_parted) read (omega (arith, above, far)) in
    let replayed : replayed_in start.0 place records ≡ ending_by place (parts.r ∷ parts.later) =
    ap (replayed_in start.0 place) parts.is
    ∙ subst (λ (n : ℕ). replayed_in n place (parts.older ++ (parts.r ∷ parts.later)) ≡ ending_by place (parts.r ∷ parts.later)) parts.starts (replayed_rest 0 place parts.older parts.r parts.later rise_parted) in
    let within : parts.r.end.0 ≤ to = ends_by 0 to parts.older parts.r parts.later rise_parted (subst (λ (rs : List Record). list_any (λ (e : Entry). e.end == to) (map entry_of rs) ≡ true) parts.is sound.ends) (omega (arith, parts.starts, above)) in
    let rest : List Record = ending_by place parts.later in
    let first : ending_by place (parts.r ∷ parts.later) ≡ parts.r ∷ rest = ap (λ (b : Bool). cond b (parts.r ∷ rest) rest) (le-leb parts.r.end.0 place (omega (arith, within, far))) in
    let all : ending_by place records ≡ ending_by place parts.older ++ (parts.r ∷ rest) =
    ap (ending_by place) parts.is ∙ (filter-append (λ (q : Record). nat_le q.end.0 place) parts.older (parts.r ∷ parts.later) ∙ ap (λ (l : List Record). ending_by place parts.older ++ l) first) in
    record {
      made = ap (redo_all copy) (alike.ending ∙ sym replayed) ∙ records_complete copy records start.0 to place rise sound far;
      ends = ap (end_from s.segment (AtPlace start)) (alike.ending ∙ first)
          ∙ (end_alike (tip_after (tip_at start.0) parts.r) (tip_after (tip_behind (first_tip s.segment) (ending_by place parts.older)) parts.r) rest refl
          ∙ (ap (λ (t : Tip). t.end) (sym (tip_behind-append (first_tip s.segment) (ending_by place parts.older) (parts.r ∷ rest)))
          ∙ ap (end_from s.segment FirstEntry) (sym all)));
      reached = alike.whole;
    }

-- ---- the records of a WAL, read twice

cons_same : (r q : Record) (rs qs : List Record) → r ≡ q → rs ≡ qs → ◌≡◌ {A = List Record} (r ∷ rs) (q ∷ qs)
cons_same r q rs qs a b = rw (a, b) refl

-- the records of a WAL, behind which no entry stands, are read in one way
pub read_once : (s : StoreSettings) (files : Files) (tip : Tip) (rs qs : List Record) (last end : Tip) → ReadsOn s files tip rs last → Stops (stands_behind s files last) → ReadsOn s files tip qs end → Stops (stands_behind s files end) → rs ≡ qs
read_once s files tip [] [] last end p stop q halt = refl
read_once s files tip [] (q ∷ qs) last end p stop walk halt = absurd (stop q (subst (λ (t : Tip). stands_behind s files t ≡ Gives q) (sym p) walk.0))
read_once s files tip (r ∷ rs) [] last end walk stop q halt = absurd (halt r (subst (λ (t : Tip). stands_behind s files t ≡ Gives r) (sym q) walk.0))
read_once s files tip (r ∷ rs) (q ∷ qs) last end p stop walk halt =
    let same : r ≡ q = same_gives (stands_behind s files tip) r q p.0 walk.0 in
    cons_same r q rs qs same (read_once s files (tip_after tip r) rs qs last end p.1 stop (subst (λ (x : Record). ReadsOn s files (tip_after tip x) qs end) (sym same) walk.1) halt)

-- those that are read of it are its first ones
pub read_front : (s : StoreSettings) (files : Files) (tip : Tip) (rs qs : List Record) (last end : Tip) → ReadsOn s files tip rs last → ReadsOn s files tip qs end → Stops (stands_behind s files end) → (more : List Record) × (qs ≡ rs ++ more)
read_front s files tip [] qs last end p walk halt = (qs, refl)
read_front s files tip (r ∷ rs) [] last end walk q halt = absurd (halt r (subst (λ (t : Tip). stands_behind s files t ≡ Gives r) (sym q) walk.0))
read_front s files tip (r ∷ rs) (q ∷ qs) last end p walk halt =
    let same : r ≡ q = same_gives (stands_behind s files tip) r q p.0 walk.0 in
    let rest = read_front s files (tip_after tip r) rs qs last end p.1 (subst (λ (x : Record). ReadsOn s files (tip_after tip x) qs end) (sym same) walk.1) halt in
    (rest.0, cons_same q r qs (rs ++ rest.0) (sym same) rest.1)
