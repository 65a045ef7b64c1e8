-- From what is read behind an end, or at a place, to what stands there.
use Rattle.std.proofs.Common.{◌≡◌, ℕ, ◌≤◌, ◌==◌, Bool, true, false, cond, List, length, nat_le, Option, Some, None, IfSome, refl, sym, ap, subst, ◌∙◌, arith}
use Rattle.std.specs.Prelude.{Result, Ok, Err}
use Rattle.std.proofs.lemmas.Bool.{and_parts, leb-true}
use Rattle.lsn_core.specs.byte_words.Told.{when_told}
use Rattle.lsn_core.specs.Files.{Files}
use Rattle.lsn_core.specs.Segment.{StoreSettings, segment_bytes}
use Rattle.lsn_core.specs.Tip.{Tip}
use Rattle.lsn_core.specs.declared.lsn.Lsn.{Lsn}
use Rattle.wal_pages.specs.Places.{start_after, end_of}
use Rattle.wal_record.specs.declared.record.Record.{Record}
use Rattle.wal_record.specs.declared.record.RecordFault.{RecordFault}
use Rattle.wal_record.specs.declared.record.RecordFault.TheVariants as refusal
use Rattle.wal_record.specs.Decoding.{record_at}
use Rattle.wal_record.specs.Outcome.{Fails}
use Rattle.wal_record.specs.Sound.{IsSound}
use Rattle.wal_record.specs.Tips.{wal_limit}
use Rattle.wal_archive.specs.declared.fault.Damage.{Damage}
use Rattle.wal_archive.specs.declared.fault.ReadFault.{ReadFault}
use Rattle.wal_archive.specs.declared.fault.ReadFault.TheVariants as read
use Rattle.wal_archive.specs.Archive.{Archive, archive_of}
use Rattle.wal_archive.specs.Rules.{lsn, Judge, Found, End, Gives, Bad, judged, place_behind, next_bytes, next_in, set_bytes, first_in}
use Rattle.wal_reader.specs.declared.fault.WalFault.{WalFault}
use Rattle.wal_reader.specs.declared.fault.WalFault.TheVariants.{Damaged, SettingsDamaged, Timeline, NotInit, Failed, NoMemory}
use Rattle.wal_reader.specs.Causes.{CauseOf, wal_fault_read}
use Rattle.wal_reader.specs.Wal.{stands_behind, stands_at, tip_at}
use Rattle.wal_reader.specs.Cursor.{IsReached, IsGiven, step_causes, StepAnswer}
use Rattle.wal_reader.specs.Inside.{has_room, fault_at, judge_causes, JudgeAnswer, as_first_at, FirstAnswer}
use Rattle.wal_archive.specs.Reading.{Says, items_of, MayStart}
use Rattle.wal_reader.proofs.Reached.{IsBase, base, reached, later}
use Rattle.wal_reader.proofs.Room.{next_room, set_room, start_end}
use Rattle.wal_archive.proofs.Judged.{record_is_fair}

-- ---- what is found of what was read

ends : (judge : Judge) (mib system : ℕ) (a : Archive) (tip : Tip) → next_bytes a mib system tip.end ≡ Ok None → next_in judge mib system a tip ≡ End
unfolding next_in
ends judge mib system a tip e = rw e refl

breaks : (judge : Judge) (mib system : ℕ) (a : Archive) (tip : Tip) (d : Damage) → next_bytes a mib system tip.end ≡ Err d → next_in judge mib system a tip ≡ Bad d
unfolding next_in
breaks judge mib system a tip d e = rw e refl

goes_on : (judge : Judge) (mib system : ℕ) (a : Archive) (tip : Tip) (bytes : List ℕ) (f : Found) → next_bytes a mib system tip.end ≡ Ok (Some bytes) → judged (start_after mib tip.end) (judge (place_behind mib tip.end bytes) (Some (lsn tip.prev)) bytes) ≡ f → next_in judge mib system a tip ≡ f
unfolding next_in
goes_on judge mib system a tip bytes f e j = rw e j

both : {A : Type 0} (b : Bool) (x y z : A) → x ≡ z → y ≡ z → cond b x y ≡ z
both true x y z left right = left
both false x y z left right = right

ends_at : (judge : Judge) (mib system : ℕ) (a : Archive) (from : ℕ) → set_bytes a mib system from ≡ Ok None → first_in judge mib system a from ≡ End
unfolding first_in
ends_at judge mib system a from e = rw e (both (from == start_after mib (segment_bytes mib)) End End End refl refl)

breaks_at : (judge : Judge) (mib system : ℕ) (a : Archive) (from : ℕ) (d : Damage) → set_bytes a mib system from ≡ Err d → first_in judge mib system a from ≡ Bad d
unfolding first_in
breaks_at judge mib system a from d e = rw e (both (from == start_after mib (segment_bytes mib)) (Bad d) (Bad d) (Bad d) refl refl)

refused_at : (judge : Judge) (mib system : ℕ) (a : Archive) (from : ℕ) (bytes : List ℕ) (d : Damage) → set_bytes a mib system from ≡ Ok (Some bytes) → judged (start_after mib from) (judge (place_behind mib from bytes) None bytes) ≡ Bad d → first_in judge mib system a from ≡ Bad d
unfolding first_in
refused_at judge mib system a from bytes d e j = rw (e, j) (both (from == start_after mib (segment_bytes mib)) (Bad d) (Bad d) (Bad d) refl refl)

goes_on_at : (judge : Judge) (mib system : ℕ) (a : Archive) (from : ℕ) (bytes : List ℕ) (r : Record) → set_bytes a mib system from ≡ Ok (Some bytes) → judge (place_behind mib from bytes) None bytes ≡ Ok r → first_in judge mib system a from ≡ as_first_at mib from r
unfolding first_in
goes_on_at judge mib system a from bytes r e j = rw (e, j) refl

-- ---- a fault of the reading

pub behind_fault : (s : StoreSettings) (tip : Tip) (e : ℕ) (files : Option Files) (before now : ℕ) (fault : ReadFault) → e ≡ tip.end → Says (λ a. next_bytes a s.segment s.system e) items_of s.segment files before now (Err fault)
    → CauseOf (step_causes s false tip files) before now (wal_fault_read fault)
behind_fault s tip e files before now (read.Bad d) at says =
    when_told files (λ m. next_bytes (archive_of s.segment m) s.segment s.system e ≡ Err d) (λ m. stands_behind s m tip ≡ Bad d)
    (λ m h. breaks record_at s.segment s.system (archive_of s.segment m) tip d (subst (λ (n : ℕ). next_bytes (archive_of s.segment m) s.segment s.system n ≡ Err d) at h)) says
behind_fault s tip e files before now read.Failed at says = says
behind_fault s tip e files before now read.NoMemory at says = tt

pub at_fault : (s : StoreSettings) (from : ℕ) (files : Option Files) (before now : ℕ) (fault : ReadFault) → Says (λ a. set_bytes a s.segment s.system from) items_of s.segment files before now (Err fault)
    → CauseOf (step_causes s true (tip_at from) files) before now (wal_fault_read fault)
at_fault s from files before now (read.Bad d) says =
    when_told files (λ m. set_bytes (archive_of s.segment m) s.segment s.system from ≡ Err d) (λ m. stands_at s m from ≡ Bad d)
    (λ m h. breaks_at record_at s.segment s.system (archive_of s.segment m) from d h) says
at_fault s from files before now read.Failed says = says
at_fault s from files before now read.NoMemory says = tt

-- ---- the end

pub behind_ended : (s : StoreSettings) (tip : Tip) (e : ℕ) (files : Option Files) → e ≡ tip.end → IfSome files (λ m. next_bytes (archive_of s.segment m) s.segment s.system e ≡ Ok None) → IfSome files (λ m. stands_behind s m tip ≡ End)
behind_ended s tip e files at says =
    when_told files (λ m. next_bytes (archive_of s.segment m) s.segment s.system e ≡ Ok None) (λ m. stands_behind s m tip ≡ End)
    (λ m h. ends record_at s.segment s.system (archive_of s.segment m) tip (subst (λ (n : ℕ). next_bytes (archive_of s.segment m) s.segment s.system n ≡ Ok None) at h)) says

pub at_ended : (s : StoreSettings) (from : ℕ) (files : Option Files) → IfSome files (λ m. set_bytes (archive_of s.segment m) s.segment s.system from ≡ Ok None) → IfSome files (λ m. stands_at s m from ≡ End)
at_ended s from files says =
    when_told files (λ m. set_bytes (archive_of s.segment m) s.segment s.system from ≡ Ok None) (λ m. stands_at s m from ≡ End)
    (λ m h. ends_at record_at s.segment s.system (archive_of s.segment m) from h) says

-- ---- bytes that are judged

fault_judged : (mib end : ℕ) (prev : Option Lsn) (bytes : List ℕ) (start : ℕ) (fault : RecordFault) → start ≡ start_after mib end → Fails fault (record_at (place_behind mib end bytes) prev bytes) → CauseOf (judge_causes mib end prev bytes) 0 0 (fault_at start fault)
fault_judged mib end prev bytes start refusal.Length is says = rw (is, says) refl
fault_judged mib end prev bytes start refusal.Prev is says = rw (is, says) refl
fault_judged mib end prev bytes start refusal.Crc is says = rw (is, says) refl
fault_judged mib end prev bytes start (refusal.Unsupported manager info) is says = rw (is, says) refl
fault_judged mib end prev bytes start refusal.Header is says = rw (is, says) refl
fault_judged mib end prev bytes start (refusal.Content why) is says = rw (is, says) refl
fault_judged mib end prev bytes start refusal.NoMemory is says = tt

-- the same by the place that was judged
pub judged_fault : (mib end : ℕ) (prev : Option Lsn) (bytes : List ℕ) (start stop : Lsn) (fault : RecordFault) → start.0 ≡ start_after mib end → stop.0 ≡ end_of mib start.0 (length bytes)
    → Fails fault (record_at (record { start = start; end = stop }) prev bytes) → CauseOf (judge_causes mib end prev bytes) 0 0 (fault_at start.0 fault)
judged_fault mib end prev bytes start stop fault begins stops says =
    let first : start ≡ lsn (start_after mib end) = ap lsn begins in
    let last : stop ≡ lsn (end_of mib (start_after mib end) (length bytes)) = ap lsn (stops ∙ ap (λ (x : ℕ). end_of mib x (length bytes)) begins) in
    fault_judged mib end prev bytes start.0 fault begins
    (subst (λ (x : Lsn). Fails fault (record_at (record { start = lsn (start_after mib end); end = x }) prev bytes)) last (subst (λ (x : Lsn). Fails fault (record_at (record { start = x; end = stop }) prev bytes)) first says))

never : (b : Bool) → b ≡ true → b ≡ false → ⊥
never b there not = (let e : true ≡ false = sym there ∙ not in absurd cc)

-- what an entry is that was read behind an end
pub given : (mib : ℕ) (tip : Tip) (prev : Option Lsn) (bytes : List ℕ) (r : Record) → 1 ≤ mib → IsBase mib tip → 24 ≤ length bytes → has_room mib tip.end bytes ≡ true → record_at (place_behind mib tip.end bytes) prev bytes ≡ Ok r → IsSound r.kind → IsGiven mib tip r
given mib tip prev bytes r some is long room says sound =
    let place = record_is_fair (place_behind mib tip.end bytes) prev bytes r says in
    let start : r.start.0 ≡ start_after mib tip.end = ap (λ (l : Lsn). l.0) place.0 in
    let end : r.end.0 ≡ end_of mib (start_after mib tip.end) (length bytes) = ap (λ (l : Lsn). l.0) place.1 in
    let p = and_parts (nat_le (segment_bytes mib) (start_after mib tip.end)) (nat_le (end_of mib (start_after mib tip.end) (length bytes)) (wal_limit mib)) room in
    let least : segment_bytes mib ≤ start_after mib tip.end = leb-true _ _ p.0 in
    let most : end_of mib (start_after mib tip.end) (length bytes) ≤ wal_limit mib = leb-true _ _ p.1 in
    record {
      later = later mib (length bytes) tip r some long end;
      reached = reached mib (length bytes) tip r some is long start end (omega (arith, least, start)) (omega (arith, most, end));
      sound = sound;
    }

-- of a tip itself
judged_behind : (s : StoreSettings) (tip : Tip) (files : Option Files) (before now : ℕ) (bytes : List ℕ) (result : Result (Option Record) WalFault) → 1 ≤ s.segment → IsReached s.segment tip → 24 ≤ length bytes
    → IfSome files (λ m. next_bytes (archive_of s.segment m) s.segment s.system tip.end ≡ Ok (Some bytes)) → JudgeAnswer s.segment tip.end (Some (lsn tip.prev)) bytes result → StepAnswer s false tip files before now result
judged_behind s tip files before now bytes (Ok None) some is long says answer =
    when_told files (λ m. next_bytes (archive_of s.segment m) s.segment s.system tip.end ≡ Ok (Some bytes)) (λ m. stands_behind s m tip ≡ End)
    (λ m h. absurd (never (has_room s.segment tip.end bytes) (next_room s.segment s.system m tip.end bytes some is.ends h) answer)) says
judged_behind s tip files before now bytes (Ok (Some r)) some is long says answer = (
  given s.segment tip (Some (lsn tip.prev)) bytes r some (base s.segment tip is) long answer.0 answer.1.0 answer.1.1,
  when_told files (λ m. next_bytes (archive_of s.segment m) s.segment s.system tip.end ≡ Ok (Some bytes)) (λ m. stands_behind s m tip ≡ Gives r)
      (λ m h. goes_on record_at s.segment s.system (archive_of s.segment m) tip bytes (Gives r) h (ap (judged (start_after s.segment tip.end)) answer.1.0)) says,
)
judged_behind s tip files before now bytes (Err (Damaged d)) some is long says answer =
    when_told files (λ m. next_bytes (archive_of s.segment m) s.segment s.system tip.end ≡ Ok (Some bytes)) (λ m. stands_behind s m tip ≡ Bad d)
    (λ m h. goes_on record_at s.segment s.system (archive_of s.segment m) tip bytes (Bad d) h answer) says
judged_behind s tip files before now bytes (Err SettingsDamaged) some is long says answer = answer
judged_behind s tip files before now bytes (Err (Timeline name)) some is long says answer = answer
judged_behind s tip files before now bytes (Err NotInit) some is long says answer = answer
judged_behind s tip files before now bytes (Err Failed) some is long says answer = absurd (omega (arith, answer))
judged_behind s tip files before now bytes (Err NoMemory) some is long says answer = tt

-- of the places that it tells
pub behind_judged : (s : StoreSettings) (tip : Tip) (e p : ℕ) (files : Option Files) (before now : ℕ) (bytes : List ℕ) (result : Result (Option Record) WalFault) → 1 ≤ s.segment → IsReached s.segment tip → e ≡ tip.end → p ≡ tip.prev → 24 ≤ length bytes
    → IfSome files (λ m. next_bytes (archive_of s.segment m) s.segment s.system e ≡ Ok (Some bytes)) → JudgeAnswer s.segment e (Some (lsn p)) bytes result → StepAnswer s false tip files before now result
behind_judged s tip e p files before now bytes result some is at link long says answer =
    judged_behind s tip files before now bytes result some is long
    (subst (λ (n : ℕ). IfSome files (λ m. next_bytes (archive_of s.segment m) s.segment s.system n ≡ Ok (Some bytes))) at says)
    (subst (λ (n : ℕ). JudgeAnswer s.segment tip.end (Some (lsn n)) bytes result) link (subst (λ (n : ℕ). JudgeAnswer s.segment n (Some (lsn p)) bytes result) at answer))

base_at : (mib from : ℕ) → MayStart mib from → IsBase mib (tip_at from)
base_at mib from may = record { ends = start_end mib from may; redo = omega arith; count = omega arith }

-- at a place: bytes outside the room
pub at_outside : (s : StoreSettings) (from : ℕ) (files : Option Files) (bytes : List ℕ) → 1 ≤ s.segment → MayStart s.segment from → has_room s.segment from bytes ≡ false
    → IfSome files (λ m. set_bytes (archive_of s.segment m) s.segment s.system from ≡ Ok (Some bytes)) → IfSome files (λ m. stands_at s m from ≡ End)
at_outside s from files bytes some place outside says =
    when_told files (λ m. set_bytes (archive_of s.segment m) s.segment s.system from ≡ Ok (Some bytes)) (λ m. stands_at s m from ≡ End)
    (λ m h. absurd (never (has_room s.segment from bytes) (set_room s.segment s.system m from bytes some place h) outside)) says

-- refused bytes
pub at_refused : (s : StoreSettings) (from : ℕ) (files : Option Files) (before now : ℕ) (bytes : List ℕ) (fault : WalFault) → IfSome files (λ m. set_bytes (archive_of s.segment m) s.segment s.system from ≡ Ok (Some bytes))
    → CauseOf (judge_causes s.segment from None bytes) 0 0 fault → CauseOf (step_causes s true (tip_at from) files) before now fault
at_refused s from files before now bytes (Damaged d) says cause =
    when_told files (λ m. set_bytes (archive_of s.segment m) s.segment s.system from ≡ Ok (Some bytes)) (λ m. stands_at s m from ≡ Bad d)
    (λ m h. refused_at record_at s.segment s.system (archive_of s.segment m) from bytes d h cause) says
at_refused s from files before now bytes SettingsDamaged says cause = cause
at_refused s from files before now bytes (Timeline name) says cause = cause
at_refused s from files before now bytes NotInit says cause = cause
at_refused s from files before now bytes Failed says cause = absurd (omega (arith, cause))
at_refused s from files before now bytes NoMemory says cause = tt

-- an entry, which may not be the archive's first one
pub at_judged : (s : StoreSettings) (from : ℕ) (files : Option Files) (before now : ℕ) (bytes : List ℕ) (r : Record) (result : Result (Option Record) WalFault) → 1 ≤ s.segment → MayStart s.segment from → 24 ≤ length bytes → has_room s.segment from bytes ≡ true
    → IfSome files (λ m. set_bytes (archive_of s.segment m) s.segment s.system from ≡ Ok (Some bytes)) → record_at (place_behind s.segment from bytes) None bytes ≡ Ok r → IsSound r.kind → FirstAnswer s.segment from r result → StepAnswer s true (tip_at from) files before now result
at_judged s from files before now bytes r (Ok None) some place long room says read sound answer = absurd answer
at_judged s from files before now bytes r (Ok (Some q)) some place long room says read sound answer = subst (λ (x : Record). IsGiven s.segment (tip_at from) x × IfSome files (λ m. stands_at s m from ≡ Gives x)) (sym answer.0) (
  given s.segment (tip_at from) None bytes r some (base_at s.segment from place) long room read sound,
  when_told files (λ m. set_bytes (archive_of s.segment m) s.segment s.system from ≡ Ok (Some bytes)) (λ m. stands_at s m from ≡ Gives r)
      (λ m h. goes_on_at record_at s.segment s.system (archive_of s.segment m) from bytes r h read ∙ answer.1) says,
)
at_judged s from files before now bytes r (Err fault) some place long room says read sound answer =
    subst (λ (f : WalFault). CauseOf (step_causes s true (tip_at from) files) before now f) (sym answer.1) (
    when_told files (λ m. set_bytes (archive_of s.segment m) s.segment s.system from ≡ Ok (Some bytes)) (λ m. stands_at s m from ≡ Bad answer.0)
    (λ m h. goes_on_at record_at s.segment s.system (archive_of s.segment m) from bytes r h read ∙ answer.2) says
    )
