-- The entries of a run behind those that were found, and the records that they are read as.
use Rattle.std.proofs.Common.{◌≡◌, ℕ, suc, ◌≤◌, Bool, true, false, cond, List, [], ◌∷◌, ◌++◌, map, length, Option, Some, None, refl, sym, ap, subst, ◌∙◌, arith, inl, inr, true≢false, ⊎_elim}
use Rattle.std.specs.Prelude.{◌&&◌, nat_le}
use Rattle.std.specs.List.{All, filter}
use Rattle.std.specs.Option.{is_some}
use Rattle.std.specs.FinMap.{empty}
use Rattle.std.proofs.lemmas.Bool.Decides.{leb_tells}
use Rattle.std.proofs.lemmas.List.{map-append}
use Rattle.lsn_core.specs.Files.{Files}
use Rattle.lsn_core.specs.Segment.{StoreSettings}
use Rattle.lsn_core.specs.Store.{Store}
use Rattle.lsn_core.specs.Tip.{Tip}
use Rattle.wal_record.specs.declared.record.Record.{Record}
use Rattle.wal_record.specs.Decoding.{record_at}
use Rattle.wal_record.specs.Tips.{first_tip, tip_after}
use Rattle.wal_archive.specs.Archive.{archive_of}
use Rattle.wal_archive.specs.Writing.{IsLeft}
use Rattle.wal_archive.specs.Rules.{Found, Gives}
use Rattle.wal_archive.proofs.Chain.{walks_extended}
use Rattle.wal_archive.proofs.Read.{origin_end}
use Rattle.wal_archive.proofs.Files.{files_archive}
use Rattle.wal_archive.proofs.Judged.{record_is_fair}
use Rattle.wal_reader.specs.Wal.{stands_behind, ReadsOn, IsWal}
use Rattle.history.specs.Entry.{Entry, is_of_run}
use Rattle.history.specs.Apply.{apply_all}
use Rattle.history.specs.Whole.{entry_of}
use Rattle.history.specs.Laws.{AreWrittenInPlace}
use Rattle.history.specs.Written.{Before, behind, behind_all, next_record, written, at_first, wal_of}
use Rattle.history.proofs.Histories.{apply_all-behind}
use Rattle.history.proofs.WrittenLaws.{written_is_applied}
use Rattle.history.specs.fuzzy_copies.Logged.{history_of, log_of, found_before}
use Rattle.journal.proofs.Ends.{own_alone}
use Rattle.journal.proofs.Goes.{known_behind}
use Rattle.store_locks.specs.Seen.{is_number}
use Rattle.store_locks.specs.Calls.{IsOfWorker}

-- ---- own entries

-- each is of this run
abbrev pub AreOwn : List Entry → Type 0
AreOwn [] = Unit {0}
AreOwn (e ∷ es) = (is_of_run e ≡ true) × AreOwn es

by_worker : (w : ℕ) (o : Option ℕ) (b : Bool) → is_number w o && b ≡ true → is_some o ≡ true
by_worker w None b e = absurd cc
by_worker w (Some x) b e = refl

pub of_worker : (w : ℕ) (e : Entry) → IsOfWorker w e → is_of_run e ≡ true
of_worker w e (inl by) = by_worker w e.worker (is_some e.seq) by
of_worker w e (inr (inl mark)) = ap is_some mark.1
of_worker w e (inr (inr (inl mark))) = ap is_some mark.1.1
of_worker w e (inr (inr (inr mark))) = ap is_some mark.1.1

pub owned : (es : List Entry) → All (λ e. is_of_run e ≡ true) es → AreOwn es
owned [] all = tt
owned (e ∷ es) all = (all 0 e (omega arith), owned es (λ k d within. all (suc k) d (omega arith)))

pub written_own : (mib : ℕ) (before : Before) (es : List Entry) → AreWrittenInPlace mib before es → AreOwn es
written_own mib before [] placed = tt
written_own mib before (e ∷ es) placed = (placed.0, written_own mib (behind before e) es placed.1.1.1.1)

-- a list of entries of which the first were found and the others are own is one so in one way
front_own : List Entry → Bool
front_own [] = false
front_own (e ∷ es) = is_of_run e

back_of : List Entry → List Entry
back_of [] = []
back_of (e ∷ es) = es

found_or_own : (r : Record) (rest es : List Entry) → AreOwn es → entry_of r ∷ rest ≡ es → ⊥
unfolding front_own
found_or_own r rest [] own e = absurd cc
found_or_own r rest (x ∷ es) own e = true≢false (sym own.0 ∙ sym (ap front_own e))

pub parted : (rs qs : List Record) (es os : List Entry) → AreOwn es → AreOwn os → map entry_of rs ++ es ≡ map entry_of qs ++ os → (length rs ≡ length qs) × (es ≡ os)
unfolding back_of
parted [] [] es os own other e = (refl, e)
parted [] (q ∷ qs) es os own other e = absurd (found_or_own q (map entry_of qs ++ os) es own (sym e))
parted (r ∷ rs) [] es os own other e = absurd (found_or_own r (map entry_of rs ++ es) os other e)
parted (r ∷ rs) (q ∷ qs) es os own other e =
    let more = parted rs qs es os own other (ap back_of e) in
    (omega (arith, more.0), more.1)

-- ---- two readings of one archive

same_gives : (f : Found) (r q : Record) → f ≡ Gives r → f ≡ Gives q → r ≡ q
same_gives f r q a b = (let c : ◌≡◌ {A = Found} (Gives r) (Gives q) = sym a ∙ b in cc)

cons_same : (r q : Record) (rs qs : List Record) → r ≡ q → rs ≡ qs → ◌≡◌ {A = List Record} (r ∷ rs) (q ∷ qs)
cons_same r q rs qs a b = rw (a, b) refl

-- the first entries of an archive, so many, are read in one way
pub same_front : (s : StoreSettings) (files : Files) (tip : Tip) (rs qs more : List Record) (last end : Tip) → length rs ≡ length qs → ReadsOn s files tip rs last → ReadsOn s files tip (qs ++ more) end → rs ≡ qs
same_front s files tip [] [] more last end many first second = refl
same_front s files tip [] (q ∷ qs) more last end many first second = absurd (omega (arith, many))
same_front s files tip (r ∷ rs) [] more last end many first second = absurd (omega (arith, many))
same_front s files tip (r ∷ rs) (q ∷ qs) more last end many first second =
    let same : r ≡ q = same_gives (stands_behind s files tip) r q first.0 second.0 in
    cons_same r q rs qs same (same_front s files (tip_after tip r) rs qs more last end (omega (arith, many)) first.1 (subst (λ (x : Record). ReadsOn s files (tip_after tip x) (qs ++ more) end) (sym same) second.1))

-- entries of a WAL are read where nothing before its end was lost
pub held_read : (s : StoreSettings) (old new : Files) (rs : List Record) (tip : Tip) (count : ℕ) → 1 ≤ s.segment → IsWal s old rs tip → IsLeft (archive_of s.segment old) (archive_of s.segment new) tip.end count → ReadsOn s new (first_tip s.segment) rs tip
held_read s old new rs tip count some wal left =
    walks_extended record_at s.segment s.system (archive_of s.segment old) (archive_of s.segment new) (first_tip s.segment) rs tip some record_is_fair (files_archive s.segment new some) (origin_end s.segment) left.before wal.walk

-- ---- what the records of own entries make

rises : (mib : ℕ) (b : Before) (es : List Entry) → AreWrittenInPlace mib b es → b.tip.end ≤ (behind_all b es).tip.end
rises mib b [] placed = omega arith
rises mib b (e ∷ es) placed = omega (arith, placed.1.1.0, rises mib (behind b e) es placed.1.1.1.1)

within : (a b : ℕ) → a ≤ b → nat_le a b ≡ true
within a b le = ⊎_elim (λ x. x.0) (λ x. absurd (omega (arith, x.1, le))) (leb_tells a b)

kept_entries : (mib : ℕ) (b : Before) (es : List Entry) (place : ℕ) → AreWrittenInPlace mib b es → (behind_all b es).tip.end ≤ place → filter (λ e. nat_le e.end place) es ≡ es
kept_entries mib b [] place placed le = refl
kept_entries mib b (e ∷ es) place placed le =
    let more : filter (λ (x : Entry). nat_le x.end place) es ≡ es = kept_entries mib (behind b e) es place placed.1.1.1.1 le in
    let last : e.end ≤ place = omega (arith, rises mib (behind b e) es placed.1.1.1.1, le) in
    ap (λ d. cond d (e ∷ filter (λ (x : Entry). nat_le x.end place) es) (filter (λ x. nat_le x.end place) es)) (within e.end place last)
    ∙ ap (λ (xs : List Entry). e ∷ xs) more

written_first : (mib : ℕ) (b : Before) (e : Entry) (es : List Entry) → is_of_run e ≡ true → written mib b (e ∷ es) ≡ next_record mib b e.act ∷ written mib (behind b e) es
written_first mib b e es own = ap (λ d. cond d (next_record mib b e.act ∷ written mib (behind b e) es) (written mib (behind b e) es)) own

kept_records : (mib : ℕ) (b : Before) (es : List Entry) (place : ℕ) → AreWrittenInPlace mib b es → (behind_all b es).tip.end ≤ place → filter (λ r. nat_le r.end.0 place) (written mib b es) ≡ written mib b es
kept_records mib b [] place placed le = refl
kept_records mib b (e ∷ es) place placed le =
    let r : Record = next_record mib b e.act in
    let first : written mib b (e ∷ es) ≡ r ∷ written mib (behind b e) es = written_first mib b e es placed.0 in
    let more : filter (λ (x : Record). nat_le x.end.0 place) (written mib (behind b e) es) ≡ written mib (behind b e) es = kept_records mib (behind b e) es place placed.1.1.1.1 le in
    let last : r.end.0 ≤ place = omega (arith, rises mib (behind b e) es placed.1.1.1.1, le, placed.1.0) in
    ap (filter (λ (x : Record). nat_le x.end.0 place)) first
    ∙ (ap (λ d. cond d (r ∷ filter (λ (x : Record). nat_le x.end.0 place) (written mib (behind b e) es)) (filter (λ x. nat_le x.end.0 place) (written mib (behind b e) es))) (within r.end.0 place last)
    ∙ (ap (λ (xs : List Record). r ∷ xs) more ∙ sym first))

-- all that own entries are written as makes what they make
all_written : (mib : ℕ) (b : Before) (es : List Entry) (last : Store) → apply_all b.store es ≡ Some last → AreWrittenInPlace mib b es → apply_all b.store (map entry_of (written mib b es)) ≡ Some last
all_written mib b es last made placed =
    let place : ℕ = (behind_all b es).tip.end in
    ap (λ (rs : List Record). apply_all b.store (map entry_of rs)) (sym (kept_records mib b es place placed (omega arith)))
    ∙ (written_is_applied mib b es last made placed place
    ∙ (ap (apply_all b.store) (kept_entries mib b es place placed (omega arith)) ∙ made))

-- and so do all records of a WAL, from its beginning on
pub log_makes : (mib : ℕ) (found : List Record) (own : List Entry) (base last : Store) → apply_all empty (map entry_of found) ≡ Some base → apply_all empty (history_of found own) ≡ Some last → AreWrittenInPlace mib (found_before mib found) own
    → apply_all empty (map entry_of (log_of mib found own)) ≡ Some last
log_makes mib found own base last begun made placed =
    let b : Before = found_before mib found in
    let store : b.store ≡ base = (known_behind (at_first mib) (map entry_of found) base begun).1 in
    let rest : apply_all b.store own ≡ Some last = ap (λ (s : Store). apply_all s own) store ∙ (sym (apply_all-behind empty (map entry_of found) own base begun) ∙ made) in
    let news : List Record = written mib b own in
    let wrote : wal_of mib (history_of found own) ≡ news = own_alone mib found own in
    ap (λ (ws : List Record). apply_all empty (map entry_of (found ++ ws))) wrote
    ∙ (ap (apply_all empty) (map-append entry_of found news)
    ∙ (apply_all-behind empty (map entry_of found) (map entry_of news) base begun
    ∙ (ap (λ (s : Store). apply_all s (map entry_of news)) (sym store) ∙ all_written mib b own last rest placed)))
