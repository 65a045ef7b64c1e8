-- A WAL that was read whole, and the history that it tells.
use Rattle.std.proofs.Common.{◌≡◌, ℕ, ◌+◌, ◌<◌, ◌≤◌, true, List, [], ◌∷◌, map, length, Option, None, IfSome, is_some, refl, sym, ap, subst, ◌∙◌, arith}
use Rattle.std.specs.FinMap.{empty}
use Rattle.std.proofs.lemmas.List.{length-map}
use Rattle.std.proofs.lemmas.List.Elements.{All-nil, All-cons}
use Rattle.lsn_core.specs.byte_words.Told.{when_told}
use Rattle.lsn_core.specs.Files.{Files}
use Rattle.lsn_core.specs.Segment.{StoreSettings}
use Rattle.lsn_core.specs.Tip.{Tip}
use Rattle.wal_record.specs.declared.record.Record.{Record}
use Rattle.wal_record.specs.Tips.{first_tip, tip_after, tip_behind}
use Rattle.wal_archive.specs.Rules.{End}
use Rattle.wal_reader.specs.Wal.{IsWal, ReadsOn}
use Rattle.wal_writer.specs.Log.{IsLog, log_at}
use Rattle.history.specs.Entry.{Entry}
use Rattle.history.specs.Apply.{apply_all}
use Rattle.history.specs.Whole.{entry_of, whole}
use Rattle.history.proofs.Histories.{tip_over_read}
use Rattle.history.specs.fuzzy_copies.Orderly.{AllEndBy}
use Rattle.journal.specs.Journal.{EndsWith, IsTold}
use Rattle.journal.proofs.Begun.{found_told}
use Rattle.recovery.specs.Onward.{AllEndBy as EndBy}
use Rattle.recovery.specs.Replay.{IsRead, Reads}
use Rattle.recovery.specs.Reading.{IsReadTo}
use Rattle.store_areas.specs.Read.{HasRead, IsFound}

-- ---- what is read without a target is the whole WAL

reads_on : (s : StoreSettings) (files : Files) (tip : Tip) (rs : List Record) (last : Tip) → Reads s files None tip rs last → ReadsOn s files tip rs last
reads_on s files tip [] last reads = reads
reads_on s files tip (r ∷ rs) last reads = (reads.0, reads_on s files (tip_after tip r) rs last reads.1)

pub whole_wal : (s : StoreSettings) (files : Option Files) (rs : List Record) (tip : Tip) → IfSome files (λ m. IsRead s m None rs tip End) → IfSome files (λ m. IsWal s m rs tip)
whole_wal s files rs tip read =
    when_told files (λ m. IsRead s m None rs tip End) (λ m. IsWal s m rs tip) (λ m is. record { walk = reads_on s m (first_tip s.segment) rs tip is.reads; ended = is.behind }) read

tip_count : (tip : Tip) (rs : List Record) → (tip_behind tip rs).count ≡ tip.count + length rs
tip_count tip [] = omega arith
tip_count tip (r ∷ rs) = omega (arith, tip_count (tip_after tip r) rs)

pub found_count : (s : StoreSettings) (rs : List Record) (tip : Tip) → tip ≡ tip_behind (first_tip s.segment) rs → tip.count ≡ length rs
found_count s rs tip is = (let same = ap (λ (t : Tip). t.count) is in omega (arith, same, tip_count (first_tip s.segment) rs))

-- where the tip counts no entry there is none
pub none_in : (s : StoreSettings) (files : Option Files) (rs : List Record) (tip : Tip) → IsReadTo s files None rs tip → tip.count ≡ 0 → IfSome files (λ m. IsWal s m [] (first_tip s.segment))
none_in s files [] tip read none =
    subst (λ (t : Tip). IfSome files (λ m. IsWal s m [] t)) read.tip (whole_wal s files [] tip read.archive)
none_in s files (r ∷ rs) tip read none = absurd (omega (arith, none, found_count s (r ∷ rs) tip read.tip))

pub none_found : (s : StoreSettings) (files : Option Files) (history : List Entry) (pages : ℕ) (tip : Tip) → HasRead s files history pages tip → tip.count ≡ 0 → IfSome files (λ m. IsWal s m [] (first_tip s.segment))
none_found s files history pages tip read none = none_in s files read.found tip read.read none

pub found_some : (files : Option Files) (s : StoreSettings) (history : List Entry) (pages : ℕ) (tip : Tip) → (found : IsFound files s history pages tip) → 0 < length found.has.found
found_some files s history pages tip found = omega (arith, found.some, found_count s found.has.found tip found.has.read.tip)

-- ---- the log ends with it

ends_by : (rs : List Record) (place : ℕ) → EndBy rs place → AllEndBy place (map entry_of rs)
ends_by [] place ends = All-nil (λ (e : Entry). e.end ≤ place)
ends_by (r ∷ rs) place ends = All-cons (λ (e : Entry). e.end ≤ place) (entry_of r) (map entry_of rs) ends.0 (ends_by rs place ends.1)

ended_of : (s : StoreSettings) (files : Option Files) (rs : List Record) (tip : Tip) → IsReadTo s files None rs tip → EndsWith (log_at s tip) (map entry_of rs)
ended_of s files rs tip read = record {
  counted = length-map rs entry_of ∙ sym (found_count s rs tip read.tip);
  end = ap (λ (t : Tip). t.end) (tip_over_read (first_tip s.segment) rs ∙ sym read.tip);
  within = ends_by rs tip.end read.ends;
}

pub found_ended : (files : Option Files) (s : StoreSettings) (history : List Entry) (pages : ℕ) (tip : Tip) → IsFound files s history pages tip → EndsWith (log_at s tip) history
found_ended files s history pages tip found =
    subst (EndsWith (log_at s tip)) (sym found.has.history_is) (ended_of s files found.has.found tip found.has.read)

pub found_tells : (files : Option Files) (s : StoreSettings) (history : List Entry) (pages : ℕ) (tip : Tip) → IsLog (log_at s tip) → is_some files ≡ true → IsFound files s history pages tip → IsTold (log_at s tip) files history pages
found_tells files s history pages tip is tells found =
    let has = found.has in
    let some = found_some files s history pages tip found in
    subst (λ (es : List Entry). IsTold (log_at s tip) files es pages) (sym has.history_is)
    (subst (λ (n : ℕ). IsTold (log_at s tip) files (map entry_of has.found) n) (has.counted tells)
    (found_told (log_at s tip) files has.found has.store is refl some tells (whole_wal s files has.found tip has.read.archive)
    (ap (apply_all empty) (sym has.history_is) ∙ has.made tells)))
