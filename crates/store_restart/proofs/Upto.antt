-- Survivors as a reading up to where they end gives them, and as the archive's entries once it is cut
-- there.
use Rattle.std.proofs.Common.{◌≡◌, ℕ, ◌-◌, ◌<◌, ◌≤◌, Bool, true, false, cond, List, [], ◌∷◌, Option, Some, None, refl, sym, ap, ◌∙◌, arith}
use Rattle.std.specs.Prelude.{nat_le, Ok}
use Rattle.std.proofs.lemmas.Bool.{le-leb, lt-leb, leb-true, leb-false}
use Rattle.lsn_core.specs.Files.{Files}
use Rattle.lsn_core.specs.Segment.{IsSegmentMib, StoreSettings}
use Rattle.lsn_core.specs.Tip.{Tip}
use Rattle.lsn_core.specs.declared.lsn.Lsn.{Lsn}
use Rattle.wal_record.specs.declared.record.Record.{Record}
use Rattle.wal_record.specs.Decoding.{record_at}
use Rattle.wal_record.specs.Tips.{first_tip, tip_after}
use Rattle.wal_archive.specs.Archive.{Archive, IsArchive, archive_of}
use Rattle.wal_archive.specs.Rules.{Found, End, Gives, next_bytes}
use Rattle.wal_archive.proofs.Chain.{walks_extended, ends}
use Rattle.wal_archive.proofs.Files.{files_archive}
use Rattle.wal_archive.proofs.Judged.{record_is_fair}
use Rattle.wal_archive.proofs.Read.{origin_end}
use Rattle.wal_reader.specs.Wal.{stands_behind, ReadsOn, IsWal}
use Rattle.wal_reader.proofs.Reached.{first_reached}
use Rattle.history.specs.fuzzy_copies.Orderly.{RecordsRise}
use Rattle.recovery.specs.Onward as onward
use Rattle.recovery.specs.Replay.{IsRead}
use Rattle.backup_restore.proofs.Rising.{reads_rise}
use Rattle.store_restart.specs.Survivors.{SurviveIn}
use Rattle.store_restart.specs.Trimmed.{AreCutAt}

-- ---- read up to their end

pub reach_on : (s : StoreSettings) (files : Files) (tip last : Tip) (rs : List Record) → RecordsRise tip.end rs → ReadsOn s files tip rs last → tip.end ≤ last.end
reach_on s files tip last [] rise walk = omega (arith, ap (λ (t : Tip). t.end) walk)
reach_on s files tip last (r ∷ rs) rise walk =
    let more : r.end.0 ≤ last.end = reach_on s files (tip_after tip r) last rs rise.3 walk.1 in
    omega (arith, rise.0, rise.1, more)

pub not_yet : (target at : ℕ) (f : Found) (r : Record) → at < target → f ≡ Gives r → cond (nat_le target at) End f ≡ Gives r
not_yet target at f r before gives = ap (λ (b : Bool). cond b End f) (lt-leb target at before) ∙ gives

pub reads_to : (s : StoreSettings) (files : Files) (target : Lsn) (tip last : Tip) (rs : List Record) → RecordsRise tip.end rs → last.end ≤ target.0 → ReadsOn s files tip rs last → onward.ReadsOn s files (Some target) false tip rs last
reads_to s files target tip last [] rise le walk = walk
reads_to s files target tip last (r ∷ rs) rise le walk =
    let more : r.end.0 ≤ last.end = reach_on s files (tip_after tip r) last rs rise.3 walk.1 in (
      not_yet target.0 tip.end (stands_behind s files tip) r (omega (arith, rise.0, rise.1, more, le)) walk.0,
      reads_to s files target (tip_after tip r) last rs rise.3 le walk.1,
    )

pub survivors_rise : (s : StoreSettings) (files : Files) (rs : List Record) (tip : Tip) → IsSegmentMib s.segment → SurviveIn s files rs tip → RecordsRise (first_tip s.segment).end rs
survivors_rise s files rs tip size survive = reads_rise s files (first_tip s.segment) rs tip size (first_reached s.segment size) survive.walk

pub survivors_read : (s : StoreSettings) (files : Files) (target : Lsn) (rs : List Record) (tip : Tip) → IsSegmentMib s.segment → target.0 ≡ tip.end → SurviveIn s files rs tip → IsRead s files (Some target) rs tip End
survivors_read s files target rs tip size is survive = record {
  reads = reads_to s files target (first_tip s.segment) tip rs (survivors_rise s files rs tip size survive) (omega (arith, is)) survive.walk;
  behind = ap (λ (b : Bool). cond b End (stands_behind s files tip)) (le-leb target.0 tip.end (omega (arith, is)));
}

-- ---- cut there

top_ends : (a : Archive) (mib system e : ℕ) → a.top ≤ e → next_bytes a mib system e ≡ Ok None
unfolding next_bytes
top_ends a mib system e le = rw (le-leb a.top e le) refl

none_or : (b : ℕ) → ◌≡◌ {A = Option ℕ} None (Some b) → ⊥
none_or b e = cc

-- an archive that holds nothing from a place on ends by it
ends_by : (mib end : ℕ) (a : Archive) → IsArchive mib a → ((x : ℕ) → end ≤ x → a.byte x ≡ None) → a.top ≤ end
ends_by mib end a is none = go (nat_le a.top end) refl
  where
    go : (b : Bool) → nat_le a.top end ≡ b → a.top ≤ end
    go true e = leb-true a.top end e
    go false e =
        let past : end < a.top = leb-false a.top end e in
        let last = is.top_held (omega (arith, past)) in
        absurd (none_or last.0 (sym (none (a.top - 1) (omega (arith, past))) ∙ last.1))

pub cut_is_wal : (s : StoreSettings) (old new : Files) (rs : List Record) (tip : Tip) → IsSegmentMib s.segment → SurviveIn s old rs tip → AreCutAt s.segment tip.end old new → IsWal s new rs tip
cut_is_wal s old new rs tip size survive cut = record {
  walk = walks_extended record_at s.segment s.system (archive_of s.segment old) (archive_of s.segment new) (first_tip s.segment) rs tip size.least record_is_fair (files_archive s.segment new size.least) (origin_end s.segment)
      (λ x b lt held. cut.before x lt ∙ held) survive.walk;
  ended = ends record_at s.segment s.system (archive_of s.segment new) tip (top_ends (archive_of s.segment new) s.segment s.system tip.end (ends_by s.segment tip.end (archive_of s.segment new) (files_archive s.segment new size.least) cut.none));
}
