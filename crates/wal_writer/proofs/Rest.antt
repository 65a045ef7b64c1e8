-- What stands behind what is written stays, and is read as before.
use Rattle.std.proofs.Common.{◌≡◌, ℕ, ◌+◌, ◌-◌, ◌*◌, ◌<◌, ◌≤◌, true, List, length, Option, Some, None, refl, sym, ap, subst, ◌∙◌, arith, inl, inr}
use Rattle.std.specs.Prelude.{is_some, ◌&&◌}
use Rattle.std.specs.FinMap.{get}
use Rattle.std.proofs.lemmas.Bool.{cases_Bool}
use Rattle.lsn_core.specs.byte_words.Told.{when_told}
use Rattle.lsn_core.specs.Files.{Files}
use Rattle.lsn_core.specs.Segment.{segment_bytes}
use Rattle.lsn_core.specs.Names.{segment_name_bytes}
use Rattle.vault.specs.Area.{Related, IsTorn}
use Rattle.vault.specs.Stops.{Event, Made, MayLeave}
use Rattle.vault.specs.Frame.{AgreeBut}
use Rattle.vault.proofs.Through.{leaves_only}
use Rattle.wal_pages.specs.Places.{flat_before}
use Rattle.wal_pages.proofs.Splits.{place_le, place_after}
use Rattle.wal_archive.specs.Archive.{Archive, is_segment, has_segment, archive_of}
use Rattle.wal_archive.specs.Stands.{Stands}
use Rattle.wal_archive.specs.Writing.{IsLeft}
use Rattle.wal_archive.proofs.Left.{torn_left}
use Rattle.wal_archive.proofs.Next.{next_stands, stands_next}
use Rattle.wal_archive.proofs.Writes.{segment_names_differ}
use Rattle.wal_writer.specs.Stops.{IsSegmentFile, IsBetween, IsSameFrom, HasRest, WritesKeepRest, StopsKeepRest, SettledHasRest, NothingNewIsRead}

related_both : (P Q R : Files → Files → Type 0) (old new : Option Files) → ((m n : Files) → P m n
    → Q m n → R m n) → Related P old new → Related Q old new → Related R old new
related_both P Q R None None step one two = tt
related_both P Q R (Some m) (Some n) step one two = step m n one two
related_both P Q R None (Some n) step one two = absurd one
related_both P Q R (Some m) None step one two = absurd one

-- which segments behind an end have a file
same_files : (mib end : ℕ) (old new : Files) (x seg : ℕ) → end ≤ x → x ≤ seg * segment_bytes mib
    → ((q : List ℕ) → ((s : ℕ) → is_segment s ≡ true → s * segment_bytes mib < end
    → q ≡ segment_name_bytes s mib → ⊥) → get new q ≡ get old q)
    → has_segment mib new seg ≡ has_segment mib old seg
unfolding has_segment
same_files mib end old new x seg past far same =
    elim (cases_Bool (is_segment seg)) [
      | inl one ↦ ap (λ o. is_segment seg && is_some o) (same (segment_name_bytes seg mib)
          (λ s other before e. (let k : s ≡ seg = sym (segment_names_differ mib seg s one other e)
          in let m : s * segment_bytes mib ≡ seg * segment_bytes mib =
          ap (λ n. n * segment_bytes mib) k in absurd (omega (arith, m, before, past, far)))))
      | inr none ↦ ap (λ b. b && is_some (get new (segment_name_bytes seg mib))) none
          ∙ sym (ap (λ b. b && is_some (get old (segment_name_bytes seg mib))) none)
    ]

pub rest_written : WritesKeepRest
rest_written mib at end old new left files x behind past =
    related_both (λ m n. IsLeft (archive_of mib m) (archive_of mib n) at (end - at))
    (AgreeBut (IsSegmentFile mib at end)) (λ m n. IsSameFrom mib x (archive_of mib m)
    (archive_of mib n)) old new (λ m n l f. record {
      bytes = λ y far. l.behind y (omega (arith, far, behind, past));
      files = λ seg far. same_files mib end m n x seg past far
          (λ q out. f q (λ i. out i.seg i.there i.before i.named));
    }) left files

-- a write between two places keeps what stands behind them
rest_on : (mib at end x : ℕ) (a : Archive) → 1 ≤ mib → end ≤ x → (event : Event) (d c : Files)
    → IsBetween mib at end event → HasRest mib a x d → Made event d c → HasRest mib a x c
rest_on mib at end x a some past (inl w) d c is rest made =
    let torn = subst (λ k. IsTorn k w.1.0 (length w.1.1) d c) is.named made in
    let left = torn_left mib d c is.seg w.1.0 (length w.1.1) (is.seg * segment_bytes mib + w.1.0)
    some is.there refl torn in
    record {
      bytes = λ y far. left.behind y (omega (arith, far, is.within, past)) ∙ rest.bytes y far;
      files = λ seg far. same_files mib end d c x seg past far
          (λ q out. torn.others q (λ e. out is.seg is.there is.before e)) ∙ rest.files seg far;
    }
rest_on mib at end x a some past (inr (inl k)) d c is rest made = absurd is
rest_on mib at end x a some past (inr (inr (inl q))) d c is rest made = absurd is
rest_on mib at end x a some past (inr (inr (inr None))) d c is rest made =
    subst (HasRest mib a x) (sym made) rest
rest_on mib at end x a some past (inr (inr (inr (Some files)))) d c is rest made =
    subst (HasRest mib a x) (sym made.0) rest

pub rest_kept : StopsKeepRest
rest_kept mib at end old new some adds x past a here =
    leaves_only (HasRest mib a x) (IsBetween mib at end) old new (rest_on mib at end x a some past)
    adds here

-- files that a stop leaves after a sync have what stands behind a place
pub rest_settled : SettledHasRest
rest_settled mib at files past settled =
    when_told past (λ events. (c : Files) → MayLeave events c → c ≡ files) (λ events. (c : Files)
    → MayLeave events c → HasRest mib (archive_of mib files) at c)
    (λ events same c may. subst (HasRest mib (archive_of mib files) at) (sym (same c may))
    (record { bytes = λ x far. refl; files = λ seg far. refl })) settled

-- an entry that stands behind a place stands there in each archive that is the same from there on
stands_from : (old new : Archive) (mib system e : ℕ) (bytes : List ℕ) → 1 ≤ mib
    → ((x : ℕ) → e ≤ x → new.byte x ≡ old.byte x) → Stands new mib system e bytes
    → Stands old mib system e bytes
stands_from old new mib system e bytes some same st = record {
  total = st.total;
  least = st.least;
  most = st.most;
  flat = λ i lt. sym (same _ (let up = place_le mib (flat_before mib e) (flat_before mib e + i)
      some (omega arith) in omega (arith, up, place_after mib e some))) ∙ st.flat i lt;
  heads = λ p start from below.
      let h = st.heads p start from below in
      record {
        bytes = h.bytes;
        len = h.len;
        held = λ i lt. sym (same (p + i) (omega (arith, from))) ∙ h.held i lt;
        passes = h.passes;
      };
}

pub rest_read : NothingNewIsRead
rest_read mib system e old new bytes some arch end same read =
    stands_next old mib system e bytes some arch end (stands_from old new mib system e bytes some
    same.bytes (next_stands new mib system e bytes some end read))
