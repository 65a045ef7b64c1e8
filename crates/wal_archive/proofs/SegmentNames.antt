-- The name of a segment's file is that of one segment.
use Rattle.std.proofs.Common.{◌≡◌, ℕ, ◌≤◌, true, false, ◌==◌, List, Some, None, sym, subst, ◌∙◌, arith}
use Rattle.std.proofs.lemmas.Bool.{eqb-true, and_parts}
use Rattle.std.proofs.Math.Nat.{le-div_iff_mul-le}
use Rattle.lsn_core.specs.Segment.{IsSegmentMib, segment_bytes}
use Rattle.lsn_core.specs.Names.{per_group, segment_name_bytes, segment_file_bytes, HasSegmentName, NamesNoSegment}
use Rattle.lsn_core.proofs.SegmentNames.{name_of_first, one_segment}
use Rattle.wal_archive.specs.Archive.{is_segment}
use Rattle.wal_archive.specs.Scanning.{TellsSegment, is_in_archive}
use Rattle.wal_archive.proofs.Files.{segment_range}

-- a segment of the archive has a name
pub in_archive : (mib s : ℕ) → IsSegmentMib mib → is_segment s ≡ true → HasSegmentName 1 s mib
in_archive mib s size is =
    let many : 4 ≤ per_group mib =
    (le-div_iff_mul-le {k = segment_bytes mib} (omega (arith, size.least))).1
    (omega (arith, size.most)) in
    let range = segment_range s is in
    record { timeline_fits = omega arith; number_fits = omega (arith, many, range.1) }

-- which is that of no other one
one_named : (mib timeline number : ℕ) (name : List ℕ) → IsSegmentMib mib
    → name ≡ segment_file_bytes timeline number mib → HasSegmentName timeline number mib
    → (s : ℕ) → is_segment s ≡ true → name ≡ segment_name_bytes s mib
    → (timeline ≡ 1) × (number ≡ s)
one_named mib timeline number name size named has s is own =
    one_segment timeline 1 number s mib has (in_archive mib s size is)
    (sym named ∙ own ∙ name_of_first s mib)

pub segment_found : (mib timeline number : ℕ) (name : List ℕ)
    → name ≡ segment_file_bytes timeline number mib → is_in_archive timeline number ≡ true
    → TellsSegment mib name (Some number)
segment_found mib timeline number name named e =
    let both = and_parts (timeline == 1) (is_segment number) e in
    let one : timeline ≡ 1 = eqb-true timeline 1 both.0 in (
      both.1,
      named ∙ subst (λ (t : ℕ). segment_file_bytes t number mib
          ≡ segment_name_bytes number mib) (sym one) (sym (name_of_first number mib)),
    )

pub segment_outside : (mib timeline number : ℕ) (name : List ℕ) → IsSegmentMib mib
    → name ≡ segment_file_bytes timeline number mib → HasSegmentName timeline number mib
    → is_in_archive timeline number ≡ false → TellsSegment mib name None
segment_outside mib timeline number name size named has e s is own =
    let same = one_named mib timeline number name size named has s is own in
    let inside : is_in_archive timeline number ≡ true = rw (same.0, same.1) is in
    cc

pub segment_none : (mib : ℕ) (name : List ℕ) → IsSegmentMib mib → NamesNoSegment name mib
    → TellsSegment mib name None
segment_none mib name size none s is own =
    none 1 s (in_archive mib s size is) (own ∙ name_of_first s mib)
