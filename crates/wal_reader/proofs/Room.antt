-- What files hold lies in the room of the WAL.
use Rattle.std.proofs.Common.{◌≡◌, ℕ, ◌+◌, ◌-◌, ◌/◌, ◌%◌, ◌<◌, ◌≤◌, ◌==◌, ◌&&◌, nat_le, true, List, length, get_or, Some, sym, ap, ◌∙◌, arith, inl, inr}
use Rattle.std.specs.Prelude.{Ok}
use Rattle.std.specs.FinMap.{contains_key}
use Rattle.std.proofs.lemmas.Bool.{cases_lt, and_parts, and_from, le-leb, leb-true, eq-eqb}
use Rattle.std.proofs.Math.Nat.{mul-le-mul_right, le-div_iff_mul-le}
use Rattle.lsn_core.specs.byte_words.Numbers.{u32_in}
use Rattle.lsn_core.specs.Files.{Files}
use Rattle.lsn_core.specs.Segment.{segment_bytes}
use Rattle.lsn_core.specs.Sizes.{most_segments}
use Rattle.lsn_core.specs.Names.{segment_name_bytes}
use Rattle.wal_pages.specs.Places.{head_size, place, flat_before, IsBehindHead, start_after, end_of}
use Rattle.wal_pages.proofs.Splits.{place_flat, start_behind, start_behind_head, flat_start}
use Rattle.wal_record.specs.Tips.{wal_limit}
use Rattle.wal_archive.specs.Archive.{Archive, is_segment, held_in, end_at, greatest, top_of, has_segment, archive_of}
use Rattle.wal_archive.specs.Rules.{bytes_at, entry_at, first_head, next_bytes, set_heads, set_bytes}
use Rattle.wal_archive.specs.Reading.{MayStart}
use Rattle.wal_archive.specs.Stands.{IsEnd}
use Rattle.wal_archive.proofs.Files.{greatest_one, held_short, end_at_pos, segment_range, files_archive}
use Rattle.wal_archive.proofs.Runs.{ok, ok_bind}
use Rattle.wal_archive.proofs.Next.{else_of, then_of, none_is_none, err_is_err, same_some}
use Rattle.wal_archive.proofs.Walk.{HasFlat, reads_walk}
use Rattle.wal_reader.specs.Inside.{has_room}
use Rattle.wal_reader.proofs.Reached.{end_room}

-- nothing is held behind the last segment
pub top_limit : (mib : ℕ) (files : Files) → top_of mib files ≤ wal_limit mib
unfolding top_of
top_limit mib files =
    let f : ℕ → ℕ = λ seg. end_at mib seg (length (held_in mib files seg)) in
    elim (cases_lt 0 (greatest f most_segments)) [
      | inl some ↦
          let g = greatest_one f most_segments some in
          let at = end_at_pos mib g.0 (length (held_in mib files g.0)) (omega (arith, g.1, some)) in
          let short = held_short mib files g.0 in
          let up = mul-le-mul_right (segment_bytes mib) g.3 in
          omega (arith, g.1, at.1, short, up)
      | inr none ↦ omega (arith, none)
    ]

-- a segment that has a file is one of the archive
pub segment_least : (mib : ℕ) (files : Files) (seg : ℕ) → has_segment mib files seg ≡ true → 1 ≤ seg
unfolding has_segment
segment_least mib files seg e = (segment_range seg (and_parts (is_segment seg) (contains_key files (segment_name_bytes seg mib)) e).0).0

pub held_least : (mib : ℕ) (files : Files) (x b : ℕ) → 1 ≤ mib → (archive_of mib files).byte x ≡ Some b → segment_bytes mib ≤ x
held_least mib files x b some held =
    let seg = segment_least mib files (x / segment_bytes mib) ((files_archive mib files some).filed x b held) in
    let le = (le-div_iff_mul-le {k = segment_bytes mib} (omega (arith, some))).0 seg in
    omega (arith, le)

-- the own bytes of an entry that is read at a place
record IsOwn (a : Archive) (mib x : ℕ) (bytes : List ℕ) : Type 0 where
  long : 24 ≤ length bytes
  flat : HasFlat a mib (flat_before mib x) bytes

entry_flat : (a : Archive) (mib system x : ℕ) (bytes : List ℕ) → 1 ≤ mib → IsBehindHead mib x → entry_at a mib system x ≡ Ok bytes → IsOwn a mib x bytes
unfolding entry_at
entry_flat a mib system x bytes some behind eq =
    let f = ok_bind (bytes_at a mib x x 4) _ bytes eq in
    let total : ℕ = u32_in f.0 0 in
    let good = then_of _ _ _ _ f.2 (err_is_err _ bytes) in
    let least : 24 ≤ total = leb-true _ _ (and_parts _ _ good.0).0 in
    let w = reads_walk a mib system x total x total bytes some behind (omega (arith, least)) (omega arith) good.1 in
    record { long = omega (arith, w.len, least); flat = w.flat }

-- an entry that is read at a place behind an end lies in the room
own_room : (mib : ℕ) (files : Files) (e : ℕ) (bytes : List ℕ) → 1 ≤ mib → IsEnd mib e → IsOwn (archive_of mib files) mib (start_after mib e) bytes → has_room mib e bytes ≡ true
own_room mib files e bytes some end own =
    let start : ℕ = start_after mib e in
    let flat : flat_before mib start ≡ flat_before mib e = flat_start mib e some in
    let here : place mib (flat_before mib start + 0) ≡ start = ap (place mib) (let z : flat_before mib start + 0 ≡ flat_before mib start = omega arith in z) ∙ place_flat mib start some (start_behind_head mib e some) in
    let least : segment_bytes mib ≤ start = held_least mib files start (get_or bytes 0 0) some (ap (archive_of mib files).byte (sym here) ∙ own.flat 0 (omega (arith, own.long))) in
    let last : place mib (flat_before mib e + length bytes - 1) < top_of mib files =
    (files_archive mib files some).held (place mib (flat_before mib e + length bytes - 1)) (get_or bytes (length bytes - 1) 0)
    (ap (λ (n : ℕ). (archive_of mib files).byte (place mib n)) (let z : flat_before mib e + length bytes - 1 ≡ flat_before mib start + (length bytes - 1) = omega (arith, flat, own.long) in z) ∙ own.flat (length bytes - 1) (omega (arith, own.long))) in
    let most : end_of mib start (length bytes) ≤ wal_limit mib = end_room mib e (length bytes) (wal_limit mib) some end (omega (arith, own.long)) (omega arith) (omega (arith, last, top_limit mib files)) in
    and_from _ _ (le-leb _ _ least) (le-leb _ _ most)

-- the rules give an entry behind an end
pub next_room : (mib system : ℕ) (files : Files) (e : ℕ) (bytes : List ℕ) → 1 ≤ mib → IsEnd mib e → next_bytes (archive_of mib files) mib system e ≡ Ok (Some bytes) → has_room mib e bytes ≡ true
unfolding next_bytes
next_room mib system files e bytes some end eq =
    let a = archive_of mib files in
    let c1 = else_of _ _ _ _ eq (none_is_none bytes) in
    let c2 = else_of _ _ _ _ c1.1 (err_is_err _ (Some bytes)) in
    let c3 = else_of _ _ _ _ c2.1 (none_is_none bytes) in
    let h = ok_bind (first_head a mib system e) _ (Some bytes) c3.1 in
    let t = ok_bind (entry_at a mib system (start_after mib e)) _ (Some bytes) h.2 in
    let is : t.0 ≡ bytes = same_some t.0 bytes t.2 in
    own_room mib files e bytes some end (entry_flat a mib system (start_after mib e) bytes some (start_behind_head mib e some) (t.1 ∙ ap ok is))

-- a place where an entry may start is one where one may end
pub start_end : (mib from : ℕ) → MayStart mib from → IsEnd mib from
start_end mib from may = (may.eight, inl may.behind)

-- its test
may_test : (mib from : ℕ) → MayStart mib from → ((from % 8 == 0) && nat_le (head_size mib from) (from % 8192)) ≡ true
may_test mib from may = and_from _ _ (eq-eqb _ _ may.eight) (le-leb _ _ may.behind)

-- they give one at a place
pub set_room : (mib system : ℕ) (files : Files) (from : ℕ) (bytes : List ℕ) → 1 ≤ mib → MayStart mib from → set_bytes (archive_of mib files) mib system from ≡ Ok (Some bytes) → has_room mib from bytes ≡ true
unfolding set_bytes
set_room mib system files from bytes some may eq =
    let a = archive_of mib files in
    let end = start_end mib from may in
    let behind = may.behind in
    let c0 = rw (may_test mib from may) at eq in
    let c1 = else_of _ _ _ _ c0 (none_is_none bytes) in
    let c2 = else_of _ _ _ _ c1.1 (err_is_err _ (Some bytes)) in
    let c3 = else_of _ _ _ _ c2.1 (none_is_none bytes) in
    let h = ok_bind (set_heads a mib system from) _ (Some bytes) c3.1 in
    let t = ok_bind (entry_at a mib system from) _ (Some bytes) h.2 in
    let is : t.0 ≡ bytes = same_some t.0 bytes t.2 in
    own_room mib files from bytes some end (entry_flat a mib system (start_after mib from) bytes some (start_behind_head mib from some) (ap (entry_at a mib system) (start_behind mib from some behind) ∙ t.1 ∙ ap ok is))
