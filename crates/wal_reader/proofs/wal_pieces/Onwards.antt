-- A WAL is read from the start of each of its entries on as it is from its beginning.
use Rattle.std.proofs.Common.{◌≡◌, ℕ, ◌<◌, ◌≤◌, ◌⊎◌, true, List, [], ◌∷◌, ◌++◌, length, Some, None, refl, sym, subst, ap, ◌∙◌, arith, inl, inr}
use Rattle.std.specs.Prelude.{Ok, ◌==◌}
use Rattle.std.proofs.lemmas.Bool.{cases_Bool, eqb-true}
use Rattle.lsn_core.specs.Files.{Files}
use Rattle.lsn_core.specs.Segment.{IsSegmentMib, StoreSettings, segment_bytes}
use Rattle.lsn_core.specs.Tip.{Tip}
use Rattle.lsn_core.specs.declared.lsn.Lsn.{Lsn}
use Rattle.wal_pages.specs.Places.{start_after, end_of}
use Rattle.wal_pages.proofs.Splits.{page_passed, start_behind, start_page}
use Rattle.wal_record.specs.declared.record.Record.{Record}
use Rattle.wal_record.specs.Decoding.{is_own_redo, record_at}
use Rattle.wal_record.specs.Tips.{first_tip, tip_after}
use Rattle.wal_archive.specs.Archive.{Archive, archive_of}
use Rattle.wal_archive.specs.Rules.{Gives, lsn, place_behind, next_in, set_bytes, first_in}
use Rattle.wal_archive.specs.Stands.{IsEnd, Stands}
use Rattle.wal_archive.proofs.Chain.{given}
use Rattle.wal_archive.proofs.Cut.{Ending, ending}
use Rattle.wal_archive.proofs.Files.{files_archive}
use Rattle.wal_archive.proofs.Judged.{record_is_fair}
use Rattle.wal_archive.proofs.Next.{start_of, next_stands}
use Rattle.wal_archive.proofs.Read.{origin_end}
use Rattle.wal_reader.specs.Wal.{stands_behind, stands_at, tip_at, ReadsOn, IsWal, IsWalFrom}
use Rattle.wal_reader.proofs.wal_pieces.Heads.{AreHeadsTo, no_heads, heads_on, set_heads_pass}
use Rattle.wal_reader.proofs.wal_pieces.Starts.{stands_at_start, set_reads}
use Rattle.wal_reader.proofs.wal_pieces.Unlinked.{unlinked, own_redo}

-- ---- what is behind an entry that was read

pub record IsPassed (s : StoreSettings) (files : Files) (tip : Tip) (r : Record) : Type 0 where
  pub bytes : List ℕ
  pub stands : Stands (archive_of s.segment files) s.segment s.system tip.end bytes
  pub taken : record_at (place_behind s.segment tip.end bytes) (Some (lsn tip.prev)) bytes ≡ Ok r
  pub start : r.start.0 ≡ start_after s.segment tip.end
  pub end : r.end.0 ≡ end_of s.segment (start_after s.segment tip.end) (length bytes)
  pub behind : Ending s.segment tip.end (length bytes) (end_of s.segment (start_after s.segment tip.end) (length bytes))

pub passed : (s : StoreSettings) (files : Files) (tip : Tip) (r : Record) → 1 ≤ s.segment → IsEnd s.segment tip.end → stands_behind s files tip ≡ Gives r → IsPassed s files tip r
passed s files tip r some end gives =
    let g = given record_at s.segment s.system (archive_of s.segment files) tip r gives in
    let st = next_stands (archive_of s.segment files) s.segment s.system tip.end g.bytes some end g.read in
    let fair = record_is_fair (place_behind s.segment tip.end g.bytes) (Some (lsn tip.prev)) g.bytes r g.taken in
    record {
      bytes = g.bytes;
      stands = st;
      taken = g.taken;
      start = ap (λ (l : Lsn). l.0) fair.0;
      end = ap (λ (l : Lsn). l.0) fair.1;
      behind = ending s.segment tip.end (length g.bytes) some end (omega (arith, st.least));
    }

-- ---- the pages that a reading went over

-- a reading that came to a tip: an entry may end there, the heads before it pass, and it is past
-- the start of the first entry, or has none yet
record IsRead (s : StoreSettings) (files : Files) (tip : Tip) : Type 0 where
  end : IsEnd s.segment tip.end
  least : segment_bytes s.segment ≤ tip.end
  heads : AreHeadsTo (archive_of s.segment files) s.segment s.system tip.end
  first : (tip.prev ≡ 0) ⊎ (start_after s.segment (segment_bytes s.segment) < tip.end)

read_first : (s : StoreSettings) (files : Files) → IsRead s files (first_tip s.segment)
read_first s files = record {
  end = origin_end s.segment;
  least = omega arith;
  heads = no_heads (archive_of s.segment files) s.segment s.system;
  first = inl refl;
}

read_next : (s : StoreSettings) (files : Files) (tip : Tip) (r : Record) → 1 ≤ s.segment → IsRead s files tip → stands_behind s files tip ≡ Gives r → IsRead s files (tip_after tip r)
read_next s files tip r some is gives =
    let mib : ℕ = s.segment in
    let origin : ℕ = segment_bytes mib in
    let g = passed s files tip r some is.end gives in
    let st = start_of mib tip.end some is.end in
    let over = page_passed mib st.start origin some st.behind (omega arith) (omega (arith, is.least, st.later)) in
    let opening = start_page mib origin some (omega arith) in
    record {
      end = subst (IsEnd mib) (sym g.end) g.behind.is_end;
      least = omega (arith, is.least, g.behind.later, g.end);
      heads = subst (AreHeadsTo (archive_of mib files) mib s.system) (sym g.end) (heads_on (archive_of mib files) mib s.system tip.end g.bytes some is.end g.stands is.heads);
      first = inr (omega (arith, over, opening, st.is, g.behind.start, g.end));
    }

read_to : (s : StoreSettings) (files : Files) (tip : Tip) (rs : List Record) (last : Tip) → 1 ≤ s.segment → IsRead s files tip → ReadsOn s files tip rs last → IsRead s files last
read_to s files tip [] last some is walk = subst (IsRead s files) (sym walk) is
read_to s files tip (r ∷ rs) last some is walk = read_to s files (tip_after tip r) rs last some (read_next s files tip r some is walk.0) walk.1

-- ---- an entry is found at its start

-- what is found first at a place where an entry is read that is taken
found_first : (mib system : ℕ) (a : Archive) (from : ℕ) (bytes : List ℕ) (r : Record) → set_bytes a mib system from ≡ Ok (Some bytes) → record_at (place_behind mib from bytes) None bytes ≡ Ok r
    → ((from == start_after mib (segment_bytes mib)) ≡ true → is_own_redo r.start r.kind ≡ true) → first_in record_at mib system a from ≡ Gives r
unfolding first_in
found_first mib system a from bytes r read taken own =
    elim (cases_Bool (from == start_after mib (segment_bytes mib))) [
      | inl first ↦ rw (first, read, taken, own first) refl
      | inr later ↦ rw (later, read, taken) refl
    ]

pub entry_found : (s : StoreSettings) (files : Files) (older : List Record) (mid : Tip) (r : Record) → IsSegmentMib s.segment → ReadsOn s files (first_tip s.segment) older mid → stands_behind s files mid ≡ Gives r → stands_at s files r.start.0 ≡ Gives r
entry_found s files older mid r size walk gives =
    let mib : ℕ = s.segment in
    let a : Archive = archive_of mib files in
    let some : 1 ≤ mib = size.least in
    let is = read_to s files (first_tip mib) older mid some (read_first s files) walk in
    let g = passed s files mid r some is.end gives in
    let st = start_of mib mid.end some is.end in
    let from : ℕ = st.start in
    let here : start_after mib from ≡ start_after mib mid.end = start_behind mib from some st.behind ∙ sym st.is in
    let heads : AreHeadsTo a mib s.system r.end.0 = subst (AreHeadsTo a mib s.system) (sym g.end) (heads_on a mib s.system mid.end g.bytes some is.end g.stands is.heads) in
    let pass = set_heads_pass a mib s.system from r.end.0 some (omega (arith, is.least, st.later)) (omega (arith, st.is, g.behind.start, g.end)) heads in
    let read = set_reads a mib s.system from g.bytes some (files_archive mib files some) st.eight st.behind (stands_at_start a mib s.system mid.end g.bytes st g.stands) pass in
    let alone = unlinked (place_behind mib mid.end g.bytes) (lsn mid.prev) g.bytes r g.taken in
    let taken : record_at (place_behind mib from g.bytes) None g.bytes ≡ Ok r =
    ap (λ (n : ℕ). record_at (record { start = lsn n; end = lsn (end_of mib n (length g.bytes)) }) None g.bytes) here ∙ alone in
    let own : (from == start_after mib (segment_bytes mib)) ≡ true → is_own_redo r.start r.kind ≡ true = λ first.
    elim (is.first) [
      | inl none ↦ own_redo (place_behind mib mid.end g.bytes) g.bytes r (subst (λ (n : ℕ). record_at (place_behind mib mid.end g.bytes) (Some (lsn n)) g.bytes ≡ Ok r) none g.taken)
      | inr past ↦ absurd (let e = eqb-true _ _ first in omega (arith, e, past, st.later))
    ] in
    subst (λ (n : ℕ). stands_at s files n ≡ Gives r) (sym (g.start ∙ st.is)) (found_first mib s.system a from g.bytes r read taken own)

-- ---- and then what stands behind it

-- two tips behind which the same stands
pub record AreLike (t u : Tip) : Type 0 where
  pub end : t.end ≡ u.end
  pub prev : t.prev ≡ u.prev

pub like_next : (s : StoreSettings) (files : Files) (t u : Tip) → AreLike t u → stands_behind s files t ≡ stands_behind s files u
unfolding next_in
like_next s files t u like = rw (like.end, like.prev) refl

pub goes_on : (s : StoreSettings) (files : Files) (mid at : Tip) (r : Record) → stands_behind s files (tip_after mid r) ≡ stands_behind s files (tip_after at r)
goes_on s files mid at r = like_next s files (tip_after mid r) (tip_after at r) (record { end = refl; prev = refl })

record GoesLike (s : StoreSettings) (files : Files) (tip : Tip) (rs : List Record) (last : Tip) : Type 0 where
  to : Tip
  walk : ReadsOn s files tip rs to
  like : AreLike last to

goes_like : (s : StoreSettings) (files : Files) (t u : Tip) (rs : List Record) (last : Tip) → AreLike t u → ReadsOn s files t rs last → GoesLike s files u rs last
goes_like s files t u [] last like walk = record { to = u; walk = refl; like = subst (λ (x : Tip). AreLike x u) (sym walk) like }
goes_like s files t u (r ∷ rs) last like walk =
    let more = goes_like s files (tip_after t r) (tip_after u r) rs last (record { end = refl; prev = refl }) walk.1 in
    record { to = more.to; walk = (sym (like_next s files t u like) ∙ walk.0, more.walk); like = more.like }

-- a reading is one up to an entry, and one from there on
pub record IsParted (s : StoreSettings) (files : Files) (tip : Tip) (older rest : List Record) (last : Tip) : Type 0 where
  pub mid : Tip
  pub up : ReadsOn s files tip older mid
  pub on : ReadsOn s files mid rest last

pub parted : (s : StoreSettings) (files : Files) (tip : Tip) (older rest : List Record) (last : Tip) → ReadsOn s files tip (older ++ rest) last → IsParted s files tip older rest last
parted s files tip [] rest last walk = record { mid = tip; up = refl; on = walk }
parted s files tip (q ∷ older) rest last walk =
    let more = parted s files (tip_after tip q) older rest last walk.1 in
    record { mid = more.mid; up = (walk.0, more.up); on = more.on }

pub rest_read : (s : StoreSettings) (files : Files) (older later : List Record) (r : Record) (last : Tip) → IsSegmentMib s.segment → IsWal s files (older ++ (r ∷ later)) last → (tip : Tip) × (IsWalFrom s files r.start.0 (r ∷ later) tip × (tip.end ≡ last.end))
rest_read s files older later r last size wal =
    let parts = parted s files (first_tip s.segment) older (r ∷ later) last wal.walk in
    let at : Tip = tip_at r.start.0 in
    let more = goes_like s files (tip_after parts.mid r) (tip_after at r) later last (record { end = refl; prev = refl }) parts.on.1 in (
      more.to,
      (
        record {
          walk = (entry_found s files older parts.mid r size parts.up parts.on.0, more.walk);
          ended = sym (like_next s files last more.to more.like) ∙ wal.ended;
        },
        sym more.like.end,
      ),
    )
