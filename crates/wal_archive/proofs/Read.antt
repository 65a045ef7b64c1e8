-- What was appended to an archive and written is read behind what was there.
use Rattle.std.proofs.Common.{◌≡◌, ℕ, ◌+◌, ◌-◌, ◌^◌, ◌<◌, ◌≤◌, List, [], ◌∷◌, ◌++◌, length, get_or, Some, refl, sym, ap, subst, ◌∙◌, arith, inl, inr}
use Rattle.std.proofs.lemmas.Bool.{cases_lt}
use Rattle.std.proofs.lemmas.List.{length-append, get_or_append_left, get_or-append_right}
use Rattle.std.proofs.lemmas.List.FromFn.{length-map-range_with_len, get_or-map-range_with_len}
use Rattle.lsn_core.specs.Files.{Files}
use Rattle.lsn_core.specs.Segment.{segment_bytes}
use Rattle.lsn_core.specs.Tip.{Tip}
use Rattle.wal_record.specs.Tips.{first_tip, tip_after}
use Rattle.wal_record.specs.declared.record.Record.{Record}
use Rattle.wal_record.specs.Spelling.{sealed}
use Rattle.wal_pages.specs.Places.{flat_before, start_after, end_of}
use Rattle.lsn_core.specs.byte_words.Numbers.{aligned}
use Rattle.wal_pages.specs.Spread.{spread_byte, spread}
use Rattle.wal_pages.proofs.Splits.{stop_start}
use Rattle.wal_archive.specs.Archive.{Archive, IsArchive, archive_of}
use Rattle.wal_archive.specs.Rules.{Judge, IsWal}
use Rattle.wal_archive.specs.Laws.{IsFair, HasNoGap, IsKept, WrittenIsRead}
use Rattle.wal_archive.specs.Stands.{IsEnd}
use Rattle.wal_record.specs.Tips.{wal_limit}
use Rattle.wal_archive.specs.Writing.{IsNext, IsChain, laid_out, archive_written}
use Rattle.wal_archive.proofs.Files.{files_archive}
use Rattle.wal_archive.proofs.Cut.{Ending}
use Rattle.wal_archive.proofs.Chain.{IsLaid, ending_of, chain_walks, walk_reach, walks_extended, walks_on, ended, ends, ended_zero, zero_ends}
use Rattle.wal_archive.proofs.Writes.{IsWritten, archive_is_written}

length_spread : (mib system at : ℕ) (bytes : List ℕ)
    → length (spread mib system at bytes) ≡ end_of mib at (length bytes) - at
unfolding spread
length_spread mib system at bytes =
    length-map-range_with_len (spread_byte mib system (flat_before mib at) bytes) at
    (end_of mib at (length bytes) - at)

spread_at : (mib system at : ℕ) (bytes : List ℕ) (i : ℕ) → i < end_of mib at (length bytes) - at
    → get_or (spread mib system at bytes) i 0
    ≡ spread_byte mib system (flat_before mib at) bytes (at + i)
unfolding spread
spread_at mib system at bytes i lt =
    get_or-map-range_with_len (spread_byte mib system (flat_before mib at) bytes) at
    (end_of mib at (length bytes) - at) i (at + i) 0 lt refl

-- where a chain ends
pub record ChainReach (mib system : ℕ) (tip : Tip) (rs : List Record) (last : Tip) : Type 0 where
  pub is_end : IsEnd mib last.end
  pub later : tip.end ≤ last.end
  pub len : tip.end + length (laid_out mib system tip.end rs) ≡ last.end

record Room (mib system : ℕ) (tip : Tip) (r : Record) : Type 0 where
  behind : Ending mib tip.end (length (sealed r)) r.end.0
  end : end_of mib tip.end (length (sealed r)) ≡ r.end.0
  len : tip.end + length (spread mib system tip.end (sealed r)) ≡ r.end.0

room_of : (judge : Judge) (mib system : ℕ) (tip : Tip) (r : Record) → 1 ≤ mib → IsEnd mib tip.end
    → IsNext judge mib tip r → Room mib system tip r
room_of judge mib system tip r some end next =
    let behind = ending_of judge mib tip r some end next in
    let same : end_of mib tip.end (length (sealed r)) ≡ r.end.0 =
    sym (next.end ∙ stop_start mib tip.end (aligned (length (sealed r))) some) in
    let l = length_spread mib system tip.end (sealed r) in
    record { behind = behind; end = same; len = omega (arith, l, same, behind.later) }

pub chain_reach : (judge : Judge) (mib system : ℕ) (tip : Tip) (rs : List Record) (last : Tip)
    → 1 ≤ mib → IsEnd mib tip.end → IsChain judge mib tip rs last
    → ChainReach mib system tip rs last
chain_reach judge mib system tip [] last some end chain =
    subst (λ t. ChainReach mib system tip [] t) (sym chain)
    (record { is_end = end; later = omega arith; len = omega arith })
chain_reach judge mib system tip (r ∷ rs) last some end chain =
    let room = room_of judge mib system tip r some end chain.0 in
    let more = chain_reach judge mib system (tip_after tip r) rs last some room.behind.is_end
    chain.1 in
    let l = length-append (spread mib system tip.end (sealed r)) (laid_out mib system r.end.0 rs) in
    record {
      is_end = more.is_end;
      later = omega (arith, more.later, room.behind.later);
      len =
          omega (arith, l, room.len, more.len);
    }

chain_within : (judge : Judge) (mib : ℕ) (tip : Tip) (r : Record) (rs : List Record) (last : Tip)
    → IsChain judge mib tip (r ∷ rs) last → last.end ≤ wal_limit mib
chain_within judge mib tip r [] last chain =
    (let e : last.end ≡ r.end.0 = ap (λ (t : Tip). t.end) chain.1 in let w = chain.0.within in
    omega (arith, e, w))
chain_within judge mib tip r (q ∷ rs) last chain =
    chain_within judge mib (tip_after tip r) q rs last chain.1

-- bytes that are held as they were laid out
laid : (judge : Judge) (mib system : ℕ) (a : Archive) (tip : Tip) (rs : List Record) (last : Tip)
    → 1 ≤ mib → IsEnd mib tip.end → IsChain judge mib tip rs last
    → ((i : ℕ) → i < length (laid_out mib system tip.end rs)
    → a.byte (tip.end + i) ≡ Some (get_or (laid_out mib system tip.end rs) i 0))
    → IsLaid a mib system tip.end rs
laid judge mib system a tip [] last some end chain held = tt
laid judge mib system a tip (r ∷ rs) last some end chain held =
    let room = room_of judge mib system tip r some end chain.0 in
    let front : List ℕ = spread mib system tip.end (sealed r) in
    let behind : List ℕ = laid_out mib system r.end.0 rs in
    let l = length-append front behind in (
      λ x from below.
          let i : ℕ = x - tip.end in
          let at : tip.end + i ≡ x = omega (arith, from) in
          let lt : i < length front = omega (arith, room.len, below, at) in
          ap a.byte (sym at) ∙ held i (omega (arith, l, lt))
          ∙ ap Some (get_or_append_left front behind 0 i lt
          ∙ spread_at mib system tip.end (sealed r) i (omega (arith, room.end, below, at))
          ∙ ap (spread_byte mib system (flat_before mib tip.end) (sealed r)) at),
      laid judge mib system a (tip_after tip r) rs last some room.behind.is_end chain.1
          (λ i lt. ap a.byte (let e : r.end.0 + i ≡ tip.end + (length front + i) =
          omega (arith, room.len) in e) ∙ held (length front + i) (omega (arith, l, lt))
          ∙ ap Some (get_or-append_right front behind (length front) (length front + i) 0 refl
          (omega arith) ∙ ap (λ n. get_or behind n 0)
          (let e : length front + i - length front ≡ i = omega arith in e))),
    )

pub origin_end : (mib : ℕ) → IsEnd mib (segment_bytes mib)
origin_end mib = (omega arith, inr (omega arith))

pub wal_kept : (judge : Judge) (mib system : ℕ) (files : Files) (rs : List Record) (tip : Tip)
    → IsFair judge → 1 ≤ mib → IsWal judge mib system files rs tip
    → IsKept judge mib system files rs tip (start_after mib tip.end)
wal_kept judge mib system files rs tip fair some wal =
    let reach = walk_reach judge mib system (archive_of mib files) (first_tip mib) rs tip some fair
    (origin_end mib) wal.walk in
    record {
      walk = wal.walk;
      zeros =
          ended_zero (archive_of mib files) mib system tip.end some (files_archive mib files some)
          reach.is_end (ended judge mib system (archive_of mib files) tip wal.ended);
    }

-- what was there is read, and then the entries whose bytes were written behind it
pub kept_read : (judge : Judge) (mib system : ℕ) (files : Files) (rs news : List Record)
    (r : Record) (tip last : Tip) (segments limit : ℕ) → IsFair judge → 1 ≤ mib → mib ≤ 1024
    → system < 2 ^ 64
    → IsKept judge mib system files rs tip limit → limit ≤ last.end
    → IsChain judge mib tip (r ∷ news) last
    → length (laid_out mib system tip.end (r ∷ news)) ≤ segments
    → HasNoGap mib (archive_of mib
    (archive_written mib segments tip.end (laid_out mib system tip.end (r ∷ news)) files))
    last.end
    → IsWal judge mib system (archive_written mib segments tip.end
    (laid_out mib system tip.end (r ∷ news)) files) (rs ++ (r ∷ news)) last
kept_read judge mib system files rs news r tip last segments limit fair some most known wal covered
    chain enough gap =
    let bytes : List ℕ = laid_out mib system tip.end (r ∷ news) in
    let new : Files = archive_written mib segments tip.end bytes files in
    let reach = walk_reach judge mib system (archive_of mib files) (first_tip mib) rs tip some fair
    (origin_end mib) wal.walk in
    let on = chain_reach judge mib system tip (r ∷ news) last some reach.is_end chain in
    let room = room_of judge mib system tip r some reach.is_end chain.0 in
    let within = chain_within judge mib tip r news last chain in
    let later = (chain_reach judge mib system (tip_after tip r) news last some room.behind.is_end
    chain.1).later in
    let w : IsWritten mib (archive_of mib files) (archive_of mib new) tip.end bytes =
    archive_is_written mib segments tip.end bytes files some (omega (arith, reach.later))
    (omega (arith, on.len, within)) (omega (arith, on.len, room.behind.later, later)) enough in
    let arch_new = files_archive mib new some in
    let old_walk = walks_extended judge mib system (archive_of mib files) (archive_of mib new)
    (first_tip mib) rs tip some fair arch_new (origin_end mib)
    (λ x b lt held. w.before x b lt held) wal.walk in
    let new_walk = chain_walks judge mib system (archive_of mib new) tip (r ∷ news) last some most
    known arch_new reach.is_end chain
    (laid judge mib system (archive_of mib new) tip (r ∷ news) last some reach.is_end chain
    w.within) in
    let zeros : (archive_of mib new).mark ≤ last.end =
    elim (cases_lt last.end (archive_of mib new).mark) [
      | inr le ↦ le
      | inl lt ↦
          let m = arch_new.mark_held (omega (arith, lt)) in
          let old_byte = sym (w.behind ((archive_of mib new).mark - 1) (omega (arith, lt, on.len)))
          ∙ m.1 in
          let z = wal.zeros ((archive_of mib new).mark - 1) m.0 old_byte m.2 in
          absurd (omega (arith, z, lt, covered))
    ] in
    record {
      walk = walks_on judge mib system (archive_of mib new) (first_tip mib) rs (r ∷ news) tip last
          old_walk new_walk;
      ended = ends judge mib system (archive_of mib new) last
          (zero_ends (archive_of mib new) mib system last.end zeros gap);
    }

-- where nothing was held at or behind the new end, there is no gap
pub no_gap : (mib : ℕ) (a new : Archive) (from e : ℕ) (piece : List ℕ) → IsArchive mib a
    → IsArchive mib new → IsWritten mib a new from piece → from + length piece ≤ e → a.top ≤ e
    → HasNoGap mib new e
no_gap mib a new from e piece arch arch_new w within none =
    elim (cases_lt e new.top) [
      | inr le ↦ inl le
      | inl lt ↦
          let t = arch_new.top_held (omega (arith, lt)) in
          let old = sym (w.behind (new.top - 1) (omega (arith, lt, within))) ∙ t.1 in
          let h = arch.held (new.top - 1) t.0 old in
          absurd (omega (arith, h, none, lt))
    ]

pub written_is_read : WrittenIsRead
written_is_read judge mib system files rs news r tip last limit fair some most known kept covered
    chain gap =
    kept_read judge mib system files rs news r tip last
    (length (laid_out mib system tip.end (r ∷ news))) limit fair some most known kept covered
    chain (omega arith) gap
