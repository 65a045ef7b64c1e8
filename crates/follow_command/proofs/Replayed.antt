-- What an input comes to, in the words of a replay of its archive.
use Rattle.std.proofs.Common.{◌≡◌, ℕ, ◌≤◌, inl, inr, List, [], ◌∷◌, ◌++◌, map, length, take, drop, Some, None, Ok, Err, refl, sym, ap, subst, ◌∙◌, arith}
use Rattle.std.specs.FinMap.{empty}
use Rattle.std.proofs.lemmas.List.{take_all, take-append-drop, take-take}
use Rattle.lsn_core.specs.Files.{Files}
use Rattle.lsn_core.specs.Segment.{IsSegmentMib, StoreSettings}
use Rattle.lsn_core.specs.Store.{Store}
use Rattle.lsn_core.specs.Tip.{Tip}
use Rattle.lsn_core.specs.declared.lsn.Lsn.{Lsn}
use Rattle.wal_record.specs.declared.record.Record.{Record}
use Rattle.wal_record.specs.Tips.{first_tip, tip_after, tip_behind}
use Rattle.wal_archive.specs.Rules.{Found, End, Gives, Bad}
use Rattle.wal_archive.specs.declared.fault.Damage.{Damage}
use Rattle.wal_reader.specs.Cursor.{IsReached}
use Rattle.wal_reader.specs.Wal.{ReadsOn, IsWal, IsDamaged}
use Rattle.wal_reader.proofs.Passing.{reads_tip, stands_given, wal_reached}
use Rattle.wal_reader.proofs.Reached.{first_reached}
use Rattle.wal_reader.proofs.OneReading.{ends_or_is_damaged, one_damage}
use Rattle.history.specs.Apply.{apply_all}
use Rattle.history.specs.Whole.{entry_of}
use Rattle.recovery.specs.declared.replaying.ReadWal.{ReadWal}
use Rattle.recovery.specs.Onward.{AllEndBy, ending_by}
use Rattle.recovery.specs.Replay.{last_end, Reads, IsRead, IsReadWal}
use Rattle.recovery.proofs.SoFar.{all_kept}
use Rattle.stream_laws.specs.Streams.{stream_files}
use Rattle.stream_laws.specs.Waiting.{IsCutShort}
use Rattle.follow_laws.specs.Followed.{stream_settings, behind_in, AwaitsMore, IsFollowed, IsUnfollowed, Damaged, BadDelta, RefusesFound, RefusalsStay}
use Rattle.wal_follow.specs.Following.{Following, EndsWell, RefusesStream, FinishGives}
use Rattle.wal_follow.specs.declared.fault.FollowFault.{FollowFault}
use Rattle.wal_follow.specs.declared.fault.FollowFault.TheVariants as follow
use Rattle.follow_command.specs.declared.input.InputFault.{InputFault}
use Rattle.follow_command.specs.declared.input.InputFault.TheVariants as input
use Rattle.follow_command.specs.Input.{most_input, InputAnswer, IsRefusedInput, IsSizedAs, HasRead}
use Rattle.follow_command.specs.Followed.{IsReplayed, IsDamagedStream, IsRefusedStream, StreamAnswer, followed}

-- ---- a WAL that is read whole

reads_back : (s : StoreSettings) (files : Files) (tip : Tip) (rs : List Record) (last : Tip) → ReadsOn s files tip rs last → Reads s files None tip rs last
reads_back s files tip [] last reads = reads
reads_back s files tip (r ∷ rs) last reads = (reads.0, reads_back s files (tip_after tip r) rs last reads.1)

wal_read : (s : StoreSettings) (files : Files) (rs : List Record) (tip : Tip) → IsWal s files rs tip → IsRead s files None rs tip End
wal_read s files rs tip wal = record { reads = reads_back s files (first_tip s.segment) rs tip wal.walk; behind = wal.ended }

below_on : (s : StoreSettings) (files : Files) (tip : Tip) (rs : List Record) (last : Tip) → 1 ≤ s.segment → IsReached s.segment tip → ReadsOn s files tip rs last → (tip.end ≤ last.end) × AllEndBy rs last.end
below_on s files tip [] last some is walk = (omega (arith, ap (λ (t : Tip). t.end) walk), tt)
below_on s files tip (r ∷ rs) last some is walk =
    let g = stands_given s files tip r some is walk.0 in
    let more = below_on s files (tip_after tip r) rs last some g.reached walk.1 in
    (omega (arith, g.later, more.0), (more.0, more.1))

read_with : Lsn → Tip → Store → ReadWal
read_with end tip store = record { end = end; tip = tip; store = store }

is_read : (s : StoreSettings) (files : Files) (rs : List Record) (tip : Tip) (end : Lsn) (store : Store) → IsSegmentMib s.segment → IsWal s files rs tip → apply_all empty (map entry_of rs) ≡ Some store → end.0 ≡ tip.end
    → IsReadWal s (Some files) None (read_with end tip store)
unfolding read_with
is_read s files rs tip end store size wal applied ends =
    let below : AllEndBy rs tip.end = (below_on s files (first_tip s.segment) rs tip size.least (first_reached s.segment size) wal.walk).1 in
    let all : ending_by tip.end rs ≡ rs = all_kept rs tip.end below in
    let behind : tip ≡ tip_behind (first_tip s.segment) rs = reads_tip s files (first_tip s.segment) rs tip wal.walk in
    record {
      entries = rs;
      archive = wal_read s files rs tip wal;
      tip = behind;
      ends = below;
      reached = omega arith;
      store = ap (λ (es : List Record). apply_all empty (map entry_of es)) all ∙ applied;
      end = ends ∙ (ap (λ (t : Tip). t.end) behind ∙ ap (last_end s.segment) (sym all));
      within = (wal_reached s files rs tip size wal).within;
    }

-- ---- a stream that was followed to its end

-- by these sizes
at_sizes : (f : Following) (mib relseg : ℕ) (P : ℕ → ℕ → Type 0) → f.span.mib ≡ mib → f.relseg ≡ relseg → P f.span.mib f.relseg → P mib relseg
at_sizes f mib relseg P m r p = subst (λ (n : ℕ). P mib n) r (subst (λ (n : ℕ). P n f.relseg) m p)

ends_well : (f : Following) (bytes : List ℕ) (end : Lsn) → IsSegmentMib f.span.mib → length bytes ≤ most_input → EndsWell f bytes end → IsReplayed f.span.mib f.relseg bytes f end
unfolding read_with
ends_well f bytes end size few well = record {
  few = few;
  read = read_with end f.tip f.store;
  read_is = is_read (stream_settings f.span.mib f.relseg bytes) (stream_files f.span.mib bytes) well.rs f.tip end f.store size well.wal well.makes well.end_is;
  store = refl;
  end_is = refl;
}

-- ---- a stream that is refused

first_bytes : (count : ℕ) (bytes : List ℕ) → count ≤ most_input → (more : List ℕ) × (take count bytes ++ more ≡ followed bytes)
first_bytes count bytes few = (
  drop count (followed bytes),
  ap (λ (l : List ℕ). l ++ drop count (followed bytes)) (sym (take-take count most_input bytes few)) ∙ take-append-drop count (followed bytes),
)

damaged_so : (mib relseg : ℕ) (bytes : List ℕ) (d : Damage) → IsUnfollowed mib relseg (followed bytes) (Damaged d) → IsDamagedStream mib relseg bytes d
damaged_so mib relseg bytes d un = go (behind_in mib relseg (followed bytes) un.tip) refl un.refused
  where
    go : (found : Found) → behind_in mib relseg (followed bytes) un.tip ≡ found → RefusesFound un.store found (Damaged d) → IsDamagedStream mib relseg bytes d
    go (Bad e) is refused = record {
      rs = un.rs;
      store = un.store;
      makes = un.read.makes;
      damaged = record { tip = un.tip; walk = un.read.walk; broken = is ∙ ap (λ (x : Damage). Bad x) (sym refused.0) };
      whole = λ cut. absurd (refused.1 (subst IsCutShort refused.0 cut));
    }
    go End is refused = absurd refused
    go (Gives r) is refused = absurd refused

refused_so : RefusalsStay → (mib relseg count : ℕ) (bytes : List ℕ) (why : FollowFault) → 1 ≤ mib → count ≤ most_input → RefusesStream mib relseg (take count bytes) why → IsRefusedStream mib relseg bytes why
refused_so stay mib relseg count bytes (follow.Damaged d) some few un =
    let more = first_bytes count bytes few in
    damaged_so mib relseg bytes d (subst (λ (l : List ℕ). IsUnfollowed mib relseg l (Damaged d)) more.1 (stay mib relseg (take count bytes) more.0 (Damaged d) some un))
refused_so stay mib relseg count bytes (follow.BadDelta at) some few un =
    let more = first_bytes count bytes few in
    subst (λ (l : List ℕ). IsUnfollowed mib relseg l (BadDelta at)) more.1 (stay mib relseg (take count bytes) more.0 (BadDelta at) some un)
refused_so stay mib relseg count bytes follow.NoMemory some few un = tt

all_followed : (bytes : List ℕ) → length bytes ≤ most_input → bytes ≡ followed bytes
all_followed bytes few = sym (take_all most_input bytes few)

-- what is damaged is so behind the entries that were read
damaged_behind : (mib relseg : ℕ) (bytes : List ℕ) (rs qs : List Record) (tip : Tip) (store : Store) (d : Damage) → IsFollowed mib relseg bytes rs tip store → IsDamaged (stream_settings mib relseg bytes) (stream_files mib bytes) qs d → qs ≡ rs
damaged_behind mib relseg bytes rs qs tip store d is damaged = go (behind_in mib relseg bytes tip) refl is.waits
  where
    go : (found : Found) → behind_in mib relseg bytes tip ≡ found → AwaitsMore found → qs ≡ rs
    go End ends waits = absurd (ends_or_is_damaged (stream_settings mib relseg bytes) (stream_files mib bytes) rs qs tip d (record { walk = is.read.walk; ended = ends }) damaged)
    go (Gives r) gives waits = absurd waits
    go (Bad e) breaks waits = (one_damage (stream_settings mib relseg bytes) (stream_files mib bytes) qs rs d e damaged (record { tip = tip; walk = is.read.walk; broken = breaks })).0

ends_so : (f : Following) (bytes : List ℕ) (why : FollowFault) → length bytes ≤ most_input → HasRead f bytes → FinishGives f bytes (Err why) → IsRefusedStream f.span.mib f.relseg bytes why
ends_so f bytes (follow.Damaged d) few read ends = record {
  rs = ends.0;
  store = f.store;
  damaged = subst (λ (l : List ℕ). IsDamaged (stream_settings f.span.mib f.relseg l) (stream_files f.span.mib l) ends.0 d) (all_followed bytes few) ends.1;
  makes = ap (λ (es : List Record). apply_all empty (map entry_of es)) (damaged_behind f.span.mib f.relseg bytes read.0 ends.0 f.tip f.store d read.1 ends.1) ∙ read.1.read.makes;
  whole = λ cut. few;
}
ends_so f bytes (follow.BadDelta at) few read ends = absurd ends
ends_so f bytes follow.NoMemory few read ends = tt

module _ (stay : RefusalsStay) (mib relseg : ℕ) (size : IsSegmentMib mib) (old new : Following) (is_mib : old.span.mib ≡ mib) (is_relseg : old.relseg ≡ relseg) where
  sized : IsSizedAs old new → (P : ℕ → ℕ → Type 0) → P new.span.mib new.relseg → P mib relseg
  sized alike P p = at_sizes new mib relseg P (alike.0 ∙ is_mib) (alike.1 ∙ is_relseg) p

  same_size : IsSizedAs old new → IsSegmentMib new.span.mib
  same_size alike = subst IsSegmentMib (sym (alike.0 ∙ is_mib)) size

  refused_input : (bytes : List ℕ) (why : FollowFault) → IsRefusedInput old new bytes why → IsRefusedStream mib relseg bytes why
  refused_input bytes why (inl early) =
      refused_so stay mib relseg early.0 bytes why size.least early.1 (at_sizes old mib relseg (λ m r. RefusesStream m r (take early.0 bytes) why) is_mib is_relseg early.2)
  refused_input bytes why (inr late) =
      sized late.2 (λ m r. IsRefusedStream m r bytes why) (ends_so new bytes why late.0 late.3 late.1)

  pub came_well : (bytes : List ℕ) (end : Lsn) → InputAnswer old new bytes (Ok end) → IsReplayed mib relseg bytes new end
  came_well bytes end answer =
      sized answer.3 (λ m r. IsReplayed m r bytes new end) (ends_well new bytes end (same_size answer.3) answer.0 answer.2)

  pub came_refused : (bytes : List ℕ) (why : InputFault) → InputAnswer old new bytes (Err why) → StreamAnswer mib relseg bytes (Err why)
  came_refused bytes (input.Input why) answer = tt
  came_refused bytes (input.Long n) answer = (
    answer.0,
    record {
      more = answer.1;
      rs = answer.2.rs;
      tip = new.tip;
      store = new.store;
      waits = sized answer.3 (λ m r. IsFollowed m r (followed bytes) answer.2.rs new.tip new.store) answer.2.followed;
    },
  )
  came_refused bytes (input.Wal why) answer = refused_input bytes why answer
