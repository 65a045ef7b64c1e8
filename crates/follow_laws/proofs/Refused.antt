-- A refusal stays, whatever bytes come.
use Rattle.std.proofs.Common.{◌≡◌, ℕ, ◌+◌, ◌-◌, ◌/◌, ◌<◌, ◌≤◌, Bool, true, false, cond, inl, inr, List, [], ◌∷◌, ◌++◌, length, get_or, Some, None, refl, sym, ap, subst, ◌∙◌, arith}
use Rattle.std.proofs.lemmas.Bool.{cases_lt, lt-ltb, le-ltb, le-leb}
use Rattle.std.proofs.lemmas.List.{length-append, get_or_append_left}
use Rattle.lsn_core.specs.byte_words.Numbers.{u64_in}
use Rattle.lsn_core.specs.Segment.{segment_bytes}
use Rattle.lsn_core.specs.Store.{Store}
use Rattle.lsn_core.specs.Tip.{Tip}
use Rattle.wal_record.specs.declared.record.Record.{Record}
use Rattle.wal_record.specs.Decoding.{record_at}
use Rattle.wal_record.specs.Tips.{first_tip}
use Rattle.wal_archive.specs.Archive.{archive_of, is_segment, nth}
use Rattle.wal_archive.specs.Rules.{Found, End, Gives, Bad, Walks, next_in}
use Rattle.wal_archive.proofs.Chain.{walk_reach, walks_extended}
use Rattle.wal_archive.proofs.Judged.{record_is_fair}
use Rattle.wal_archive.proofs.Read.{origin_end}
use Rattle.wal_reader.specs.Settings.{system_in}
use Rattle.stream_laws.specs.Waiting.{Stays, HoldsMore, FoundStays}
use Rattle.stream_laws.specs.Streams.{stream_files, stream_byte, StreamsAreArchives}
use Rattle.stream_laws.specs.Waiting.{FinalNeedsHead}
use Rattle.follow_laws.specs.Followed.{behind_in, IsReadSo, Unfollowed, Damaged, BadDelta, RefusesFound, RefusalsStay}

-- ---- a stream that goes on

pub nth_more : (bytes more : List ℕ) (i b : ℕ) → nth bytes i ≡ Some b → nth (bytes ++ more) i ≡ Some b
nth_more bytes more i b e =
    elim (cases_lt i (length bytes)) [
      | inl lt ↦
          let l = length-append bytes more in
          let here : nth bytes i ≡ Some (get_or bytes i 0) = rw (lt-ltb i (length bytes) lt) refl in
          let there : nth (bytes ++ more) i ≡ Some (get_or (bytes ++ more) i 0) = rw (lt-ltb i (length (bytes ++ more)) (omega (arith, l, lt))) refl in
          there ∙ (ap (λ (n : ℕ). Some n) (get_or_append_left bytes more 0 i lt) ∙ (sym here ∙ e))
      | inr le ↦ absurd (let none : nth bytes i ≡ None = rw (le-ltb i (length bytes) le) refl in let never : None ≡ Some b = sym none ∙ e in cc)
    ]

pub byte_more : (mib : ℕ) (bytes more : List ℕ) (x b : ℕ) → stream_byte mib bytes x ≡ Some b → stream_byte mib (bytes ++ more) x ≡ Some b
byte_more mib bytes more x b =
    elim (is_segment (x / segment_bytes mib)) as (λ s. cond s (nth bytes (x - segment_bytes mib)) None ≡ Some b → cond s (nth (bytes ++ more) (x - segment_bytes mib)) None ≡ Some b) [
      | true ↦ λ e. nth_more bytes more (x - segment_bytes mib) b e
      | false ↦ λ e. e
    ]

pub goes_on : StreamsAreArchives → (mib : ℕ) (bytes more : List ℕ) (e : ℕ) → 1 ≤ mib → segment_bytes mib ≤ e → HoldsMore mib (archive_of mib (stream_files mib bytes)) (archive_of mib (stream_files mib (bytes ++ more))) e
goes_on law mib bytes more e some least =
    let one = law mib bytes some in
    let two = law mib (bytes ++ more) some in
    record {
      some = some;
      before = one.archive;
      behind = two.archive;
      solid_before = record { ends = λ x le none. one.solid.ends x (omega (arith, le, least)) none };
      solid_behind = record { ends = λ x le none. two.solid.ends x (omega (arith, le, least)) none };
      holds = λ x b le held. two.byte x ∙ byte_more mib bytes more x b (sym (one.byte x) ∙ held);
    }

-- ---- the settings

word_more : (bytes more : List ℕ) (at : ℕ) → at + 8 ≤ length bytes → u64_in (bytes ++ more) at ≡ u64_in bytes at
word_more bytes more at fits =
    let byte = λ (i : ℕ) (lt : i < length bytes). get_or_append_left bytes more 0 i lt in
    rw (
      byte at (omega (arith, fits)),
      byte (at + 1) (omega (arith, fits)),
      byte (at + 2) (omega (arith, fits)),
      byte (at + 2 + 1) (omega (arith, fits)),
      byte (at + 4) (omega (arith, fits)),
      byte (at + 4 + 1) (omega (arith, fits)),
      byte (at + 4 + 2) (omega (arith, fits)),
      byte (at + 4 + 2 + 1) (omega (arith, fits)),
    ) refl

pub system_more : (bytes more : List ℕ) → 32 ≤ length bytes → system_in (bytes ++ more) ≡ system_in bytes
system_more bytes more long =
    let l = length-append bytes more in
    let here : system_in bytes ≡ u64_in bytes 24 = ap (λ (b : Bool). cond b (u64_in bytes 24) 0) (le-leb 32 (length bytes) long) in
    let there : system_in (bytes ++ more) ≡ u64_in (bytes ++ more) 24 = ap (λ (b : Bool). cond b (u64_in (bytes ++ more) 24) 0) (le-leb 32 (length (bytes ++ more)) (omega (arith, l, long))) in
    there ∙ (word_more bytes more 24 long ∙ sym here)

-- ---- what is read first

stream_long : (mib : ℕ) (bytes : List ℕ) (b : ℕ) → stream_byte mib bytes (segment_bytes mib + 39) ≡ Some b → 40 ≤ length bytes
stream_long mib bytes b =
    elim (is_segment ((segment_bytes mib + 39) / segment_bytes mib)) as (λ s. cond s (nth bytes (segment_bytes mib + 39 - segment_bytes mib)) None ≡ Some b → 40 ≤ length bytes) [
      | true ↦ λ e. elim (cases_lt 39 (length bytes)) [
        | inl lt ↦ omega (arith, lt)
        | inr le ↦ absurd (let at : segment_bytes mib + 39 - segment_bytes mib ≡ 39 = omega arith in
            let none : nth bytes 39 ≡ None = rw (le-ltb 39 (length bytes) le) refl in
            let never : None ≡ Some b = sym none ∙ (ap (nth bytes) (sym at) ∙ e) in cc)
      ]
      | false ↦ λ e. absurd cc
    ]

-- where anything is read, the first page's head is held
pub long_of : StreamsAreArchives → FinalNeedsHead → (mib system : ℕ) (bytes : List ℕ) → 1 ≤ mib → Stays (next_in record_at mib system (archive_of mib (stream_files mib bytes)) (first_tip mib)) → 40 ≤ length bytes
long_of law head mib system bytes some stays =
    let is = law mib bytes some in
    let held = head record_at mib system (archive_of mib (stream_files mib bytes)) some is.solid is.archive stays in
    stream_long mib bytes held.0 (sym (is.byte (segment_bytes mib + 39)) ∙ held.1)

refused_stays : (store : Store) (f : Found) (why : Unfollowed) → RefusesFound store f why → Stays f
refused_stays store End why is = is
refused_stays store (Gives r) why is = tt
refused_stays store (Bad d) (Damaged e) is = is.1
refused_stays store (Bad d) (BadDelta at) is = absurd is

pub gives_stays : (f : Found) (r : Record) → f ≡ Gives r → Stays f
gives_stays f r e = subst Stays (sym e) tt

read_long : StreamsAreArchives → FinalNeedsHead → (mib relseg : ℕ) (bytes : List ℕ) (rs : List Record) (tip : Tip) (store : Store) (why : Unfollowed) → 1 ≤ mib → IsReadSo mib relseg bytes rs tip store → RefusesFound store (behind_in mib relseg bytes tip) why → 40 ≤ length bytes
read_long law head mib relseg bytes [] tip store why some read refused =
    long_of law head mib (system_in bytes) bytes some (subst (λ (t : Tip). Stays (behind_in mib relseg bytes t)) read.walk (refused_stays store (behind_in mib relseg bytes tip) why refused))
read_long law head mib relseg bytes (r ∷ rs) tip store why some read refused =
    long_of law head mib (system_in bytes) bytes some (gives_stays (behind_in mib relseg bytes (first_tip mib)) r read.walk.0)

pub refusals_stay : StreamsAreArchives → FoundStays → FinalNeedsHead → RefusalsStay
refusals_stay law stays head mib relseg bytes more why some is =
    let a = archive_of mib (stream_files mib bytes) in
    let c = archive_of mib (stream_files mib (bytes ++ more)) in
    let long = read_long law head mib relseg bytes is.rs is.tip is.store why some is.read is.refused in
    let system = system_more bytes more (omega (arith, long)) in
    let reach = walk_reach record_at mib (system_in bytes) a (first_tip mib) is.rs is.tip some record_is_fair (origin_end mib) is.read.walk in
    let low = reach.later in
    let on = goes_on law mib bytes more is.tip.end some (omega (arith, low)) in
    let arch = (law mib (bytes ++ more) some).archive in
    let one = law mib bytes some in
    let two = law mib (bytes ++ more) some in
    let walk = walks_extended record_at mib (system_in bytes) a c (first_tip mib) is.rs is.tip some record_is_fair arch (origin_end mib) (λ x b lt held. two.byte x ∙ byte_more mib bytes more x b (sym (one.byte x) ∙ held)) is.read.walk in
    let found = stays record_at mib (system_in bytes) a c is.tip on (refused_stays is.store (behind_in mib relseg bytes is.tip) why is.refused) in
    record {
      rs = is.rs;
      tip = is.tip;
      store = is.store;
      read = record {
        walk = subst (λ (s : ℕ). Walks record_at mib s c (first_tip mib) is.rs is.tip) (sym system) walk;
        makes = is.read.makes;
      };
      refused = subst (λ (s : ℕ). RefusesFound is.store (next_in record_at mib s c is.tip) why) (sym system) (subst (λ (f : Found). RefusesFound is.store f why) (sym found) is.refused);
    }
