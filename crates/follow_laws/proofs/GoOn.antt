-- What was read goes on.
use Rattle.std.proofs.Common.{◌≡◌, ℕ, ◌+◌, ◌-◌, ◌/◌, ◌<◌, ◌≤◌, true, false, cond, inl, inr, List, [], ◌∷◌, ◌++◌, map, length, replicate, get_or, Option, Some, None, refl, sym, ap, subst, ◌∙◌, arith}
use Rattle.std.specs.FinMap.{empty}
use Rattle.std.proofs.lemmas.Bool.{cases_lt, lt-ltb, le-ltb}
use Rattle.std.proofs.lemmas.List.{length-append, length-replicate, get_or_append_left, get_or-append-add, get_or-replicate, map-append}
use Rattle.lsn_core.specs.Segment.{StoreSettings, segment_bytes}
use Rattle.lsn_core.specs.Files.{Files}
use Rattle.lsn_core.specs.Store.{Store}
use Rattle.lsn_core.specs.Tip.{Tip}
use Rattle.wal_record.specs.declared.record.Record.{Record}
use Rattle.wal_record.specs.Decoding.{record_at}
use Rattle.wal_record.specs.Tips.{first_tip, tip_after}
use Rattle.wal_archive.specs.Archive.{archive_of, is_segment, nth}
use Rattle.wal_archive.specs.Rules.{End, Gives, Walks, next_in}
use Rattle.wal_archive.proofs.Chain.{walk_reach, walks_extended}
use Rattle.wal_archive.proofs.Judged.{record_is_fair}
use Rattle.wal_archive.proofs.Read.{origin_end}
use Rattle.wal_reader.specs.Settings.{system_in}
use Rattle.wal_reader.specs.Wal.{stands_behind, ReadsOn}
use Rattle.history.specs.Apply.{apply_all}
use Rattle.history.specs.Whole.{entry_of}
use Rattle.history.proofs.Histories.{apply_all-push}
use Rattle.stream_laws.specs.Waiting.{FinalNeedsHead, EndStays}
use Rattle.stream_laws.specs.Streams.{stream_files, stream_byte, StreamsAreArchives}
use Rattle.follow_laws.specs.Followed.{stream_settings, behind_in, IsReadSo}
use Rattle.follow_laws.proofs.Refused.{goes_on, byte_more, system_more, long_of, gives_stays}
use Rattle.follow_laws.specs.Steps.{EntriesGoOn, StreamsGoOn, ZerosGoOn}

-- ---- an entry more

walk_push : (s : StoreSettings) (files : Files) (from tip : Tip) (rs : List Record) (r : Record) → ReadsOn s files from rs tip → stands_behind s files tip ≡ Gives r → ReadsOn s files from (rs ++ (r ∷ [])) (tip_after tip r)
walk_push s files from tip [] r walk gives = (subst (λ (t : Tip). stands_behind s files t ≡ Gives r) walk gives, ap (λ (t : Tip). tip_after t r) walk)
walk_push s files from tip (q ∷ rs) r walk gives = (walk.0, walk_push s files (tip_after from q) tip rs r walk.1 gives)

pub entries_go_on : EntriesGoOn
entries_go_on mib relseg fed rs r tip store next read gives applied = record {
  walk = walk_push (stream_settings mib relseg fed) (stream_files mib fed) (first_tip mib) tip rs r read.walk gives;
  makes = ap (apply_all empty) (map-append entry_of rs (r ∷ [])) ∙ apply_all-push empty (map entry_of rs) store (entry_of r) next read.makes applied;
}

-- ---- a piece more

goes_read : StreamsAreArchives → FinalNeedsHead → (mib relseg : ℕ) (fed piece : List ℕ) (rs : List Record) (tip : Tip) (store : Store) → 1 ≤ mib → IsReadSo mib relseg fed rs tip store → IsReadSo mib relseg (fed ++ piece) rs tip store
goes_read law head mib relseg fed piece [] tip store some read = record { walk = read.walk; makes = read.makes }
goes_read law head mib relseg fed piece (r ∷ rs) tip store some read =
    let a = archive_of mib (stream_files mib fed) in
    let c = archive_of mib (stream_files mib (fed ++ piece)) in
    let long = long_of law head mib (system_in fed) fed some (gives_stays (behind_in mib relseg fed (first_tip mib)) r read.walk.0) in
    let system = system_more fed piece (omega (arith, long)) in
    let one = law mib fed some in
    let two = law mib (fed ++ piece) some in
    let walk = walks_extended record_at mib (system_in fed) a c (first_tip mib) (r ∷ rs) tip some record_is_fair two.archive (origin_end mib) (λ x b lt held. two.byte x ∙ byte_more mib fed piece x b (sym (one.byte x) ∙ held)) read.walk in
    record {
      walk = subst (λ (s : ℕ). Walks record_at mib s c (first_tip mib) (r ∷ rs) tip) (sym system) walk;
      makes = read.makes;
    }

pub streams_go_on : StreamsAreArchives → FinalNeedsHead → StreamsGoOn
streams_go_on law head mib relseg fed piece rs tip store some read = goes_read law head mib relseg fed piece rs tip store some read

-- ---- zeros

-- a byte other than zero isn't one of them
nth_before : (fed : List ℕ) (n i b : ℕ) → nth (fed ++ replicate n 0) i ≡ Some b → 0 < b → nth fed i ≡ Some b
nth_before fed n i b e more =
    let l = length-append fed (replicate n 0) in
    let r = length-replicate {A = ℕ} n 0 in
    elim (cases_lt i (length fed)) [
      | inl lt ↦
          let here : nth fed i ≡ Some (get_or fed i 0) = rw (lt-ltb i (length fed) lt) refl in
          let there : nth (fed ++ replicate n 0) i ≡ Some (get_or (fed ++ replicate n 0) i 0) = rw (lt-ltb i (length (fed ++ replicate n 0)) (omega (arith, l, lt))) refl in
          here ∙ (ap (λ (k : ℕ). Some k) (sym (get_or_append_left fed (replicate n 0) 0 i lt)) ∙ (sym there ∙ e))
      | inr le ↦ elim (cases_lt i (length (fed ++ replicate n 0))) [
        | inl lt ↦
            let at : i ≡ length fed + (i - length fed) = omega (arith, le) in
            let there : nth (fed ++ replicate n 0) i ≡ Some (get_or (fed ++ replicate n 0) i 0) = rw (lt-ltb i (length (fed ++ replicate n 0)) lt) refl in
            let nil : get_or (fed ++ replicate n 0) i 0 ≡ 0 = ap (λ (k : ℕ). get_or (fed ++ replicate n 0) k 0) at ∙ (get_or-append-add fed (replicate n 0) (i - length fed) 0 ∙ get_or-replicate n (i - length fed) 0 0 (omega (arith, lt, l, r, le))) in
            let same : get_or (fed ++ replicate n 0) i 0 ≡ b = some_same (get_or (fed ++ replicate n 0) i 0) b (sym there ∙ e) in
            absurd (omega (arith, nil, same, more))
        | inr past ↦ absurd (let none : nth (fed ++ replicate n 0) i ≡ None = rw (le-ltb i (length (fed ++ replicate n 0)) past) refl in let never : None ≡ Some b = sym none ∙ e in cc)
      ]
    ]
  where
    some_same : (x y : ℕ) → ◌≡◌ {A = Option ℕ} (Some x) (Some y) → x ≡ y
    some_same x y e = cc

byte_before : (mib : ℕ) (fed : List ℕ) (n x b : ℕ) → stream_byte mib (fed ++ replicate n 0) x ≡ Some b → 0 < b → stream_byte mib fed x ≡ Some b
byte_before mib fed n x b =
    elim (is_segment (x / segment_bytes mib)) as (λ s. cond s (nth (fed ++ replicate n 0) (x - segment_bytes mib)) None ≡ Some b → 0 < b → cond s (nth fed (x - segment_bytes mib)) None ≡ Some b) [
      | true ↦ λ e more. nth_before fed n (x - segment_bytes mib) b e more
      | false ↦ λ e more. e
    ]

pub zeros_go_on : StreamsAreArchives → EndStays → ZerosGoOn
zeros_go_on law stays mib relseg n fed rs tip store some read system none =
    let a = archive_of mib (stream_files mib fed) in
    let c = archive_of mib (stream_files mib (fed ++ replicate n 0)) in
    let reach = walk_reach record_at mib (system_in fed) a (first_tip mib) rs tip some record_is_fair (origin_end mib) read.walk in
    let low = reach.later in
    let on = goes_on law mib fed (replicate n 0) tip.end some (omega (arith, low)) in
    let one = law mib fed some in
    let two = law mib (fed ++ replicate n 0) some in
    let found = stays record_at mib (system_in fed) a c tip on (λ x b le held more. one.byte x ∙ byte_before mib fed n x b (sym (two.byte x) ∙ held) more) none in
    subst (λ (s : ℕ). next_in record_at mib s c tip ≡ End) (sym system) found
