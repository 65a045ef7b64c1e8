-- A new WAL: what its two writes leave in an area that held no file.
use Rattle.std.proofs.Common.{◌≡◌, ◌≢◌, ℕ, suc, ◌+◌, ◌-◌, ◌/◌, ◌%◌, ◌^◌, ◌<◌, ◌≤◌, ◌⊎◌, Bool, true, false, cond, List, [], ◌∷◌, ◌++◌, length, get_or, take, Option, Some, None, IfSome, IfOk, OnOk, OnErr, Result, Ok, Err, refl, sym, ap, subst, ◌∙◌, arith, inl, inr, unwrap_or}
use Rattle.std.proofs.lemmas.List.{append-nil, drop_all, take_all, length-take}
use Rattle.std.proofs.lemmas.List.FromFn.{length-map-range_with_len, get_or-map-range_with_len}
use Rattle.std.proofs.lemmas.Bool.{eq-eqb, le-leb, lt-ltb}
use Rattle.std.specs.Option.{option_map, is_some}
use Rattle.std.specs.Ordering.{nat_cmp, eq_by_cmp}
use Rattle.std.specs.Cmp.{Equal-is, eq_by_cmp_equiv}
use Rattle.std.specs.Cmp.Lexicographic.{slice_cmp, nat_list_cmp_total}
use Rattle.std.specs.FinMap.{get, insert, empty, contains_key, get-insert, get-empty, slice_cmp-IsAntisymmetric, nat_cmp-IsAntisymmetric}
use Rattle.lsn_core.specs.byte_words.Numbers.{u64_in}
use Rattle.lsn_core.specs.Files.{Files}
use Rattle.lsn_core.specs.Names.{segment_name_bytes}
use Rattle.lsn_core.specs.Segment.{IsSegmentMib, IsRelseg, segment_bytes, StoreSettings}
use Rattle.lsn_core.specs.declared.lsn.Lsn.{Lsn}
use Rattle.lsn_core.specs.declared.fault.AreaFault.{AreaFault}
use Rattle.vault.specs.Area.{bytes_of, file_written, after_write}
use Rattle.vault.proofs.Torn.{written_is_related}
use Rattle.wal_pages.specs.Places.{place, flat_before, start_after, stop_of, end_of}
use Rattle.wal_pages.specs.Heads.{long_part, head_bytes, page_head, is_first_page}
use Rattle.wal_pages.specs.Spread.{spread, spread_byte, still_to_come}
use Rattle.wal_pages.proofs.Splits.{head_first, start_page, start_behind_head, stop_is, flat_on, head_on, place_flat}
use Rattle.wal_pages.proofs.Pieces.{spread_head}
use Rattle.wal_record.specs.declared.record.Record.{Record}
use Rattle.wal_record.specs.declared.record.Kind.TheVariants.{Shutdown}
use Rattle.wal_record.specs.Decoding.{may_come, record_at}
use Rattle.wal_record.specs.Spelling.{sealed}
use Rattle.wal_record.specs.Tips.{first_tip, record_at_tip, IsWithin}
use Rattle.wal_archive.specs.Archive.{is_segment, held_in, nth, byte_of, has_segment, archive_of}
use Rattle.wal_archive.specs.Laws.{HasNoGap, IsKept, entries_written}
use Rattle.wal_archive.specs.Rules.{lsn}
use Rattle.wal_archive.specs.Writing.{IsNext, room_in, laid_out, archive_written}
use Rattle.wal_archive.proofs.Judged.{record_is_fair}
use Rattle.wal_archive.proofs.Read.{written_is_read}
use Rattle.wal_archive.proofs.Writes.{nth_past, written_none, written_more, at_split}
use Rattle.wal_reader.specs.Settings.{system_in, IsSettingsOf}
use Rattle.wal_reader.proofs.StoreFiles.{HasStoreFiles, store_settings}
use Rattle.wal_writer.specs.Log.{Log, Ready, IsLog, log_at, next_record}
use Rattle.wal_writer.proofs.NextRead.{next_comes}
use Rattle.wal_writer.proofs.Ready.{comes}
use Rattle.command_base.specs.Areas.{IsClear, AreaIsDurable}
use Rattle.store_commands.specs.Init.{InitAreas, InitDone, settings_name, segment_name, settings_file, segment_file, first_start, first_entry, new_tip, begun_wal, new_wal, HasFirstAlone, IsNewWal, HoldsPart}
use Rattle.store_commands.specs.Inner.{with_settings, with_segment, IsSegmentTorn, IsFirstEntry, with_first, IsFirstTorn}

-- ---- files

-- a file that is put into files
get_own : (m : Files) (name bytes : List ℕ) → get (insert m name bytes) name ≡ Some bytes
get_own m name bytes = get-insert nat_list_cmp_total m name bytes name ∙ ap (λ (b : Bool). cond b (Some bytes) (get m name)) ((eq_by_cmp_equiv nat_list_cmp_total).refl name)

other_of : (b : Bool) (new : List ℕ) (old : Option (List ℕ)) → (b ≡ true → ⊥) → cond b (Some new) old ≡ old
other_of true new old apart = absurd (apart refl)
other_of false new old apart = refl

same_name : (q name : List ℕ) → eq_by_cmp (slice_cmp nat_cmp) q name ≡ true → q ≡ name
same_name q name e = slice_cmp-IsAntisymmetric nat_cmp-IsAntisymmetric q name ((Equal-is _).0 e)

-- any other one
pub get_other : (m : Files) (name bytes q : List ℕ) → q ≢ name → get (insert m name bytes) q ≡ get m q
get_other m name bytes q apart =
    get-insert nat_list_cmp_total m name bytes q
    ∙ other_of (eq_by_cmp (slice_cmp nat_cmp) q name) bytes (get m q) (λ e. apart (same_name q name e))

-- a file that is there is the one that was put there, or another one
there_of : (b : Bool) (new : List ℕ) (old : Option (List ℕ)) → is_some (cond b (Some new) old) ≡ true → (b ≡ true) ⊎ (is_some old ≡ true)
there_of true new old there = inl refl
there_of false new old there = inr there

put_or_there : (m : Files) (name bytes q : List ℕ) → contains_key (insert m name bytes) q ≡ true → (q ≡ name) ⊎ (contains_key m q ≡ true)
put_or_there m name bytes q there =
    elim (there_of (eq_by_cmp (slice_cmp nat_cmp) q name) bytes (get m q) (ap is_some (sym (get-insert nat_list_cmp_total m name bytes q)) ∙ there)) [
      | inl e ↦ inl (same_name q name e)
      | inr old ↦ inr old
    ]

-- a missing or empty file has no bytes; of a clear area each is missing
pub nothing_in : (m : Files) (q : List ℕ) → m ≡ empty → get m q ≡ None
nothing_in m q clear = ap (λ (n : Files). get n q) clear ∙ get-empty (slice_cmp nat_cmp) q

none_in : (m : Files) (q : List ℕ) → m ≡ empty → contains_key m q ≡ true → ⊥
none_in m q clear there = (let same : true ≡ false = sym there ∙ ap is_some (nothing_in m q clear) in absurd cc)

written_alone : (piece : List ℕ) → file_written [] 0 piece ≡ piece
written_alone [] = refl
written_alone (b ∷ bs) = ap (λ (l : List ℕ). (b ∷ bs) ++ l) (drop_all (0 + length (b ∷ bs)) [] (omega arith)) ∙ append-nil (b ∷ bs)

put_alone : (m : Files) (name piece : List ℕ) → bytes_of m name ≡ [] → after_write name 0 piece m ≡ insert m name piece
put_alone m name piece none = ap (λ (l : List ℕ). insert m name (file_written l 0 piece)) none ∙ ap (insert m name) (written_alone piece)

-- a piece at the start of a missing file is all of it
pub written_first : (m : Files) (name piece : List ℕ) → m ≡ empty → after_write name 0 piece m ≡ insert empty name piece
written_first m name piece clear =
    put_alone m name piece (ap (λ (o : Option (List ℕ)). unwrap_or o []) (nothing_in m name clear)) ∙ ap (λ (n : Files). insert n name piece) clear

-- the name of segment 1 isn't `settings`
first_code : List ℕ → ℕ
first_code [] = 0
first_code (c ∷ cs) = c

pub segment_is_not_settings : (seg mib : ℕ) → segment_name_bytes seg mib ≢ settings_name
unfolding first_code
segment_is_not_settings seg mib e = absurd (omega (arith, ap first_code e))

-- ---- the first entry

first_within : (mib : ℕ) → IsWithin mib (first_tip mib)
first_within mib = record { aligned = omega arith; least = omega arith; most = omega arith; prev = omega arith; redo = omega arith; count = omega arith }

long_head : (mib : ℕ) → 1 ≤ mib → start_after mib (segment_bytes mib) ≡ segment_bytes mib + 40
long_head mib some =
    start_page mib (segment_bytes mib) some (omega arith)
    ∙ ap (λ (n : ℕ). segment_bytes mib + n) (head_first mib (segment_bytes mib) 1 0 (record { is = omega arith; page = omega (arith, some); byte = omega arith }))

-- it ends on the first page
first_ends : (mib : ℕ) → 1 ≤ mib → (first_entry mib).end.0 ≡ segment_bytes mib + 96
first_ends mib some =
    let start : ℕ = start_after mib (segment_bytes mib) in
    let at = long_head mib some in
    let behind = start_behind_head mib (segment_bytes mib) some in
    let on : start % 8192 ≡ 40 = omega (arith, at) in
    let flat : flat_before mib (start + 55) ≡ flat_before mib start + 55 = flat_on mib start 55 some behind (omega (arith, on)) in
    let there : place mib (flat_before mib (start + 55)) ≡ start + 55 = place_flat mib (start + 55) some (head_on mib start 55 some behind (omega (arith, on))) in
    let stop : stop_of mib start 56 ≡ start + 56 =
    stop_is mib start 56 ∙ (ap (λ (n : ℕ). place mib n + 1) (let z : flat_before mib start + 56 - 1 ≡ flat_before mib (start + 55) = omega (arith, flat) in z) ∙ (ap (λ (n : ℕ). n + 1) there ∙ (let z : start + 55 + 1 ≡ start + 56 = omega arith in z))) in
    stop ∙ (let z : start + 56 ≡ segment_bytes mib + 96 = omega (arith, at) in z)

-- the bytes of segment 1 are those of a checkpoint that comes first
first_size : (s : StoreSettings) (redo : Lsn) → 1 ≤ s.segment → segment_bytes s.segment + length (spread s.segment s.system (segment_bytes s.segment) (sealed (record_at_tip s.segment (first_tip s.segment) (Shutdown redo)))) ≡ (record_at_tip s.segment (first_tip s.segment) (Shutdown redo)).end.0
first_size s redo some = (comes s.segment s.system (first_tip s.segment) (Shutdown redo) some (first_within s.segment)).size

length_first : (s : StoreSettings) → 1 ≤ s.segment → length (segment_file s) ≡ 96
length_first s some = omega (arith, first_size s (first_start s.segment) some, first_ends s.segment some)

-- ---- one piece of the archive

one_piece : (mib n at : ℕ) (bytes : List ℕ) (m : Files) → 1 ≤ mib → at ≡ segment_bytes mib → length bytes ≡ suc n → length bytes ≤ 1048576
    → archive_written mib (length bytes) at bytes m ≡ after_write (segment_name_bytes 1 mib) 0 bytes m
one_piece mib n at bytes m some start len small =
    let s = at_split mib at 1 0 some (omega (arith, start)) (omega (arith, some)) in
    let room : length bytes ≤ room_in at = omega (arith, small, start) in
    let piece : List ℕ = take (room_in at) bytes in
    let first : Files = after_write (segment_name_bytes (at / segment_bytes mib) mib) (at % segment_bytes mib) piece m in
    ap (λ (k : ℕ). archive_written mib k at bytes m) len
    ∙ (written_more mib n at bytes m (omega (arith, len))
    ∙ (ap (λ (l : List ℕ). archive_written mib n (at + room_in at) l first) (drop_all (room_in at) bytes room)
    ∙ (written_none mib n (at + room_in at) first
    ∙ (ap (λ (k : ℕ). after_write (segment_name_bytes k mib) (at % segment_bytes mib) piece m) s.0
    ∙ (ap (λ (k : ℕ). after_write (segment_name_bytes 1 mib) k piece m) s.1
    ∙ ap (λ (l : List ℕ). after_write (segment_name_bytes 1 mib) 0 l m) (take_all (room_in at) bytes room))))))

-- segment 1, where its file was missing or empty
first_written : (s : StoreSettings) (m : Files) → 1 ≤ s.segment → bytes_of m (segment_name s) ≡ []
    → archive_written s.segment (length (segment_file s)) (segment_bytes s.segment) (segment_file s) m ≡ insert m (segment_name s) (segment_file s)
first_written s m some none =
    one_piece s.segment 95 (segment_bytes s.segment) (segment_file s) m some refl (length_first s some) (omega (arith, length_first s some))
    ∙ put_alone m (segment_name s) (segment_file s) none

-- ---- what a new WAL reads as

segment_there : (s : StoreSettings) → get (new_wal s) (segment_name s) ≡ Some (segment_file s)
segment_there s = get_own (begun_wal s) (segment_name s) (segment_file s)

segment_bytes_there : (s : StoreSettings) → bytes_of (new_wal s) (segment_name s) ≡ segment_file s
segment_bytes_there s = ap (λ (o : Option (List ℕ)). unwrap_or o []) (segment_there s)

settings_there : (s : StoreSettings) → get (new_wal s) settings_name ≡ Some (settings_file s)
settings_there s =
    get_other (begun_wal s) (segment_name s) (segment_file s) settings_name (λ e. segment_is_not_settings 1 s.segment (sym e))
    ∙ get_own empty settings_name (settings_file s)

is_one : is_segment 1 ≡ true
unfolding is_segment
is_one = refl

has_first : (s : StoreSettings) → has_segment s.segment (new_wal s) 1 ≡ true
unfolding has_segment is_segment
has_first s = ap is_some (segment_there s)

-- no segment is there before the first one
not_begun : (s : StoreSettings) (seg : ℕ) → get (begun_wal s) (segment_name_bytes seg s.segment) ≡ None
not_begun s seg = get_other empty settings_name (settings_file s) (segment_name_bytes seg s.segment) (segment_is_not_settings seg s.segment) ∙ get-empty (slice_cmp nat_cmp) (segment_name_bytes seg s.segment)

held_none : (b : Bool) (n : ℕ) (bytes : List ℕ) (i : ℕ) → bytes ≡ [] → nth (cond b (take n bytes) []) i ≡ None
held_none true n bytes i e = nth_past (take n bytes) i (omega (arith, length-take n bytes, ap length e))
held_none false n bytes i e = nth_past [] i (omega arith)

none_begun : (s : StoreSettings) (x : ℕ) → (archive_of s.segment (begun_wal s)).byte x ≡ None
unfolding byte_of held_in
none_begun s x =
    held_none (is_segment (x / segment_bytes s.segment)) (segment_bytes s.segment) (bytes_of (begun_wal s) (segment_name_bytes (x / segment_bytes s.segment) s.segment)) (x % segment_bytes s.segment)
    (ap (λ (o : Option (List ℕ)). unwrap_or o []) (not_begun s (x / segment_bytes s.segment)))

is_none : (o : Option ℕ) (b : ℕ) → o ≡ None → o ≡ Some b → ⊥
is_none o b none some = absurd cc

begun_kept : (s : StoreSettings) → IsKept record_at s.segment s.system (begun_wal s) [] (first_tip s.segment) 0
begun_kept s = record { walk = refl; zeros = λ x b held big. absurd (is_none ((archive_of s.segment (begun_wal s)).byte x) b (none_begun s x) held) }

log_first : (s : StoreSettings) → IsSegmentMib s.segment → s.system < 2 ^ 64 → IsLog (log_at s (first_tip s.segment))
log_first s size fits = record { segment = size; system = fits; least = omega arith; pending = omega arith; touched = omega arith; within = first_within s.segment }

-- a checkpoint of its own start may come first
may_be_first : (mib : ℕ) → may_come (Some (lsn 0)) (first_start mib) (Shutdown (first_start mib)) ≡ true
may_be_first mib = eq-eqb (first_start mib).0 (first_start mib).0 refl

first_next : (s : StoreSettings) → IsSegmentMib s.segment → s.system < 2 ^ 64 → IsNext record_at s.segment (first_tip s.segment) (first_entry s.segment)
first_next s size fits =
    let ends = first_ends s.segment size.least in
    let at = long_head s.segment size.least in
    next_comes (log_at s (first_tip s.segment)) (Shutdown (first_start s.segment)) (log_first s size fits) (omega (arith, at, size.most)) (omega (arith, ends, size.least)) (may_be_first s.segment)

-- the bytes of the first entry alone
laid_first : (s : StoreSettings) → laid_out s.segment s.system (segment_bytes s.segment) (first_entry s.segment ∷ []) ≡ segment_file s
laid_first s = append-nil (segment_file s)

wal_written : (s : StoreSettings) → 1 ≤ s.segment → entries_written s.segment s.system (first_tip s.segment) (first_entry s.segment ∷ []) (begun_wal s) ≡ new_wal s
wal_written s some =
    ap (λ (l : List ℕ). archive_written s.segment (length l) (segment_bytes s.segment) l (begun_wal s)) (laid_first s)
    ∙ first_written s (begun_wal s) some (ap (λ (o : Option (List ℕ)). unwrap_or o []) (not_begun s 1))

no_gap : (s : StoreSettings) → IsSegmentMib s.segment → HasNoGap s.segment (archive_of s.segment (new_wal s)) (new_tip s.segment).end
no_gap s size =
    let at = at_split s.segment (new_tip s.segment).end 1 96 size.least (omega (arith, first_ends s.segment size.least)) (omega (arith, size.least)) in
    inr (ap (λ (n : ℕ). has_segment s.segment (new_wal s) n) at.0 ∙ has_first s)

new_archive : (s : StoreSettings) → IsSegmentMib s.segment → s.system < 2 ^ 64 → HasFirstAlone s (new_wal s)
new_archive s size fits =
    let same = wal_written s size.least in
    subst (HasFirstAlone s) same
    (written_is_read record_at s.segment s.system (begun_wal s) [] [] (first_entry s.segment) (first_tip s.segment) (new_tip s.segment) 0 record_is_fair size.least size.most fits (begun_kept s) (omega arith)
    (first_next s size fits, refl)
    (subst (λ (m : Files). HasNoGap s.segment (archive_of s.segment m) (new_tip s.segment).end) (sym same) (no_gap s size)))

-- the first bytes of segment 1 are the head of its first page
head_there : (s : StoreSettings) (i : ℕ) → 1 ≤ s.segment → i < 40
    → get_or (segment_file s) i 0 ≡ get_or (page_head s.segment s.system (segment_bytes s.segment) (still_to_come s.segment (flat_before s.segment (segment_bytes s.segment)) (length (sealed (first_entry s.segment))) (segment_bytes s.segment))) i 0
unfolding spread
head_there s i some lt =
    let mib : ℕ = s.segment in
    let base : ℕ = segment_bytes mib in
    let bytes : List ℕ = sealed (first_entry mib) in
    let size : end_of mib base (length bytes) - base ≡ 96 = sym (length-map-range_with_len (spread_byte mib s.system (flat_before mib base) bytes) base (end_of mib base (length bytes) - base)) ∙ length_first s some in
    let long = head_first mib base 1 0 (record { is = omega arith; page = omega (arith, some); byte = omega arith }) in
    get_or-map-range_with_len (spread_byte mib s.system (flat_before mib base) bytes) base (end_of mib base (length bytes) - base) i (base + i) 0 (omega (arith, size, lt)) refl
    ∙ spread_head mib s.system (flat_before mib base) bytes base i some (omega arith) (omega (arith, long, lt))

first_page : (mib : ℕ) → 1 ≤ mib → is_first_page mib (segment_bytes mib) ≡ true
unfolding is_first_page
first_page mib some =
    let s = at_split mib (segment_bytes mib) 1 0 some (omega arith) (omega (arith, some)) in
    lt-ltb (segment_bytes mib % segment_bytes mib) 8192 (omega (arith, s.1))

head_system : (mib system page size : ℕ) (first : Bool) → first ≡ true → system < 2 ^ 64 → u64_in (head_bytes first mib system page size) 24 ≡ system
unfolding head_bytes long_part
head_system mib system page size true is fits = omega (arith, fits)
head_system mib system page size false is fits = absurd cc

same_u64 : (a b : List ℕ) → ((i : ℕ) → i < 40 → get_or a i 0 ≡ get_or b i 0) → u64_in a 24 ≡ u64_in b 24
same_u64 a b same =
    omega (arith, same 24 (omega arith), same 25 (omega arith), same 26 (omega arith), same 27 (omega arith), same 28 (omega arith), same 29 (omega arith), same 30 (omega arith), same 31 (omega arith))

-- the identifier that is written is read
system_there : (s : StoreSettings) → 1 ≤ s.segment → s.system < 2 ^ 64 → system_in (segment_file s) ≡ s.system
system_there s some fits =
    let mib : ℕ = s.segment in
    let base : ℕ = segment_bytes mib in
    let size : ℕ = still_to_come mib (flat_before mib base) (length (sealed (first_entry mib))) base in
    ap (λ (b : Bool). cond b (u64_in (segment_file s) 24) 0) (le-leb 32 (length (segment_file s)) (omega (arith, length_first s some)))
    ∙ (same_u64 (segment_file s) (page_head mib s.system base size) (λ i lt. head_there s i some lt)
    ∙ head_system mib s.system base size (is_first_page mib base) (first_page mib some) fits)

own_files : (s : StoreSettings) → HasStoreFiles s.segment (new_wal s)
own_files s q there =
    elim (put_or_there (begun_wal s) (segment_name s) (segment_file s) q there) [
      | inl is ↦ inr (1, is_one, is)
      | inr old ↦
          elim (put_or_there empty settings_name (settings_file s) q old) [
            | inl is ↦ inl is
            | inr other ↦ absurd (none_in empty q refl other)
          ]
    ]

new_settings_are : (s : StoreSettings) → IsSegmentMib s.segment → IsRelseg s.relseg → s.system < 2 ^ 64 → IsSettingsOf (new_wal s) s
new_settings_are s size blocks fits =
    store_settings (new_wal s) s size blocks (own_files s) (settings_there s) (has_first s)
    (sym (ap system_in (segment_bytes_there s) ∙ system_there s size.least fits))

-- a new WAL reads as its settings and its first entry
pub new_reads : (s : StoreSettings) (files now : Option Files) → IsSegmentMib s.segment → IsRelseg s.relseg → s.system < 2 ^ 64 → now ≡ option_map (λ m. new_wal s) files → IsNewWal s now
new_reads s None now size blocks fits e =
    subst (λ (o : Option Files). IsNewWal s o) (sym e) (record { archive = tt; settings = tt })
new_reads s (Some m) now size blocks fits e =
    subst (λ (o : Option Files). IsNewWal s o) (sym e)
    (record { archive = new_archive s size fits; settings = new_settings_are s size blocks fits })

-- ---- what the two writes leave

abbrev pub Clear : Option Files → Type 0
Clear files = IfSome files (λ m. m ≡ empty)

-- behind the settings segment 1 is missing
pub ready : (s : StoreSettings) (text : List ℕ) (files now : Option Files) → Clear files → now ≡ option_map (after_write settings_name 0 text) files → IfSome now (λ m. bytes_of m (segment_name s) ≡ [])
ready s text None now clear e = subst (λ (o : Option Files). IfSome o (λ m. bytes_of m (segment_name s) ≡ [])) (sym e) tt
ready s text (Some m) now clear e =
    subst (λ (o : Option Files). IfSome o (λ m. bytes_of m (segment_name s) ≡ [])) (sym e)
    (ap (λ (o : Option (List ℕ)). unwrap_or o []) (get_other m settings_name (file_written (bytes_of m settings_name) 0 text) (segment_name s) (segment_is_not_settings 1 s.segment) ∙ nothing_in m (segment_name s) clear))

-- both writes
pub both_written : (s : StoreSettings) (result : Result Lsn AreaFault) (files now last : Option Files) → Clear files → now ≡ with_settings s files
    → OnOk result (last ≡ with_segment s now) → OnOk result (last ≡ option_map (λ m. new_wal s) files)
both_written s (Err fault) files now last clear first second = tt
both_written s (Ok end) None now last clear first second = second ∙ ap (with_segment s) first
both_written s (Ok end) (Some m) now last clear first second =
    second ∙ ap (with_segment s) first
    ∙ ap (λ (n : Files). Some (insert n (segment_name s) (segment_file s))) (written_first m settings_name (settings_file s) clear)

-- what was left of the first of them is of a clear area; and so is it of the second
both_left_of : (s : StoreSettings) (files last : Option Files) → Clear files → IsSegmentTorn s (with_settings s files) last → IsSegmentTorn s (option_map (λ m. begun_wal s) files) last
both_left_of s None last clear left = left
both_left_of s (Some m) last clear left =
    subst (λ (n : Files). IsSegmentTorn s (Some n) last) (written_first m settings_name (settings_file s) clear) left

pub both_left : (s : StoreSettings) (result : Result Lsn AreaFault) (files now last : Option Files) → Clear files → now ≡ with_settings s files
    → OnErr result (IsSegmentTorn s now last) → OnErr result (HoldsPart s files last)
both_left s (Ok end) files now last clear first second = tt
both_left s (Err fault) files now last clear first second =
    inr (both_left_of s files last clear (subst (λ (o : Option Files). IsSegmentTorn s o last) first second))

-- ---- the first entry is prepared and written

pub first_is : (s : StoreSettings) (log : Log) (redo : Lsn) (ready : Ready) → log ≡ log_at s (first_tip s.segment) → redo ≡ first_start s.segment → ready.entry ≡ next_record log (Shutdown redo)
    → ready.bytes ≡ spread log.mib log.system log.tip.end (sealed ready.entry) → IsFirstEntry s ready
first_is s log redo ready log_is redo_is entry bytes =
    let own : ready.entry ≡ first_entry s.segment =
    entry ∙ (ap (λ (l : Log). next_record l (Shutdown redo)) log_is ∙ ap (λ (x : Lsn). record_at_tip s.segment (first_tip s.segment) (Shutdown x)) redo_is) in
    record {
      entry = own;
      bytes = bytes ∙ (ap (λ (l : Log). spread l.mib l.system l.tip.end (sealed ready.entry)) log_is ∙ ap (λ (r : Record). spread s.segment s.system (segment_bytes s.segment) (sealed r)) own);
    }

-- a write that a failed sync followed
pub unsynced : (size : ℕ) (name bytes : List ℕ) (old mid new : Option Files) → name ≡ segment_name_bytes 1 size → mid ≡ option_map (after_write name 0 bytes) old → new ≡ mid → IsFirstTorn size bytes old new
unsynced size name bytes old mid new name_is wrote same =
    subst (λ (o : Option Files). IsFirstTorn size bytes old o) (sym (same ∙ (wrote ∙ ap (λ (n : List ℕ). option_map (after_write n 0 bytes) old) name_is)))
    (written_is_related (segment_name_bytes 1 size) 0 bytes old)

-- segment 1 where its file was missing or empty
put_there : (s : StoreSettings) (files : Option Files) → IfSome files (λ m. bytes_of m (segment_name s) ≡ []) → with_first s.segment (segment_file s) files ≡ with_segment s files
put_there s None none = refl
put_there s (Some m) none = ap (λ (n : Files). Some n) (put_alone m (segment_name s) (segment_file s) none)

pub first_put : (s : StoreSettings) (size : ℕ) (bytes : List ℕ) (before mid after : Option Files) → size ≡ s.segment → bytes ≡ segment_file s → mid ≡ before → IfSome before (λ m. bytes_of m (segment_name s) ≡ [])
    → after ≡ with_first size bytes mid → after ≡ with_segment s before
first_put s size bytes before mid after size_is bytes_is same none wrote =
    wrote ∙ (ap (λ (n : ℕ). with_first n bytes mid) size_is
    ∙ (ap (λ (b : List ℕ). with_first s.segment b mid) bytes_is ∙ (ap (with_first s.segment (segment_file s)) same ∙ put_there s before none)))

-- ---- the whole

pub init_done : (s : StoreSettings) (result : Result Lsn AreaFault) (end : Lsn) (old new : InitAreas) (mid : Option Files) → result ≡ Ok end → IsClear old.wal → IsClear old.sums → mid ≡ old.wal.files
    → IfOk result (λ x. x.0 ≡ (first_entry s.segment).end.0) → OnOk result (new.wal.files ≡ option_map (λ m. new_wal s) mid) → OnOk result (AreaIsDurable new.wal) → IsSegmentMib s.segment → IsRelseg s.relseg → s.system < 2 ^ 64 → InitDone s old new end
init_done s result end old new mid is wal_clear sums_clear same end_is written durable size blocks fits =
    let at_end : end.0 ≡ (first_entry s.segment).end.0 = subst (λ (r : Result Lsn AreaFault). IfOk r (λ x. x.0 ≡ (first_entry s.segment).end.0)) is end_is in
    let files : new.wal.files ≡ option_map (λ m. new_wal s) old.wal.files =
    subst (λ (r : Result Lsn AreaFault). OnOk r (new.wal.files ≡ option_map (λ m. new_wal s) mid)) is written ∙ ap (λ (o : Option Files). option_map (λ (m : Files). new_wal s) o) same in
    record {
      wal_clear = wal_clear;
      sums_clear = sums_clear;
      written = files;
      end_is = at_end;
      reads = new_reads s old.wal.files new.wal.files size blocks fits files;
      durable = subst (λ (r : Result Lsn AreaFault). OnOk r (AreaIsDurable new.wal)) is durable;
    }
