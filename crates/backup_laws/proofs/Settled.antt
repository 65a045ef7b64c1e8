-- The settings of a WAL are those that its first entry was read with.
use Rattle.std.proofs.Common.{◌≡◌, ℕ, ◌+◌, ◌*◌, ◌/◌, ◌%◌, ◌<◌, ◌≤◌, Bool, true, false, cond, not, List, length, take, get_or, codes, Option, Some, None, refl, sym, ap, subst, ◌∙◌, arith}
use Rattle.std.specs.Prelude.{◌==◌, nat_lt}
use Rattle.std.specs.FinMap.{get}
use Rattle.std.proofs.lemmas.Bool.{eqb-true, le-leb, lt-ltb, ltb-true}
use Rattle.std.proofs.lemmas.List.{get_or-take, length-take}
use Rattle.std.proofs.lemmas.Nat.{div-mul-add, mod-mul-add}
use Rattle.std.proofs.Math.Nat.{mod_self}
use Rattle.lsn_core.specs.byte_words.Numbers.{u16_in, u32_in, u64_in}
use Rattle.lsn_core.specs.Files.{Files}
use Rattle.lsn_core.specs.Names.{segment_name_bytes}
use Rattle.lsn_core.specs.Segment.{IsSegmentMib, StoreSettings, segment_bytes, settings_with}
use Rattle.lsn_core.specs.Sizes.{page_magic}
use Rattle.vault.specs.Area.{bytes_of}
use Rattle.vault.specs.Frame.{AgreeBut}
use Rattle.wal_pages.specs.Places.{head_size}
use Rattle.wal_pages.specs.Heads.{info_fits, long_fault, size_fault, or_else, first_fault, is_first_page}
use Rattle.wal_pages.specs.declared.heads.HeadFault.{HeadFault}
use Rattle.wal_pages.specs.declared.heads.HeadFault.TheVariants.{PageMagic, PageInfo, PageTimeline, PageAddr, SysId}
use Rattle.wal_record.specs.Tips.{first_tip}
use Rattle.wal_record.specs.declared.record.Record.{Record}
use Rattle.wal_archive.specs.Archive.{archive_of, byte_of, held_in, is_segment, nth}
use Rattle.wal_archive.specs.Rules.{Gives}
use Rattle.wal_archive.specs.Stands.{HasHead}
use Rattle.wal_archive.proofs.Files.{files_archive}
use Rattle.wal_archive.proofs.Next.{else_of}
use Rattle.wal_archive.proofs.Read.{origin_end}
use Rattle.wal_reader.specs.Settings.{GivesSettings, HasSegment, IsLeastOf, system_in, system_at, IsSettingsOf}
use Rattle.wal_reader.specs.Wal.{stands_behind}
use Rattle.wal_reader.proofs.Room.{segment_least}
use Rattle.wal_reader.proofs.SettingsText.{gives_once}
use Rattle.wal_writer.specs.Stops.{IsSegmentFile}
use Rattle.wal_reader.proofs.wal_pieces.Heads.{no_heads, heads_on}
use Rattle.wal_reader.proofs.wal_pieces.Onwards.{passed}

-- ---- the file of settings

pub segment_size : (o : Option (List ℕ)) (mib relseg : ℕ) → GivesSettings o mib relseg → IsSegmentMib mib
segment_size None mib relseg given = subst IsSegmentMib (sym given.0) (record { least = omega arith; most = omega arith; divides = refl })
segment_size (Some bytes) mib relseg given = given.segment

-- it is no segment's
pub not_segment : (mib at end : ℕ) → IsSegmentFile mib at end (codes "settings") → ⊥
not_segment mib at end is = (let e : 115 ≡ 48 = ap (λ (x : List ℕ). get_or x 0 0) is.named in omega (arith, e))

-- ---- the head of a segment

some_is_none : (why : HeadFault) → ◌≡◌ {A = Option HeadFault} (Some why) None → ⊥
some_is_none why e = absurd cc

no_first : (a b : Option HeadFault) → or_else a b ≡ None → a ≡ None
no_first None b e = refl
no_first (Some why) b e = absurd cc

same_told : (same : Bool) (later : Option HeadFault) → cond (not same) (Some SysId) later ≡ None → same ≡ true
same_told true later e = refl
same_told false later e = absurd cc

-- a head that passes tells the system identifier
told_in_head : (first : Bool) (mib system page size : ℕ) (bytes : List ℕ) → first ≡ true → first_fault first mib system page (Some size) bytes ≡ None → u64_in bytes 24 ≡ system
unfolding first_fault
told_in_head first mib system page size bytes is passes =
    let c1 = else_of (not (u16_in bytes 0 == page_magic)) _ _ _ passes (some_is_none PageMagic) in
    let c2 = else_of (not (info_fits first (Some size) (u16_in bytes 2))) _ _ _ c1.1 (some_is_none PageInfo) in
    let c3 = else_of (not (u32_in bytes 4 == 1)) _ _ _ c2.1 (some_is_none PageTimeline) in
    let c4 = else_of (not (u64_in bytes 8 == page)) _ _ _ c3.1 (some_is_none PageAddr) in
    let long : long_fault true mib system bytes ≡ None = subst (λ (b : Bool). long_fault b mib system bytes ≡ None) is (no_first (long_fault first mib system bytes) (size_fault (Some size) bytes) c4.1) in
    eqb-true (u64_in bytes 24) system (same_told (u64_in bytes 24 == system) _ long)

first_of_segment : (mib : ℕ) → is_first_page mib (segment_bytes mib) ≡ true
unfolding is_first_page
first_of_segment mib = (let none : segment_bytes mib % segment_bytes mib ≡ 0 = mod_self (segment_bytes mib) in lt-ltb (segment_bytes mib % segment_bytes mib) 8192 (omega (arith, none)))

long_there : (mib : ℕ) → head_size mib (segment_bytes mib) ≡ 40
unfolding head_size
long_there mib =
    let none : segment_bytes mib % segment_bytes mib ≡ 0 = mod_self (segment_bytes mib) in
    ap (λ (b : Bool). cond b 40 24) (lt-ltb (segment_bytes mib % segment_bytes mib) 8192 (omega (arith, none)))

-- ---- its bytes in the file

nth_there : (bytes : List ℕ) (i b : ℕ) → nth bytes i ≡ Some b → (i < length bytes) × (get_or bytes i 0 ≡ b)
nth_there bytes i b e =
    elim (nat_lt i (length bytes)) as (λ t. nat_lt i (length bytes) ≡ t → cond t (Some (get_or bytes i 0)) None ≡ Some b → (i < length bytes) × (get_or bytes i 0 ≡ b)) [
      | true ↦ λ within same. (ltb-true i (length bytes) within, cc)
      | false ↦ λ past same. absurd cc
    ] refl e

first_held : (mib : ℕ) (files : Files) → held_in mib files 1 ≡ take (segment_bytes mib) (bytes_of files (segment_name_bytes 1 mib))
unfolding held_in is_segment
first_held mib files = refl

byte_there : (mib : ℕ) (files : Files) (i b : ℕ) → i < segment_bytes mib → byte_of mib files (segment_bytes mib + i) ≡ Some b → (i < length (bytes_of files (segment_name_bytes 1 mib))) × (get_or (bytes_of files (segment_name_bytes 1 mib)) i 0 ≡ b)
unfolding byte_of
byte_there mib files i b within held =
    let size : ℕ = segment_bytes mib in
    let bytes : List ℕ = bytes_of files (segment_name_bytes 1 mib) in
    let x : size + i ≡ 1 * size + i = omega arith in
    let seg : (size + i) / size ≡ 1 = ap (λ (n : ℕ). n / size) x ∙ div-mul-add 1 size i within in
    let at : (size + i) % size ≡ i = ap (λ (n : ℕ). n % size) x ∙ mod-mul-add 1 size i within in
    let is : nth (take size bytes) i ≡ Some b =
    ap (λ (l : List ℕ). nth l i) (sym (first_held mib files)) ∙ (sym (ap (λ (n : ℕ). nth (held_in mib files n) ((size + i) % size)) seg ∙ ap (nth (held_in mib files 1)) at) ∙ held) in
    let there = nth_there (take size bytes) i b is in
    (omega (arith, length-take size bytes, there.0), sym (get_or-take size bytes i 0 within) ∙ there.1)

-- the first segment's file tells what its head does
system_there : (mib system : ℕ) (files : Files) (bytes : List ℕ) → 1 ≤ mib → ((i : ℕ) → i < 40 → byte_of mib files (segment_bytes mib + i) ≡ Some (get_or bytes i 0)) → u64_in bytes 24 ≡ system → system_in (bytes_of files (segment_name_bytes 1 mib)) ≡ system
system_there mib system files bytes some held told =
    let file : List ℕ = bytes_of files (segment_name_bytes 1 mib) in
    let at : (i : ℕ) → i < 40 → (i < length file) × (get_or file i 0 ≡ get_or bytes i 0) = λ i lt. byte_there mib files i (get_or bytes i 0) (omega (arith, lt, some)) (held i lt) in
    let long : 32 ≤ length file = omega (arith, (at 39 (omega arith)).0) in
    let same : u64_in file 24 ≡ u64_in bytes 24 =
    rw ((at 24 (omega arith)).1, (at 25 (omega arith)).1, (at 26 (omega arith)).1, (at 27 (omega arith)).1, (at 28 (omega arith)).1, (at 29 (omega arith)).1, (at 30 (omega arith)).1, (at 31 (omega arith)).1) refl in
    ap (λ (b : Bool). cond b (u64_in file 24) 0) (le-leb 32 (length file) long) ∙ (same ∙ told)

-- and it is the least one
least_there : (mib : ℕ) (files : Files) (o : Option ℕ) → HasSegment mib files 1 → IsLeastOf (HasSegment mib files) o → o ≡ Some 1
least_there mib files None has none = absurd (none 1 has)
least_there mib files (Some n) has least = ap (λ (x : ℕ). Some x) (let e : n ≡ 1 = omega (arith, segment_least mib files n least.0, least.1 1 has) in e)

-- ---- the settings

same_settings : (a b m n s t : ℕ) → a ≡ b → m ≡ n → s ≡ t → settings_with a m s ≡ settings_with b n t
same_settings a b m n s t mib relseg system = rw (mib, relseg, system) refl

-- where the file of settings stayed, and the first entry of a WAL is read with the settings that it had,
-- it has these still
pub settings_held : (s t : StoreSettings) (old new : Files) (r : Record) → IsSettingsOf old s → IsSettingsOf new t → get new (codes "settings") ≡ get old (codes "settings") → stands_behind s new (first_tip s.segment) ≡ Gives r → t ≡ s
settings_held s t old new r was is file gives =
    let mib : ℕ = s.segment in
    let size : IsSegmentMib mib = segment_size (get old (codes "settings")) mib s.relseg was.given in
    let given = gives_once (get old (codes "settings")) t.segment t.relseg mib s.relseg (subst (λ (o : Option (List ℕ)). GivesSettings o t.segment t.relseg) file is.given) was.given in
    let g = passed s new (first_tip mib) r size.least (origin_end mib) gives in
    let heads = heads_on (archive_of mib new) mib s.system (segment_bytes mib) g.bytes size.least (origin_end mib) g.stands (no_heads (archive_of mib new) mib s.system) in
    let head = heads (segment_bytes mib) (omega arith) (omega arith) g.behind.later in
    let h : HasHead (archive_of mib new) mib s.system (segment_bytes mib) head.0 = head.1 in
    let told : u64_in h.bytes 24 ≡ s.system = told_in_head (is_first_page mib (segment_bytes mib)) mib s.system (segment_bytes mib) head.0 h.bytes (first_of_segment mib) h.passes in
    let held : (i : ℕ) → i < 40 → byte_of mib new (segment_bytes mib + i) ≡ Some (get_or h.bytes i 0) = λ i lt. h.held i (omega (arith, lt, long_there mib)) in
    let first : (segment_bytes mib + 0) / segment_bytes mib ≡ 1 = ap (λ (n : ℕ). n / segment_bytes mib) (let e : segment_bytes mib + 0 ≡ 1 * segment_bytes mib + 0 = omega arith in e) ∙ div-mul-add 1 (segment_bytes mib) 0 (omega (arith, size.least)) in
    let has : HasSegment mib new 1 = subst (λ (n : ℕ). HasSegment mib new n) first ((files_archive mib new size.least).filed (segment_bytes mib + 0) (get_or h.bytes 0 0) (held 0 (omega arith))) in
    let least = is.system in
    let one : least.segment ≡ Some 1 = least_there mib new least.segment has (subst (λ (n : ℕ). IsLeastOf (HasSegment n new) least.segment) given.0 least.least) in
    let system : t.system ≡ s.system =
    least.identifier
    ∙ (ap (λ (n : ℕ). system_at n new least.segment) given.0
    ∙ (ap (system_at mib new) one ∙ system_there mib s.system new h.bytes size.least held told)) in
    same_settings t.segment s.segment t.relseg s.relseg t.system s.system given.0 given.1 system

-- so it has where only segments changed
pub settings_stay : (s t : StoreSettings) (old new : Files) (from to : ℕ) (r : Record) → IsSettingsOf old s → IsSettingsOf new t → AgreeBut (IsSegmentFile s.segment from to) old new → stands_behind s new (first_tip s.segment) ≡ Gives r → t ≡ s
settings_stay s t old new from to r was is same gives = settings_held s t old new r was is (same (codes "settings") (not_segment s.segment from to)) gives
