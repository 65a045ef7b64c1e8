-- The files of a store's WAL have its settings.
use Rattle.std.proofs.Common.{◌≡◌, ℕ, ◌/◌, ◌%◌, ◌^◌, ◌<◌, ◌⊎◌, true, List, [], length, get_or, codes, Some, refl, sym, ap, subst, ◌∙◌, arith, inl, inr}
use Rattle.std.specs.FinMap.{get, keys, contains_key, contains_key-keys}
use Rattle.std.specs.Ordering.{nat_cmp, eq_by_cmp}
use Rattle.std.specs.Cmp.Lexicographic.{slice_cmp, nat_list_cmp_total}
use Rattle.std.proofs.lemmas.Bool.{and_from, eq-eqb}
use Rattle.std.proofs.lemmas.Cmp.{eq_by_cmp_equiv}
use Rattle.std.proofs.lemmas.List.Folds.{list_any_at, list_all-append}
use Rattle.std.proofs.Math.Nat.{div-lt_iff_lt-mul, mod-lt, div-le_self}
use Rattle.lsn_core.specs.text_numbers.Numbers.{all_upper_digits}
use Rattle.lsn_core.proofs.text_numbers.EightDigits.{eight_upper}
use Rattle.lsn_core.specs.Files.{Files}
use Rattle.lsn_core.specs.Names.{per_group, segment_name_bytes, segment_file_bytes, HasSegmentName}
use Rattle.lsn_core.specs.Segment.{IsSegmentMib, IsRelseg, StoreSettings, segment_bytes}
use Rattle.lsn_core.proofs.SegmentNames.{name_of_first, one_segment}
use Rattle.vault.specs.Area.{bytes_of}
use Rattle.wal_archive.specs.Archive.{is_segment, has_segment}
use Rattle.wal_reader.specs.Names.{is_wal_name, IsOtherTimeline}
use Rattle.wal_reader.specs.Settings.{settings_text, system_in, IsSettingsOf}
use Rattle.wal_archive.proofs.SegmentNames.{in_archive}
use Rattle.wal_reader.proofs.WalNames.{length_named, length_other}
use Rattle.wal_reader.proofs.Told.{named_has}
use Rattle.wal_reader.proofs.Room.{segment_least}

-- a segment's name is 24 upper-case hexadecimal digits
upper_named : (timeline number mib : ℕ) → HasSegmentName timeline number mib → all_upper_digits (segment_file_bytes timeline number mib) ≡ true
upper_named timeline number mib has =
    let p = per_group mib in
    let some : 0 < p = omega (arith, has.number_fits) in
    let high : number / p < 2 ^ 32 = (div-lt_iff_lt-mul some).1 has.number_fits in
    let low : number % p < 2 ^ 32 = omega (arith, mod-lt number some, div-le_self (2 ^ 32) (segment_bytes mib)) in
    rw (list_all-append, eight_upper timeline has.timeline_fits, list_all-append, eight_upper (number / p) high, eight_upper (number % p) low) refl

pub wal_named : (seg mib : ℕ) → IsSegmentMib mib → is_segment seg ≡ true → is_wal_name (segment_name_bytes seg mib) ≡ true
wal_named seg mib size is =
    let has = in_archive mib seg size is in
    subst (λ (n : List ℕ). is_wal_name n ≡ true) (sym (name_of_first seg mib)) (and_from _ _ (eq-eqb _ _ (length_named mib 1 seg has)) (upper_named 1 seg mib has))

-- the area of a store's WAL has no other files than `settings` and segments of the archive
abbrev pub HasStoreFiles : ℕ → Files → Type 0
HasStoreFiles mib files = (q : List ℕ) → contains_key files q ≡ true → (q ≡ codes "settings") ⊎ ((seg : ℕ) × (is_segment seg ≡ true) × (q ≡ segment_name_bytes seg mib))

key_there : (files : Files) (i : ℕ) → i < length (keys files) → contains_key files (get_or (keys files) i []) ≡ true
key_there files i within =
    let q = get_or (keys files) i [] in
    contains_key-keys files q ∙ list_any_at (eq_by_cmp (slice_cmp nat_cmp) q) (keys files) i [] within ((eq_by_cmp_equiv nat_list_cmp_total).refl q)

none_other : (mib : ℕ) (q : List ℕ) → IsSegmentMib mib → (q ≡ codes "settings") ⊎ ((seg : ℕ) × (is_segment seg ≡ true) × (q ≡ segment_name_bytes seg mib)) → IsOtherTimeline mib q → ⊥
none_other mib q size (inl settings) other = (let long = length_other mib q other in let short : length q ≡ 8 = ap length settings in absurd (omega (arith, long, short)))
none_other mib q size (inr named) other =
    other.differs (one_segment other.timeline 1 other.number named.0 mib other.has (in_archive mib named.0 size named.1) (sym other.named ∙ named.2 ∙ name_of_first named.0 mib)).0

pub store_settings : (files : Files) (s : StoreSettings) → IsSegmentMib s.segment → IsRelseg s.relseg → HasStoreFiles s.segment files → get files (codes "settings") ≡ Some (settings_text s.segment s.relseg) → has_segment s.segment files 1 ≡ true
    → s.system ≡ system_in (bytes_of files (segment_name_bytes 1 s.segment)) → IsSettingsOf files s
store_settings files s size relseg own text first system =
    let named = named_has s.segment files 1 first in
    record {
      there = list_any_at is_wal_name (keys files) named.0 [] named.1 (subst (λ (n : List ℕ). is_wal_name n ≡ true) (sym named.2.named) (wal_named 1 s.segment size named.2.segment));
      given = rw text (record { segment = size; blocks = relseg; text = refl });
      timeline = λ i within other. none_other s.segment (get_or (keys files) i []) size (own (get_or (keys files) i []) (key_there files i within)) other;
      system = record { segment = Some 1; least = (first, λ n has. segment_least s.segment files n has); identifier = system };
    }
