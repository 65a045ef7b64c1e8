-- The name of a segment file is read in one way.
use Rattle.std.proofs.Common.{◌≡◌, ℕ, ◌+◌, ◌*◌, ◌/◌, ◌%◌, ◌^◌, ◌<◌, ◌≤◌, List, [], ◌++◌, codes, refl, sym, ap, ◌∙◌, arith}
use Rattle.std.specs.Fmt.{digits}
use Rattle.std.proofs.lemmas.List.{append-nil}
use Rattle.std.proofs.Math.Nat.{div-lt_iff_lt-mul, mod-lt, div-le_self, div-add-mod'}
use Rattle.lsn_core.specs.text_numbers.Numbers.{eight_digits, HasNoEight}
use Rattle.lsn_core.proofs.text_numbers.EightDigits.{eight_once}
use Rattle.lsn_core.specs.Segment.{segment_bytes}
use Rattle.lsn_core.specs.Names.{per_group, number_groups, segment_name_bytes, segment_file_bytes, HasSegmentName, NamesNoSegment}

-- the two groups behind a timeline
record Groups (p number : ℕ) : Type 0 where
  high : number / p < 2 ^ 32
  low : number % p < p

groups : (p number : ℕ) → number < 2 ^ 32 * p → Groups p number
groups p number fits =
    let some : 0 < p = omega (arith, fits) in
    record { high = (div-lt_iff_lt-mul some).1 fits; low = mod-lt number some }

most_per_group : (mib : ℕ) → per_group mib ≤ 2 ^ 32
most_per_group mib = div-le_self (2 ^ 32) (segment_bytes mib)

pub no_high : (name behind : List ℕ) (mib t : ℕ) → name ≡ eight_digits t ++ behind → t < 2 ^ 32 → HasNoEight behind → NamesNoSegment name mib
no_high name behind mib t is fits none timeline number has e =
    let same = eight_once name t timeline behind (eight_digits (number / per_group mib) ++ eight_digits (number % per_group mib)) fits has.timeline_fits is e in
    none (number / per_group mib) (eight_digits (number % per_group mib)) (groups (per_group mib) number has.number_fits).high same.1

-- the third group is what stands behind two
third : (name behind tail : List ℕ) (mib t h timeline number : ℕ) → name ≡ eight_digits t ++ behind → t < 2 ^ 32 → behind ≡ eight_digits h ++ tail → h < 2 ^ 32 → HasSegmentName timeline number mib
    → name ≡ segment_file_bytes timeline number mib → tail ≡ eight_digits (number % per_group mib)
third name behind tail mib t h timeline number is fits at small has e =
    let same = eight_once name t timeline behind (eight_digits (number / per_group mib) ++ eight_digits (number % per_group mib)) fits has.timeline_fits is e in
    (eight_once behind h (number / per_group mib) tail (eight_digits (number % per_group mib)) small (groups (per_group mib) number has.number_fits).high at same.1).1

low_fits : (mib timeline number : ℕ) → HasSegmentName timeline number mib → number % per_group mib < 2 ^ 32
low_fits mib timeline number has = omega (arith, (groups (per_group mib) number has.number_fits).low, most_per_group mib)

pub no_low : (name behind tail : List ℕ) (mib t h : ℕ) → name ≡ eight_digits t ++ behind → t < 2 ^ 32 → behind ≡ eight_digits h ++ tail → h < 2 ^ 32 → HasNoEight tail → NamesNoSegment name mib
no_low name behind tail mib t h is fits at small none timeline number has e =
    none (number % per_group mib) [] (low_fits mib timeline number has) (third name behind tail mib t h timeline number is fits at small has e ∙ sym (append-nil (eight_digits (number % per_group mib))))

pub no_number : (name behind tail rest : List ℕ) (mib t h l : ℕ) → name ≡ eight_digits t ++ behind → t < 2 ^ 32 → behind ≡ eight_digits h ++ tail → h < 2 ^ 32 → tail ≡ eight_digits l ++ rest → l < 2 ^ 32
    → (rest ≡ [] → l < per_group mib → ⊥) → NamesNoSegment name mib
no_number name behind tail rest mib t h l is fits at small last less none timeline number has e =
    let same = eight_once tail l (number % per_group mib) rest [] less (low_fits mib timeline number has) last (third name behind tail mib t h timeline number is fits at small has e ∙ sym (append-nil (eight_digits (number % per_group mib)))) in
    none same.1 (omega (arith, same.0, (groups (per_group mib) number has.number_fits).low))

-- the name on timeline 1 is the one that is written
first_timeline : codes "00000001" ≡ eight_digits 1
unfolding digits
first_timeline = refl

pub name_of_first : (number mib : ℕ) → segment_name_bytes number mib ≡ segment_file_bytes 1 number mib
name_of_first number mib = ap (λ (l : List ℕ). l ++ (eight_digits (number / per_group mib) ++ eight_digits (number % per_group mib))) first_timeline

-- a name is that of one segment
pub one_segment : (s t m n mib : ℕ) → HasSegmentName s m mib → HasSegmentName t n mib → segment_file_bytes s m mib ≡ segment_file_bytes t n mib → (s ≡ t) × (m ≡ n)
one_segment s t m n mib x y e =
    let p = per_group mib in
    let a = groups p m x.number_fits in
    let b = groups p n y.number_fits in
    let first = eight_once (segment_file_bytes s m mib) s t (number_groups m mib) (number_groups n mib) x.timeline_fits y.timeline_fits refl e in
    let second = eight_once (number_groups m mib) (m / p) (n / p) (eight_digits (m % p)) (eight_digits (n % p)) a.high b.high refl first.1 in
    let last = eight_once (eight_digits (m % p)) (m % p) (n % p) [] [] (low_fits mib s m x) (low_fits mib t n y) (sym (append-nil (eight_digits (m % p)))) (second.1 ∙ sym (append-nil (eight_digits (n % p)))) in
    (first.0, sym (div-add-mod' m p) ∙ ap (λ (q : ℕ). q * p + m % p) second.0 ∙ ap (λ (r : ℕ). n / p * p + r) last.0 ∙ div-add-mod' n p)
