-- Names of segment files: of another timeline, and of the segments of the archive.
use Rattle.std.proofs.Common.{◌≡◌, ℕ, ◌+◌, ◌/◌, ◌%◌, ◌^◌, ◌<◌, ◌≤◌, ◌⊎◌, min, Bool, true, false, not, ◌==◌, List, [], ◌++◌, length, get_or, Option, Some, None, IfSome, IfNone, IsSome, IsTrue, refl, sym, subst, ◌∙◌, arith, inl, inr}
use Rattle.std.proofs.lemmas.Bool.{ne_eqb, eqb-false, cases_lt}
use Rattle.std.proofs.lemmas.List.{length-append, get_or_default}
use Rattle.std.proofs.Math.Nat.{div-lt_iff_lt-mul, mod-lt, div-le_self}
use Rattle.lsn_core.specs.text_numbers.Numbers.{eight_digits}
use Rattle.lsn_core.proofs.text_numbers.EightDigits.{length-eight_digits}
use Rattle.lsn_core.specs.Segment.{IsSegmentMib, segment_bytes}
use Rattle.lsn_core.specs.Names.{per_group, segment_file_bytes, HasSegmentName}
use Rattle.lsn_core.proofs.SegmentNames.{name_of_first, one_segment}
use Rattle.wal_reader.specs.Names.{IsOtherTimeline}
use Rattle.wal_reader.specs.Settings.{IsLeastOf}
use Rattle.wal_archive.specs.Scanning.{TellsSegment}
use Rattle.wal_archive.proofs.Files.{segment_range}
use Rattle.wal_archive.proofs.SegmentNames.{in_archive}
use Rattle.wal_reader.specs.Inside.{NamesSegment, IsNamedIn, lesser}

true_not : (b : Bool) → b ≡ false → IsTrue (not b)
true_not b e = rw e refl

not_true : (b : Bool) → IsTrue (not b) → b ≡ false
not_true false e = refl
not_true true e = absurd cc

-- a segment's name is of another timeline exactly where its timeline isn't 1
pub other_iff : (mib timeline number : ℕ) (name : List ℕ) → name ≡ segment_file_bytes timeline number mib → HasSegmentName timeline number mib
    → (IsTrue (not (timeline == 1)) → IsOtherTimeline mib name) × (IsOtherTimeline mib name → IsTrue (not (timeline == 1)))
other_iff mib timeline number name named has = (
  λ e. record { timeline = timeline; number = number; differs = eqb-false timeline 1 (not_true (timeline == 1) e); has = has; named = named },
  λ other. true_not (timeline == 1) (ne_eqb timeline 1 (λ e. other.differs (sym (one_segment timeline other.timeline number other.number mib has other.has (sym named ∙ other.named)).0 ∙ e))),
)

-- the number that a name tells is its least one, as a name is that of one segment
pub told_least : (mib : ℕ) (name : List ℕ) (o : Option ℕ) → IsSegmentMib mib → TellsSegment mib name o → IsLeastOf (NamesSegment mib name) o
told_least mib name None size told = λ seg is. told seg is.segment is.named
told_least mib name (Some number) size told = (
  record { segment = told.0; named = told.1 },
  λ seg is.
      let same = one_segment 1 1 number seg mib (in_archive mib number size told.0) (in_archive mib seg size is.segment) (sym (name_of_first number mib) ∙ (sym told.1 ∙ is.named) ∙ name_of_first seg mib) in
      omega (arith, same.1),
)

-- the lesser of the least numbers that have P and Q is the least that has either
pub least_of_both : (P Q R : ℕ → Type 0) (a b : Option ℕ) → IsLeastOf P a → IsLeastOf Q b → ((n : ℕ) → P n → R n) → ((n : ℕ) → Q n → R n) → ((n : ℕ) → R n → P n ⊎ Q n) → IsLeastOf R (lesser a b)
least_of_both P Q R None None p q left right either = λ n r. elim (either n r) [
  | inl is ↦ p n is
  | inr is ↦ q n is
]
least_of_both P Q R None (Some b) p q left right either = (
  right b q.0,
  λ n r. elim (either n r) [
    | inl is ↦ absurd (p n is)
    | inr is ↦ q.1 n is
  ],
)
least_of_both P Q R (Some a) None p q left right either = (
  left a p.0,
  λ n r. elim (either n r) [
    | inl is ↦ p.1 n is
    | inr is ↦ absurd (q n is)
  ],
)
least_of_both P Q R (Some a) (Some b) p q left right either = (
  elim (cases_lt a b) [
    | inl lt ↦ (let e : a ≡ min a b = omega (arith, lt) in subst R e (left a p.0))
    | inr le ↦ (let e : b ≡ min a b = omega (arith, le) in subst R e (right b q.0))
  ],
  λ n r. elim (either n r) [
    | inl is ↦ (let le = p.1 n is in omega (arith, le))
    | inr is ↦ (let le = q.1 n is in omega (arith, le))
  ],
)

-- one of the first so many names is that of a segment's file
abbrev pub IsNamedBefore : ℕ → List (List ℕ) → ℕ → ℕ → Type 0
IsNamedBefore mib names k seg = (i : ℕ) × (i < k) × NamesSegment mib (get_or names i []) seg

-- one more name
pub least_more : (mib k : ℕ) (names : List (List ℕ)) (name d : List ℕ) (least here : Option ℕ) → k < length names → name ≡ get_or names k d → IsLeastOf (IsNamedBefore mib names k) least → IsLeastOf (NamesSegment mib name) here
    → IsLeastOf (IsNamedBefore mib names (k + 1)) (lesser least here)
least_more mib k names name d least here in_names item before is =
    let at : name ≡ get_or names k [] = item ∙ get_or_default names k d [] in_names in
    least_of_both (IsNamedBefore mib names k) (NamesSegment mib name) (IsNamedBefore mib names (k + 1)) least here before is
    (λ n p. (p.0, omega (arith, p.1), p.2))
    (λ n q. (k, omega arith, subst (λ (l : List ℕ). NamesSegment mib l n) at q))
    (λ n r. elim (cases_lt r.0 k) [
      | inl lt ↦ inl (r.0, lt, r.2)
      | inr le ↦ (let e : r.0 ≡ k = omega (arith, le, r.1) in inr (subst (λ (l : List ℕ). NamesSegment mib l n) (subst (λ (j : ℕ). get_or names j [] ≡ name) (sym e) (sym at)) r.2))
    ])

-- a segment's name has 24 bytes
pub length_named : (mib timeline number : ℕ) → HasSegmentName timeline number mib → length (segment_file_bytes timeline number mib) ≡ 24
length_named mib timeline number has =
    let p = per_group mib in
    let some : 0 < p = omega (arith, has.number_fits) in
    let high : number / p < 2 ^ 32 = (div-lt_iff_lt-mul some).1 has.number_fits in
    let low : number % p < 2 ^ 32 = omega (arith, mod-lt number some, div-le_self (2 ^ 32) (segment_bytes mib)) in
    omega (arith, length-append (eight_digits timeline) (eight_digits (number / p) ++ eight_digits (number % p)), length-append (eight_digits (number / p)) (eight_digits (number % p)), length-eight_digits timeline has.timeline_fits, length-eight_digits (number / p) high, length-eight_digits (number % p) low)

pub length_other : (mib : ℕ) (name : List ℕ) → IsOtherTimeline mib name → length name ≡ 24
length_other mib name other = subst (λ (l : List ℕ). length l ≡ 24) (sym other.named) (length_named mib other.timeline other.number other.has)

none_never : (o : Option (List ℕ)) (P : Type 0) → IsSome o → IfNone o P
none_never None P some = absurd cc
none_never (Some x) P some = tt

-- the name that was found is 24 bytes
pub name_kept : (mib : ℕ) (name : List ℕ) (o : Option (List ℕ)) (P : Type 0) → IsOtherTimeline mib name → (length name ≡ 24 → IsSome o) → IfNone o P
name_kept mib name o P other some = none_never o P (some (length_other mib name other))

-- all names are passed
pub least_all : (mib k : ℕ) (names : List (List ℕ)) (least : Option ℕ) → k ≡ length names → IsLeastOf (IsNamedBefore mib names k) least → IsLeastOf (IsNamedIn mib names) least
least_all mib k names least all before = subst (λ (n : ℕ). IsLeastOf (IsNamedBefore mib names n) least) all before

-- segments of the archive have numbers up to the last one's
pub named_most : (mib : ℕ) (names : List (List ℕ)) (o : Option ℕ) → IsLeastOf (IsNamedIn mib names) o → IfSome o (λ seg. seg ≤ 1048576)
named_most mib names None is = tt
named_most mib names (Some seg) is = (segment_range seg is.0.2.segment).1
