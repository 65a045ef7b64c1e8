-- Segments have names of their own.
use Rattle.std.proofs.Common.{◌≡◌, ℕ, zero, suc, ◌+◌, ◌-◌, ◌*◌, ◌/◌, ◌%◌, ◌^◌, ◌<◌, ◌≤◌, true, eqb, List, [], ◌∷◌, ◌++◌, length, take, drop, replicate, refl, sym, ap, ◌∙◌, arith, inl, inr}
use Rattle.std.specs.Prelude.{codes}
use Rattle.std.specs.Fmt.{digits, digits_onto, digit_glyph}
use Rattle.std.specs.Str.Parse.{digits_value}
use Rattle.std.proofs.lemmas.Fmt.{digits_is_IsNumeral}
use Rattle.std.proofs.lemmas.Bool.{cases_eq, eq-eqb, ne_eqb, cond-true, cond-false}
use Rattle.std.proofs.lemmas.Nat.{div-add-mod'}
use Rattle.std.proofs.Math.Nat.{pow-suc, div-le_self, mod-le}
use Rattle.std.proofs.lemmas.List.{append_cancel_left, take_at, drop_at, length-append, length-replicate}
use Rattle.lsn_core.specs.Segment.{segment_bytes}
use Rattle.lsn_core.specs.Names.{eight_digits, segment_name_bytes}

length_onto : (k j n : ℕ) (acc : List ℕ) → n < 16 ^ (j + 1)
    → length (digits_onto k 16 true n acc) ≤ length acc + (j + 1)
length_onto zero j n acc lt = omega arith
length_onto (suc k) zero n acc lt =
    let e : digits_onto (suc k) 16 true n acc ≡ digit_glyph true (n % 16) ∷ acc =
    cond-true (eqb (n / 16) 0) (digit_glyph true (n % 16) ∷ acc)
    (digits_onto k 16 true (n / 16) (digit_glyph true (n % 16) ∷ acc))
    (eq-eqb _ _ (omega (arith, lt))) in
    let l : length (digits_onto (suc k) 16 true n acc) ≡ length acc + 1 = ap length e
    ∙ omega arith in
    omega (arith, l)
length_onto (suc k) (suc j) n acc lt =
    elim (cases_eq (n / 16) 0) [
      | inl done ↦ (let e : digits_onto (suc k) 16 true n acc ≡ digit_glyph true (n % 16) ∷ acc =
          cond-true (eqb (n / 16) 0) (digit_glyph true (n % 16) ∷ acc)
          (digits_onto k 16 true (n / 16) (digit_glyph true (n % 16) ∷ acc)) (eq-eqb _ _ done) in
          let l : length (digits_onto (suc k) 16 true n acc) ≡ length acc + 1 = ap length e
          ∙ omega arith in omega (arith, l))
      | inr more ↦
          let e : digits_onto (suc k) 16 true n acc
          ≡ digits_onto k 16 true (n / 16) (digit_glyph true (n % 16) ∷ acc) =
          cond-false (eqb (n / 16) 0) (digit_glyph true (n % 16) ∷ acc)
          (digits_onto k 16 true (n / 16) (digit_glyph true (n % 16) ∷ acc)) (ne_eqb _ _ more)
          in
          let l : length (digits_onto (suc k) 16 true n acc)
          ≡ length (digits_onto k 16 true (n / 16) (digit_glyph true (n % 16) ∷ acc)) =
          ap length e in
          let p : 16 ^ (suc j + 1) ≡ 16 ^ (j + 1) * 16 =
          ap (λ n. 16 ^ n) (let z : suc j + 1 ≡ suc (j + 1) = omega arith in z)
          ∙ pow-suc 16 (j + 1) in
          let h = length_onto k j (n / 16) (digit_glyph true (n % 16) ∷ acc) (omega (arith, lt, p))
          in
          omega (arith, l, h)
    ]

length_digits : (n : ℕ) → n < 2 ^ 32 → length (digits 16 true n) ≤ 8
unfolding digits
length_digits n lt = length_onto 64 7 n [] (omega (arith, lt))

length_eight : (n : ℕ) → n < 2 ^ 32 → length (eight_digits n) ≡ 8
length_eight n lt = (let d = length_digits n lt in
    let a = length-append (replicate (8 - length (digits 16 true n)) 48) (digits 16 true n) in
    let r = length-replicate {A = ℕ} (8 - length (digits 16 true n)) 48 in omega (arith, d, a, r))

value_padded : (k : ℕ) (ds : List ℕ) → digits_value 16 (replicate k 48 ++ ds) ≡ digits_value 16 ds
value_padded zero ds = refl
value_padded (suc k) ds = value_padded k ds

value_eight : (n : ℕ) → n < 2 ^ 32 → digits_value 16 (eight_digits n) ≡ n
value_eight n lt = value_padded (8 - length (digits 16 true n)) (digits 16 true n)
    ∙ (digits_is_IsNumeral 16 true (omega arith) (omega arith) n (omega (arith, lt))).1

same_eight : (n m : ℕ) → n < 2 ^ 32 → m < 2 ^ 32 → eight_digits n ≡ eight_digits m → n ≡ m
same_eight n m a b e = sym (value_eight n a) ∙ ap (digits_value 16) e ∙ value_eight m b

pub names_differ : (mib s t : ℕ) → s < 2 ^ 32 → t < 2 ^ 32
    → segment_name_bytes s mib ≡ segment_name_bytes t mib → s ≡ t
names_differ mib s t a b e =
    let per : ℕ = 2 ^ 32 / segment_bytes mib in
    let ds = div-add-mod' s per in
    let dt = div-add-mod' t per in
    let small : (n : ℕ) → n < 2 ^ 32 → (n / per < 2 ^ 32) × (n % per < 2 ^ 32) = λ n lt.
    (let d = div-le_self n per in let m = mod-le n per in
    (omega (arith, d, lt), omega (arith, m, lt))) in
    let tails : eight_digits (s / per) ++ eight_digits (s % per) ≡ eight_digits (t / per)
    ++ eight_digits (t % per) = append_cancel_left (codes "00000001") _ _ e in
    let ls = length_eight (s / per) (small s a).0 in
    let lt = length_eight (t / per) (small t b).0 in
    let high : eight_digits (s / per) ≡ eight_digits (t / per) =
    sym (take_at (eight_digits (s / per)) (eight_digits (s % per)) 8 ls) ∙ ap (take 8) tails
    ∙ take_at (eight_digits (t / per)) (eight_digits (t % per)) 8 lt in
    let low : eight_digits (s % per) ≡ eight_digits (t % per) =
    sym (drop_at (eight_digits (s / per)) (eight_digits (s % per)) 8 ls) ∙ ap (drop 8) tails
    ∙ drop_at (eight_digits (t / per)) (eight_digits (t % per)) 8 lt in
    let eh = same_eight (s / per) (t / per) (small s a).0 (small t b).0 high in
    let el = same_eight (s % per) (t % per) (small s a).1 (small t b).1 low in
    sym ds ∙ ap (λ n. n * per + s % per) eh ∙ ap (λ n. t / per * per + n) el ∙ dt
