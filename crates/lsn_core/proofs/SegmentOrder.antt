-- Segment files' names rise with the numbers of their segments.
use Rattle.std.proofs.Common.{◌≡◌, ℕ, zero, suc, ◌+◌, ◌-◌, ◌*◌, ◌/◌, ◌%◌, ◌^◌, ◌<◌, ◌≤◌, Bool, true, false, cond, ◌⊎◌, inl, inr, List, [], ◌∷◌, ◌++◌, length, refl, sym, ap, ap₂, subst, ◌∙◌, arith}
use Rattle.std.specs.Prelude.{codes, nat_lt, ◌==◌}
use Rattle.std.specs.Fmt.{digit_glyph}
use Rattle.std.specs.Ordering.{nat_cmp, ordering_then}
use Rattle.std.specs.Cmp.Lexicographic.{slice_cmp}
use Rattle.std.specs.declared.cmp.Ordering.{Ordering}
use Rattle.std.specs.declared.cmp.Ordering.TheVariants.{Less, Equal, Greater}
use Rattle.std.proofs.lemmas.Bool.{cases_lt, lt-ltb, le-ltb, eq-eqb}
use Rattle.std.proofs.lemmas.List.{length-append}
use Rattle.std.proofs.lemmas.Nat.{div-add-mod'}
use Rattle.std.proofs.Math.Nat.{pow-succ', mod-lt, mod-le, div-le_self, le-div_iff_mul-le, mul-le-mul_right}
use Rattle.lsn_core.proofs.text_numbers.EightDigits.{eight_are_last, length-eight_digits}
use Rattle.lsn_core.specs.text_numbers.Numbers.{eight_digits}
use Rattle.lsn_core.specs.Segment.{segment_bytes}
use Rattle.lsn_core.specs.Names.{per_group, segment_name_bytes}
use Rattle.lsn_core.specs.Laws.{NamesRise}

less : (x y : ℕ) → x < y → nat_cmp x y ≡ Less
less x y lt = rw (lt-ltb x y lt) refl

equal : (x : ℕ) → nat_cmp x x ≡ Equal
equal x = rw (le-ltb x x (omega arith), eq-eqb x x refl) refl

same : (l : List ℕ) → slice_cmp nat_cmp l l ≡ Equal
same [] = refl
same (x ∷ l) = ap (λ (o : Ordering). ordering_then o (slice_cmp nat_cmp l l)) (equal x) ∙ same l

then_assoc : (o p q : Ordering) → ordering_then o (ordering_then p q) ≡ ordering_then (ordering_then o p) q
then_assoc Less p q = refl
then_assoc Equal p q = refl
then_assoc Greater p q = refl

-- lists behind others of one length
joined : (a b xs ys : List ℕ) → length a ≡ length b → slice_cmp nat_cmp (a ++ xs) (b ++ ys) ≡ ordering_then (slice_cmp nat_cmp a b) (slice_cmp nat_cmp xs ys)
joined [] [] xs ys e = refl
joined [] (y ∷ b) xs ys e = absurd (omega (arith, e))
joined (x ∷ a) [] xs ys e = absurd (omega (arith, e))
joined (x ∷ a) (y ∷ b) xs ys e =
    ap (ordering_then (nat_cmp x y)) (joined a b xs ys (omega (arith, e))) ∙ then_assoc (nat_cmp x y) (slice_cmp nat_cmp a b) (slice_cmp nat_cmp xs ys)

-- ---- digits

abbrev last_digits : ℕ → ℕ → List ℕ
last_digits zero n = []
last_digits (suc k) n = last_digits k (n / 16) ++ (digit_glyph true (n % 16) ∷ [])

length-last : (k n : ℕ) → length (last_digits k n) ≡ k
length-last zero n = refl
length-last (suc k) n = let more = length-last k (n / 16) in length-append (last_digits k (n / 16)) (digit_glyph true (n % 16) ∷ []) ∙ omega (arith, more)

low : (d : ℕ) → d < 10 → digit_glyph true d ≡ 48 + d
low d lt = rw (lt-ltb d 10 lt) refl

high : (d : ℕ) → 10 ≤ d → digit_glyph true d ≡ 55 + d
high d le = rw (le-ltb d 10 le) refl

glyphs_rise : (a b : ℕ) → a < b → digit_glyph true a < digit_glyph true b
glyphs_rise a b lt =
    elim (cases_lt a 10) [
      | inl small ↦ elim (cases_lt b 10) [
        | inl also ↦ (let x = low a small in let y = low b also in omega (arith, x, y, lt))
        | inr great ↦ (let x = low a small in let y = high b great in omega (arith, x, y, lt))
      ]
      | inr big ↦ (let x = high a big in let y = high b (omega (arith, big, lt)) in omega (arith, x, y, lt))
    ]

last_rises : (k m n : ℕ) → m < n → n < 16 ^ k → slice_cmp nat_cmp (last_digits k m) (last_digits k n) ≡ Less
last_rises zero m n lt fits = absurd (omega (arith, lt, fits))
last_rises (suc k) m n lt fits =
    let power : 16 ^ suc k ≡ 16 * 16 ^ k = pow-succ' 16 k in
    let long = length-last k (m / 16) ∙ sym (length-last k (n / 16)) in
    joined (last_digits k (m / 16)) (last_digits k (n / 16)) (digit_glyph true (m % 16) ∷ []) (digit_glyph true (n % 16) ∷ []) long
    ∙ elim (cases_lt (m / 16) (n / 16)) [
      | inl less_front ↦
          ap (λ (o : Ordering). ordering_then o (slice_cmp nat_cmp (digit_glyph true (m % 16) ∷ []) (digit_glyph true (n % 16) ∷ [])))
          (last_rises k (m / 16) (n / 16) less_front (omega (arith, power, fits)))
      | inr front ↦
          let one : m / 16 ≡ n / 16 = omega (arith, front, lt) in
          let digit : m % 16 < n % 16 = omega (arith, one, lt) in
          ap (λ (o : Ordering). ordering_then o (slice_cmp nat_cmp (digit_glyph true (m % 16) ∷ []) (digit_glyph true (n % 16) ∷ [])))
          (ap (λ (l : List ℕ). slice_cmp nat_cmp l (last_digits k (n / 16))) (ap (last_digits k) one) ∙ same (last_digits k (n / 16)))
          ∙ ap (λ (o : Ordering). ordering_then o Equal) (less (digit_glyph true (m % 16)) (digit_glyph true (n % 16)) (glyphs_rise (m % 16) (n % 16) digit))
    ]

eight_rises : (m n : ℕ) → m < n → n < 2 ^ 32 → slice_cmp nat_cmp (eight_digits m) (eight_digits n) ≡ Less
eight_rises m n lt fits =
    ap₂ (λ (a b : List ℕ). slice_cmp nat_cmp a b) (eight_are_last m (omega (arith, lt, fits))) (eight_are_last n fits)
    ∙ last_rises 8 m n lt fits

-- ---- names

pub names_rise : NamesRise
names_rise mib s t some most lt fits =
    let per = per_group mib in
    let four : 4 ≤ per = (le-div_iff_mul-le {k = segment_bytes mib} (omega (arith, some))).1 (omega (arith, most)) in
    let ds = div-add-mod' s per in
    let dt = div-add-mod' t per in
    let ms = mod-lt s {m = per} (omega (arith, four)) in
    let mt = mod-lt t {m = per} (omega (arith, four)) in
    let hs = div-le_self s per in
    let ht = div-le_self t per in
    let ls = mod-le s per in
    let lt' = mod-le t per in
    let s_high : s / per < 2 ^ 32 = omega (arith, hs, lt, fits) in
    let t_high : t / per < 2 ^ 32 = omega (arith, ht, fits) in
    let s_low : s % per < 2 ^ 32 = omega (arith, ls, lt, fits) in
    let t_low : t % per < 2 ^ 32 = omega (arith, lt', fits) in
    let long = length-eight_digits (s / per) s_high ∙ sym (length-eight_digits (t / per) t_high) in
    joined (codes "00000001") (codes "00000001") (eight_digits (s / per) ++ eight_digits (s % per)) (eight_digits (t / per) ++ eight_digits (t % per)) refl
    ∙ (joined (eight_digits (s / per)) (eight_digits (t / per)) (eight_digits (s % per)) (eight_digits (t % per)) long
    ∙ elim (cases_lt (s / per) (t / per)) [
      | inl front ↦ ap (λ (o : Ordering). ordering_then o (slice_cmp nat_cmp (eight_digits (s % per)) (eight_digits (t % per)))) (eight_rises (s / per) (t / per) front t_high)
      | inr back ↦
          let one : s / per ≡ t / per = same_group per s t (s / per) (t / per) (s % per) (t % per) ds dt mt lt back in
          let digit : s % per < t % per = same_rest per s t (s / per) (t / per) (s % per) (t % per) ds dt one lt in
          ap (λ (o : Ordering). ordering_then o (slice_cmp nat_cmp (eight_digits (s % per)) (eight_digits (t % per))))
          (ap (λ (n : ℕ). slice_cmp nat_cmp (eight_digits n) (eight_digits (t / per))) one ∙ same (eight_digits (t / per)))
          ∙ eight_rises (s % per) (t % per) digit t_low
    ])
  where
    same_rest : (p s t a b x y : ℕ) → a * p + x ≡ s → b * p + y ≡ t → a ≡ b → s < t → x < y
    same_rest p s t a b x y es et e lt =
        let moved : a * p ≡ b * p = ap (λ (n : ℕ). n * p) e in
        omega (arith, moved, es, et, lt)

    same_group : (p s t a b x y : ℕ) → a * p + x ≡ s → b * p + y ≡ t → y < p → s < t → b ≤ a → a ≡ b
    same_group p s t a b x y es et ly lt le =
        elim (cases_lt b a) [
          | inl more ↦
              let wide : (b + 1) * p ≤ a * p = mul-le-mul_right p (let z : b + 1 ≤ a = omega (arith, more) in z) in
              let next : (b + 1) * p ≡ b * p + p = omega arith in
              absurd (omega (arith, wide, next, es, et, ly, lt))
          | inr back ↦ omega (arith, back, le)
        ]
