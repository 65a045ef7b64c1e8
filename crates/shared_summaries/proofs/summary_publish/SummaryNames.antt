-- The names of summaries' files are in the order of their ranges' starts.
use Rattle.std.proofs.Common.{◌≡◌, ℕ, ◌+◌, ◌-◌, ◌*◌, ◌/◌, ◌%◌, ◌^◌, ◌<◌, ◌≤◌, ◌==◌, Bool, true, cond, inl, inr, ◌⊎◌, List, [], ◌∷◌, ◌++◌, length, codes, refl, sym, ap, subst, ◌∙◌, arith}
use Rattle.std.specs.Char.{digit_value}
use Rattle.std.specs.Int.{is_in_range}
use Rattle.std.specs.Ordering.{nat_cmp, ordering_then}
use Rattle.std.specs.declared.cmp.Ordering.TheVariants.{Less, Equal, Greater}
use Rattle.std.specs.Cmp.Lexicographic.{slice_cmp}
use Rattle.std.specs.Str.Parse.{digits_value_after, AllDigits}
use Rattle.std.proofs.lemmas.Bool.{and_parts, or_cases, cases_lt, lt-ltb, le-ltb, eq-eqb}
use Rattle.std.proofs.lemmas.List.{append_assoc}
use Rattle.std.proofs.lemmas.Str.{digit_value_digit}
use Rattle.lsn_core.specs.text_numbers.Numbers.{all_upper_digits, is_upper_digit, eight_digits}
use Rattle.lsn_core.proofs.text_numbers.Hexadecimal.{in_range, hex_digits}
use Rattle.lsn_core.proofs.text_numbers.EightDigits.{length-eight_digits, eight_upper, value_of_eight, upper_is_hex}
use Rattle.summary_file.specs.Name.{sixteen_digits, summary_name_bytes}

-- ---- digits

-- a digit is one of the ten, or one of the six letters
abbrev IsDigit : ℕ → Type 0
IsDigit c = ((digit_value c + 48 ≡ c) × (digit_value c < 10)) ⊎ ((digit_value c + 55 ≡ c) × (10 ≤ digit_value c))

letter : (c : ℕ) → 65 ≤ c → c ≤ 70 → digit_value c ≡ c - 55
letter c low high = rw (le-ltb c 48 (omega (arith, low)), le-ltb c 58 (omega (arith, low)), le-ltb c 65 low, lt-ltb c 91 (omega (arith, high))) refl

upper : (c : ℕ) → is_upper_digit c ≡ true → IsDigit c
upper c is =
    elim (or_cases (is_in_range 48 57 c) (is_in_range 65 70 c) is) [
      | inl digit ↦ let h = in_range 48 57 c digit in let v = digit_value_digit c h in inl (v, omega (arith, v, h.1))
      | inr more ↦ let h = in_range 65 70 c more in let v = letter c h.0 h.1 in inr (omega (arith, v, h.0), omega (arith, v, h.0))
    ]

rises : (c d : ℕ) → IsDigit c → IsDigit d → digit_value c < digit_value d → c < d
rises c d (inl a) (inl b) lt = omega (arith, a.0, b.0, lt)
rises c d (inl a) (inr b) lt = omega (arith, a.0, b.0, lt)
rises c d (inr a) (inl b) lt = omega (arith, a.1, b.1, lt)
rises c d (inr a) (inr b) lt = omega (arith, a.0, b.0, lt)

alike : (c d : ℕ) → IsDigit c → IsDigit d → digit_value c ≡ digit_value d → c ≡ d
alike c d (inl a) (inl b) same = omega (arith, a.0, b.0, same)
alike c d (inl a) (inr b) same = omega (arith, a.1, b.1, same)
alike c d (inr a) (inl b) same = omega (arith, a.1, b.1, same)
alike c d (inr a) (inr b) same = omega (arith, a.0, b.0, same)

-- ---- texts in byte order

less_here : (c d : ℕ) (xs ys : List ℕ) → c < d → slice_cmp nat_cmp (c ∷ xs) (d ∷ ys) ≡ Less
less_here c d xs ys lt = ap (λ (b : Bool). ordering_then (cond b Less (cond (c == d) Equal Greater)) (slice_cmp nat_cmp xs ys)) (lt-ltb c d lt)

same_here : (c : ℕ) (xs ys : List ℕ) → slice_cmp nat_cmp (c ∷ xs) (c ∷ ys) ≡ slice_cmp nat_cmp xs ys
same_here c xs ys =
    ap (λ (b : Bool). ordering_then (cond b Less (cond (c == c) Equal Greater)) (slice_cmp nat_cmp xs ys)) (le-ltb c c (omega arith))
    ∙ ap (λ (b : Bool). ordering_then (cond b Equal Greater) (slice_cmp nat_cmp xs ys)) (eq-eqb c c refl)

same_front : (front xs ys : List ℕ) → slice_cmp nat_cmp (front ++ xs) (front ++ ys) ≡ slice_cmp nat_cmp xs ys
same_front [] xs ys = refl
same_front (c ∷ cs) xs ys = same_here c (cs ++ xs) (cs ++ ys) ∙ same_front cs xs ys

-- as many digits behind a smaller number make a smaller one
after_less : (s t : List ℕ) (m n : ℕ) → length s ≡ length t → AllDigits 16 s → m < n → digits_value_after 16 m s < digits_value_after 16 n t
after_less [] [] m n long all lt = lt
after_less [] (d ∷ ds) m n long all lt = absurd (omega (arith, long))
after_less (c ∷ cs) [] m n long all lt = absurd (omega (arith, long))
after_less (c ∷ cs) (d ∷ ds) m n long all lt =
    after_less cs ds (m * 16 + digit_value c) (n * 16 + digit_value d) (omega (arith, long)) all.1 (omega (arith, all.0, lt))

-- of two texts of as many digits that of the smaller number comes first
digits_rise : (s t u v : List ℕ) (n : ℕ) → length s ≡ length t → all_upper_digits s ≡ true → all_upper_digits t ≡ true → digits_value_after 16 n s < digits_value_after 16 n t → slice_cmp nat_cmp (s ++ u) (t ++ v) ≡ Less
digits_rise [] [] u v n long a b lt = absurd (omega (arith, lt))
digits_rise [] (d ∷ ds) u v n long a b lt = absurd (omega (arith, long))
digits_rise (c ∷ cs) [] u v n long a b lt = absurd (omega (arith, long))
digits_rise (c ∷ cs) (d ∷ ds) u v n long a b lt =
    let p = and_parts (is_upper_digit c) (all_upper_digits cs) a in
    let q = and_parts (is_upper_digit d) (all_upper_digits ds) b in
    let short : length cs ≡ length ds = omega (arith, long) in
    elim (cases_lt (digit_value c) (digit_value d)) [
      | inl less ↦ less_here c d (cs ++ u) (ds ++ v) (rises c d (upper c p.0) (upper d q.0) less)
      | inr more ↦ elim (cases_lt (digit_value d) (digit_value c)) [
        | inl past ↦ absurd (let other = after_less ds cs (n * 16 + digit_value d) (n * 16 + digit_value c) (sym short) (hex_digits ds (upper_is_hex ds q.1)) (omega (arith, past)) in omega (arith, other, lt))
        | inr least ↦
            let same : digit_value c ≡ digit_value d = omega (arith, more, least) in
            let is = alike c d (upper c p.0) (upper d q.0) same in
            subst (λ (x : ℕ). slice_cmp nat_cmp (c ∷ (cs ++ u)) (x ∷ (ds ++ v)) ≡ Less) is
            (same_here c (cs ++ u) (ds ++ v)
            ∙ digits_rise cs ds u v (n * 16 + digit_value c) short p.1 q.1 (subst (λ (x : ℕ). digits_value_after 16 (n * 16 + digit_value c) cs < digits_value_after 16 (n * 16 + x) ds) (sym same) lt))
      ]
    ]

eight_rise : (m n : ℕ) (u v : List ℕ) → m < n → n < 2 ^ 32 → slice_cmp nat_cmp (eight_digits m ++ u) (eight_digits n ++ v) ≡ Less
eight_rise m n u v lt small =
    let low : m < 2 ^ 32 = omega (arith, lt, small) in
    let a = value_of_eight m low in
    let b = value_of_eight n small in
    digits_rise (eight_digits m) (eight_digits n) u v 0 (length-eight_digits m low ∙ sym (length-eight_digits n small)) (eight_upper m low) (eight_upper n small) (omega (arith, lt, a, b))

sixteen_rise : (m n : ℕ) (u v : List ℕ) → m < n → n < 2 ^ 64 → slice_cmp nat_cmp (sixteen_digits m ++ u) (sixteen_digits n ++ v) ≡ Less
sixteen_rise m n u v lt small =
    let mh = eight_digits (m / 2 ^ 32) in
    let ml = eight_digits (m % 2 ^ 32) in
    let nh = eight_digits (n / 2 ^ 32) in
    let nl = eight_digits (n % 2 ^ 32) in
    rw (append_assoc mh ml u, append_assoc nh nl v)
    (
    elim (cases_lt (m / 2 ^ 32) (n / 2 ^ 32)) [
      | inl less ↦ eight_rise (m / 2 ^ 32) (n / 2 ^ 32) (ml ++ u) (nl ++ v) less (omega (arith, small))
      | inr more ↦
          let same : m / 2 ^ 32 ≡ n / 2 ^ 32 = omega (arith, more, lt) in
          let low : m % 2 ^ 32 < n % 2 ^ 32 = omega (arith, same, lt) in
          subst (λ (x : ℕ). slice_cmp nat_cmp (mh ++ (ml ++ u)) (eight_digits x ++ (nl ++ v)) ≡ Less) same
          (same_front mh (ml ++ u) (nl ++ v) ∙ eight_rise (m % 2 ^ 32) (n % 2 ^ 32) u v low (omega arith))
    ]
    )

-- the name of a range comes before those of the ranges that start past its start
pub names_rise : (a b c d : ℕ) → a < c → c < 2 ^ 64 → slice_cmp nat_cmp (summary_name_bytes a b) (summary_name_bytes c d) ≡ Less
names_rise a b c d lt small =
    same_front (codes "00000001") (sixteen_digits a ++ (sixteen_digits b ++ codes ".summary")) (sixteen_digits c ++ (sixteen_digits d ++ codes ".summary"))
    ∙ sixteen_rise a c (sixteen_digits b ++ codes ".summary") (sixteen_digits d ++ codes ".summary") lt small
