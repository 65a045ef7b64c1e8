-- The text of a moment is one that a manifest can hold.
use Rattle.std.proofs.Common.{ℕ, ◌≡◌, ◌+◌, ◌/◌, ◌%◌, ◌^◌, ◌<◌, pos, negsuc, ℤ, List, [], ◌∷◌, ◌++◌, get_or, codes, zero, suc, refl, sym, subst, arith}
use Rattle.std.specs.Str.{IsUtf8}
use Rattle.std.specs.Fmt.{decimal}
use Rattle.std.proofs.lemmas.Fmt.{IsAscii-decimal}
use Rattle.std.proofs.lemmas.Int.{ints}
use Rattle.std.proofs.lemmas.Str.{IsUtf8-append, IsUtf8-from_ascii}
use Rattle.json.proofs.Printed.Utf8.{IsUtf8-are_ascii}
use Rattle.jiff.specs.Words.{date_text}
use Rattle.jiff.specs.Types.{Date}
use Rattle.jiff_core.proofs.CalendarLemmas.{days_in_month_bounds}
use Rattle.backup_label.specs.Time.{two_digits, clock_text, IsTimeText}

-- ---- UTF-8

pub ascii_front : (c : ℕ) (rest : List ℕ) → c < 128 → IsUtf8 rest → IsUtf8 (c ∷ rest)
ascii_front c rest small more = IsUtf8-append (c ∷ []) rest (IsUtf8-from_ascii (c ∷ []) (λ i. one i)) more
  where
    one : (i : ℕ) → get_or (c ∷ []) i 0 < 128
    one zero = small
    one (suc i) = omega arith

none : IsUtf8 []
none = IsUtf8-are_ascii [] refl

pub decimal_text : (n : ℕ) → n < 2 ^ 64 → IsUtf8 (decimal n)
decimal_text n small = IsUtf8-from_ascii (decimal n) (IsAscii-decimal n small)

-- ---- moments

pair : (n : ℕ) (rest : List ℕ) → n < 800 → IsUtf8 rest → IsUtf8 ((48 + n / 10) ∷ ((48 + n % 10) ∷ rest))
pair n rest small more = ascii_front (48 + n / 10) ((48 + n % 10) ∷ rest) (omega (arith, small)) (ascii_front (48 + n % 10) rest (omega arith) more)

four : (n : ℕ) (rest : List ℕ) → n < 10000 → IsUtf8 rest → IsUtf8 (two_digits (n / 100) ++ (two_digits (n % 100) ++ rest))
four n rest small more = pair (n / 100) (two_digits (n % 100) ++ rest) (omega (arith, small)) (pair (n % 100) rest (omega arith) more)

abbrev behind_year : ℕ → ℕ → List ℕ
behind_year month day = 45 ∷ (two_digits month ++ (45 ∷ two_digits day))

behind_text : (month day : ℕ) → month < 800 → day < 800 → IsUtf8 (behind_year month day)
behind_text month day m d = ascii_front 45 (two_digits month ++ (45 ∷ two_digits day)) (omega arith) (pair month (45 ∷ two_digits day) m (ascii_front 45 (two_digits day) (omega arith) (pair day [] d none)))

date_by : (day : Date) (year : ℤ) → day.year ≡ year → IsUtf8 (date_text day)
date_by day (pos n) e =
    let small : n < 10000 = omega (arith, ints, e, day.year_in) in
    rw e (four n (behind_year day.month day.day) small (behind_text day.month day.day (omega (arith, day.month_in)) (omega (arith, day.day_in, days_in_month_bounds day.year day.month))))
date_by day (negsuc n) e =
    let small : suc n < 10000 = omega (arith, ints, e, day.year_in) in
    rw e (IsUtf8-append (codes "-00") (two_digits (suc n / 100) ++ (two_digits (suc n % 100) ++ behind_year day.month day.day)) (IsUtf8-are_ascii (codes "-00") refl)
    (four (suc n) (behind_year day.month day.day) small (behind_text day.month day.day (omega (arith, day.month_in)) (omega (arith, day.day_in, days_in_month_bounds day.year day.month)))))

clock_is_text : (second : ℕ) → second < 86400 → IsUtf8 (clock_text second)
clock_is_text second small =
    let last = 58 ∷ two_digits (second % 60) in
    pair (second / 3600) (58 ∷ (two_digits (second / 60 % 60) ++ last)) (omega (arith, small))
    (ascii_front 58 (two_digits (second / 60 % 60) ++ last) (omega arith) (pair (second / 60 % 60) last (omega arith)
    (ascii_front 58 (two_digits (second % 60)) (omega arith) (pair (second % 60) [] (omega arith) none))))

pub time_is_text : (when : ℕ) (zone text : List ℕ) → IsUtf8 zone → IsTimeText when zone text → IsUtf8 text
time_is_text when zone text plain is =
    let clock = clock_text (when % 86400) in
    subst IsUtf8 (sym is.2) (IsUtf8-append (date_text is.0) (32 ∷ (clock ++ (32 ∷ zone))) (date_by is.0 is.0.year refl)
    (ascii_front 32 (clock ++ (32 ∷ zone)) (omega arith) (IsUtf8-append clock (32 ∷ zone) (clock_is_text (when % 86400) (omega arith)) (ascii_front 32 zone (omega arith) plain))))
