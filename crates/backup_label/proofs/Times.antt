-- A moment is written without a line end.
use Rattle.std.proofs.Common.{◌≡◌, ℕ, ◌+◌, ◌/◌, ◌%◌, pos, negsuc, ℤ, List, [], ◌∷◌, ◌++◌, codes, suc, refl, sym, subst, arith}
use Rattle.std.proofs.lemmas.Bool.{ne_eqb}
use Rattle.jiff.specs.Words.{date_text}
use Rattle.jiff.specs.Types.{Date}
use Rattle.backup_label.specs.Label.{HasNoLineEnd}
use Rattle.backup_label.specs.Time.{two_digits, clock_text, IsTimeText}
use Rattle.backup_label.proofs.LineTexts.{lacks, has_none, lacks_append}

glue : (a b : List ℕ) → HasNoLineEnd a → HasNoLineEnd b → HasNoLineEnd (a ++ b)
glue a b x y = has_none (a ++ b) (lacks_append 10 a b (lacks a x) (lacks b y))

-- two digits before others
pair : (n : ℕ) (rest : List ℕ) → HasNoLineEnd rest → HasNoLineEnd ((48 + n / 10) ∷ ((48 + n % 10) ∷ rest))
pair n rest more = (ne_eqb (48 + n / 10) 10 (λ e. omega (arith, e)), (ne_eqb (48 + n % 10) 10 (λ e. omega (arith, e)), more))

four_ends : (n : ℕ) (rest : List ℕ) → HasNoLineEnd rest → HasNoLineEnd (two_digits (n / 100) ++ (two_digits (n % 100) ++ rest))
four_ends n rest more = pair (n / 100) (two_digits (n % 100) ++ rest) (pair (n % 100) rest more)

-- the month and the day behind the year
abbrev behind_year : ℕ → ℕ → List ℕ
behind_year month day = 45 ∷ (two_digits month ++ (45 ∷ two_digits day))

behind_ends : (month day : ℕ) → HasNoLineEnd (behind_year month day)
behind_ends month day = (refl, pair month (45 ∷ two_digits day) (refl, pair day [] tt))

date_by : (day : Date) (year : ℤ) → day.year ≡ year → HasNoLineEnd (date_text day)
date_by day (pos n) e = rw e (four_ends n (behind_year day.month day.day) (behind_ends day.month day.day))
date_by day (negsuc n) e =
    let rest = behind_year day.month day.day in
    rw e (glue (codes "-00") (two_digits (suc n / 100) ++ (two_digits (suc n % 100) ++ rest)) (refl, (refl, (refl, tt))) (four_ends (suc n) rest (behind_ends day.month day.day)))

date_ends : (day : Date) → HasNoLineEnd (date_text day)
date_ends day = date_by day day.year refl

clock_ends : (second : ℕ) → HasNoLineEnd (clock_text second)
clock_ends second =
    let last = 58 ∷ two_digits (second % 60) in
    pair (second / 3600) (58 ∷ (two_digits (second / 60 % 60) ++ last)) (refl, pair (second / 60 % 60) last (refl, pair (second % 60) [] tt))

pub time_ends : (when : ℕ) (zone text : List ℕ) → HasNoLineEnd zone → IsTimeText when zone text → HasNoLineEnd text
time_ends when zone text free is =
    let clock = clock_text (when % 86400) in
    subst HasNoLineEnd (sym is.2) (glue (date_text is.0) (32 ∷ (clock ++ (32 ∷ zone))) (date_ends is.0) (refl, glue clock (32 ∷ zone) (clock_ends (when % 86400)) (refl, free)))
