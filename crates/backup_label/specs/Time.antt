-- How a moment is written.
use Rattle.std.specs.Prelude.{◌≡◌, ℕ, ◌+◌, ◌/◌, ◌%◌, pos, List, [], ◌∷◌, ◌++◌}
use Rattle.jiff.specs.Words.{epoch_day, date_text}
use Rattle.jiff.specs.Types.{Date}

-- a number below 100 in two digits
abbrev pub two_digits : ℕ → List ℕ
two_digits n = (48 + n / 10) ∷ ((48 + n % 10) ∷ [])

-- the second of a day as a clock shows it, as `22:13:20`
abbrev pub clock_text : ℕ → List ℕ
clock_text second =
    two_digits (second / 3600) ++ (58 ∷
    (two_digits (second / 60 % 60) ++ (58 ∷ two_digits (second % 60))))

-- a date, a time of day and the name of a zone
abbrev pub shown_text : Date → List ℕ → List ℕ → List ℕ
shown_text day clock zone = date_text day ++ (32 ∷ (clock ++ (32 ∷ zone)))

-- a moment in seconds since 1970 UTC with the name of a zone, as `2023-11-14 22:13:20 UTC`; its
-- date is that of the day that is so many days after 1970-01-01
abbrev pub IsTimeText : ℕ → List ℕ → List ℕ → Type 0
IsTimeText when zone text = (day : Date) × (epoch_day day ≡ pos (when / 86400))
    × (text ≡ shown_text day (clock_text (when % 86400)) zone)
