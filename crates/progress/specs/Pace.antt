-- When a line is due. Moments are in milliseconds since the beginning.
use Rattle.std.specs.Prelude.{ℕ, ◌+◌, ◌≤◌, ◌^◌, nat_lt, if◌then◌else◌, List, [], ◌∷◌, Option, Some, None}

-- from when on the next line is due, where one is due now: a second later
abbrev pub next_due : ℕ → ℕ → Option ℕ
next_due due now =
    if nat_lt now due then None
    else if nat_lt (now + 1000) (2 ^ 64) then Some (now + 1000) else None

-- the moments at which lines are told, of those at which it is asked
abbrev pub told : ℕ → List ℕ → List ℕ
told due [] = []
told due (now ∷ later) =
    elim (next_due due now) [ None ↦ told due later | Some next ↦ now ∷ told next later ]

-- the first of these moments is not before this one, and each other one a second behind the one
-- before it, or more
abbrev pub AreApart : ℕ → List ℕ → Type 0
AreApart from [] = Unit {0}
AreApart from (moment ∷ later) = (from ≤ moment) × AreApart (moment + 1000) later
