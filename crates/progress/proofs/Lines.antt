-- Lines are told a second apart.
use Rattle.std.proofs.Common.{◌≡◌, ℕ, ◌+◌, ◌^◌, Bool, true, false, if◌then◌else◌, nat_lt, List, [], ◌∷◌, Option, Some, None, refl, subst, sym}
use Rattle.std.proofs.lemmas.Bool.{ltb-false}
use Rattle.progress.specs.Pace.{next_due, told, AreApart}

-- by the two tests that `next_due` makes
by_tests : (early fits : Bool) (next found : ℕ)
    → (if early then None else if fits then Some next else None) ≡ Some found
    → (early ≡ false) × (next ≡ found)
by_tests true fits next found e = (cc, cc)
by_tests false true next found e = (refl, cc)
by_tests false false next found e = (refl, cc)

step : (due now : ℕ) (later : List ℕ) (v : Option ℕ) → next_due due now ≡ v
    → ((from : ℕ) → AreApart from (told from later))
    → AreApart due (elim v [ None ↦ told due later | Some next ↦ now ∷ told next later ])
step due now later None e rest = rest due
step due now later (Some next) e rest =
    let t = by_tests (nat_lt now due) (nat_lt (now + 1000) (2 ^ 64)) (now + 1000) next e in
    (ltb-false now due t.0, subst (λ (n : ℕ). AreApart n (told next later)) (sym t.1) (rest next))

pub apart : (due : ℕ) (moments : List ℕ) → AreApart due (told due moments)
apart due [] = tt
apart due (now ∷ later) = step due now later (next_due due now) refl (λ from. apart from later)
