-- The lines of a label.
use Rattle.std.proofs.Common.{◌≤◌, ◌≡◌, ℕ, zero, suc, ◌+◌, ◌-◌, ◌<◌, Bool, true, false, List, [], ◌∷◌, ◌++◌, length, take, drop, get_or, sym, ap, ◌∙◌, arith, append_assoc, add-one, refl}
use Rattle.std.specs.Prelude.{◌==◌, if◌then◌else◌}
use Rattle.std.proofs.lemmas.List.{drop_all}
use Rattle.std.proofs.Math.Seq.{take-suc, drop-cons}
use Rattle.directory_files.specs.Labels.{first_lines, lines_behind}

-- how many lines a byte ends
abbrev ended : Bool → ℕ
ended is = if is then 1 else 0

by_one : (is : Bool) (n : ℕ) (text : List ℕ) → (if is then first_lines n text else first_lines (suc n) text) ≡ first_lines (suc n - ended is) text
by_one true n text = let one : suc n - 1 ≡ n = omega arith in ap (λ (k : ℕ). first_lines k text) (sym one)
by_one false n text = let none : suc n - 0 ≡ suc n = omega arith in ap (λ (k : ℕ). first_lines k text) (sym none)

one_more : (n b : ℕ) (text : List ℕ) → first_lines (suc n) (b ∷ text) ≡ b ∷ first_lines (suc n - ended (b == 10)) text
one_more n b text = ap (λ (l : List ℕ). b ∷ l) (by_one (b == 10) n text)

-- a byte is passed
pub line_step : (text : List ℕ) (left at b count : ℕ) (all : List ℕ) → 0 < left → at < length text → b ≡ get_or text at 0 → count ≡ ended (b == 10) → take at text ++ first_lines left (drop at text) ≡ all → take (at + 1) text ++ first_lines (left - count) (drop (at + 1) text) ≡ all
line_step text zero at b count all some within b_is count_is so_far = absurd (omega (arith, some))
line_step text (suc n) at b count all some within b_is count_is so_far =
    let behind = drop (suc at) text in
    let cut : drop at text ≡ b ∷ behind = drop-cons text at 0 within ∙ ap (λ (x : ℕ). x ∷ behind) (sym b_is) in
    let front : take (suc at) text ≡ take at text ++ (b ∷ []) = take-suc text at 0 within ∙ ap (λ (x : ℕ). take at text ++ (x ∷ [])) (sym b_is) in
    let here : first_lines (suc n) (drop at text) ≡ b ∷ first_lines (suc n - count) behind =
    ap (first_lines (suc n)) cut ∙ (one_more n b behind ∙ ap (λ (k : ℕ). b ∷ first_lines (suc n - k) behind) (sym count_is)) in
    let next : at + 1 ≡ suc at = add-one at in
    ap (λ (k : ℕ). take k text ++ first_lines (suc n - count) (drop k text)) next
    ∙ (ap (λ (l : List ℕ). l ++ first_lines (suc n - count) behind) front
    ∙ (append_assoc (take at text) (b ∷ []) (first_lines (suc n - count) behind)
    ∙ (ap (λ (l : List ℕ). take at text ++ l) (sym here) ∙ so_far)))

behind_by : (is : Bool) (n : ℕ) (text : List ℕ) → (if is then lines_behind n text else lines_behind (suc n) text) ≡ lines_behind (suc n - ended is) text
behind_by true n text = let one : suc n - 1 ≡ n = omega arith in ap (λ (k : ℕ). lines_behind k text) (sym one)
behind_by false n text = let none : suc n - 0 ≡ suc n = omega arith in ap (λ (k : ℕ). lines_behind k text) (sym none)

pub behind_step : (text : List ℕ) (left at b count : ℕ) (all : List ℕ) → 0 < left → at < length text → b ≡ get_or text at 0 → count ≡ ended (b == 10) → lines_behind left (drop at text) ≡ all → lines_behind (left - count) (drop (at + 1) text) ≡ all
behind_step text zero at b count all some within b_is count_is so_far = absurd (omega (arith, some))
behind_step text (suc n) at b count all some within b_is count_is so_far =
    let behind = drop (suc at) text in
    let cut : drop at text ≡ b ∷ behind = drop-cons text at 0 within ∙ ap (λ (x : ℕ). x ∷ behind) (sym b_is) in
    let here : lines_behind (suc n) (drop at text) ≡ lines_behind (suc n - count) behind =
    ap (lines_behind (suc n)) cut ∙ (behind_by (b == 10) n behind ∙ ap (λ (k : ℕ). lines_behind (suc n - k) behind) (sym count_is)) in
    let next : at + 1 ≡ suc at = add-one at in
    ap (λ (k : ℕ). lines_behind (suc n - count) (drop k text)) next ∙ (sym here ∙ so_far)

-- ---- at the end

none_behind : (left : ℕ) → lines_behind left [] ≡ []
none_behind zero = refl
none_behind (suc n) = refl

pub behind_past : (text : List ℕ) (left at : ℕ) → length text ≤ at → lines_behind left (drop at text) ≡ lines_behind 7 text → drop at text ≡ lines_behind 7 text
behind_past text left at past so_far = drop_all at text past ∙ sym (ap (lines_behind left) (drop_all at text past) ∙ none_behind left) ∙ so_far
