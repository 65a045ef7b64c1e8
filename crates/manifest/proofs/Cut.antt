-- Where the last line of a manifest stands.
use Rattle.std.proofs.Common.{◌≡◌, ℕ, ◌+◌, ◌-◌, List, ◌++◌, length, take, drop, ap, ◌∙◌, arith, length-append}
use Rattle.std.proofs.lemmas.List.{drop_at, take_at, append_cancel_left, append_cancel_right}
use Rattle.manifest.specs.Lines.{line_front, line_back, IsLined}

-- how long the text is
length-line : (lines digits : List ℕ) → length (lines ++ (line_front ++ (digits ++ line_back))) ≡ length lines + length digits + 25
length-line lines digits = length-append lines (line_front ++ (digits ++ line_back)) ∙ omega (arith, length-append digits line_back)

pub last_line : (bytes lines sum : List ℕ) (is : IsLined bytes lines sum) → drop (length bytes - 89) bytes ≡ line_front ++ (is.digits ++ line_back)
last_line bytes lines sum is =
    let long : length bytes ≡ length lines + length is.digits + 25 = ap (λ (l : List ℕ). length l) is.spelled ∙ length-line lines is.digits in
    let at : length lines ≡ length bytes - 89 = omega (arith, long, is.long) in
    ap (λ (l : List ℕ). drop (length bytes - 89) l) is.spelled ∙ drop_at lines _ _ at

pub same_digits : (a b : List ℕ) → line_front ++ (a ++ line_back) ≡ line_front ++ (b ++ line_back) → a ≡ b
same_digits a b e = append_cancel_right a b line_back (append_cancel_left line_front _ _ e)

pub first_lines : (bytes lines sum : List ℕ) (is : IsLined bytes lines sum) → take (length bytes - 89) bytes ≡ lines
first_lines bytes lines sum is =
    let long : length bytes ≡ length lines + length is.digits + 25 = ap (λ (l : List ℕ). length l) is.spelled ∙ length-line lines is.digits in
    let at : length lines ≡ length bytes - 89 = omega (arith, long, is.long) in
    ap (λ (l : List ℕ). take (length bytes - 89) l) is.spelled ∙ take_at lines _ _ at
