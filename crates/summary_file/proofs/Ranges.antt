-- The name of a summary's file is that of one range.
use Rattle.std.proofs.Common.{◌≡◌, ◌↔◌, IsTrue, ◌==◌, ℕ, ◌/◌, ◌%◌, ◌^◌, ◌<◌, List, ◌++◌, codes, refl, sym, ◌∙◌, arith}
use Rattle.std.proofs.lemmas.Bool.{eqb-true, eq-eqb}
use Rattle.std.proofs.lemmas.List.{append_assoc, append_cancel_left}
use Rattle.lsn_core.specs.text_numbers.Numbers.{eight_digits, HasNoEight}
use Rattle.lsn_core.proofs.text_numbers.EightDigits.{eight_once}
use Rattle.summary_file.specs.Name.{sixteen_digits, summary_name_bytes, NamesNoRange}
use Rattle.summary_file.specs.Inside.{HasNoSixteen}

high_fits : (n : ℕ) → n < 2 ^ 64 → n / 2 ^ 32 < 2 ^ 32
high_fits n fits = omega (arith, fits)

low_fits : (n : ℕ) → n % 2 ^ 32 < 2 ^ 32
low_fits n = omega arith

-- sixteen digits at the front are eight and eight
two_eights : (n : ℕ) (text tail : List ℕ) → text ≡ sixteen_digits n ++ tail → text ≡ eight_digits (n / 2 ^ 32) ++ (eight_digits (n % 2 ^ 32) ++ tail)
two_eights n text tail e = e ∙ append_assoc (eight_digits (n / 2 ^ 32)) (eight_digits (n % 2 ^ 32)) tail

-- a text has one LSN in sixteen digits at its front
pub sixteen_once : (text : List ℕ) (m n : ℕ) (t u : List ℕ) → m < 2 ^ 64 → n < 2 ^ 64 → text ≡ sixteen_digits m ++ t → text ≡ sixteen_digits n ++ u → (m ≡ n) × (t ≡ u)
sixteen_once text m n t u sm sn a b =
    let high = eight_once text (m / 2 ^ 32) (n / 2 ^ 32) _ _ (high_fits m sm) (high_fits n sn) (two_eights m text t a) (two_eights n text u b) in
    let low = eight_once (eight_digits (m % 2 ^ 32) ++ t) (m % 2 ^ 32) (n % 2 ^ 32) t u (low_fits m) (low_fits n) refl high.1 in
    (omega (arith, high.0, low.0), low.1)

pub no_low : (text behind : List ℕ) (high : ℕ) → text ≡ eight_digits high ++ behind → high < 2 ^ 32 → HasNoEight behind → HasNoSixteen text
no_low text behind high a sh none n tail fits e =
    let once = eight_once text high (n / 2 ^ 32) behind (eight_digits (n % 2 ^ 32) ++ tail) sh (high_fits n fits) a (two_eights n text tail e) in
    none (n % 2 ^ 32) tail (low_fits n) once.1

-- ---- whole names

abbrev front : List ℕ
front = codes "00000001"

abbrev back : List ℕ
back = codes ".summary"

-- what stands behind the timeline of a name
behind_line : (name behind : List ℕ) (start end : ℕ) → name ≡ front ++ behind → name ≡ summary_name_bytes start end → behind ≡ sixteen_digits start ++ (sixteen_digits end ++ back)
behind_line name behind start end a e = append_cancel_left front behind (sixteen_digits start ++ (sixteen_digits end ++ back)) (sym a ∙ e)

-- what stands behind the start of a name
behind_start : (name behind tail : List ℕ) (from start end : ℕ) → name ≡ front ++ behind → behind ≡ sixteen_digits from ++ tail → from < 2 ^ 64 → start < 2 ^ 64 → name ≡ summary_name_bytes start end
    → (from ≡ start) × (tail ≡ sixteen_digits end ++ back)
behind_start name behind tail from start end a b small fits e = sixteen_once behind from start tail (sixteen_digits end ++ back) small fits b (behind_line name behind start end a e)

pub no_end : (name behind tail : List ℕ) (from : ℕ) → name ≡ front ++ behind → behind ≡ sixteen_digits from ++ tail → from < 2 ^ 64 → HasNoSixteen tail → NamesNoRange name
no_end name behind tail from a b small none start end fits fit e = none end back fit (behind_start name behind tail from start end a b small fits e).1

pub no_suffix : (name behind tail rest : List ℕ) (from to : ℕ) → name ≡ front ++ behind → behind ≡ sixteen_digits from ++ tail → from < 2 ^ 64 → tail ≡ sixteen_digits to ++ rest → to < 2 ^ 64 → (rest ≡ back → ⊥) → NamesNoRange name
no_suffix name behind tail rest from to a b small d less none start end fits fit e =
    none (sixteen_once tail to end rest back less fit d (behind_start name behind tail from start end a b small fits e).1).1

pub one_range : (a b c d : ℕ) → a < 2 ^ 64 → b < 2 ^ 64 → c < 2 ^ 64 → d < 2 ^ 64 → summary_name_bytes a b ≡ summary_name_bytes c d → (a ≡ c) × (b ≡ d)
one_range a b c d fa fb fc fd e =
    let name = summary_name_bytes a b in
    let start = behind_start name (sixteen_digits a ++ (sixteen_digits b ++ back)) (sixteen_digits b ++ back) a c d refl refl fa fc e in
    let end = sixteen_once (sixteen_digits b ++ back) b d back back fb fd refl start.1 in
    (start.0, end.0)

-- ---- the name of a given range

pub is_this : (name : List ℕ) (from to start end : ℕ) → name ≡ summary_name_bytes from to → from < 2 ^ 64 → to < 2 ^ 64 → start < 2 ^ 64 → end < 2 ^ 64 → from ≡ start
    → IsTrue (to == end) ↔ (name ≡ summary_name_bytes start end)
is_this name from to start end e ff ft fs fe same = (
  λ t. e ∙ (λ i. summary_name_bytes (same i) (eqb-true to end t i)),
  λ other. eq-eqb to end (one_range from to start end ff ft fs fe (sym e ∙ other)).1,
)

pub is_other : (name : List ℕ) (from to start end : ℕ) → name ≡ summary_name_bytes from to → from < 2 ^ 64 → to < 2 ^ 64 → start < 2 ^ 64 → end < 2 ^ 64 → (from ≡ start → ⊥)
    → IsTrue (from == start) ↔ (name ≡ summary_name_bytes start end)
is_other name from to start end e ff ft fs fe differ = (λ t. absurd (differ (eqb-true from start t)), λ other. absurd (differ (one_range from to start end ff ft fs fe (sym e ∙ other)).0))
