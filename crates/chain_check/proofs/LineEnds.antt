-- The lexemes of a JSON text up to the end of a line: they don't depend on what stands behind it.
use Rattle.std.proofs.Common.{◌≡◌, ℕ, zero, suc, ◌+◌, ◌-◌, ◌<◌, Bool, true, false, cond, ◌&&◌, ◌||◌, ◌==◌, nat_eq, List, [], ◌∷◌, ◌++◌, length, take, drop, Option, Some, None, option_map, option_and_then, inl, inr, ◌⊎◌, refl, sym, ap, ap₂, ◌∙◌, arith, length-append}
use Rattle.std.specs.Prelude.{slice_index, nat_lt}
use Rattle.std.specs.List.{prefix_len, starts_with, AllByRecursion}
use Rattle.std.specs.Char.{is_ascii_digit, is_digit, encode_utf8}
use Rattle.std.proofs.lemmas.List.{take-append-le}
use Rattle.json.specs.Token.{Token}
use Rattle.json.specs.Text.{Within, plain, after_backslash, after_u, after_high, prepend, content, code_unit, short_escape, is_high_surrogate, is_low_surrogate, surrogate_pair}
use Rattle.json.specs.Ascii.{true_text, false_text, null_text}
use Rattle.json.specs.Word.{head, ends_word, after_digits, after_minus, after_sign, after_whole, after_fraction, after_exponent, after_number, number_before, literal, word}
use Rattle.json.specs.Lex.{Lexeme, token, Class, quote, backslash, operator, space, other, class, operator_lexeme, string_token, Mode, between, in_word, in_string, in_escape, lex_byte, lex}

-- ---- the content of a string

and_false : (b : Bool) → (b && false) ≡ false
and_false true = refl
and_false false = refl

cond_none : {A : Type 0} (b : Bool) → cond b None None ≡ (let none : Option A = None in none)
cond_none true = refl
cond_none false = refl

then_same : {A B : Type 0} (f g : A → Option B) (o : Option A) → ((x : A) → f x ≡ g x) → option_and_then f o ≡ option_and_then g o
then_same f g None same = refl
then_same f g (Some x) same = same x

below_four : (P : ℕ → Type 0) → P 0 → P 1 → P 2 → P 3 → (k : ℕ) → k < 4 → P k
below_four P p0 p1 p2 p3 zero h = p0
below_four P p0 p1 p2 p3 (suc zero) h = p1
below_four P p0 p1 p2 p3 (suc (suc zero)) h = p2
below_four P p0 p1 p2 p3 (suc (suc (suc zero))) h = p3
below_four P p0 p1 p2 p3 (suc (suc (suc (suc k)))) h = absurd (omega arith)

-- no line end is a hex digit
no_unit : (a b c d k : ℕ) → k < 4 → slice_index (a ∷ b ∷ c ∷ d ∷ []) k ≡ 10 → code_unit a b c d ≡ None
unfolding code_unit
no_unit a b c d =
    below_four (λ k. slice_index (a ∷ b ∷ c ∷ d ∷ []) k ≡ 10 → code_unit a b c d ≡ None)
    (λ e. rw e refl) (λ e. rw (e, and_false (is_digit a 16)) refl) (λ e. rw (e, and_false (is_digit a 16 && is_digit b 16)) refl)
    (λ e. rw (e, and_false (is_digit a 16 && is_digit b 16 && is_digit c 16)) refl)

no_four : (xs : List ℕ) (k : ℕ) → k < 4 → slice_index xs k ≡ 10 → content after_u xs ≡ None
unfolding content
no_four [] k h e = refl
no_four (a ∷ []) k h e = refl
no_four (a ∷ b ∷ []) k h e = refl
no_four (a ∷ b ∷ c ∷ []) k h e = refl
no_four (a ∷ b ∷ c ∷ d ∷ xs) zero h e = rw (no_unit a b c d 0 (omega arith) e) refl
no_four (a ∷ b ∷ c ∷ d ∷ xs) (suc zero) h e = rw (no_unit a b c d 1 (omega arith) e) refl
no_four (a ∷ b ∷ c ∷ d ∷ xs) (suc (suc zero)) h e = rw (no_unit a b c d 2 (omega arith) e) refl
no_four (a ∷ b ∷ c ∷ d ∷ xs) (suc (suc (suc zero))) h e = rw (no_unit a b c d 3 (omega arith) e) refl
no_four (a ∷ b ∷ c ∷ d ∷ xs) (suc (suc (suc (suc k)))) h e = absurd (omega arith)

no_six : (high : ℕ) (xs : List ℕ) (k : ℕ) → k < 6 → slice_index xs k ≡ 10 → content (after_high high) xs ≡ None
unfolding content
no_six high [] k h e = refl
no_six high (s ∷ []) k h e = refl
no_six high (s ∷ u ∷ []) k h e = refl
no_six high (s ∷ u ∷ a ∷ []) k h e = refl
no_six high (s ∷ u ∷ a ∷ b ∷ []) k h e = refl
no_six high (s ∷ u ∷ a ∷ b ∷ c ∷ []) k h e = refl
no_six high (s ∷ u ∷ a ∷ b ∷ c ∷ d ∷ xs) zero h e = rw e refl
no_six high (s ∷ u ∷ a ∷ b ∷ c ∷ d ∷ xs) (suc zero) h e = rw (e, and_false (s == 92)) refl
no_six high (s ∷ u ∷ a ∷ b ∷ c ∷ d ∷ xs) (suc (suc zero)) h e = rw (no_unit a b c d 0 (omega arith) e) (cond_none _)
no_six high (s ∷ u ∷ a ∷ b ∷ c ∷ d ∷ xs) (suc (suc (suc zero))) h e = rw (no_unit a b c d 1 (omega arith) e) (cond_none _)
no_six high (s ∷ u ∷ a ∷ b ∷ c ∷ d ∷ xs) (suc (suc (suc (suc zero)))) h e = rw (no_unit a b c d 2 (omega arith) e) (cond_none _)
no_six high (s ∷ u ∷ a ∷ b ∷ c ∷ d ∷ xs) (suc (suc (suc (suc (suc zero))))) h e = rw (no_unit a b c d 3 (omega arith) e) (cond_none _)
no_six high (s ∷ u ∷ a ∷ b ∷ c ∷ d ∷ xs) (suc (suc (suc (suc (suc (suc k)))))) h e = absurd (omega arith)

content_line : (w : Within) (xs t : List ℕ) → content w (xs ++ (10 ∷ t)) ≡ content w (xs ++ (10 ∷ []))
unfolding content short_escape
content_line plain [] t = refl
content_line plain (x ∷ xs) t =
    ap₂ (λ a b. cond (x == 34) (Some []) (cond (x == 92) a (cond (nat_lt x 32) None (prepend (x ∷ []) b)))) (content_line after_backslash xs t) (content_line plain xs t)
content_line after_backslash [] t = refl
content_line after_backslash (x ∷ xs) t =
    ap₂ (λ a b. cond (x == 117) a (option_and_then (λ c. prepend (c ∷ []) b) (short_escape x))) (content_line after_u xs t) (content_line plain xs t)
content_line after_u [] t = no_four (10 ∷ t) 0 (omega arith) refl
content_line after_u (a ∷ []) t = no_four (a ∷ 10 ∷ t) 1 (omega arith) refl
content_line after_u (a ∷ b ∷ []) t = no_four (a ∷ b ∷ 10 ∷ t) 2 (omega arith) refl
content_line after_u (a ∷ b ∷ c ∷ []) t = no_four (a ∷ b ∷ c ∷ 10 ∷ t) 3 (omega arith) refl ∙ sym (no_four (a ∷ b ∷ c ∷ 10 ∷ []) 3 (omega arith) refl)
content_line after_u (a ∷ b ∷ c ∷ d ∷ xs) t =
    then_same _ _ (code_unit a b c d) (λ u.
    ap₂ (λ p q. cond (is_high_surrogate u) p (cond (is_low_surrogate u) None (prepend (encode_utf8 u) q))) (content_line (after_high u) xs t) (content_line plain xs t))
content_line (after_high h) [] t = no_six h (10 ∷ t) 0 (omega arith) refl
content_line (after_high h) (s ∷ []) t = no_six h (s ∷ 10 ∷ t) 1 (omega arith) refl
content_line (after_high h) (s ∷ u ∷ []) t = no_six h (s ∷ u ∷ 10 ∷ t) 2 (omega arith) refl
content_line (after_high h) (s ∷ u ∷ a ∷ []) t = no_six h (s ∷ u ∷ a ∷ 10 ∷ t) 3 (omega arith) refl
content_line (after_high h) (s ∷ u ∷ a ∷ b ∷ []) t = no_six h (s ∷ u ∷ a ∷ b ∷ 10 ∷ t) 4 (omega arith) refl
content_line (after_high h) (s ∷ u ∷ a ∷ b ∷ c ∷ []) t = no_six h (s ∷ u ∷ a ∷ b ∷ c ∷ 10 ∷ t) 5 (omega arith) refl ∙ sym (no_six h (s ∷ u ∷ a ∷ b ∷ c ∷ 10 ∷ []) 5 (omega arith) refl)
content_line (after_high h) (s ∷ u ∷ a ∷ b ∷ c ∷ d ∷ xs) t =
    ap (λ o. cond ((s == 92) && (u == 117)) o None)
    (then_same _ _ (code_unit a b c d) (λ l.
    ap (λ q. cond (is_low_surrogate l) (prepend (encode_utf8 (surrogate_pair h l)) q) None) (content_line plain xs t)))

-- ---- a word

head_line : (u t : List ℕ) → head (u ++ (10 ∷ t)) ≡ head (u ++ (10 ∷ []))
head_line [] t = refl
head_line (x ∷ u) t = refl

ends_line : (u t : List ℕ) → ends_word (u ++ (10 ∷ t)) ≡ ends_word (u ++ (10 ∷ []))
ends_line [] t = refl
ends_line (x ∷ u) t = refl

and_same : (b p e q f : Bool) → (p && e) ≡ (q && f) → ((b && p) && e) ≡ ((b && q) && f)
and_same true p e q f same = same
and_same false p e q f same = refl

abbrev names : List ℕ → List ℕ → Bool
names name t = starts_with nat_eq t name && ends_word (drop (length name) t)

names_line : (name u t : List ℕ) → AllByRecursion (λ n. nat_eq n 10 ≡ false) name → names name (u ++ (10 ∷ t)) ≡ names name (u ++ (10 ∷ []))
names_line [] u t free = ends_line u t
names_line (n ∷ name) [] t free = rw free.0 refl
names_line (n ∷ name) (x ∷ u) t free = and_same (nat_eq n x) _ _ _ _ (names_line name u t free.1)

literal_line : (name : List ℕ) (l : Token) (u t : List ℕ) → AllByRecursion (λ n. nat_eq n 10 ≡ false) name → literal name l (u ++ (10 ∷ t)) ≡ literal name l (u ++ (10 ∷ []))
literal_line name l u t free = ap (λ b. cond b l Token.bad) (names_line name u t free)

-- a step that leaves the line's end where it is
abbrev Steps : (List ℕ → Option (List ℕ)) → List ℕ → Type 0
Steps f u = (o : Option (List ℕ)) × ((t : List ℕ) → f (u ++ (10 ∷ t)) ≡ option_map (λ r. r ++ (10 ∷ t)) o)

abbrev Passes : (List ℕ → List ℕ) → List ℕ → Type 0
Passes f u = (r : List ℕ) × ((t : List ℕ) → f (u ++ (10 ∷ t)) ≡ r ++ (10 ∷ t))

cond_passes : (b : Bool) (x y u : List ℕ) (f : List ℕ → List ℕ) → ((t : List ℕ) → f (u ++ (10 ∷ t)) ≡ cond b (x ++ (10 ∷ t)) (y ++ (10 ∷ t))) → Passes f u
cond_passes true x y u f is = (x, is)
cond_passes false x y u f is = (y, is)

minus_passes : (u : List ℕ) → Passes after_minus u
minus_passes [] = ([], λ t. refl)
minus_passes (x ∷ u) = cond_passes (x == 45) u (x ∷ u) (x ∷ u) after_minus (λ t. refl)

sign_passes : (u : List ℕ) → Passes after_sign u
sign_passes [] = ([], λ t. refl)
sign_passes (x ∷ u) = cond_passes ((x == 45) || (x == 43)) u (x ∷ u) (x ∷ u) after_sign (λ t. refl)

digit_more : (b : Bool) (x n m : ℕ) (ys zs : List ℕ) → (n ≡ m) × (drop m (ys ++ zs) ≡ drop m ys ++ zs)
    → (cond b (1 + n) 0 ≡ cond b (1 + m) 0) × (drop (cond b (1 + m) 0) (x ∷ (ys ++ zs)) ≡ drop (cond b (1 + m) 0) (x ∷ ys) ++ zs)
digit_more false x n m ys zs later = (refl, refl)
digit_more true x n m ys zs later =
    let one : 1 + m ≡ suc m = omega arith in
    (ap (λ k. 1 + k) later.0, rw one later.1)

abbrev digits_of : List ℕ → ℕ
digits_of u = prefix_len is_ascii_digit u

digits_line : (u t : List ℕ) → (digits_of (u ++ (10 ∷ t)) ≡ digits_of u) × (drop (digits_of u) (u ++ (10 ∷ t)) ≡ drop (digits_of u) u ++ (10 ∷ t))
digits_line [] t = (refl, refl)
digits_line (x ∷ u) t = digit_more (is_ascii_digit x) x (digits_of (u ++ (10 ∷ t))) (digits_of u) u (10 ∷ t) (digits_line u t)

cond_steps : (b : Bool) (o p : Option (List ℕ)) (t : List ℕ) → cond b (option_map (λ r. r ++ (10 ∷ t)) o) (option_map (λ r. r ++ (10 ∷ t)) p) ≡ option_map (λ r. r ++ (10 ∷ t)) (cond b o p)
cond_steps true o p t = refl
cond_steps false o p t = refl

digits_steps : (u : List ℕ) → Steps after_digits u
digits_steps u = (
  cond (digits_of u == 0) None (Some (drop (digits_of u) u)),
  λ t.
      let both = digits_line u t in
      ap (λ n. cond (n == 0) None (Some (drop n (u ++ (10 ∷ t))))) both.0
      ∙ ap (λ l. cond (digits_of u == 0) None (Some l)) both.1
      ∙ cond_steps (digits_of u == 0) None (Some (drop (digits_of u) u)) t,
)

whole_steps : (u : List ℕ) → Steps after_whole u
whole_steps [] = (None, λ t. refl)
whole_steps (x ∷ u) =
    let digits = digits_steps (x ∷ u) in
    (cond (x == 48) (Some u) digits.0, λ t. ap (λ o. cond (x == 48) (Some (u ++ (10 ∷ t))) o) (digits.1 t) ∙ cond_steps (x == 48) (Some u) digits.0 t)

fraction_steps : (u : List ℕ) → Steps after_fraction u
fraction_steps [] = (Some [], λ t. refl)
fraction_steps (x ∷ u) =
    let digits = digits_steps u in
    (cond (x == 46) digits.0 (Some (x ∷ u)), λ t. ap (λ o. cond (x == 46) o (Some (x ∷ (u ++ (10 ∷ t))))) (digits.1 t) ∙ cond_steps (x == 46) digits.0 (Some (x ∷ u)) t)

exponent_steps : (u : List ℕ) → Steps after_exponent u
exponent_steps [] = (Some [], λ t. refl)
exponent_steps (x ∷ u) =
    let sign = sign_passes u in
    let digits = digits_steps sign.0 in (
      cond ((x == 101) || (x == 69)) digits.0 (Some (x ∷ u)),
      λ t.
          ap (λ o. cond ((x == 101) || (x == 69)) o (Some (x ∷ (u ++ (10 ∷ t))))) (ap after_digits (sign.1 t) ∙ digits.1 t) ∙ cond_steps ((x == 101) || (x == 69)) digits.0 (Some (x ∷ u)) t,
    )

then_steps : (g : List ℕ → Option (List ℕ)) (o : Option (List ℕ)) → ((r : List ℕ) → Steps g r)
    → (p : Option (List ℕ)) × ((t : List ℕ) → option_and_then g (option_map (λ r. r ++ (10 ∷ t)) o) ≡ option_map (λ r. r ++ (10 ∷ t)) p)
then_steps g None steps = (None, λ t. refl)
then_steps g (Some r) steps = steps r

number_steps : (u : List ℕ) → Steps after_number u
unfolding after_number
number_steps u =
    let minus = minus_passes u in
    let whole = whole_steps minus.0 in
    let fraction = then_steps after_fraction whole.0 fraction_steps in
    let exponent = then_steps after_exponent fraction.0 exponent_steps in (
      exponent.0,
      λ t.
          ap (λ o. option_and_then after_exponent (option_and_then after_fraction o)) (ap after_whole (minus.1 t) ∙ whole.1 t)
          ∙ ap (option_and_then after_exponent) (fraction.1 t) ∙ exponent.1 t,
    )

number_text : (u r t : List ℕ) → take (length (u ++ (10 ∷ t)) - length (r ++ (10 ∷ t))) (u ++ (10 ∷ t)) ≡ take (length u - length r) u
number_text u r t =
    let size : length (u ++ (10 ∷ t)) - length (r ++ (10 ∷ t)) ≡ length u - length r = omega (arith, length-append u (10 ∷ t), length-append r (10 ∷ t)) in
    rw size (take-append-le (length u - length r) u (10 ∷ t) (omega arith))

before_line : (u t : List ℕ) (o : Option (List ℕ)) → number_before (u ++ (10 ∷ t)) (option_map (λ r. r ++ (10 ∷ t)) o) ≡ number_before (u ++ (10 ∷ [])) (option_map (λ r. r ++ (10 ∷ [])) o)
before_line u t None = refl
before_line u t (Some r) = ap₂ (λ b l. cond b (Token.number l) Token.bad) (ends_line r t) (number_text u r t ∙ sym (number_text u r []))

number_line : (u t : List ℕ) → number_before (u ++ (10 ∷ t)) (after_number (u ++ (10 ∷ t))) ≡ number_before (u ++ (10 ∷ [])) (after_number (u ++ (10 ∷ [])))
number_line u t =
    let steps = number_steps u in
    ap (number_before (u ++ (10 ∷ t))) (steps.1 t) ∙ before_line u t steps.0 ∙ sym (ap (number_before (u ++ (10 ∷ []))) (steps.1 []))

word_line : (x : ℕ) (u t : List ℕ) → word (x ∷ (u ++ (10 ∷ t))) ≡ word (x ∷ (u ++ (10 ∷ [])))
unfolding word
word_line x u t = rw (
  literal_line true_text (Token.boolean true) (x ∷ u) t (refl, (refl, (refl, (refl, tt)))),
  literal_line false_text (Token.boolean false) (x ∷ u) t (refl, (refl, (refl, (refl, (refl, tt))))),
  literal_line null_text Token.null (x ∷ u) t (refl, (refl, (refl, (refl, tt)))),
  number_line (x ∷ u) t,
) refl

-- ---- lexemes

-- up to a line's end the lexemes are the same, whatever stands behind it; there the lexer is between
-- lexemes, or in a string
pub record Lexed (m : Mode) (xs : List ℕ) : Type 0 where
  pub front : List Lexeme
  pub then : Mode
  pub mode : (then ≡ between) ⊎ (then ≡ in_string)
  pub same : (t : List ℕ) → lex m (xs ++ (10 ∷ t)) ≡ front ++ lex then t

-- a byte and what is behind it
abbrev After : (List ℕ → List Lexeme) → Type 0
After f = (front : List Lexeme) × (then : Mode) × ((then ≡ between) ⊎ (then ≡ in_string)) × ((t : List ℕ) → f t ≡ front ++ lex then t)

more : (l : Lexeme) (m : Mode) (xs : List ℕ) → Lexed m xs → After (λ t. l ∷ lex m (xs ++ (10 ∷ t)))
more l m xs is = (l ∷ is.front, is.then, is.mode, λ t. ap (λ ls. l ∷ ls) (is.same t))

plainly : (m : Mode) (xs : List ℕ) → Lexed m xs → After (λ t. lex m (xs ++ (10 ∷ t)))
plainly m xs is = (is.front, is.then, is.mode, is.same)

step : (m : Mode) (c : Class) (x : ℕ) (xs : List ℕ) → ((n : Mode) → Lexed n xs) → After (λ t. lex_byte m c x (xs ++ (10 ∷ t)) (λ n. lex n (xs ++ (10 ∷ t))))
step between quote x xs later =
    let l = token (string_token (content plain (xs ++ (10 ∷ [])))) in
    let is = more l in_string xs (later in_string) in
    (is.0, is.1, is.2, λ t. ap (λ o. token (string_token o) ∷ lex in_string (xs ++ (10 ∷ t))) (content_line plain xs t) ∙ is.3 t)
step between backslash x xs later = more (token Token.bad) in_word xs (later in_word)
step between operator x xs later = more (operator_lexeme x) between xs (later between)
step between space x xs later = plainly between xs (later between)
step between other x xs later =
    let is = more (token (word (x ∷ (xs ++ (10 ∷ []))))) in_word xs (later in_word) in
    (is.0, is.1, is.2, λ t. ap (λ w. token w ∷ lex in_word (xs ++ (10 ∷ t))) (word_line x xs t) ∙ is.3 t)
step in_word quote x xs later = plainly in_word xs (later in_word)
step in_word backslash x xs later = plainly in_word xs (later in_word)
step in_word operator x xs later = more (operator_lexeme x) between xs (later between)
step in_word space x xs later = plainly between xs (later between)
step in_word other x xs later = plainly in_word xs (later in_word)
step in_string quote x xs later = plainly between xs (later between)
step in_string backslash x xs later = plainly in_escape xs (later in_escape)
step in_string operator x xs later = plainly in_string xs (later in_string)
step in_string space x xs later = plainly in_string xs (later in_string)
step in_string other x xs later = plainly in_string xs (later in_string)
step in_escape c x xs later = plainly in_string xs (later in_string)

pub lexed : (xs : List ℕ) (m : Mode) → Lexed m xs
unfolding lex
lexed [] between = record { front = []; then = between; mode = inl refl; same = λ t. refl }
lexed [] in_word = record { front = []; then = between; mode = inl refl; same = λ t. refl }
lexed [] in_string = record { front = []; then = in_string; mode = inr refl; same = λ t. refl }
lexed [] in_escape = record { front = []; then = in_string; mode = inr refl; same = λ t. refl }
lexed (x ∷ xs) m =
    let is = step m (class x) x xs (lexed xs) in
    record { front = is.0; then = is.1; mode = is.2; same = is.3 }
