-- The first piece of a text, the first line and the first word.
use Rattle.std.proofs.Common.{◌≡◌, ℕ, ◌+◌, ◌<◌, ◌≤◌, Bool, true, false, cond, not, List, [], ◌∷◌, length, ltb, get_or, drop-cons, take, drop, Some, None, refl, sym, ap, subst, ◌∙◌, arith, suc, add-one, inl, inr}
use Rattle.std.specs.List.{position, position_or_len, filter}
use Rattle.std.proofs.lemmas.Bool.{cond-true, cases_lt, ltb-false, ltb-true, lt-ltb}
use Rattle.std.proofs.lemmas.List.{length-drop, length-take-le, drop-drop, take_all, drop_all}
use Rattle.std.proofs.lemmas.List.Sums.{prefix_len-le-length, passes_at_first}
use Rattle.scripts.specs.Cuts.{first_with, pieces_of, is_feed, is_blank, has_bytes, lines_of, words_of}

-- where the first byte that passes stands
record IsPlace (p : ℕ → Bool) (bytes : List ℕ) (i : ℕ) : Type 0 where
  is : position_or_len p bytes ≡ i
  within : i < length bytes

cond_some : (b : Bool) (n i : ℕ) → Some i ≡ cond b (Some n) None → (b ≡ true) × (n ≡ i)
cond_some true n i e = (refl, cc)
cond_some false n i e = absurd cc

cond_none : (b : Bool) (n : ℕ) → None ≡ cond b (Some n) None → b ≡ false
cond_none true n e = absurd cc
cond_none false n e = refl

place_some : (p : ℕ → Bool) (bytes : List ℕ) (i : ℕ) → Some i ≡ position p bytes → IsPlace p bytes i
place_some p bytes i e =
    let t = cond_some (ltb (position_or_len p bytes) (length bytes)) (position_or_len p bytes) i e in
    record { is = t.1; within = omega (arith, ltb-true _ _ t.0, t.1) }

place_none : (p : ℕ → Bool) (bytes : List ℕ) → None ≡ position p bytes → position_or_len p bytes ≡ length bytes
place_none p bytes e =
    let le : length bytes ≤ position_or_len p bytes = ltb-false _ _ (cond_none (ltb (position_or_len p bytes) (length bytes)) (position_or_len p bytes) e) in
    omega (arith, prefix_len-le-length (λ b. not (p b)) bytes)

first_of : (F : List ℕ → List (List ℕ)) (c : Bool) (b n : ℕ) (bytes : List ℕ) → F [] ≡ []
    → (bytes ≡ [] → n ≡ 0) → (0 < length bytes → F bytes ≡ take n bytes ∷ F (drop (n + 1) bytes))
    → cond c ([] ∷ F bytes) (first_with b (F bytes)) ≡ take (cond (not c) (1 + n) 0) (b ∷ bytes) ∷ F (drop (cond (not c) (1 + n) 0 + 1) (b ∷ bytes))
first_of F true b n bytes base none more = refl
first_of F false b n [] base none more = rw (none refl, base) refl
first_of F false b n (d ∷ bytes) base none more =
    let one : 1 + n ≡ suc n = omega arith in
    let two : suc n + 1 ≡ suc (n + 1) = omega arith in
    rw (more (omega arith), one, two) refl

-- the first piece ends before the first byte that cuts
pieces_first : (cuts : ℕ → Bool) (bytes : List ℕ) → 0 < length bytes
    → pieces_of cuts bytes ≡ take (position_or_len cuts bytes) bytes ∷ pieces_of cuts (drop (position_or_len cuts bytes + 1) bytes)
pieces_first cuts [] some = absurd (omega arith)
pieces_first cuts (b ∷ bytes) some = first_of (pieces_of cuts) (cuts b) b (position_or_len cuts bytes) bytes refl (λ e. ap (position_or_len cuts) e) (pieces_first cuts bytes)

-- what the first byte that cuts stands before and behind
pieces_some : (cuts : ℕ → Bool) (bytes : List ℕ) (i : ℕ) → Some i ≡ position cuts bytes → pieces_of cuts bytes ≡ take i bytes ∷ pieces_of cuts (drop (i + 1) bytes)
pieces_some cuts bytes i e = let at = place_some cuts bytes i e in subst (λ (n : ℕ). pieces_of cuts bytes ≡ take n bytes ∷ pieces_of cuts (drop (n + 1) bytes)) at.is (pieces_first cuts bytes (omega (arith, at.within)))

pieces_none : (cuts : ℕ → Bool) (bytes : List ℕ) → 0 < length bytes → None ≡ position cuts bytes → pieces_of cuts bytes ≡ bytes ∷ []
pieces_none cuts bytes some e =
    let at = place_none cuts bytes e in
    pieces_first cuts bytes some ∙ rw (at, take_all (length bytes) bytes (omega arith), drop_all (length bytes + 1) bytes (omega arith)) refl

-- the line at a place, where this stands from there on
pub line_some : (bytes front : List ℕ) (at i : ℕ) → front ≡ drop at bytes → Some i ≡ position is_feed front → lines_of (drop at bytes) ≡ take i front ∷ lines_of (drop (at + i + 1) bytes)
line_some bytes front at i is e =
    let behind : drop (i + 1) front ≡ drop (at + i + 1) bytes = ap (drop (i + 1)) is ∙ drop-drop (i + 1) at bytes ∙ ap (λ (n : ℕ). drop n bytes) (let e : at + (i + 1) ≡ at + i + 1 = omega arith in e) in
    ap lines_of (sym is) ∙ pieces_some is_feed front i e ∙ ap (λ (l : List ℕ). take i front ∷ lines_of l) behind

pub line_none : (bytes front : List ℕ) (at : ℕ) → at < length bytes → front ≡ drop at bytes → None ≡ position is_feed front → lines_of (drop at bytes) ≡ front ∷ lines_of (drop (length bytes) bytes)
line_none bytes front at lt is e =
    ap lines_of (sym is) ∙ pieces_none is_feed front (omega (arith, length-drop at bytes, ap length is)) e ∙ rw (drop_all (length bytes) bytes (omega arith)) refl

-- a blank at the front is of no word
words_blank : (b : ℕ) (bytes : List ℕ) → is_blank b ≡ true → words_of (b ∷ bytes) ≡ words_of bytes
words_blank b bytes e = ap (filter has_bytes) (cond-true (is_blank b) ([] ∷ pieces_of is_blank bytes) (first_with b (pieces_of is_blank bytes)) e)

start_of : (W : List ℕ → List (List ℕ)) (c : Bool) (b n : ℕ) (bytes : List ℕ) → (c ≡ true → W (b ∷ bytes) ≡ W bytes) → W (drop n bytes) ≡ W bytes
    → W (drop (cond (not (not c)) (1 + n) 0) (b ∷ bytes)) ≡ W (b ∷ bytes)
start_of W true b n bytes blank e = let one : 1 + n ≡ suc n = omega arith in rw one (e ∙ sym (blank refl))
start_of W false b n bytes blank e = refl

words_start : (text : List ℕ) → words_of (drop (position_or_len (λ b. not (is_blank b)) text) text) ≡ words_of text
words_start [] = refl
words_start (b ∷ bytes) = start_of words_of (is_blank b) b (position_or_len (λ c. not (is_blank c)) bytes) bytes (words_blank b bytes) (words_start bytes)

-- behind a word stands a blank, or nothing
words_behind : (text : List ℕ) → words_of (drop (position_or_len is_blank text + 1) text) ≡ words_of (drop (position_or_len is_blank text) text)
words_behind text =
    elim (cases_lt (position_or_len is_blank text) (length text)) [
      | inl lt ↦ sym (rw (add-one, drop-cons text (position_or_len is_blank text) 0 lt) (words_blank (get_or text (position_or_len is_blank text) 0) (drop (suc (position_or_len is_blank text)) text) (passes_at_first is_blank text 0 lt)))
      | inr le ↦ rw (drop_all (position_or_len is_blank text + 1) text (omega arith), drop_all (position_or_len is_blank text) text le) refl
    ]

-- the first word of a text that begins with one
words_first : (text : List ℕ) → 0 < position_or_len is_blank text → words_of text ≡ take (position_or_len is_blank text) text ∷ words_of (drop (position_or_len is_blank text) text)
words_first text some =
    let le : position_or_len is_blank text ≤ length text = prefix_len-le-length (λ b. not (is_blank b)) text in
    let long : has_bytes (take (position_or_len is_blank text) text) ≡ true = lt-ltb _ _ (omega (arith, length-take-le (position_or_len is_blank text) text le)) in
    ap (filter has_bytes) (pieces_first is_blank text (omega arith))
    ∙ cond-true (has_bytes (take (position_or_len is_blank text) text)) _ _ long
    ∙ ap (λ (ws : List (List ℕ)). take (position_or_len is_blank text) text ∷ ws) (words_behind text)

-- a text that begins with no blank begins with a word
word_here : (b : ℕ) (bytes : List ℕ) → not (is_blank b) ≡ true → 0 < position_or_len is_blank (b ∷ bytes)
word_here b bytes e = omega (arith, cond-true (not (is_blank b)) (1 + position_or_len is_blank bytes) 0 e)

word_at : (text : List ℕ) (start : ℕ) → Some start ≡ position (λ b. not (is_blank b)) text → (words_of (drop start text) ≡ words_of text) × (0 < position_or_len is_blank (drop start text))
word_at text start e =
    let at = place_some (λ b. not (is_blank b)) text start e in
    let lt : position_or_len (λ b. not (is_blank b)) text < length text = omega (arith, at.is, at.within) in
    let here = passes_at_first (λ b. not (is_blank b)) text 0 lt in
    subst (λ (n : ℕ). (words_of (drop n text) ≡ words_of text) × (0 < position_or_len is_blank (drop n text))) at.is
    (words_start text, rw (drop-cons text (position_or_len (λ b. not (is_blank b)) text) 0 lt) (word_here (get_or text (position_or_len (λ b. not (is_blank b)) text) 0) (drop (suc (position_or_len (λ b. not (is_blank b)) text)) text) here))

pub word_none : (text : List ℕ) → None ≡ position (λ b. not (is_blank b)) text → words_of text ≡ []
word_none text e = sym (words_start text) ∙ ap words_of (drop_all _ text (omega (arith, place_none (λ b. not (is_blank b)) text e)))

pub word_before : (text word behind : List ℕ) (start end : ℕ) → Some start ≡ position (λ b. not (is_blank b)) text → word ≡ drop start text → Some end ≡ position is_blank word → behind ≡ drop end word
    → words_of text ≡ take end word ∷ words_of behind
word_before text word behind start end e is p rest =
    let at = word_at text start e in
    let front : words_of text ≡ words_of word = sym at.0 ∙ ap words_of (sym is) in
    let some : 0 < position_or_len is_blank word = rw is at.1 in
    let there = place_some is_blank word end p in
    front ∙ words_first word some ∙ rw (there.is, rest) refl

pub word_last : (text word behind : List ℕ) (start : ℕ) → Some start ≡ position (λ b. not (is_blank b)) text → word ≡ drop start text → None ≡ position is_blank word → behind ≡ drop (length word) word
    → words_of text ≡ word ∷ words_of behind
word_last text word behind start e is p rest =
    let at = word_at text start e in
    let front : words_of text ≡ words_of word = sym at.0 ∙ ap words_of (sym is) in
    let some : 0 < position_or_len is_blank word = rw is at.1 in
    let there = place_none is_blank word p in
    front ∙ words_first word some ∙ rw (there, rest, take_all (length word) word (omega arith)) refl
