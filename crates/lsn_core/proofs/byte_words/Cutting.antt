-- What is cut at a byte is whole, and a text is cut at the byte that stands in it first.
use Rattle.std.proofs.Common.{◌≡◌, ℕ, ◌+◌, ◌<◌, ◌==◌, true, false, List, [], ◌∷◌, ◌++◌, length, get_or, take, drop, drop-cons, Option, Some, None, IfSome, IfNone, refl, ap, sym, ◌∙◌, arith, cond, nat_lt, add-one}
use Rattle.std.specs.List.{position, position_or_len}
use Rattle.std.specs.Option.{option_map, MatchOption}
use Rattle.std.proofs.lemmas.Bool.{lt-ltb, eq-eqb, eqb-true}
use Rattle.std.proofs.lemmas.List.{length-append, take-append-drop}
use Rattle.std.proofs.lemmas.List.Quantifiers.{position-Some}
use Rattle.std.proofs.Math.Seq.{take-append_seam, drop-append-add}
use Rattle.lsn_core.specs.byte_words.Cuts.{cut_at}

-- a reader's answer in two clauses
pub found_of : {A : Type 0} (o : Option A) (P : Type 0) (Q : A → Type 0) → MatchOption o P Q → IfSome o Q
found_of None P Q m = tt
found_of (Some x) P Q m = m

pub none_of : {A : Type 0} (o : Option A) (P : Type 0) (Q : A → Type 0) → MatchOption o P Q → IfNone o P
none_of None P Q m = m
none_of (Some x) P Q m = tt

-- what holds anyway holds where there is no answer
pub none_anyway : {A : Type 0} (o : Option A) (P : Type 0) → P → IfNone o P
none_anyway None P p = p
none_anyway (Some x) P p = tt

-- the byte doesn't stand in the text
abbrev pub Lacks : ℕ → List ℕ → Type 0
Lacks byte [] = Unit
Lacks byte (c ∷ cs) = ((c == byte) ≡ false) × Lacks byte cs

-- behind bytes that aren't it, a byte is the first one
first_place : (byte : ℕ) (text tail : List ℕ) → Lacks byte text → position_or_len (λ b. b == byte) (text ++ (byte ∷ tail)) ≡ length text
first_place byte [] tail lacks = rw (eq-eqb byte byte refl) refl
first_place byte (c ∷ cs) tail lacks =
    let more : position_or_len (λ b. b == byte) (cs ++ (byte ∷ tail)) ≡ length cs = first_place byte cs tail lacks.1 in
    rw (lacks.0, more) (omega arith)

-- a place that is found within
placed : (size n m : ℕ) → m ≡ n → n < size → cond (nat_lt m size) (Some m) None ≡ Some n
placed size n m e within = rw (e, lt-ltb n size within) refl

-- what stands before and behind a place
abbrev parts : List ℕ → ℕ → List ℕ × List ℕ
parts text i = (take i text, drop (i + 1) text)

seam : (text tail : List ℕ) (byte : ℕ) → parts (text ++ (byte ∷ tail)) (length text) ≡ (text, tail)
seam text tail byte = rw (take-append_seam text (byte ∷ tail), drop-append-add text (byte ∷ tail) 1) refl

-- a text without the byte, and the byte behind it, are cut there
pub cut_again : (byte : ℕ) (text tail : List ℕ) → Lacks byte text → cut_at byte (text ++ (byte ∷ tail)) ≡ Some (text, tail)
cut_again byte text tail lacks =
    ap (λ (o : Option ℕ). option_map (parts (text ++ (byte ∷ tail))) o)
    (placed (length (text ++ (byte ∷ tail))) (length text) (position_or_len (λ b. b == byte) (text ++ (byte ∷ tail))) (first_place byte text tail lacks) (omega (arith, length-append text (byte ∷ tail))))
    ∙ ap (λ (x : List ℕ × List ℕ). Some x) (seam text tail byte)

-- the two parts of a pair that is there
abbrev pub front_of : Option (List ℕ × List ℕ) → List ℕ
front_of None = []
front_of (Some x) = x.0

abbrev pub back_of : Option (List ℕ × List ℕ) → List ℕ
back_of None = []
back_of (Some x) = x.1

-- what is cut is whole
whole_at : (byte : ℕ) (text before behind : List ℕ) (o : Option ℕ) → position (λ b. b == byte) text ≡ o → option_map (parts text) o ≡ Some (before, behind) → text ≡ before ++ (byte ∷ behind)
whole_at byte text before behind None at e = absurd (cc)
whole_at byte text before behind (Some i) at e =
    let found : (i < length text) × ((get_or text i 0 == byte) ≡ true) × ((k : ℕ) → k < i → (get_or text k 0 == byte) ≡ false) = position-Some (λ b. b == byte) text i 0 at in
    let is : get_or text i 0 ≡ byte = eqb-true (get_or text i 0) byte found.1 in
    let within : i < length text = found.0 in
    let tail : drop i text ≡ byte ∷ drop (i + 1) text = rw (add-one, drop-cons text i 0, is) refl in
    let first : take i text ≡ before = ap front_of e in
    let second : drop (i + 1) text ≡ behind = ap back_of e in
    sym (take-append-drop i text) ∙ rw (tail, first, second) refl

pub cut_whole : (byte : ℕ) (text before behind : List ℕ) → cut_at byte text ≡ Some (before, behind) → text ≡ before ++ (byte ∷ behind)
cut_whole byte text before behind e = whole_at byte text before behind (position (λ b. b == byte) text) refl e
