-- A text has one line with a key at its front.
use Rattle.std.proofs.Common.{◌≡◌, ℕ, ◌+◌, ◌<◌, ◌==◌, false, List, [], ◌∷◌, ◌++◌, length, get_or, take, drop, Option, Some, None, IfNone, zero, suc, refl, sym, ap, subst, ◌∙◌, arith}
use Rattle.std.specs.List.{position}
use Rattle.std.specs.Option.{option_map}
use Rattle.std.proofs.lemmas.List.{append_cancel_left, append_assoc}
use Rattle.std.proofs.lemmas.List.Quantifiers.{position-Some}
use Rattle.lsn_core.specs.byte_words.Cuts.{cut_at}
use Rattle.lsn_core.proofs.byte_words.Cutting.{Lacks, cut_again, cut_whole, front_of, back_of}
use Rattle.backup_label.specs.Label.{HasNoLineEnd, IsKeyLine, HasKeyLine, line_text}

pub never_some : {A : Type 0} (x : A) → None ≡ Some x → ⊥
never_some x e = cc

pub when_none : {A : Type 0} (o : Option A) (P Q : Type 0) → (P → Q) → IfNone o P → IfNone o Q
when_none None P Q f is = f is
when_none (Some x) P Q f is = tt

-- ---- bytes that don't stand in a text

pub lacks : (value : List ℕ) → HasNoLineEnd value → Lacks 10 value
lacks [] free = tt
lacks (b ∷ bs) free = (free.0, lacks bs free.1)

pub has_none : (value : List ℕ) → Lacks 10 value → HasNoLineEnd value
has_none [] free = tt
has_none (b ∷ bs) free = (free.0, has_none bs free.1)

pub lacks_append : (byte : ℕ) (a b : List ℕ) → Lacks byte a → Lacks byte b → Lacks byte (a ++ b)
lacks_append byte [] b x y = y
lacks_append byte (c ∷ cs) b x y = (x.0, lacks_append byte cs b x.1 y)

-- before its first place a byte doesn't stand
none_below : (text : List ℕ) (i : ℕ) → ((k : ℕ) → k < i → (get_or text k 0 == 10) ≡ false) → HasNoLineEnd (take i text)
none_below text zero below = tt
none_below [] (suc i) below = tt
none_below (b ∷ bs) (suc i) below = (below 0 (omega arith), none_below bs i (λ k less. below (suc k) (omega (arith, less))))

single_at : (text value tail : List ℕ) (o : Option ℕ) → position (λ b. b == 10) text ≡ o → option_map {U = List ℕ × List ℕ} (λ i. (take i text, drop (i + 1) text)) o ≡ Some (value, tail) → HasNoLineEnd value
single_at text value tail None at e = absurd cc
single_at text value tail (Some i) at e =
    let found = position-Some (λ b. b == 10) text i 0 at in
    subst HasNoLineEnd (ap front_of e) (none_below text i found.2)

single : (text value tail : List ℕ) → cut_at 10 text ≡ Some (value, tail) → HasNoLineEnd value
single text value tail e = single_at text value tail (position (λ b. b == 10) text) refl e

-- ---- one line

cut_line : (value tail : List ℕ) → HasNoLineEnd value → cut_at 10 (value ++ (10 ∷ tail)) ≡ Some (value, tail)
cut_line value tail free = cut_again 10 value tail (lacks value free)

pub one_line : (key v w text t u : List ℕ) → IsKeyLine key v text t → IsKeyLine key w text u → (v ≡ w) × (t ≡ u)
one_line key v w text t u a b =
    let cuts = sym (cut_line v t a.single) ∙ ap (cut_at 10) (append_cancel_left key (v ++ (10 ∷ t)) (w ++ (10 ∷ u)) (sym a.whole ∙ b.whole)) ∙ cut_line w u b.single in
    (ap front_of cuts, ap back_of cuts)

-- a line whose value isn't one of those that are asked for
pub other_value : (key value text tail : List ℕ) (P : List ℕ → Type 0) → IsKeyLine key value text tail → (P value → ⊥) → (t : List ℕ) → HasKeyLine key P text t → ⊥
other_value key value text tail P is never t has = never (subst P (one_line key has.0 value text t tail has.1 is).0 has.2)

-- what is cut behind a key is a line, and where nothing is cut there is none
pub is_line : (key text line value tail : List ℕ) → text ≡ key ++ line → cut_at 10 line ≡ Some (value, tail) → IsKeyLine key value text tail
is_line key text line value tail begun cut =
    record { whole = begun ∙ ap (λ (l : List ℕ). key ++ l) (cut_whole 10 line value tail cut); single = single line value tail cut }

pub not_cut : (key text line : List ℕ) → text ≡ key ++ line → cut_at 10 line ≡ None → (value tail : List ℕ) → IsKeyLine key value text tail → ⊥
not_cut key text line begun none value tail is =
    let same : line ≡ value ++ (10 ∷ tail) = append_cancel_left key line (value ++ (10 ∷ tail)) (sym begun ∙ is.whole) in
    never_some (value, tail) (sym none ∙ ap (cut_at 10) same ∙ cut_line value tail is.single)

-- a line that is written
pub written_line : (key value rest : List ℕ) → HasNoLineEnd value → IsKeyLine key value (line_text key value ++ rest) rest
unfolding line_text
written_line key value rest free =
    record { whole = append_assoc key (value ++ (10 ∷ [])) rest ∙ ap (λ (l : List ℕ). key ++ l) (append_assoc value (10 ∷ []) rest); single = free }

-- lines one after another behind a text
push : (t u a rest : List ℕ) → u ≡ t ++ a → u ++ rest ≡ t ++ (a ++ rest)
push t u a rest e = ap (λ (l : List ℕ). l ++ rest) e ∙ append_assoc t a rest

pub two_added : (t u v a b : List ℕ) → u ≡ t ++ a → v ≡ u ++ b → v ≡ t ++ (a ++ b)
two_added t u v a b e f = f ∙ push t u a b e

pub all_added : (t u v w x y z p q a b c d e f g h : List ℕ) → t ≡ [] → u ≡ t ++ a → v ≡ u ++ b → w ≡ v ++ c → x ≡ w ++ d → y ≡ x ++ e → z ≡ y ++ f → p ≡ z ++ g → q ≡ p ++ h
    → q ≡ a ++ (b ++ (c ++ (d ++ (e ++ (f ++ (g ++ h))))))
all_added t u v w x y z p q a b c d e f g h none e1 e2 e3 e4 e5 e6 e7 e8 =
    e8 ∙ push z p g h e7 ∙ push y z f (g ++ h) e6 ∙ push x y e (f ++ (g ++ h)) e5 ∙ push w x d (e ++ (f ++ (g ++ h))) e4 ∙ push v w c (d ++ (e ++ (f ++ (g ++ h)))) e3
    ∙ push u v b (c ++ (d ++ (e ++ (f ++ (g ++ h))))) e2 ∙ push t u a (b ++ (c ++ (d ++ (e ++ (f ++ (g ++ h)))))) e1 ∙ ap (λ (l : List ℕ). l ++ (a ++ (b ++ (c ++ (d ++ (e ++ (f ++ (g ++ h)))))))) none

pub nothing : (text : List ℕ) → length text ≡ 0 → text ≡ []
nothing [] e = refl
nothing (b ∷ bs) e = absurd (omega (arith, e))
