-- A text is read in one way.
use Rattle.std.proofs.Common.{◌≡◌, ◌≢◌, ℕ, List, [], ◌∷◌, ◌++◌, length, Option, Some, None, suc, refl, sym, ap, subst, ◌∙◌, arith, inl, inr}
use Rattle.std.specs.List.{AllByRecursion}
use Rattle.std.proofs.lemmas.List.{length-append}
use Rattle.lsn_core.proofs.LsnTexts.{one_lsn}
use Rattle.lsn_core.specs.declared.lsn.Lsn.{Lsn}
use Rattle.backup_label.specs.declared.label.Label.{Label}
use Rattle.backup_label.specs.Label.{LabelLine, Start, Checkpoint, Method, From, Time, Name, Timeline, PriorStart, PriorTimeline, full_lines, prior_lines, label_lines, key_of, ValueSays, Lines, LineOf, SomeLine, LacksLabelLine, LacksNext, MayEnd, IsKeyLine, IsLabel, IsLabelRefusedAt}
use Rattle.backup_label.specs.Inside.{label_with, lines_with}
use Rattle.backup_label.proofs.LineTexts.{one_line}
use Rattle.backup_label.proofs.ValueTexts.{one_start, one_timeline}
use Rattle.backup_label.proofs.Refusals.{some_lines}

-- ---- one label

-- what two labels have alike where one value says it of both
abbrev Agree : Label → Label → LabelLine → Type 0
Agree l m Start = l.start.0 ≡ m.start.0
Agree l m Checkpoint = l.checkpoint.0 ≡ m.checkpoint.0
Agree l m Method = Unit
Agree l m From = Unit
Agree l m Time = l.time ≡ m.time
Agree l m Name = l.label ≡ m.label
Agree l m Timeline = l.timeline ≡ m.timeline
Agree l m PriorStart = (p q : Lsn × ℕ) → l.prior ≡ Some p → m.prior ≡ Some q → p.0.0 ≡ q.0.0
Agree l m PriorTimeline = (p q : Lsn × ℕ) → l.prior ≡ Some p → m.prior ≡ Some q → p.1 ≡ q.1

some_is : (o : Option (Lsn × ℕ)) (p q : Lsn × ℕ) → o ≡ Some p → o ≡ Some q → p ≡ q
some_is o p q a b = cc

agree : (l m : Label) (line : LabelLine) (value : List ℕ) → ValueSays l line value → ValueSays m line value → Agree l m line
agree l m Start value a b = one_start value l.start.0 m.start.0 a b
agree l m Checkpoint value a b = one_lsn value l.checkpoint.0 m.checkpoint.0 a b
agree l m Method value a b = tt
agree l m From value a b = tt
agree l m Time value a b = sym a ∙ b
agree l m Name value a b = sym a ∙ b
agree l m Timeline value a b = one_timeline value l.timeline m.timeline a b
agree l m PriorStart value a b =
    λ p q e f. ap (λ (x : Lsn × ℕ). x.0.0) (some_is l.prior p a.0 e a.1) ∙ one_lsn value a.0.0.0 b.0.0.0 a.2 b.2 ∙ ap (λ (x : Lsn × ℕ). x.0.0) (some_is m.prior b.0 q b.1 f)
agree l m PriorTimeline value a b =
    λ p q e f. ap (λ (x : Lsn × ℕ). x.1) (some_is l.prior p a.0 e a.1) ∙ one_timeline value a.0.1 b.0.1 a.2 b.2 ∙ ap (λ (x : Lsn × ℕ). x.1) (some_is m.prior b.0 q b.1 f)

agree_lines : (l m : Label) (lines : List LabelLine) (x y z : List ℕ) → Lines (LineOf l) lines x y → Lines (LineOf m) lines x z → (y ≡ z) × AllByRecursion (Agree l m) lines
agree_lines l m [] x y z a b = (sym a ∙ b, tt)
agree_lines l m (line ∷ lines) x y z a b =
    let same = one_line (key_of line) a.1.0 b.1.0 x a.0 b.0 a.1.1 b.1.1 in
    let more = agree_lines l m lines b.0 y z (subst (λ (t : List ℕ). Lines (LineOf l) lines t y) same.1 a.2) b.2 in
    (more.0, (agree l m line b.1.0 (subst (ValueSays l line) same.0 a.1.2) b.1.2, more.1))

no_line : (key value text tail : List ℕ) → IsKeyLine key value text tail → text ≡ [] → ⊥
no_line key value text tail is e =
    omega (arith, ap length (sym e ∙ is.whole), length-append key (value ++ (10 ∷ tail)), length-append value (10 ∷ tail))

lsn_of : ℕ → Lsn
lsn_of n = record { 0 = n }

lsn_same : (a b : Lsn) → a.0 ≡ b.0 → a ≡ b
unfolding lsn_of
lsn_same a b e = ap lsn_of e

pair_same : (p q : Lsn × ℕ) → p.0 ≡ q.0 → p.1 ≡ q.1 → p ≡ q
pair_same p q a b = ap (λ (x : Lsn). (x, p.1)) a ∙ ap (λ (n : ℕ). (q.0, n)) b

one_prior : (l m : Label) (p q : Option (Lsn × ℕ)) (y z : List ℕ) → l.prior ≡ p → m.prior ≡ q → y ≡ z → Lines (LineOf l) (lines_with p) y [] → Lines (LineOf m) (lines_with q) z [] → p ≡ q
one_prior l m None None y z e f same a b = refl
one_prior l m None (Some q) y z e f same a b = absurd (no_line (key_of PriorStart) b.1.0 z b.0 b.1.1 (sym same ∙ a))
one_prior l m (Some p) None y z e f same a b = absurd (no_line (key_of PriorStart) a.1.0 y a.0 a.1.1 (same ∙ b))
one_prior l m (Some p) (Some q) y z e f same a b =
    let all = (agree_lines l m prior_lines z [] [] (subst (λ (t : List ℕ). Lines (LineOf l) prior_lines t []) same a) b).1 in
    ap (λ (x : Lsn × ℕ). Some x) (pair_same p q (lsn_same p.0 q.0 (all.0 p q e f)) (all.1.0 p q e f))

split : (P : LabelLine → List ℕ → List ℕ → Type 0) (a b : List LabelLine) (x z : List ℕ) → Lines P (a ++ b) x z → (y : List ℕ) × Lines P a x y × Lines P b y z
split P [] b x z l = (x, refl, l)
split P (line ∷ lines) b x z l = let more = split P lines b l.0 z l.2 in (more.0, (l.0, l.1, more.1), more.2)

parted : (prior : Option (Lsn × ℕ)) → label_lines prior ≡ full_lines ++ lines_with prior
parted None = refl
parted (Some prior) = refl

fields_same : (l m : Label) → l.start ≡ m.start → l.checkpoint ≡ m.checkpoint → l.time ≡ m.time → l.label ≡ m.label → l.timeline ≡ m.timeline → l.prior ≡ m.prior → l ≡ m
fields_same l m a b c d e f =
    ap (λ (s : Lsn). label_with s l.checkpoint l.time l.label l.timeline l.prior) a
    ∙ ap (λ (s : Lsn). label_with m.start s l.time l.label l.timeline l.prior) b
    ∙ ap (λ (t : List ℕ). label_with m.start m.checkpoint t l.label l.timeline l.prior) c
    ∙ ap (λ (t : List ℕ). label_with m.start m.checkpoint m.time t l.timeline l.prior) d
    ∙ ap (λ (n : ℕ). label_with m.start m.checkpoint m.time m.label n l.prior) e
    ∙ ap (λ (p : Option (Lsn × ℕ)). label_with m.start m.checkpoint m.time m.label m.timeline p) f

pub one_label : (text : List ℕ) (l m : Label) → IsLabel text l → IsLabel text m → l ≡ m
one_label text l m a b =
    let x = split (LineOf l) full_lines (lines_with l.prior) text [] (subst (λ (lines : List LabelLine). Lines (LineOf l) lines text []) (parted l.prior) a) in
    let y = split (LineOf m) full_lines (lines_with m.prior) text [] (subst (λ (lines : List LabelLine). Lines (LineOf m) lines text []) (parted m.prior) b) in
    let same = agree_lines l m full_lines text x.0 y.0 x.1 y.1 in
    let all = same.1 in
    fields_same l m (lsn_same l.start m.start all.0) (lsn_same l.checkpoint m.checkpoint all.1.0) all.1.1.1.1.0 all.1.1.1.1.1.0 all.1.1.1.1.1.1.0
    (one_prior l m l.prior m.prior x.0 y.0 refl refl same.0 x.2 y.2)

-- ---- one line that is refused

tail_same : (line : LabelLine) (text t u : List ℕ) → SomeLine line text t → SomeLine line text u → t ≡ u
tail_same line text t u a b = (one_line (key_of line) a.1.0 b.1.0 text t u a.1.1 b.1.1).1

heads : (j k : LabelLine) (js ks : List LabelLine) → j ∷ js ≡ k ∷ ks → j ≡ k
heads j k js ks e = cc

tails : (j k : LabelLine) (js ks : List LabelLine) → j ∷ js ≡ k ∷ ks → js ≡ ks
tails j k js ks e = cc

-- the next line doesn't lack
next_there : (more lines : List LabelLine) (line : LabelLine) (text rest tail : List ℕ) → more ≡ line ∷ lines → text ≡ rest → LacksNext more rest → SomeLine line text tail → ⊥
next_there more lines line text rest tail e at lacks some =
    let none : LacksLabelLine line rest = subst (λ (l : List LabelLine). LacksNext l rest) e lacks in
    none tail (subst (λ (t : List ℕ). SomeLine line t tail) at some)

first_same : (a m b n : List LabelLine) (text x y : List ℕ) → a ++ m ≡ b ++ n → Lines SomeLine a text x → LacksNext m x → Lines SomeLine b text y → LacksNext n y → length a ≡ length b
first_same [] m [] n text x y e p lp q lq = refl
first_same [] m (k ∷ ks) n text x y e p lp q lq = absurd (next_there m (ks ++ n) k text x q.0 e p lp q.1)
first_same (j ∷ js) m [] n text x y e p lp q lq = absurd (next_there n (js ++ m) j text y p.0 (sym e) q lq p.1)
first_same (j ∷ js) m (k ∷ ks) n text x y e p lp q lq =
    let some : SomeLine k text p.0 = subst (λ (l : LabelLine). SomeLine l text p.0) (heads j k (js ++ m) (ks ++ n) e) p.1 in
    let same = tail_same k text p.0 q.0 some q.1 in
    ap suc (first_same js m ks n q.0 x y (tails j k (js ++ m) (ks ++ n) e) (subst (λ (t : List ℕ). Lines SomeLine js t x) same p.2) lp q.2 lq)

pub one_refused : (text : List ℕ) (m n : ℕ) → IsLabelRefusedAt text m → IsLabelRefusedAt text n → m ≡ n
one_refused text m n a b =
    let same = first_same a.taken a.more b.taken b.more text a.rest b.rest (sym a.parts ∙ b.parts) a.read a.missing b.read b.missing in
    omega (arith, a.number, b.number, same)

-- a text that ends where it may has none
ended : (a m b n : List LabelLine) (text y : List ℕ) → a ++ m ≡ b ++ n → MayEnd m → Lines SomeLine a text [] → Lines SomeLine b text y → LacksNext n y → (MayEnd n → y ≢ []) → ⊥
ended [] m [] n text y e end p q lacks goes = goes (subst MayEnd e end) (sym q ∙ p)
ended [] m (k ∷ ks) n text y e end p q lacks goes = no_line (key_of k) q.1.1.0 text q.0 q.1.1.1 p
ended (j ∷ js) m [] n text y e end p q lacks goes = next_there n (js ++ m) j text y p.0 (sym e) q lacks p.1
ended (j ∷ js) m (k ∷ ks) n text y e end p q lacks goes =
    let some : SomeLine k text p.0 = subst (λ (l : LabelLine). SomeLine l text p.0) (heads j k (js ++ m) (ks ++ n) e) p.1 in
    let same = tail_same k text p.0 q.0 some q.1 in
    ended js m ks n q.0 y (tails j k (js ++ m) (ks ++ n) e) end (subst (λ (t : List ℕ). Lines SomeLine js t []) same p.2) q.2 lacks goes

-- what is still to come where a label ends
rest_of : Option (Lsn × ℕ) → List LabelLine
rest_of None = prior_lines
rest_of (Some prior) = []

all_lines : (prior : Option (Lsn × ℕ)) → label_lines prior ++ rest_of prior ≡ full_lines ++ prior_lines
unfolding rest_of
all_lines None = refl
all_lines (Some prior) = refl

may_end : (prior : Option (Lsn × ℕ)) → MayEnd (rest_of prior)
unfolding rest_of
may_end None = inl refl
may_end (Some prior) = inr refl

pub not_refused : (text : List ℕ) (l : Label) (n : ℕ) → IsLabel text l → IsLabelRefusedAt text n → ⊥
not_refused text l n is r =
    ended (label_lines l.prior) (rest_of l.prior) r.taken r.more text r.rest (all_lines l.prior ∙ r.parts) (may_end l.prior) (some_lines l (label_lines l.prior) text [] is) r.read r.missing r.goes_on
