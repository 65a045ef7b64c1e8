-- The first seven lines of one label's text and what stands behind them in another one are the text of a label with
-- the other one's prior.
use Rattle.std.proofs.Common.{◌≡◌, ℕ, zero, suc, Bool, true, false, List, [], ◌∷◌, ◌++◌, length, Option, Some, None, refl, sym, ap, ap₂, subst, ◌∙◌, append_assoc}
use Rattle.std.specs.Prelude.{◌==◌, if◌then◌else◌}
use Rattle.std.specs.List.{AllByRecursion, list_any}
use Rattle.lsn_core.specs.declared.lsn.Lsn.{Lsn}
use Rattle.backup_label.specs.Label.{LabelLine, Start, Checkpoint, Method, From, Time, Name, Timeline, PriorStart, PriorTimeline, full_lines, prior_lines, label_lines, key_of, ValueSays, HasNoLineEnd, IsKeyLine, Lines, LineOf, IsLabel}
use Rattle.backup_label.specs.declared.label.Label.{Label}
use Rattle.directory_files.specs.Labels.{first_lines, lines_behind}
use Rattle.merge_laws.specs.Merged.{merged_label}
use Rattle.series_check.specs.Priors.{label_with_prior}
use Rattle.directory_files.proofs.Standing.{neither}

-- ---- one line

one_line : (n : ℕ) (text tail : List ℕ) → HasNoLineEnd text → first_lines (suc n) (text ++ (10 ∷ tail)) ≡ text ++ (10 ∷ first_lines n tail)
one_line n [] tail free = refl
one_line n (b ∷ text) tail free =
    let behind = text ++ (10 ∷ tail) in
    ap (λ (is : Bool). b ∷ (if is then first_lines n behind else first_lines (suc n) behind)) free.0
    ∙ ap (λ (l : List ℕ). b ∷ l) (one_line n text tail free.1)

both_free : (a b : List ℕ) → HasNoLineEnd a → HasNoLineEnd b → HasNoLineEnd (a ++ b)
both_free [] b x y = y
both_free (c ∷ a) b x y = (x.0, both_free a b x.1 y)

free : (text : List ℕ) → list_any (λ b. b == 10) text ≡ false → HasNoLineEnd text
free [] e = tt
free (b ∷ text) e = let both = neither (b == 10) (list_any (λ c. c == 10) text) e in (both.0, free text both.1)

key_free : (line : LabelLine) → HasNoLineEnd (key_of line)
key_free Start = free (key_of Start) refl
key_free Checkpoint = free (key_of Checkpoint) refl
key_free Method = free (key_of Method) refl
key_free From = free (key_of From) refl
key_free Time = free (key_of Time) refl
key_free Name = free (key_of Name) refl
key_free Timeline = free (key_of Timeline) refl
key_free PriorStart = free (key_of PriorStart) refl
key_free PriorTimeline = free (key_of PriorTimeline) refl

first_line : (n : ℕ) (key value text tail : List ℕ) → HasNoLineEnd key → IsKeyLine key value text tail → IsKeyLine key value (first_lines (suc n) text) (first_lines n tail)
first_line n key value text tail free is = record {
  whole =
      ap (first_lines (suc n)) (is.whole ∙ sym (append_assoc key value (10 ∷ tail)))
      ∙ (one_line n (key ++ value) tail (both_free key value free is.single)
      ∙ append_assoc key value (10 ∷ first_lines n tail));
  single = is.single;
}

-- ---- some lines

-- what a line says of one label it says of another one
abbrev Keeps : Label → Label → LabelLine → Type 0
Keeps l m line = (value : List ℕ) → ValueSays l line value → ValueSays m line value

lines_kept : (l m : Label) (lines : List LabelLine) (text rest : List ℕ) → AllByRecursion (Keeps l m) lines → Lines (LineOf l) lines text rest → Lines (LineOf m) lines (first_lines (length lines) text) []
lines_kept l m [] text rest keeps is = refl
lines_kept l m (line ∷ lines) text rest keeps is =
    let value = is.1.0 in (
      first_lines (length lines) is.0,
      (value, first_line (length lines) (key_of line) value text is.0 (key_free line) is.1.1, keeps.0 value is.1.2),
      lines_kept l m lines is.0 rest keeps.1 is.2,
    )

-- what stands behind the first lines
abbrev Starts : Label → List LabelLine → List ℕ → Type 0
Starts l lines text = (rest : List ℕ) × Lines (LineOf l) lines text rest

first_part : (l : Label) (lines more : List LabelLine) (text rest : List ℕ) → Lines (LineOf l) (lines ++ more) text rest → Starts l lines text
first_part l [] more text rest is = (text, refl)
first_part l (line ∷ lines) more text rest is =
    let next = first_part l lines more is.0 rest is.2 in
    (next.0, (is.0, is.1, next.1))

-- ---- what stands behind the first lines of a text

one_behind : (n : ℕ) (text tail : List ℕ) → HasNoLineEnd text → lines_behind (suc n) (text ++ (10 ∷ tail)) ≡ lines_behind n tail
one_behind n [] tail free = refl
one_behind n (b ∷ text) tail free =
    let behind = text ++ (10 ∷ tail) in
    ap (λ (is : Bool). if is then lines_behind n behind else lines_behind (suc n) behind) free.0 ∙ one_behind n text tail free.1

line_behind : (n : ℕ) (key value text tail : List ℕ) → HasNoLineEnd key → IsKeyLine key value text tail → lines_behind (suc n) text ≡ lines_behind n tail
line_behind n key value text tail free is =
    ap (lines_behind (suc n)) (is.whole ∙ sym (append_assoc key value (10 ∷ tail))) ∙ one_behind n (key ++ value) tail (both_free key value free is.single)

behind_none : (text : List ℕ) → lines_behind 0 text ≡ text
behind_none text = refl

-- behind the first lines the others stand
others_behind : (l : Label) (lines more : List LabelLine) (text rest : List ℕ) → Lines (LineOf l) (lines ++ more) text rest → Lines (LineOf l) more (lines_behind (length lines) text) rest
others_behind l [] more text rest is = is
others_behind l (line ∷ lines) more text rest is =
    subst (λ (t : List ℕ). Lines (LineOf l) more t rest)
    (sym (line_behind (length lines) (key_of line) is.1.0 text is.0 (key_free line) is.1.1))
    (others_behind l lines more is.0 rest is.2)

-- ---- a text behind lines

line_more : (key value text tail more : List ℕ) → IsKeyLine key value text tail → IsKeyLine key value (text ++ more) (tail ++ more)
line_more key value text tail more is = record {
  whole =
      ap (λ (t : List ℕ). t ++ more) is.whole
      ∙ (append_assoc key (value ++ (10 ∷ tail)) more ∙ ap (λ (t : List ℕ). key ++ t) (append_assoc value (10 ∷ tail) more));
  single = is.single;
}

lines_more : (l : Label) (lines next : List LabelLine) (text more rest : List ℕ) → Lines (LineOf l) lines text [] → Lines (LineOf l) next more rest → Lines (LineOf l) (lines ++ next) (text ++ more) rest
lines_more l [] next text more rest is then_ = subst (λ (t : List ℕ). Lines (LineOf l) next (t ++ more) rest) (sym is) then_
lines_more l (line ∷ lines) next text more rest is then_ = (
  is.0 ++ more,
  (is.1.0, line_more (key_of line) is.1.0 text is.0 more is.1.1, is.1.2),
  lines_more l lines next is.0 more rest is.2 then_,
)

-- ---- the label

by_prior : (l : Label) (prior : Option (Lsn × ℕ)) (text : List ℕ) → Lines (LineOf l) (label_lines prior) text [] → Starts l full_lines text
by_prior l None text is = ([], is)
by_prior l (Some prior) text is = first_part l full_lines prior_lines text [] is

full_keeps : (l : Label) (prior : Option (Lsn × ℕ)) → AllByRecursion (Keeps l (label_with_prior l prior)) full_lines
full_keeps l prior = (λ v s. s, (λ v s. s, (λ v s. s, (λ v s. s, (λ v s. s, (λ v s. s, (λ v s. s, tt)))))))

-- what the lines of the prior say of one label they say of each with that prior
prior_keeps : (first l : Label) (text : List ℕ) → Lines (LineOf first) prior_lines text [] → Lines (LineOf (label_with_prior l first.prior)) prior_lines text []
prior_keeps first l text is = is

pub merged_text : (first newest : Label) (prior : Lsn × ℕ) (one other : List ℕ) → first.prior ≡ Some prior → IsLabel one first → IsLabel other newest → IsLabel (merged_label one other) (label_with_prior newest first.prior)
merged_text first newest prior one other named is_first is_newest =
    let front = by_prior newest newest.prior other is_newest in
    let m = label_with_prior newest first.prior in
    let kept = lines_kept newest m full_lines other front.0 (full_keeps newest first.prior) front.1 in
    let all = subst (λ (p : Option (Lsn × ℕ)). Lines (LineOf first) (label_lines p) one []) named is_first in
    let behind = prior_keeps first newest (lines_behind 7 one) (others_behind first full_lines prior_lines one [] all) in
    subst (λ (p : Option (Lsn × ℕ)). Lines (LineOf m) (label_lines p) (merged_label one other) []) (sym named)
    (lines_more m full_lines prior_lines (first_lines 7 other) (lines_behind 7 one) [] kept behind)
