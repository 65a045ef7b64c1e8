-- The lines of answers, once lines or answers have ended.
use Rattle.std.proofs.Common.{◌≡◌, ℕ, List, [], ◌∷◌, ◌++◌, length, refl, ap, sym, ◌∙◌, arith}
use Rattle.std.proofs.lemmas.List.{append-nil}
use Rattle.scripts.specs.declared.script.Line.{Line}
use Rattle.run_answers.specs.declared.answer.Answer.{Answer}
use Rattle.run_answers.specs.Report.{answer_lines}

no_more_lines : (name : List ℕ) (lines : List Line) (answers : List Answer) → length lines ≡ 0 → answer_lines name lines answers ≡ []
no_more_lines name [] answers e = refl
no_more_lines name (line ∷ lines) answers e = absurd (omega (arith, e))

no_more_answers : (name : List ℕ) (lines : List Line) (answers : List Answer) → length answers ≡ 0 → answer_lines name lines answers ≡ []
no_more_answers name [] answers e = refl
no_more_answers name (line ∷ lines) [] e = refl
no_more_answers name (line ∷ lines) (answer ∷ answers) e = absurd (omega (arith, e))

ends_here : (text all end : List ℕ) → text ++ end ≡ all → end ≡ [] → text ≡ all
ends_here text all end e none = sym (ap (λ x. text ++ x) none ∙ append-nil text) ∙ e

-- all answers were printed
pub lines_ended : (name text all : List ℕ) (lines : List Line) (answers : List Answer) → text ++ answer_lines name lines answers ≡ all → length lines ≡ 0 → text ≡ all
lines_ended name text all lines answers e none = ends_here text all _ e (no_more_lines name lines answers none)

pub answers_ended : (name text all : List ℕ) (lines : List Line) (answers : List Answer) → text ++ answer_lines name lines answers ≡ all → length answers ≡ 0 → text ≡ all
answers_ended name text all lines answers e none = ends_here text all _ e (no_more_answers name lines answers none)
