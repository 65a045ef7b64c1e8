-- One more step of a writer.
use Rattle.std.proofs.Common.{◌≡◌, ◌∙◌, ℕ, suc, zero, ◌+◌, List, [], ◌∷◌, ◌++◌, refl, ap, sym, append-nil, arith}
use Rattle.std.proofs.lemmas.List.{append_assoc}
use Rattle.scripts.specs.declared.script.Line.{Line}
use Rattle.scripts.specs.declared.script.Command.{Command}
use Rattle.drill_script.specs.declared.writer.Step.{Step}
use Rattle.drill_script.specs.declared.writer.Writer.{Writer}
use Rattle.drill_script.specs.Writer.{next}
use Rattle.drill_script.specs.Drill.{line_of, command_of, lines_from}

pub no_lines : (w k number : ℕ) (writer : Writer) → k ≡ 0 → lines_from w k number writer ≡ []
unfolding lines_from
no_lines w zero number writer e = refl
no_lines w (suc k) number writer e = absurd (omega (arith, e))

pub first_line_of : (w k n number : ℕ) (writer : Writer) → k ≡ n + 1 → lines_from w k number writer ≡ line_of number (command_of w (next writer).0) ∷ lines_from w n (number + 1) (next writer).1
unfolding lines_from
first_line_of w zero n number writer e = absurd (omega (arith, e))
first_line_of w (suc k) n number writer e = let same : k ≡ n = omega (arith, e) in ap (λ m. line_of number (command_of w (next writer).0) ∷ lines_from w m (number + 1) (next writer).1) same

-- the lines so far, and one more
pub one_more : (all so_far : List Line) (w k n number behind : ℕ) (from to : Writer) (step : Step) (command : Command) → all ≡ so_far ++ lines_from w k number from → k ≡ n + 1 → behind ≡ number + 1 → (step, to) ≡ next from → command ≡ command_of w step → all ≡ (so_far ++ line_of number command ∷ []) ++ lines_from w n behind to
one_more all so_far w k n number behind from to step command before e place is does =
    before ∙ ap (λ x. so_far ++ x) (first_line_of w k n number from e ∙ ap (λ p. line_of number (command_of w p.0) ∷ lines_from w n (number + 1) p.1) (sym is) ∙ ap (λ c. line_of number c ∷ lines_from w n (number + 1) to) (sym does) ∙ ap (λ m. line_of number command ∷ lines_from w n m to) (sym place)) ∙ sym (append_assoc so_far (line_of number command ∷ []) (lines_from w n behind to))

-- all of them
pub no_more : (all so_far : List Line) (w k number : ℕ) (writer : Writer) → all ≡ so_far ++ lines_from w k number writer → k ≡ 0 → so_far ≡ all
no_more all so_far w k number writer before e = sym (before ∙ ap (λ x. so_far ++ x) (no_lines w k number writer e) ∙ append-nil so_far)
