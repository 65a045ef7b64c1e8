-- The first line by whose answer a worker was stopped.
use Rattle.std.proofs.Common.{◌≡◌, ℕ, suc, ◌+◌, ◌<◌, List, [], ◌∷◌, length, get_or, drop, drop-cons, add-one, Option, Some, None, refl, sym, ap, ◌∙◌, arith}
use Rattle.scripts.specs.declared.script.Line.{Line}
use Rattle.run_answers.specs.declared.answer.Answer.{Answer}
use Rattle.run_answers.specs.declared.answer.Stop.{Stop}
use Rattle.run_answers.specs.declared.told.Told.{Told}
use Rattle.run_answers.specs.Report.{first_or, first_stop, first_told}

-- ---- of one worker

pub no_lines : (lines : List Line) (answers : List Answer) → length lines ≡ 0 → first_stop lines answers ≡ None
no_lines [] answers none = refl
no_lines (line ∷ lines) answers none = absurd (omega (arith, none))

pub no_answers : (lines : List Line) (answers : List Answer) → length answers ≡ 0 → first_stop lines answers ≡ None
no_answers [] answers none = refl
no_answers (line ∷ lines) [] none = refl
no_answers (line ∷ lines) (answer ∷ answers) none = absurd (omega (arith, none))

-- ---- of all workers

dropped : {A : Type 0} (xs : List A) (i : ℕ) (x : A) → i < length xs → x ≡ get_or xs i x → drop i xs ≡ x ∷ drop (i + 1) xs
dropped xs i x lt is = rw (add-one, drop-cons xs i x) (ap (λ y. y ∷ drop (suc i) xs) (sym is))

pub worker_next : (ts : List Told) (i : ℕ) (t : Told) → i < length ts → t ≡ get_or ts i t → first_stop t.task.lines t.answers ≡ None → first_told (drop (i + 1) ts) ≡ first_told (drop i ts)
worker_next ts i t lt is none = sym (ap first_told (dropped ts i t lt is) ∙ ap (λ (o : Option (Line × Stop)). first_or o (first_told (drop (i + 1) ts))) none)

pub worker_here : (ts : List Told) (i : ℕ) (t : Told) (x : Line × Stop) → i < length ts → t ≡ get_or ts i t → first_stop t.task.lines t.answers ≡ Some x → first_told (drop i ts) ≡ Some x
worker_here ts i t x lt is some = ap first_told (dropped ts i t lt is) ∙ ap (λ (o : Option (Line × Stop)). first_or o (first_told (drop (i + 1) ts))) some
