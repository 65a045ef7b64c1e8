-- What stands of a backup that a line of a run took.
use Rattle.std.proofs.Common.{◌≡◌, ℕ, zero, suc, List, [], ◌∷◌, drop, subst}
use Rattle.vault.specs.Site.{Areas}
use Rattle.history.specs.Entry.{Entry}
use Rattle.scripts.specs.declared.script.Line.{Line}
use Rattle.run_answers.specs.declared.answer.Answer.{Answer}
use Rattle.crew.specs.Run.{Basis, StandsFor, BackupsStand}

-- where all backups of lines stand, that of a line does
pub line_stands : (tells : Type 0) (b : Basis) (worker : ℕ) (history : List Entry) (areas : Areas) (lines : List Line) (answers : List Answer) (number : ℕ) (line : Line) (behind : List Line) (answer : Answer) (later : List Answer)
    → BackupsStand tells b worker history lines answers areas → drop number lines ≡ line ∷ behind → drop number answers ≡ answer ∷ later → StandsFor tells b worker history line behind answer areas
line_stands tells b worker history areas [] answers zero line behind answer later stand at given = absurd cc
line_stands tells b worker history areas [] answers (suc n) line behind answer later stand at given = absurd cc
line_stands tells b worker history areas (l ∷ lines) [] zero line behind answer later stand at given = absurd cc
line_stands tells b worker history areas (l ∷ lines) [] (suc n) line behind answer later stand at given = absurd cc
line_stands tells b worker history areas (l ∷ lines) (x ∷ answers) zero line behind answer later stand at given =
    let first : l ≡ line = cc in
    let rest : lines ≡ behind = cc in
    let said : x ≡ answer = cc in
    subst (λ (y : Answer). StandsFor tells b worker history line behind y areas) said
    (subst (λ (ls : List Line). StandsFor tells b worker history line ls x areas) rest
    (subst (λ (y : Line). StandsFor tells b worker history y lines x areas) first stand.0))
line_stands tells b worker history areas (l ∷ lines) (x ∷ answers) (suc n) line behind answer later stand at given =
    line_stands tells b worker history areas lines answers n line behind answer later stand.1 at given
