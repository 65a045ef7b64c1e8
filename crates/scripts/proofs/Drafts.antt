-- Lines joined one by one to the tasks so far.
use Rattle.std.proofs.Common.{◌≡◌, ℕ, zero, suc, ◌+◌, ◌-◌, get_or, set, List, [], ◌∷◌, ◌++◌, length, Option, Some, None, refl, ap, arith}
use Rattle.std.specs.List.{AllByRecursion}
use Rattle.scripts.specs.declared.script.Command.{Command}
use Rattle.scripts.specs.declared.script.Line.{Line}
use Rattle.scripts.specs.declared.script.Task.{Task}
use Rattle.scripts.specs.Meaning.{Says, Nothing, Worker, Does, meaning}
use Rattle.scripts.specs.Draft.{with_says, with_line, drafted}

-- one more line is read on what the lines before it made
pub drafted_push : (tasks : List Task) (lines : List (List ℕ)) (line : List ℕ) (n m : ℕ) → n + length lines ≡ m → drafted tasks n (lines ++ (line ∷ [])) ≡ with_says (drafted tasks n lines) m (meaning line)
drafted_push tasks [] line n m e = ap (λ (k : ℕ). with_says tasks k (meaning line)) (let same : n ≡ m = omega (arith, e) in same)
drafted_push tasks (l ∷ lines) line n m e = drafted_push (with_says tasks n (meaning l)) lines line (n + 1) m (omega (arith, e))

-- the last task, set
pub last_set : (tasks : List Task) (n : ℕ) (t : Task) (line : Line) → n + 1 ≡ length tasks → t ≡ get_or tasks n t → set tasks n (record { name = t.name; lines = t.lines ++ (line ∷ []) }) ≡ with_line tasks line
last_set [] n t line e is = absurd (omega (arith, e))
last_set (x ∷ []) zero t line e is = ap (λ (u : Task). record { name = u.name; lines = u.lines ++ (line ∷ []) } ∷ []) is
last_set (x ∷ []) (suc n) t line e is = absurd (omega (arith, e))
last_set (x ∷ (y ∷ tasks)) zero t line e is = absurd (omega (arith, e))
last_set (x ∷ (y ∷ tasks)) (suc n) t line e is = ap (λ (ts : List Task). x ∷ ts) (last_set (y ∷ tasks) n t line (omega (arith, e)) is)

-- one line more is no task more
pub line_length : (tasks : List Task) (line : Line) → length (with_line tasks line) ≡ length tasks
line_length [] line = refl
line_length (t ∷ []) line = refl
line_length (t ∷ (u ∷ us)) line = ap suc (line_length (u ∷ us) line)

-- ---- what holds of each command that lines say

abbrev pub SaysSuch : (Command → Type 0) → Option Says → Type 0
SaysSuch P None = Unit {0}
SaysSuch P (Some Nothing) = Unit {0}
SaysSuch P (Some (Worker name)) = Unit {0}
SaysSuch P (Some (Does command)) = P command

abbrev pub AreSuch : (Command → Type 0) → List Task → Type 0
AreSuch P tasks = AllByRecursion (λ task. AllByRecursion (λ line. P line.command) task.lines) tasks

such_push : (P : Command → Type 0) (lines : List Line) (line : Line) → AllByRecursion (λ l. P l.command) lines → P line.command → AllByRecursion (λ l. P l.command) (lines ++ (line ∷ []))
such_push P [] line are is = (is, tt)
such_push P (l ∷ lines) line are is = (are.0, such_push P lines line are.1 is)

such_line : (P : Command → Type 0) (tasks : List Task) (line : Line) → AreSuch P tasks → P line.command → AreSuch P (with_line tasks line)
such_line P [] line are is = tt
such_line P (task ∷ []) line are is = (such_push P task.lines line are.0 is, tt)
such_line P (task ∷ (next ∷ tasks)) line are is = (are.0, such_line P (next ∷ tasks) line are.1 is)

such_new : (P : Command → Type 0) (tasks : List Task) (name : List ℕ) → AreSuch P tasks → AreSuch P (tasks ++ (record { name = name; lines = [] } ∷ []))
such_new P [] name are = (tt, tt)
such_new P (task ∷ tasks) name are = (are.0, such_new P tasks name are.1)

such_says : (P : Command → Type 0) (tasks : List Task) (n : ℕ) (says : Option Says) → SaysSuch P says → AreSuch P tasks → AreSuch P (with_says tasks n says)
such_says P tasks n None is are = are
such_says P tasks n (Some Nothing) is are = are
such_says P tasks n (Some (Worker name)) is are = such_new P tasks name are
such_says P tasks n (Some (Does command)) is are = such_line P tasks (record { number = n; command = command }) are is

pub such_drafted : (P : Command → Type 0) → ((line : List ℕ) → SaysSuch P (meaning line)) → (tasks : List Task) (n : ℕ) (lines : List (List ℕ)) → AreSuch P tasks → AreSuch P (drafted tasks n lines)
such_drafted P each tasks n [] are = are
such_drafted P each tasks n (line ∷ lines) are = such_drafted P each (with_says tasks n (meaning line)) (n + 1) lines (such_says P tasks n (meaning line) (each line) are)
