-- A script as far as it was read: the tasks of the lines so far, of which the last one is open.
use Rattle.std.specs.Prelude.{ℕ, ◌+◌, ◌-◌, Bool, List, [], ◌∷◌, ◌++◌, length, take, Option, Some, None, bytes_eq}
use Rattle.std.specs.List.{list_any}
use Rattle.scripts.specs.declared.script.Line.{Line}
use Rattle.scripts.specs.declared.script.Task.{Task}
use Rattle.scripts.specs.Meaning.{Says, Nothing, Worker, Does, meaning}
use Rattle.scripts.specs.Named.{is_named_by}

-- with one more line in the last task
abbrev pub with_line : List Task → Line → List Task
with_line [] line = []
with_line (task ∷ []) line =
    record { name = task.name; lines = task.lines ++ (line ∷ []) } ∷ []
with_line (task ∷ (next ∷ tasks)) line = task ∷ with_line (next ∷ tasks) line

-- with what a line of this number says: a worker's name begins a task, a command is the last one's
abbrev pub with_says : List Task → ℕ → Option Says → List Task
with_says tasks n None = tasks
with_says tasks n (Some Nothing) = tasks
with_says tasks n (Some (Worker name)) = tasks ++ (record { name = name; lines = [] } ∷ [])
with_says tasks n (Some (Does command)) =
    with_line tasks (record { number = n; command = command })

-- behind these tasks, lines of which the first has this number
abbrev pub drafted : List Task → ℕ → List (List ℕ) → List Task
drafted tasks n [] = tasks
drafted tasks n (line ∷ lines) = drafted (with_says tasks n (meaning line)) (n + 1) lines

-- the tasks of earlier workers
abbrev pub closed : List Task → List Task
closed tasks = take (length tasks - 1) tasks

-- a worker of this name is there; a backup of this name is one that an earlier worker names
abbrev pub has_worker : List Task → List ℕ → Bool
has_worker tasks name = list_any (λ task. bytes_eq name task.name) tasks

abbrev pub is_taken : List Task → List ℕ → Bool
is_taken tasks name = list_any (is_named_by name) (closed tasks)
