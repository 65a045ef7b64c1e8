-- Why a line is refused.
use Rattle.std.specs.Prelude.{ℕ, ◌+◌, ◌-◌, List, [], ◌∷◌, length, get_or, take, min, Option, Some, None}
use Rattle.std.specs.Prelude.{codes, nat_lt, not, if◌then◌else◌}
use Rattle.std.specs.List.{list_all, list_any, sum_by}
use Rattle.scripts.specs.declared.script.Command.{Command}
use Rattle.scripts.specs.declared.script.Task.{Task}
use Rattle.scripts.specs.declared.why.Why.{Why}
use Rattle.scripts.specs.declared.why.Why.TheVariants.{Long, Bytes, Word, NoWorker, Twice, Many}
use Rattle.scripts.specs.Cuts.{lines_of, is_allowed}
use Rattle.scripts.specs.Meaning.{Says, Nothing, Worker, Does, meaning}
use Rattle.scripts.specs.Named.{backups_named}
use Rattle.scripts.specs.Draft.{drafted, has_worker, is_taken}

-- a worker behind these tasks, of at most so many, and a command behind them
abbrev pub why_worker : ℕ → List Task → List ℕ → Option Why
why_worker workers tasks name =
    if has_worker tasks name then Some Twice
    else (if nat_lt (length tasks) workers then None else Some Many)

abbrev pub why_command : List Task → Command → Option Why
why_command [] command = Some NoWorker
why_command (task ∷ tasks) command =
    if list_any (is_taken (task ∷ tasks)) (backups_named command) then Some Twice else None

abbrev pub why_says : ℕ → List Task → Option Says → Option Why
why_says workers tasks None = Some Word
why_says workers tasks (Some Nothing) = None
why_says workers tasks (Some (Worker name)) = why_worker workers tasks name
why_says workers tasks (Some (Does command)) = why_command tasks command

-- how many bytes lines take, each with its line feed
abbrev pub size_of : List (List ℕ) → ℕ
size_of lines = sum_by (λ line. length line + 1) lines

-- the most bytes of a script (profile)
abbrev pub script_limit : ℕ
script_limit = 4194304

-- why a line that ends at this byte of a script of at most so many workers is refused, behind these
-- tasks: the first of its reasons
abbrev pub why_line : ℕ → ℕ → List Task → List ℕ → Option Why
why_line workers end tasks line =
    if nat_lt script_limit end then Some Long
    else (if not (list_all is_allowed line) then Some Bytes
    else why_says workers tasks (meaning line))

-- why a line behind these is refused, in a script of so many bytes
abbrev pub why_of : ℕ → ℕ → List (List ℕ) → List ℕ → Option Why
why_of workers total before line =
    why_line workers (min (size_of before + (length line + 1)) total) (drafted [] 1 before) line

-- why a line of a script is refused, counted from 1
abbrev pub why_at : ℕ → List ℕ → ℕ → Option Why
why_at workers bytes n =
    let lines = lines_of bytes in
    why_of workers (length bytes) (take (n - 1) lines) (get_or lines (n - 1) [])

-- the word that is printed
abbrev pub why_bytes : Why → List ℕ
why_bytes Long = codes "Long"
why_bytes Bytes = codes "Bytes"
why_bytes Word = codes "Word"
why_bytes NoWorker = codes "NoWorker"
why_bytes Twice = codes "Twice"
why_bytes Many = codes "Many"
