-- The script that is drawn from a number (profile).
use Rattle.std.specs.Prelude.{ℕ, zero, suc, ◌+◌, ◌*◌, List, [], ◌∷◌, ◌++◌, map, replicate, codes}
use Rattle.lsn_core.specs.Relation.{Relation}
use Rattle.lsn_core.specs.declared.ids.ForkId.{ForkId}
use Rattle.lsn_core.specs.declared.ids.ForkKind.TheVariants.{Main}
use Rattle.lsn_core.specs.declared.ids.BlockId.{BlockId}
use Rattle.pg_page.specs.Frags.{Fragment}
use Rattle.scripts.specs.Shape.{Shape, shape_with}
use Rattle.scripts.specs.declared.order.OrderEdit.{OrderEdit}
use Rattle.scripts.specs.declared.order.OrderEdit.TheVariants as edit
use Rattle.scripts.specs.declared.order.Order.TheVariants.{Create, Truncate, Change}
use Rattle.scripts.specs.declared.script.Command.{Command}
use Rattle.scripts.specs.declared.script.Command.TheVariants.{Insert, Grow, Checkpoint, Flush, Summarise, Full, Incr}
use Rattle.scripts.specs.declared.script.Line.{Line}
use Rattle.scripts.specs.declared.script.Task.{Task}
use Rattle.drill_script.specs.declared.writer.Step.{Step}
use Rattle.drill_script.specs.declared.writer.Step.TheVariants.{Cut, Put, Patch}
use Rattle.drill_script.specs.declared.writer.Writer.{Writer}
use Rattle.drill_script.specs.Writer.{writer_at, next}

-- ---- a writer's forks and pages

-- the relation of a writer, by its number, its main fork, and a block of that
abbrev pub rel_of : ℕ → Relation
rel_of w = record { db = 5; rel = 16384 + w }

abbrev pub fork_of : ℕ → ForkId
fork_of w = record { rel = rel_of w; kind = Main }

abbrev pub block_of : ℕ → ℕ → BlockId
block_of w block = record { fork = fork_of w; block = block }

-- a page of 400 bytes of one value behind its header
abbrev pub page_of : ℕ → Shape
page_of fill = shape_with 424 8192 fill

-- ---- a writer's lines

abbrev pub line_of : ℕ → Command → Line
line_of number command = record { number = number; command = command }

-- a block is changed
abbrev pub changes : BlockId → OrderEdit → Command
changes at edit = Insert (Change (record { at = at; edit = edit } ∷ []))

-- eight bytes of a value from a place of a page on
abbrev pub frags_of : ℕ → ℕ → List Fragment
frags_of place fill = record { at = place; bytes = replicate 8 fill } ∷ []

-- the command of a writer's step
abbrev pub command_of : ℕ → Step → Command
command_of w (Cut len) = Insert (Truncate (rel_of w) len)
command_of w (Put block fill) = changes (block_of w block) (edit.Put (page_of fill))
command_of w (Patch block place fill) =
    changes (block_of w block) (edit.Patch (frags_of place fill))

-- so many lines of a writer, the first of this number
unfoldable pub lines_from : ℕ → ℕ → ℕ → Writer → List Line
lines_from w zero number writer = []
lines_from w (suc k) number writer =
    line_of number (command_of w (next writer).0) ∷ lines_from w k (number + 1) (next writer).1

-- the number of a writer's first command: each has a line with its name, and 502 behind it
abbrev pub first_line : ℕ → ℕ
first_line w = 503 * w + 2

-- a writer makes its fork with 20 blocks, and goes 500 steps
abbrev pub writer_lines : ℕ → ℕ → List Line
writer_lines n w =
    line_of (first_line w) (Insert (Create (fork_of w)))
    ∷ line_of (first_line w + 1) (Grow (block_of w 0) 20 (page_of 0))
    ∷ lines_from w 500 (first_line w + 2) (writer_at (4 * n + w) 20)

-- ---- the script

-- a worker of a name with these lines
abbrev pub task_of : List ℕ → List Line → Task
task_of name lines = record { name = name; lines = lines }

-- a writer
abbrev pub writer_task : ℕ → ℕ → Task
writer_task n w = task_of (codes "w" ++ ((48 + w) ∷ [])) (writer_lines n w)

abbrev pub flusher_task : Task
flusher_task = task_of (codes "flusher") (line_of 2014 (Flush 400) ∷ [])

-- the backups' names
abbrev pub drill_0 : List ℕ
drill_0 = codes "drill_0"

abbrev pub drill_1 : List ℕ
drill_1 = codes "drill_1"

abbrev pub drill_2 : List ℕ
drill_2 = codes "drill_2"

abbrev pub copier_lines : List Line
copier_lines =
    line_of 2016 (Full drill_0)
    ∷ line_of 2017 Summarise
    ∷ line_of 2018 (Incr drill_1 drill_0)
    ∷ line_of 2019 Checkpoint
    ∷ line_of 2020 (Incr drill_2 drill_1)
    ∷ []

abbrev pub copier_task : Task
copier_task = task_of (codes "copier") copier_lines

-- the writers by their numbers
abbrev pub writers : List ℕ
writers = 0 ∷ 1 ∷ 2 ∷ 3 ∷ []

-- the script that is drawn from a number
unfoldable pub drilled : ℕ → List Task
drilled n = map (writer_task n) writers ++ (flusher_task ∷ copier_task ∷ [])
