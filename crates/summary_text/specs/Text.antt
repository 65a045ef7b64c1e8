-- What is printed of a summary, as pg_walsummary prints it.
use Rattle.std.specs.Prelude.{ℕ, ◌==◌, List, [], ◌∷◌, ◌++◌, Option, Some, None, codes, if◌then◌else◌}
use Rattle.std.specs.Fmt.{decimal}
use Rattle.lsn_core.specs.declared.ids.ForkId.{ForkId}
use Rattle.lsn_core.specs.declared.ids.ForkKind.{ForkKind}
use Rattle.lsn_core.specs.declared.ids.ForkKind.TheVariants.{Main, Init}
use Rattle.wal_summary.specs.declared.summary.ForkSummary.{ForkSummary}
use Rattle.summary_text.specs.declared.runs.BlockRun.{BlockRun}
use Rattle.summary_text.specs.Runs.{runs_of}

-- the name of a kind of fork
abbrev pub kind_name : ForkKind → List ℕ
kind_name Main = codes "main"
kind_name Init = codes "init"

-- what each line of a fork begins with: the tablespace, the database, the relation and the kind
unfoldable pub fork_front : ForkId → List ℕ
fork_front fork =
    codes "TS 1663, DB " ++ (decimal fork.rel.db
    ++ (codes ", REL " ++ (decimal fork.rel.rel
    ++ (codes ", FORK " ++ (kind_name fork.kind ++ codes ": ")))))

-- the line of a limit, with what it begins with
unfoldable pub limit_line : List ℕ → ℕ → List ℕ
limit_line front limit = front ++ (codes "limit " ++ (decimal limit ++ codes "\n"))

abbrev pub limit_lines : List ℕ → Option ℕ → List ℕ
limit_lines front None = []
limit_lines front (Some limit) = limit_line front limit

-- the line of a run of blocks
unfoldable pub run_line : List ℕ → BlockRun → List ℕ
run_line front run =
    if run.first == run.last then front ++ (codes "block " ++ (decimal run.first ++ codes "\n"))
    else front ++ (codes "blocks " ++ (decimal run.first
    ++ (codes ".." ++ (decimal run.last ++ codes "\n"))))

abbrev pub run_lines : List ℕ → List BlockRun → List ℕ
run_lines front [] = []
run_lines front (run ∷ runs) = run_line front run ++ run_lines front runs

-- the lines of a fork
abbrev pub fork_lines : ForkSummary → List ℕ
fork_lines s =
    limit_lines (fork_front s.fork) s.limit ++ run_lines (fork_front s.fork) (runs_of s.blocks)

-- the lines of the forks of a summary
abbrev pub summary_text : List ForkSummary → List ℕ
summary_text [] = []
summary_text (s ∷ ss) = fork_lines s ++ summary_text ss
