-- Published summaries, what an incremental backup sends by them, and the store that it makes over
-- an earlier copy.
use Rattle.std.specs.Prelude.{ℕ, ◌+◌, ◌-◌, ◌*◌, ◌/◌, ◌==◌, ◌&&◌, ◌||◌, Bool, true, false, List, [], ◌∷◌, ◌++◌, map, length, replicate, Option, Some, None, nat_lt, if◌then◌else◌}
use Rattle.std.specs.List.{filter, range_with_len}
use Rattle.std.specs.FinMap.{empty, insert, keys}
use Rattle.lsn_core.specs.declared.ids.ForkId.{ForkId}
use Rattle.lsn_core.specs.declared.ids.BlockId.{BlockId}
use Rattle.lsn_core.specs.Store.{Store, ForkPages}
use Rattle.lsn_core.specs.Blocks.{block_count, pages_of}
use Rattle.pg_page.specs.Header.{zero_page}
use Rattle.history.specs.Entry.{Entry}
use Rattle.history.specs.Apply.{page_at}
use Rattle.history.specs.Whole.{is_named}
use Rattle.history.specs.Written.{is_redo}
use Rattle.history.specs.fuzzy_copies.Summary.{BlockRefTable, summed}
use Rattle.incr_file.specs.declared.plan.FilePlan.{FilePlan}
use Rattle.incr_file.specs.declared.plan.FilePlan.TheVariants.{Whole, Incr}
use Rattle.incr_file.specs.Plan.{planned, has_block, plan_of}
use Rattle.store_core.specs.State.{Published, Increment, Finished}

-- ---- summaries

-- where published summaries end, of which the first one starts at a place
abbrev pub published_to : ℕ → List Published → ℕ
published_to from [] = from
published_to from (p ∷ ps) = published_to p.end ps

-- the first redo point past a place
abbrev pub next_redo : ℕ → List Entry → Option ℕ
next_redo place [] = None
next_redo place (e ∷ es) =
    if is_redo e.act && nat_lt place e.start then Some e.start else next_redo place es

-- a summary's range has a place of another range
abbrev pub overlaps : ℕ → ℕ → Published → Bool
overlaps from to p = nat_lt from p.end && nat_lt p.start to

-- what those published summaries say together whose ranges have a place of this one
abbrev pub table_between : List Published → ℕ → ℕ → BlockRefTable
table_between published from to =
    summed (map (λ p. p.table) (filter (overlaps from to) published))

-- ---- plans

-- the blocks of a fork of so many that a table lists
abbrev pub listed_blocks : BlockRefTable → ForkId → ℕ → List ℕ
listed_blocks table fork size = filter (table.listed fork) (range_with_len 0 size)

-- a fork of so many blocks has a segment file of this number; one that isn't there has none
abbrev pub has_file : ℕ → ℕ → Option ℕ → Bool
has_file relseg seg None = false
has_file relseg seg (Some size) = (seg == 0) || nat_lt (seg * relseg) size

-- the plan of a segment file of a listed fork, by a table and an earlier copy
abbrev pub file_plan : ℕ → BlockRefTable → Store → Store → ForkId → ℕ → FilePlan
file_plan relseg table prior copy fork seg =
    plan_of relseg seg (length (pages_of copy fork)) (table.limit fork)
    (listed_blocks table fork (length (pages_of copy fork)))
    (has_file relseg seg (block_count prior fork))

-- a plan sends a block of its file
abbrev pub plan_sends : FilePlan → ℕ → Bool
plan_sends Whole block = true
plan_sends (Incr head) block = has_block head.blocks block

-- how many blocks a file has when it is rebuilt, of which so many are planned: the blocks that it
-- lists are below its truncation length
abbrev pub rebuilt_count : ℕ → FilePlan → ℕ
rebuilt_count count Whole = count
rebuilt_count count (Incr head) = head.truncation

-- the segment of a fork's last block
abbrev pub last_segment : ℕ → ℕ → ℕ
last_segment relseg size = (size - 1) / relseg

-- how long a fork of so many blocks is when its files are rebuilt, by the plan of its last segment
abbrev pub length_by : ℕ → ℕ → ℕ → FilePlan → ℕ
length_by relseg size seg plan =
    seg * relseg + rebuilt_count (planned relseg size (seg * relseg)) plan

abbrev pub raised_length : ℕ → BlockRefTable → Store → Store → ForkId → ℕ
raised_length relseg table prior copy fork =
    length_by relseg (length (pages_of copy fork))
    (last_segment relseg (length (pages_of copy fork)))
    (file_plan relseg table prior copy fork
    (last_segment relseg (length (pages_of copy fork))))

-- the pages of a listed fork, with zeros behind them up to that length
abbrev pub raised_pages : ℕ → BlockRefTable → Store → Store → ForkId → ForkPages
raised_pages relseg table prior copy fork =
    pages_of copy fork
    ++ replicate (raised_length relseg table prior copy fork - length (pages_of copy fork))
    zero_page

-- a store with forks that have these pages
abbrev pub with_pages : (ForkId → ForkPages) → Store → List ForkId → Store
with_pages pages store [] = store
with_pages pages store (fork ∷ forks) = with_pages pages (insert store fork (pages fork)) forks

-- a copy with each fork as long as its files are rebuilt
abbrev pub raised : ℕ → BlockRefTable → Store → Store → Store
raised relseg table prior copy =
    with_pages (raised_pages relseg table prior copy) empty (keys copy)

-- ---- over an earlier copy

-- a page of an incremental backup over an earlier copy: one that was sent is the backup's, another
-- the earlier copy's, or zeros where that has none
abbrev pub page_over : List BlockId → Store → Store → BlockId → List ℕ
page_over sent copy prior at = if is_named at sent then page_at copy at else page_at prior at

abbrev pub pages_over : List BlockId → Store → Store → ForkId → ForkPages
pages_over sent copy prior fork =
    map (λ block. page_over sent copy prior (record { fork = fork; block = block }))
    (range_with_len 0 (length (pages_of copy fork)))

abbrev pub copy_over : List BlockId → Store → Store → Store
copy_over sent copy prior = with_pages (pages_over sent copy prior) empty (keys copy)

-- the store that a finished backup makes over an earlier one; a full one is its own copy
abbrev pub made_over : Finished → Option Increment → Store → Store
made_over b None prior = b.copy
made_over b (Some i) prior = copy_over i.sent b.copy prior

-- the store of a chain of finished backups, the newest first
abbrev pub chain_store : List Finished → Store
chain_store [] = empty
chain_store (b ∷ older) = made_over b b.increment (chain_store older)
