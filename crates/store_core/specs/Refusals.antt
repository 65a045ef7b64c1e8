-- Why a command is refused: the first of its refusals, by the pages of its partition, the number of
-- all pages, and where the WAL ends.
use Rattle.std.specs.Prelude.{ℕ, ◌+◌, ◌==◌, ◌&&◌, ◌||◌, Bool, true, List, [], ◌∷◌, ◌++◌, map, length, sum, max, not, get_or, Option, Some, None, nat_le, nat_lt, if◌then◌else◌}
use Rattle.std.specs.List.{list_all}
use Rattle.std.specs.Option.{is_some, option_map, option_or, unwrap_or}
use Rattle.std.specs.FinMap.{get}
use Rattle.lsn_core.specs.Relation.{Relation}
use Rattle.lsn_core.specs.declared.ids.BlockId.{BlockId}
use Rattle.lsn_core.specs.Sizes.{most_blocks}
use Rattle.lsn_core.specs.Store.{Store, ForkPages}
use Rattle.pg_page.specs.Header.{zero_page}
use Rattle.pg_page.specs.Frags.{bad_frag, written_frags, is_good}
use Rattle.wal_record.specs.declared.record.Record.{Record}
use Rattle.wal_record.specs.Tips.{wal_limit}
use Rattle.history.specs.declared.op.Op.{Op}
use Rattle.history.specs.declared.op.Op.TheVariants as op
use Rattle.history.specs.declared.op.Item.{Item}
use Rattle.history.specs.declared.op.Edit.{Edit}
use Rattle.history.specs.declared.op.Edit.TheVariants.{Put, Patch}
use Rattle.history.specs.Apply.{main_fork, init_fork, apply_item}
use Rattle.history.specs.Op.{act_of_op, apply_op}
use Rattle.history.specs.Pages.{page_count}
use Rattle.history.specs.Whole.{is_named}
use Rattle.history.specs.Written.{record_of}
use Rattle.history.specs.partitions.Parts.{partition_of}
use Rattle.store_core.specs.declared.reply.Refusal.{Refusal}
use Rattle.store_core.specs.declared.reply.Refusal.TheVariants.{NoFork, ForkExists, PastEnd, NoBlock, BadPage, BadFragment, BlockCount, TwoRelations, ForkFull, StoreFull, CutPastEnd, SameBlock, WalFull}
use Rattle.store_core.specs.State.{State, part_numbers, end_of_wal}

-- the most items of a command, and the most pages of a store (profile)
abbrev pub most_items : ℕ
most_items = 4

abbrev pub most_pages : ℕ
most_pages = 65536

-- ---- what the items show by themselves

abbrev pub is_same_rel : Relation → Relation → Bool
is_same_rel a b = (a.db == b.db) && (a.rel == b.rel)

-- all items are of one relation
abbrev pub are_of_one : List Item → Bool
are_of_one [] = true
are_of_one (item ∷ items) =
    list_all (λ other. is_same_rel item.at.fork.rel other.at.fork.rel) items

-- there are 1 to 4 items, of one relation
abbrev pub judged_form : List Item → Option Refusal
judged_form items =
    if not (nat_le 1 (length items) && nat_le (length items) most_items) then Some BlockCount
    else (if not (are_of_one items) then Some TwoRelations else None)

-- the first item that names a block of these or of an item before it, counted from a number
abbrev pub judged_blocks : ℕ → List BlockId → List Item → Option Refusal
judged_blocks i named [] = None
judged_blocks i named (item ∷ items) =
    if is_named item.at named then Some (SameBlock i)
    else judged_blocks (i + 1) (named ++ (item.at ∷ [])) items

-- the first item with a bad fragment, counted from a number
abbrev pub judged_frags : ℕ → Edit → Option Refusal
judged_frags i (Put page) = None
judged_frags i (Patch frags) = option_map (λ j. BadFragment i j) (bad_frag frags)

abbrev pub judged_edits : ℕ → List Item → Option Refusal
judged_edits i [] = None
judged_edits i (item ∷ items) =
    option_or (judged_frags i item.edit) (judged_edits (i + 1) items)

-- ---- what each item finds, behind n entries of the history

-- a page may be put up to the end of its fork; a patch is of a block that is there, and leaves it
-- a good header
abbrev pub judged_edit : ℕ → ℕ → ForkPages → ℕ → Edit → Option Refusal
judged_edit n i pages block (Put page) =
    if nat_lt (length pages) block then Some (PastEnd n) else None
judged_edit n i pages block (Patch frags) =
    if nat_le (length pages) block then Some (NoBlock n)
    else (if is_good (written_frags frags (get_or pages block zero_page)) then None
    else Some (BadPage i n))

-- the fork has at most 32,768 pages with that block
abbrev pub judged_length : ℕ → ForkPages → ℕ → Option Refusal
judged_length n pages block =
    if nat_lt most_blocks (max (length pages) (block + 1)) then Some (ForkFull n) else None

abbrev pub judged_found : ℕ → ℕ → Item → Option ForkPages → Option Refusal
judged_found n i item None = Some (NoFork n)
judged_found n i item (Some pages) =
    option_or (judged_edit n i pages item.at.block item.edit)
    (judged_length n pages item.at.block)

-- the pages behind an item; no refusal looks at an LSN, so any end of the entry will do
abbrev pub behind_item : Store → Item → Store
behind_item store item = unwrap_or (apply_item 0 store item) store

-- items in turn, each on the pages behind those before it, counted from a number
abbrev pub judged_items : ℕ → ℕ → Store → List Item → Option Refusal
judged_items n i store [] = None
judged_items n i store (item ∷ items) =
    option_or (judged_found n i item (get store item.at.fork))
    (judged_items n (i + 1) (behind_item store item) items)

-- a fork may be cut to at most its length, which is 32,768 at most
abbrev pub judged_cut : ℕ → ℕ → Option ForkPages → Option Refusal
judged_cut n count None = Some (NoFork n)
judged_cut n count (Some pages) =
    if nat_lt (length pages) count || nat_lt most_blocks count
    then Some (CutPastEnd n) else None

-- the first refusal by the pages of the command's partition
abbrev pub judged_op : ℕ → Store → Op → Option Refusal
judged_op n store (op.Create fork) =
    if is_some (get store fork) then Some (ForkExists n) else None
judged_op n store (op.Truncate rel count) = judged_cut n count (get store (main_fork rel))
judged_op n store (op.Change items) =
    option_or (judged_form items)
    (option_or (judged_blocks 0 [] items)
    (option_or (judged_edits 0 items) (judged_items n 0 store items)))
judged_op n store (op.Drop rel) =
    if is_some (get store (main_fork rel)) || is_some (get store (init_fork rel)) then None
    else Some (NoFork n)

-- ---- by the whole machine

-- the partition that items concern, which are of one relation
abbrev pub part_of_items : List Item → ℕ
part_of_items [] = 0
part_of_items (item ∷ items) = partition_of item.at.fork.rel

-- the partition of a command
abbrev pub part_of_op : Op → ℕ
part_of_op (op.Create fork) = partition_of fork.rel
part_of_op (op.Truncate rel count) = partition_of rel
part_of_op (op.Change items) = part_of_items items
part_of_op (op.Drop rel) = partition_of rel

-- its pages
abbrev pub frames_for : State → Op → Store
frames_for s command = (s.parts (part_of_op command)).frames

-- how many pages there are in frames, where one partition has these
abbrev pub page_total : State → ℕ → Store → ℕ
page_total s q frames =
    sum (map (λ p. page_count (if p == q then frames else (s.parts p).frames)) part_numbers)

-- what a command makes of the frames of its partition
abbrev pub frames_behind : State → Op → Store
frames_behind s command =
    unwrap_or (apply_op 0 (frames_for s command) command) (frames_for s command)

-- behind a change the store has at most 65,536 pages; other commands add none
abbrev pub judged_total : State → Op → Option Refusal
judged_total s (op.Create fork) = None
judged_total s (op.Truncate rel count) = None
judged_total s (op.Drop rel) = None
judged_total s (op.Change items) =
    if nat_lt most_pages
    (page_total s (part_of_op (op.Change items)) (frames_behind s (op.Change items)))
    then Some (StoreFull (length s.history)) else None

-- the record that the command is written as
abbrev pub command_record : State → Op → Record
command_record s command =
    record_of s.mib (frames_for s command) (end_of_wal s) (act_of_op command)

-- a record would end past the room of the WAL, which ends with segment 1,048,576
abbrev pub is_past_room : State → Record → Bool
is_past_room s r = nat_lt (wal_limit s.mib) r.end.0

abbrev pub judged_room : State → Op → Option Refusal
judged_room s command =
    if is_past_room s (command_record s command)
    then Some (WalFull (length s.history)) else None

-- the first refusal of a command; None where it may be done
abbrev pub judged : State → Op → Option Refusal
judged s command =
    option_or (judged_op (length s.history) (frames_for s command) command)
    (option_or (judged_total s command) (judged_room s command))
