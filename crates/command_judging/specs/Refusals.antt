-- Why a command can't be done on a partition's pages: the first of its refusals, as one function of
-- the pages. That it has 1 to 4 items, of one relation, is known before.
use Rattle.std.specs.Prelude.{◌≡◌, ℕ, ◌+◌, ◌||◌, List, [], ◌∷◌, ◌++◌, length, max, get_or, Option, Some, None, nat_le, nat_lt, if◌then◌else◌}
use Rattle.std.specs.Option.{is_some, option_map, option_or, unwrap_or}
use Rattle.std.specs.FinMap.{get}
use Rattle.lsn_core.specs.declared.ids.BlockId.{BlockId}
use Rattle.lsn_core.specs.Sizes.{most_blocks}
use Rattle.lsn_core.specs.Store.{Store, ForkPages}
use Rattle.pg_page.specs.Header.{zero_page}
use Rattle.pg_page.specs.Frags.{bad_frag, written_frags, is_good}
use Rattle.history.specs.declared.op.Op.{Op}
use Rattle.history.specs.declared.op.Op.TheVariants as op
use Rattle.history.specs.declared.op.Item.{Item}
use Rattle.history.specs.declared.op.Edit.{Edit}
use Rattle.history.specs.declared.op.Edit.TheVariants.{Put, Patch}
use Rattle.history.specs.Apply.{main_fork, init_fork, apply_item}
use Rattle.history.specs.Whole.{is_named}
use Rattle.command_judging.specs.declared.fault.OpFault.{OpFault}
use Rattle.command_judging.specs.declared.fault.OpFault.TheVariants.{NoFork, ForkExists, PastEnd, NoBlock, BadPage, BadFragment, ForkFull, CutPastEnd, NoMemory, SameBlock}
use Rattle.std.specs.Prelude.{◌≤◌}

-- the most items of a command (profile)
abbrev pub most_items : ℕ
most_items = 4

-- ---- what the items show by themselves, whatever the pages are

-- the first item that names a block of these or of an item before it, counted from a number
abbrev pub judged_blocks : ℕ → List BlockId → List Item → Option OpFault
judged_blocks i named [] = None
judged_blocks i named (item ∷ items) =
    if is_named item.at named then Some (SameBlock i)
    else judged_blocks (i + 1) (named ++ (item.at ∷ [])) items

-- the first bad fragment of an edit of the item of this number
abbrev pub judged_frags : ℕ → Edit → Option OpFault
judged_frags i (Put page) = None
judged_frags i (Patch frags) = option_map (λ j. BadFragment i j) (bad_frag frags)

-- the first item with a bad fragment, counted from a number
abbrev pub judged_edits : ℕ → List Item → Option OpFault
judged_edits i [] = None
judged_edits i (item ∷ items) =
    option_or (judged_frags i item.edit) (judged_edits (i + 1) items)

-- the first of these refusals of a command
abbrev pub judged_alone : Op → Option OpFault
judged_alone (op.Create fork) = None
judged_alone (op.Truncate rel count) = None
judged_alone (op.Change items) = option_or (judged_blocks 0 [] items) (judged_edits 0 items)
judged_alone (op.Drop rel) = None

-- ---- what each item finds

-- a page may be put up to the end of its fork; a patch is of a block that is there, and leaves it
-- a good header
abbrev pub judged_edit : ℕ → ForkPages → ℕ → Edit → Option OpFault
judged_edit i pages block (Put page) =
    if nat_lt (length pages) block then Some PastEnd else None
judged_edit i pages block (Patch frags) =
    if nat_le (length pages) block then Some NoBlock
    else (if is_good (written_frags frags (get_or pages block zero_page)) then None
    else Some (BadPage i))

-- the fork has at most 32,768 pages with that block
abbrev pub judged_length : ForkPages → ℕ → Option OpFault
judged_length pages block =
    if nat_lt most_blocks (max (length pages) (block + 1)) then Some ForkFull else None

abbrev pub judged_found : ℕ → Item → Option ForkPages → Option OpFault
judged_found i item None = Some NoFork
judged_found i item (Some pages) =
    option_or (judged_edit i pages item.at.block item.edit) (judged_length pages item.at.block)

-- the pages behind an item; no refusal looks at an LSN, so any end of the entry will do
abbrev pub behind_item : Store → Item → Store
behind_item store item = unwrap_or (apply_item 0 store item) store

-- items in turn, each on the pages behind those before it, counted from a number
abbrev pub judged_items : ℕ → Store → List Item → Option OpFault
judged_items i store [] = None
judged_items i store (item ∷ items) =
    option_or (judged_found i item (get store item.at.fork))
    (judged_items (i + 1) (behind_item store item) items)

-- a fork may be cut to at most its length. No fork that commands, or a WAL of the profile, make has
-- more than 32,768 pages; the test of that keeps the count within what a WAL can tell
abbrev pub judged_cut : ℕ → Option ForkPages → Option OpFault
judged_cut count None = Some NoFork
judged_cut count (Some pages) =
    if nat_lt (length pages) count || nat_lt most_blocks count then Some CutPastEnd else None

-- the first refusal of a command; None where it may be done
abbrev pub judged_op : Store → Op → Option OpFault
judged_op store (op.Create fork) = if is_some (get store fork) then Some ForkExists else None
judged_op store (op.Truncate rel count) = judged_cut count (get store (main_fork rel))
judged_op store (op.Change items) =
    option_or (judged_blocks 0 [] items)
    (option_or (judged_edits 0 items) (judged_items 0 store items))
judged_op store (op.Drop rel) =
    if is_some (get store (main_fork rel)) || is_some (get store (init_fork rel)) then None
    else Some NoFork

-- a refusal is the first one; want of memory may come at any time
abbrev pub IsRefusedOp : Store → Op → OpFault → Type 0
IsRefusedOp store command NoMemory = Unit {0}
IsRefusedOp store command fault = judged_op store command ≡ Some fault

-- a change has 1 to 4 items
abbrev pub HasItems : Op → Type 0
HasItems (op.Create fork) = Unit {0}
HasItems (op.Truncate rel count) = Unit {0}
HasItems (op.Change items) = (1 ≤ length items) × (length items ≤ most_items)
HasItems (op.Drop rel) = Unit {0}
