-- Why a command is refused: the first of its refusals, behind a history.
use Rattle.std.specs.Prelude.{◌≡◌, ℕ, ◌==◌, ◌&&◌, Bool, true, List, [], ◌∷◌, length, Option, Some, None, nat_le, nat_lt, not, if◌then◌else◌}
use Rattle.std.specs.List.{list_all}
use Rattle.std.specs.Option.{option_map, option_or, unwrap_or}
use Rattle.std.specs.FinMap.{empty}
use Rattle.lsn_core.specs.Relation.{Relation}
use Rattle.lsn_core.specs.Store.{Store}
use Rattle.lsn_core.specs.Tip.{Tip}
use Rattle.wal_record.specs.Tips.{wal_limit}
use Rattle.history.specs.declared.op.Op.{Op}
use Rattle.history.specs.declared.op.Op.TheVariants as op
use Rattle.history.specs.declared.op.Item.{Item}
use Rattle.history.specs.Apply.{apply_all}
use Rattle.history.specs.Entry.{Entry}
use Rattle.history.specs.Op.{act_of_op, apply_op}
use Rattle.history.specs.Pages.{page_count}
use Rattle.history.specs.Written.{record_of, tip_of}
use Rattle.command_judging.specs.declared.fault.OpFault.{OpFault}
use Rattle.command_judging.specs.declared.fault.OpFault.TheVariants as why
use Rattle.command_judging.specs.Refusals.{judged_alone, judged_op, most_items}
use Rattle.store_faults.specs.declared.insert_fault.InsertFault.{InsertFault}
use Rattle.store_faults.specs.declared.insert_fault.InsertFault.TheVariants as fault

-- the most pages of a store (profile)
abbrev pub most_pages : ℕ
most_pages = 65536

-- a refusal of a partition's pages, at so many entries of the history
abbrev pub fault_at : ℕ → OpFault → InsertFault
fault_at n why.NoFork = fault.NoFork n
fault_at n why.ForkExists = fault.ForkExists n
fault_at n why.PastEnd = fault.PastEnd n
fault_at n why.NoBlock = fault.NoBlock n
fault_at n (why.BadPage i) = fault.BadPage i n
fault_at n (why.BadFragment i j) = fault.BadFragment i j
fault_at n why.ForkFull = fault.ForkFull n
fault_at n why.CutPastEnd = fault.CutPastEnd n
fault_at n (why.SameBlock i) = fault.SameBlock i
fault_at n why.NoMemory = fault.NoMemory

abbrev pub is_same_rel : Relation → Relation → Bool
is_same_rel a b = (a.db == b.db) && (a.rel == b.rel)

-- all items are of one relation
abbrev pub are_of_one : List Item → Bool
are_of_one [] = true
are_of_one (item ∷ items) =
    list_all (λ other. is_same_rel item.at.fork.rel other.at.fork.rel) items

-- there are 1 to 4 items, of one relation
abbrev pub judged_items_form : List Item → Option InsertFault
judged_items_form items =
    if not (nat_le 1 (length items) && nat_le (length items) most_items)
    then Some fault.BlockCount
    else (if not (are_of_one items) then Some fault.TwoRelations else None)

-- a change has such items
abbrev pub judged_form : Op → Option InsertFault
judged_form (op.Create fork) = None
judged_form (op.Truncate rel count) = None
judged_form (op.Change items) = judged_items_form items
judged_form (op.Drop rel) = None

-- the first refusal of a command that it shows by itself, whatever the store is: its number of
-- entries is told by none of these
abbrev pub judged_itself : Op → Option InsertFault
judged_itself command =
    option_or (judged_form command) (option_map (fault_at 0) (judged_alone command))

-- behind it the store has at most 65,536 pages; a truncation adds none, nor does a drop
abbrev pub judged_total : ℕ → Store → Op → Option InsertFault
judged_total n store (op.Create fork) = None
judged_total n store (op.Truncate rel count) = None
judged_total n store (op.Drop rel) = None
judged_total n store (op.Change items) =
    if nat_lt most_pages (page_count (unwrap_or (apply_op 0 store (op.Change items)) store))
    then Some (fault.StoreFull n) else None

-- its entry would end past the room of the WAL, which ends with segment 1,048,576
abbrev pub judged_room : ℕ → Store → Tip → Op → Option InsertFault
judged_room mib store tip command =
    if nat_lt (wal_limit mib) (record_of mib store tip (act_of_op command)).end.0
    then Some (fault.WalFull tip.count) else None

-- the first refusal of a command on the store that so many entries make, whose WAL ends so
abbrev pub judged_at : ℕ → Store → Tip → Op → Option InsertFault
judged_at mib store tip command =
    option_or (judged_form command)
    (option_or (option_map (fault_at tip.count) (judged_op store command))
    (option_or (judged_total tip.count store command) (judged_room mib store tip command)))

-- a refusal is the first one; an area that fails and want of memory may come at any time
abbrev pub IsRefused : ℕ → Store → Tip → Op → InsertFault → Type 0
IsRefused mib store tip command (fault.Failed area) = Unit {0}
IsRefused mib store tip command fault.NoMemory = Unit {0}
IsRefused mib store tip command fault = judged_at mib store tip command ≡ Some fault

-- a history makes a store, on which this refuses the command
pub record IsRefusedBehind
    (mib : ℕ) (history : List Entry) (command : Op) (fault : InsertFault)
    : Type 0 where
  pub store : Store
  pub state : apply_all empty history ≡ Some store
  pub why : IsRefused mib store (tip_of mib history) command fault
