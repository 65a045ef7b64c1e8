-- Replay over pages that may be newer than the entries.
use Rattle.std.specs.Prelude.{◌≡◌, ℕ, ◌<◌, ◌≤◌, ◌^◌, List, [], ◌∷◌, map, Option, Some, None, nat_lt, if◌then◌else◌}
use Rattle.lsn_core.specs.byte_words.Numbers.{◌>>=◌}
use Rattle.lsn_core.specs.declared.ids.BlockId.{BlockId}
use Rattle.lsn_core.specs.Store.{Store}
use Rattle.pg_page.specs.Header.{lsn_of}
use Rattle.wal_record.specs.declared.record.Record.{Record}
use Rattle.history.specs.declared.op.Edit.TheVariants.{Put, Patch}
use Rattle.history.specs.Apply.{Rule, edited, page_at, act_by, apply_all}
use Rattle.history.specs.Whole.{item_of, act_with, entry_of}

-- an image is restored without a look at the page's LSN; fragments are written where that is below
-- the entry's end
abbrev pub redone : Rule
redone end old (Put page) = edited end old (Put page)
redone end old (Patch frags) =
    if nat_lt (lsn_of old) end then edited end old (Patch frags) else Some old

-- all block references of a record redone in turn, and records in turn
abbrev pub redo : Store → Record → Option Store
redo store r = act_by redone r.end.0 store (act_with (map item_of) r.kind)

abbrev pub redo_all : Store → List Record → Option Store
redo_all store [] = Some store
redo_all store (r ∷ rs) = redo store r >>= λ next. redo_all next rs

-- for each store that is shown before, the change can be made, and what it leaves is shown behind
abbrev pub Redoes :
    {P : Type 0} → (P → Store → Type 0) → P → P → (Store → Option Store) → Type 0
Redoes shows before behind changed =
    (s : Store) → shows before s → (next : Store) × ((changed s ≡ Some next) × shows behind next)

-- for none that is shown before it can be made, and these are shown behind
abbrev pub Refuses :
    {P : Type 0} → (P → Store → Type 0) → P → P → (Store → Option Store) → Type 0
Refuses shows before behind changed =
    (s : Store) → shows before s → (changed s ≡ None) × shows behind s

-- no page has an LSN past a place
abbrev pub AreBelow : ℕ → Store → Type 0
AreBelow place store = (at : BlockId) → lsn_of (page_at store at) ≤ place

-- records that end one behind the other, behind a place
abbrev pub AreRising : ℕ → List Record → Type 0
AreRising place [] = Unit
AreRising place (r ∷ rs) = (place < r.end.0) × ((r.end.0 < 2 ^ 64) × AreRising r.end.0 rs)

-- over pages of no later LSN the test of LSNs changes nothing
abbrev pub TestsChangeNothing : Type 0
TestsChangeNothing =
    (place : ℕ) (store : Store) (records : List Record) → AreBelow place store
    → AreRising place records → redo_all store records ≡ apply_all store (map entry_of records)
