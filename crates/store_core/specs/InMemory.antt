-- What is done in memory with items, blocks, records and summaries.
use Rattle.std.specs.Prelude.{◌≡◌, ℕ, ◌<◌, ◌≤◌, ◌&&◌, ◌||◌, Bool, nat_lt, if◌then◌else◌, List, [], ◌∷◌, not, Option, None, Some, nat_le}
use Rattle.std.specs.List.{filter}
use Rattle.std.specs.Option.{unwrap_or}
use Rattle.lsn_core.specs.declared.ids.ForkId.{ForkId}
use Rattle.lsn_core.specs.declared.ids.BlockId.{BlockId}
use Rattle.lsn_core.specs.Store.{Store}
use Rattle.pg_page.specs.Frags.{bad_frag}
use Rattle.history.specs.declared.op.Edit.{Edit}
use Rattle.history.specs.declared.op.Edit.TheVariants.{Put, Patch}
use Rattle.history.specs.declared.op.Item.{Item}
use Rattle.history.specs.Apply.{is_same_fork, apply_item}
use Rattle.lsn_core.specs.Tip.{Tip}
use Rattle.wal_record.specs.declared.record.Record.{Record}
use Rattle.wal_record.specs.declared.record.Kind.{Kind}
use Rattle.wal_record.specs.Tips.{wal_limit, record_at_tip, is_redo_mark}
use Rattle.history.specs.fuzzy_copies.Summary.{least, is_at_most}
use Rattle.wal_summary.specs.declared.summary.Summary.{Summary}
use Rattle.wal_summary.specs.Summary.{table_of_summary}
use Rattle.store_core.specs.State.{Published}
use Rattle.store_core.specs.Increments.{overlaps}

-- no fragment of an edit is bad
abbrev pub HasGoodFrags : Edit → Type 0
HasGoodFrags (Put page) = Unit {0}
HasGoodFrags (Patch frags) = bad_frag frags ≡ None

-- items done in turn; one that can't be done is passed over
abbrev pub done_items : ℕ → Store → List Item → Store
done_items end store [] = store
done_items end store (item ∷ items) =
    done_items end (unwrap_or (apply_item end store item) store) items

-- the blocks that aren't cut off with a fork
abbrev pub uncut : ForkId → ℕ → List BlockId → List BlockId
uncut fork count dirty =
    filter (λ at. not (is_same_fork at.fork fork && nat_le count at.block)) dirty

-- the record of a kind that comes next, where the WAL has room for it
abbrev pub IsNext : ℕ → Tip → Kind → Option Record → Type 0
IsNext mib tip kind None = wal_limit mib < (record_at_tip mib tip kind).end.0
IsNext mib tip kind (Some r) =
    (r ≡ record_at_tip mib tip kind) × (r.end.0 ≤ wal_limit mib)

-- the first redo point past a place, by the records of a WAL
abbrev pub next_redo_in : ℕ → List Record → Option ℕ
next_redo_in place [] = None
next_redo_in place (r ∷ rs) =
    if is_redo_mark r.kind && nat_lt place r.start.0 then Some r.start.0 else next_redo_in place rs

-- a summary, as the machine's definitions see it
abbrev pub published_in : Summary → Published
published_in sum =
    record { start = sum.start.0; end = sum.end.0; table = table_of_summary sum }

-- a fork's limit, and whether a block is listed, with what one more summary says, where its range
-- overlaps another
abbrev pub limit_past : Option ℕ → ℕ → ℕ → ForkId → Published → Option ℕ
limit_past limit from to fork p =
    if overlaps from to p then least limit (p.table.limit fork) else limit

abbrev pub listed_past : Bool → ℕ → ℕ → ForkId → ℕ → Published → Bool
listed_past listed from to fork block p =
    if overlaps from to p
    then (listed && not (is_at_most block (p.table.limit fork))) || p.table.listed fork block
    else listed
