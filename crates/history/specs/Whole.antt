-- What the entries of a WAL mean: the store that they make from nothing.
use Rattle.std.specs.Prelude.{ℕ, ◌/◌, ◌%◌, ◌==◌, ◌&&◌, Bool, true, false, ℤ, List, [], ◌∷◌, ◌++◌, map, take, Option, None, nat_le, if◌then◌else◌}
use Rattle.std.specs.List.{filter, list_any}
use Rattle.std.specs.FinMap.{empty}
use Rattle.lsn_core.specs.declared.ids.BlockId.{BlockId}
use Rattle.lsn_core.specs.Relation.{Relation}
use Rattle.lsn_core.specs.Store.{Store}
use Rattle.wal_record.specs.declared.record.Record.{Record}
use Rattle.wal_record.specs.declared.record.Kind.{Kind}
use Rattle.wal_record.specs.declared.record.Kind.TheVariants as kind
use Rattle.wal_record.specs.declared.record.BlockRef.{BlockRef}
use Rattle.wal_record.specs.declared.record.Body.{Body}
use Rattle.wal_record.specs.declared.record.Body.TheVariants.{Image, Delta}
use Rattle.history.specs.declared.op.Edit.{Edit}
use Rattle.history.specs.declared.op.Edit.TheVariants.{Put, Patch}
use Rattle.history.specs.declared.op.Item.{Item}
use Rattle.history.specs.Entry.{Shutdown, Online, RedoMark, NoOp, BackupEnd, IdleCut, IdleCommit, Act, Create, Truncate, Change, Drop, Mark, Entry}
use Rattle.history.specs.Apply.{is_same_block, apply_all}

abbrev pub edit_of : Body → Edit
edit_of (Image page) = Put page
edit_of (Delta frags) = Patch frags

abbrev pub item_of : BlockRef → Item
item_of block = record { at = block.at; edit = edit_of block.body }

-- a block is among others
abbrev pub is_named : BlockId → List BlockId → Bool
is_named at named = list_any (is_same_block at) named

abbrev pub is_patch : Edit → Bool
is_patch (Put page) = false
is_patch (Patch frags) = true

-- a patch of a block that was named before
abbrev pub is_repeat : List BlockId → Item → Bool
is_repeat named item = is_patch item.edit && is_named item.at named

-- what block references say behind those of these blocks: a delta of a block that was named before
-- says nothing
abbrev pub said_behind : List BlockId → List BlockRef → List Item
said_behind named [] = []
said_behind named (block ∷ blocks) =
    if is_repeat named (item_of block)
    then said_behind (named ++ (block.at ∷ [])) blocks
    else item_of block ∷ said_behind (named ++ (block.at ∷ [])) blocks

abbrev pub said : List BlockRef → List Item
said blocks = said_behind [] blocks

-- a truncation's flags name the main fork
abbrev pub cuts_main : ℕ → Bool
cuts_main flags = flags % 2 == 1

-- a commit drops the relations that it names
abbrev pub commit_act : ℤ → List Relation → Act
commit_act time [] = Mark (IdleCommit time)
commit_act time (rel ∷ rels) = Drop (rel ∷ rels)

-- the act that a kind of entry is, by what its block references say
abbrev pub act_with : (List BlockRef → List Item) → Kind → Act
act_with told (kind.Shutdown redo) = Mark (Shutdown redo.0)
act_with told (kind.Online redo) = Mark (Online redo.0)
act_with told (kind.RedoMark n) = Mark (RedoMark n)
act_with told kind.NoOp = Mark NoOp
act_with told (kind.BackupEnd start) = Mark (BackupEnd start.0)
act_with told (kind.Images blocks) = Change (told blocks)
act_with told (kind.Generic blocks) = Change (told blocks)
act_with told (kind.Create fork) = Create fork
act_with told (kind.Truncate rel count flags) =
    if cuts_main flags then Truncate rel count else Mark (IdleCut rel count (flags / 2))
act_with told (kind.Commit time rels) = commit_act time rels

abbrev pub act_of : Kind → Act
act_of = act_with said

-- what a record says
abbrev pub says : Record → Act
says r = act_of r.kind

-- the entry that a record of an earlier WAL is: no worker is known
abbrev pub entry_of : Record → Entry
entry_of r = record { act = says r; start = r.start.0; end = r.end.0; worker = None; seq = None }

-- the store after the first entries of a history, so many
abbrev pub state : List Entry → ℕ → Option Store
state history count = apply_all empty (take count history)

-- the store that the records with an end up to a place make from nothing
abbrev pub whole : List Record → ℕ → Option Store
whole records place = apply_all empty (map entry_of (filter (λ r. nat_le r.end.0 place) records))
