-- Laws of histories and of the records that they are written as.
use Rattle.std.specs.Prelude.{◌≡◌, ℕ, ◌<◌, true, false, List, [], ◌∷◌, ◌++◌, map, nat_le, Option, Some}
use Rattle.std.specs.List.{filter}
use Rattle.lsn_core.specs.declared.ids.BlockId.{BlockId}
use Rattle.lsn_core.specs.Store.{Store}
use Rattle.pg_page.specs.Header.{IsGood}
use Rattle.wal_record.specs.declared.record.Record.{Record}
use Rattle.wal_record.specs.declared.record.Kind.{Kind}
use Rattle.wal_record.specs.Spelling.{IsWritable}
use Rattle.wal_record.specs.Sound.{IsSound}
use Rattle.history.specs.declared.op.Edit.{Edit}
use Rattle.history.specs.declared.op.Edit.TheVariants.{Put, Patch}
use Rattle.history.specs.declared.op.Item.{Item}
use Rattle.history.specs.declared.op.Op.{Op}
use Rattle.history.specs.Entry.{Act, Create, Truncate, Change, Drop, Mark, Entry, is_of_run}
use Rattle.history.specs.Apply.{apply_act, apply_all}
use Rattle.history.specs.Whole.{is_repeat, act_of, entry_of}
use Rattle.history.specs.Written.{Before, behind, behind_all, kind_of, next_record, written}
use Rattle.history.specs.Op.{act_of_op, apply_op, IsFit}
use Rattle.history.specs.Applied.{IsApplicable}

-- a history that goes on is written on
abbrev pub HistoriesAreWrittenOn : Type 0
HistoriesAreWrittenOn =
    (mib : ℕ) (before : Before) (first more : List Entry)
    → written mib before (first ++ more)
    ≡ written mib before first ++ written mib (behind_all before first) more

-- items of which no patch names the block of an earlier one, behind items of these blocks
abbrev pub AreFresh : List BlockId → List Item → Type 0
AreFresh named [] = Unit
AreFresh named (item ∷ items) =
    (is_repeat named item ≡ false) × AreFresh (named ++ (item.at ∷ [])) items

-- the pages that are put have good headers
abbrev pub HasGoodPage : Edit → Type 0
HasGoodPage (Put page) = IsGood page
HasGoodPage (Patch frags) = Unit

abbrev pub HaveGoodPages : List Item → Type 0
HaveGoodPages [] = Unit
HaveGoodPages (item ∷ items) = HasGoodPage item.edit × HaveGoodPages items

abbrev pub IsFresh : Act → Type 0
IsFresh (Create fork) = Unit
IsFresh (Truncate rel count) = Unit
IsFresh (Change items) = AreFresh [] items
IsFresh (Drop rels) = Unit
IsFresh (Mark marking) = Unit

abbrev pub HasGoodPages : Act → Type 0
HasGoodPages (Create fork) = Unit
HasGoodPages (Truncate rel count) = Unit
HasGoodPages (Change items) = HaveGoodPages items
HasGoodPages (Drop rels) = Unit
HasGoodPages (Mark marking) = Unit

-- entries of a run, each of which ends where it is written to, behind the one before
abbrev pub AreWrittenInPlace : ℕ → Before → List Entry → Type 0
AreWrittenInPlace mib before [] = Unit
AreWrittenInPlace mib before (entry ∷ entries) =
    (is_of_run entry ≡ true) × ((entry.end ≡ (next_record mib before entry.act).end.0)
    × ((before.tip.end < entry.end) × ((IsFresh entry.act × HasGoodPages entry.act)
    × AreWrittenInPlace mib (behind before entry) entries)))

-- the entries with an end up to a place, applied to a store
abbrev pub applied_up_to : Store → List Entry → ℕ → Option Store
applied_up_to store entries place = apply_all store (filter (λ e. nat_le e.end place) entries)

-- the same of what records say
abbrev pub replayed_up_to : Store → List Record → ℕ → Option Store
replayed_up_to store records place =
    apply_all store (map entry_of (filter (λ r. nat_le r.end.0 place) records))

-- replay of what entries of a run are written as, up to any place, is the fold of the entries that
-- end there
abbrev pub WrittenIsApplied : Type 0
WrittenIsApplied =
    (mib : ℕ) (before : Before) (entries : List Entry) (last : Store)
    → apply_all before.store entries ≡ Some last → AreWrittenInPlace mib before entries
    → (place : ℕ) → replayed_up_to before.store (written mib before entries) place
    ≡ applied_up_to before.store entries place

-- each entry that was read may be applied, and so may each that can be written
abbrev pub SoundMayBeApplied : Type 0
SoundMayBeApplied = (kind : Kind) → IsSound kind → IsApplicable kind

abbrev pub WritableMayBeApplied : Type 0
WritableMayBeApplied = (kind : Kind) → IsWritable kind → IsApplicable kind

-- a command that can be written can be done
abbrev pub FitCommandsAreDone : Type 0
FitCommandsAreDone =
    (end : ℕ) (store : Store) (command : Op) → IsFit store command → IsFresh (act_of_op command)
    → (last : Store) × (apply_op end store command ≡ Some last)

-- what it is written as does what it does
abbrev pub CommandsAreSaid : Type 0
CommandsAreSaid =
    (redo end : ℕ) (store last : Store) (command : Op)
    → IsWritable (kind_of store redo (act_of_op command)) → IsFresh (act_of_op command)
    → apply_op end store command ≡ Some last
    → apply_act end store (act_of (kind_of store redo (act_of_op command))) ≡ Some last
