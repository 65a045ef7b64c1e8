-- Laws of copies that are taken while pages change, and of the blocks that entries leave alone.
use Rattle.std.specs.Prelude.{◌≡◌, ◌≤◌, ◌^◌, ◌-◌, ℕ, false, List, ◌++◌, map, Some}
use Rattle.std.specs.List.{list_any}
use Rattle.std.specs.FinMap.{contains_key, empty}
use Rattle.lsn_core.specs.declared.ids.ForkId.{ForkId}
use Rattle.lsn_core.specs.Store.{Store}
use Rattle.lsn_core.specs.Blocks.{block_of}
use Rattle.wal_record.specs.declared.record.Record.{Record}
use Rattle.history.specs.Entry.{Entry}
use Rattle.history.specs.Apply.{edited, apply_all}
use Rattle.history.specs.Whole.{entry_of, whole}
use Rattle.history.specs.Laws.{applied_up_to}
use Rattle.history.specs.fuzzy_copies.Touches.{resets}
use Rattle.history.specs.fuzzy_copies.Effects.{after_all, effects_on, fork_after_all, reaches}
use Rattle.history.specs.fuzzy_copies.Orderly.{IsOrderly, AreRead, AllEndBy, RecordsRise}
use Rattle.history.specs.fuzzy_copies.Sound.{IsSoundCopy}
use Rattle.history.specs.fuzzy_copies.Recovered.{recovered, recovered_records}
use Rattle.history.specs.fuzzy_copies.Logged.{history_of, log_of, AreLogged}
use Rattle.history.specs.fuzzy_copies.Taken.{IsTaken, IsRunning}

-- replay from a sound copy gives what replay of the whole WAL from nothing gives, for each place
-- from the copy's end on; where the one can't be done, nor can the other
abbrev pub ReplayCompletesCopies : Type 0
ReplayCompletesCopies =
    (copy : Store) (history : List Entry) (from to place : ℕ)
    → IsOrderly 0 history → AreRead history → IsSoundCopy copy history from to → to ≤ place
    → recovered copy history from place ≡ applied_up_to empty history place

-- the same of records as they were read, which is what a restore does: replay of those that start
-- at the copy's start or past it gives what all records make
abbrev pub RecordsCompleteCopies : Type 0
RecordsCompleteCopies =
    (copy : Store) (records : List Record) (from to place : ℕ)
    → RecordsRise 0 records → IsSoundCopy copy (map entry_of records) from to → to ≤ place
    → recovered_records copy records from place ≡ whole records place

-- the law of full copies: a copy that was taken while entries were written, from the start of a
-- checkpoint on, is sound
abbrev pub TakenCopiesAreSound : Type 0
TakenCopiesAreSound =
    (copy : Store) (history : List Entry) (from to : ℕ)
    → IsRunning history from → IsTaken copy history from to
    → IsSoundCopy copy history from to

-- the log of a history makes, up to each place, what the history makes
abbrev pub LogsAreWhole : Type 0
LogsAreWhole =
    (mib : ℕ) (found : List Record) (own : List Entry) (store : Store) (place : ℕ)
    → IsOrderly 0 (history_of found own) → AreLogged mib found own
    → apply_all empty (history_of found own) ≡ Some store
    → whole (log_of mib found own) place ≡ applied_up_to empty (history_of found own) place

-- a copy that is sound for a history is sound for the history that its log is read back as
abbrev pub LoggedCopiesAreSound : Type 0
LoggedCopiesAreSound =
    (mib : ℕ) (found : List Record) (own : List Entry) (store copy : Store) (from to : ℕ)
    → IsOrderly 0 (history_of found own) → AreLogged mib found own
    → apply_all empty (history_of found own) ≡ Some store
    → IsSoundCopy copy (history_of found own) from to
    → IsSoundCopy copy (map entry_of (log_of mib found own)) from to

-- a copy that is sound for a history, and replay of the log from the copy's start on, give what the
-- history made, for each place from the copy's end on
abbrev pub SoundCopiesAreRestored : Type 0
SoundCopiesAreRestored =
    (mib : ℕ) (found : List Record) (own : List Entry) (store copy : Store) (from to place : ℕ)
    → IsOrderly 0 (history_of found own) → AreLogged mib found own
    → apply_all empty (history_of found own) ≡ Some store
    → AllEndBy (2 ^ 64 - 1) (history_of found own)
    → IsSoundCopy copy (history_of found own) from to → to ≤ place
    → recovered_records copy (log_of mib found own) from place
    ≡ applied_up_to empty (history_of found own) place

-- and so do a copy that was taken while entries were written, and the log
abbrev pub TakenCopiesAreRestored : Type 0
TakenCopiesAreRestored =
    (mib : ℕ) (found : List Record) (own : List Entry) (copy : Store) (from to place : ℕ)
    → IsRunning (history_of found own) from → AreLogged mib found own
    → AllEndBy (2 ^ 64 - 1) (history_of found own)
    → IsTaken copy (history_of found own) from to → to ≤ place
    → recovered_records copy (log_of mib found own) from place
    ≡ applied_up_to empty (history_of found own) place

-- a sound copy stays sound when entries are added
abbrev pub SoundCopiesStaySound : Type 0
SoundCopiesStaySound =
    (copy : Store) (history more : List Entry) (from to : ℕ)
    → IsOrderly 0 (history ++ more) → IsSoundCopy copy history from to
    → IsSoundCopy copy (history ++ more) from to

-- entries that neither touch nor cut a block, nor touch a later block of its fork, leave it
abbrev pub UntouchedBlocksStay : Type 0
UntouchedBlocksStay =
    (fork : ForkId) (block : ℕ) (entries : List Entry) (store next : Store)
    → apply_all store entries ≡ Some next
    → list_any (resets fork block) entries ≡ false
    → list_any (reaches fork block) entries ≡ false
    → block_of next fork block ≡ block_of store fork block

-- entries that neither touch nor cut a block that is there leave it
abbrev pub UntouchedPagesStay : Type 0
UntouchedPagesStay =
    (fork : ForkId) (block : ℕ) (entries : List Entry) (store next : Store) (page : List ℕ)
    → apply_all store entries ≡ Some next
    → list_any (resets fork block) entries ≡ false
    → block_of store fork block ≡ Some page → block_of next fork block ≡ Some page

-- a block after entries is what their effects on it leave
abbrev pub EffectsTellBlocks : Type 0
EffectsTellBlocks =
    (fork : ForkId) (block : ℕ) (entries : List Entry) (store next : Store)
    → apply_all store entries ≡ Some next
    → after_all edited (effects_on fork block entries) (block_of store fork block)
    ≡ Some (block_of next fork block)

-- a fork is there after entries where it was or one of them makes it
abbrev pub EffectsTellForks : Type 0
EffectsTellForks =
    (fork : ForkId) (entries : List Entry) (store next : Store)
    → apply_all store entries ≡ Some next
    → contains_key next fork ≡ fork_after_all fork (contains_key store fork) entries
