-- What the crate's private functions answer: no public contract cites these.
use Rattle.std.specs.Prelude.{◌≡◌, ℕ, ◌<◌, ◌≤◌, ◌⊎◌, List, map, length, Option, Some, None, Result, Ok, Err, IfSome}
use Rattle.lsn_core.specs.Causes.{Rose}
use Rattle.lsn_core.specs.declared.fault.AreaFault.TheVariants as area
use Rattle.lsn_core.specs.declared.pages.Pages.{Ghosts as PagesGhosts}
use Rattle.lsn_core.specs.Files.{Files}
use Rattle.lsn_core.specs.Segment.{StoreSettings}
use Rattle.lsn_core.specs.Store.{Store}
use Rattle.lsn_core.specs.Tip.{Tip}
use Rattle.lsn_core.specs.declared.ids.ForkId.{ForkId}
use Rattle.lsn_core.specs.declared.lsn.Lsn.{Lsn}
use Rattle.vault.specs.declared.area.Vault.{Ghosts}
use Rattle.wal_record.specs.declared.record.Record.{Record}
use Rattle.wal_record.specs.declared.record.BlockRef.{BlockRef}
use Rattle.wal_record.specs.declared.record.Kind.{Kind}
use Rattle.wal_record.specs.declared.record.Kind.TheVariants as kind
use Rattle.wal_record.specs.Spelling.{blocks_of}
use Rattle.wal_reader.specs.declared.fault.WalFault.{WalFault}
use Rattle.wal_reader.specs.Cursor.{Cursor, Steps}
use Rattle.history.specs.Apply.{main_fork}
use Rattle.history.specs.Entry.{Change}
use Rattle.history.specs.Redo.{redo, AreRising}
use Rattle.history.specs.Whole.{item_of, act_with}
use Rattle.generic_redo.specs.Redo.{block_ref}
use Rattle.recovery.specs.declared.fault.RecoveryFault.{RecoveryFault}
use Rattle.recovery.specs.declared.fault.RecoveryFault.TheVariants.{Damaged, Short, BadDelta, SettingsDamaged, Timeline, NotInit, Failed, NoMemory}
use Rattle.recovery.specs.declared.tally.Tally.{Tally}
use Rattle.recovery.specs.declared.reading.Beginning.{Beginning}
use Rattle.recovery.specs.declared.replaying.Replayed.{Replayed}
use Rattle.recovery.specs.declared.replaying.Progress.{Progress}
use Rattle.recovery.specs.declared.fault.ReplayFault.{ReplayFault}
use Rattle.recovery.specs.declared.fault.ReplayFault.TheVariants.{Wal, Out}
use Rattle.recovery.specs.declared.listener.Listener.{Ghosts as ListenerGhosts}
use Rattle.recovery.specs.Tally.{IsTallyOf}
use Rattle.recovery.specs.Onward.{begin_tip, replayed_to}
use Rattle.recovery.specs.Causes.{RecoveryCauses, CauseOf, fault_of, reading_causes}
use Rattle.recovery.specs.Replayed.{IsHeard}
use Rattle.recovery.specs.Recovered.{IsRecovered, HasBadRedo}

-- a WAL that was read up to a place was read up to its target
abbrev pub IsAtTarget : Option Lsn → ℕ → Type 0
IsAtTarget None end = ⊥
IsAtTarget (Some target) end = target.0 ≤ end

-- an entry that ends there is replayed
abbrev pub IsTaken : Option Lsn → ℕ → Type 0
IsTaken None end = Unit {0}
IsTaken (Some target) end = end ≤ target.0

-- what a cursor's answer is to a replay
abbrev pub as_step : ℕ → Result (Option Record) WalFault → Result (Option Record) RecoveryFault
as_step mib (Ok r) = Ok r
as_step mib (Err fault) = Err (fault_of mib fault)

-- a step of a cursor, unless the target was reached: then the cursor stays, and no entry follows
abbrev pub StepsTo : {V : Type 0} → Ghosts V → ℕ → Option Lsn
    → Cursor → Cursor → V → V → Result (Option Record) RecoveryFault → Type 0
StepsTo g mib upto c new old now result =
    (IsAtTarget upto c.tip.end × ((new ≡ c) × (result ≡ Ok None)))
    ⊎ ((IsAtTarget upto c.tip.end → ⊥)
    × ((r : Result (Option Record) WalFault) ×
    (Steps g c new old now r × (result ≡ as_step mib r))))

-- a WAL that was read up to a tip wasn't read up to its target where it ends before that
abbrev pub EndAnswer : Option Lsn → Tip → Result Tip RecoveryFault → Type 0
EndAnswer upto tip (Ok last) = (last ≡ tip) × (replayed_to upto tip ≤ tip.end)
EndAnswer upto tip (Err (Damaged mib damage)) = ⊥
EndAnswer upto tip (Err (Short end target)) =
    (upto ≡ Some target) × ((end.0 ≡ tip.end) × (tip.end < target.0))
EndAnswer upto tip (Err (BadDelta place)) = ⊥
EndAnswer upto tip (Err SettingsDamaged) = ⊥
EndAnswer upto tip (Err (Timeline name)) = ⊥
EndAnswer upto tip (Err NotInit) = ⊥
EndAnswer upto tip (Err Failed) = ⊥
EndAnswer upto tip (Err NoMemory) = ⊥

-- ---- one entry redone

-- a change of a store can be made, and what it leaves is shown, and counted where the store was
pub record IsRedone
    (shows : Store → Type 0) (old new : Tally) (store : Store) (changed : Option Store)
    : Type 0 where
  pub next : Store
  pub made : changed ≡ Some next
  pub shown : shows next
  pub counted : IsTallyOf old store → IsTallyOf new next

-- so it is for each store that is shown before
abbrev pub RedoesCounted : {P : Type 0} → (P → Store → Type 0) → P → P → Tally → Tally
    → (Store → Option Store) → Type 0
RedoesCounted shows before behind old new changed =
    (s : Store) → shows before s → IsRedone (shows behind) old new s (changed s)

-- for none that is shown before the change can be made
abbrev pub RedoesNone : {P : Type 0} → (P → Store → Type 0) → P → (Store → Option Store) → Type 0
RedoesNone shows before changed = (s : Store) → shows before s → changed s ≡ None

-- an entry has a block reference of this number, of this fork
pub record IsRefOf (r : Record) (i : ℕ) (fork : ForkId) : Type 0 where
  pub there : i < length (blocks_of r.kind)
  pub fork_is : IfSome (block_ref r i) (λ block. block.at.fork ≡ fork)

-- an entry changes these blocks in turn
pub record IsChange (r : Record) (blocks : List BlockRef) : Type 0 where
  pub blocks_are : blocks ≡ blocks_of r.kind
  pub act : act_with (map item_of) r.kind ≡ Change (map item_of blocks)

-- an entry creates this fork or cuts it
abbrev pub IsOfFork : Kind → ForkId → Type 0
IsOfFork (kind.Shutdown redo) fork = ⊥
IsOfFork (kind.Online redo) fork = ⊥
IsOfFork (kind.RedoMark n) fork = ⊥
IsOfFork kind.NoOp fork = ⊥
IsOfFork (kind.BackupEnd start) fork = ⊥
IsOfFork (kind.Images blocks) fork = ⊥
IsOfFork (kind.Generic blocks) fork = ⊥
IsOfFork (kind.Create made) fork = made ≡ fork
IsOfFork (kind.Truncate rel count flags) fork = main_fork rel ≡ fork
IsOfFork (kind.Commit time rels) fork = ⊥

-- ---- entries replayed

-- one more entry: it was redone, or is the first one that can't be, or stands behind that one
abbrev pub AddsTo : {P : Type 0} → (P → Store → Type 0) → Option Lsn → Record → P → P
    → Progress → Progress → Type 0
AddsTo shows (Some place) r before behind old new = new.bad ≡ Some place
AddsTo shows None r before behind old new =
    ((new.bad ≡ None) × RedoesCounted shows before behind old.tally new.tally (λ s. redo s r))
    ⊎ ((new.bad ≡ Some r.start) × RedoesNone shows before (λ s. redo s r))

abbrev pub Adds : {P : Type 0} → (P → Store → Type 0) → Record → P → P
    → Progress → Progress → Type 0
Adds shows r before behind old new =
    (new.end ≡ r.end) × AddsTo shows old.bad r before behind old new

-- one more entry was read
abbrev pub Takes : {P : Type 0} → (P → Store → Type 0) → Option Lsn → Record → P → P
    → Progress → Progress → Type 0
Takes shows upto r before behind old new =
    (IsTaken upto r.end.0 × Adds shows r before behind old new)
    ⊎ ((IsTaken upto r.end.0 → ⊥) × ((new ≡ old) × (behind ≡ before)))

-- what was replayed of a WAL that was read up to a tip
pub record IsFinished (upto : Option Lsn) (last : Tip) (progress : Progress) (replayed : Replayed)
    : Type 0 where
  pub reached : replayed_to upto last ≤ last.end
  pub good : progress.bad ≡ None
  pub end : replayed.end ≡ progress.end
  pub tip : replayed.tip ≡ last
  pub forks : replayed.forks ≡ progress.tally.forks
  pub pages : replayed.pages ≡ progress.tally.pages

abbrev pub FinishAnswer :
    Option Lsn → Tip → Progress → Result Replayed RecoveryFault → Type 0
FinishAnswer upto tip progress (Ok replayed) = IsFinished upto tip progress replayed
FinishAnswer upto tip progress (Err (Damaged mib damage)) = ⊥
FinishAnswer upto tip progress (Err (Short end target)) =
    (upto ≡ Some target) × ((end.0 ≡ tip.end) × (tip.end < target.0))
FinishAnswer upto tip progress (Err (BadDelta place)) =
    (replayed_to upto tip ≤ tip.end) × (progress.bad ≡ Some place)
FinishAnswer upto tip progress (Err SettingsDamaged) = ⊥
FinishAnswer upto tip progress (Err (Timeline name)) = ⊥
FinishAnswer upto tip progress (Err NotInit) = ⊥
FinishAnswer upto tip progress (Err Failed) = ⊥
FinishAnswer upto tip progress (Err NoMemory) = ⊥

-- ---- a replay from a beginning on

-- what it came to, with what the entries that were read are told by: they end one behind the other,
-- and a listener heard them
pub record IsRedoneFrom
    {P L : Type 0} (p : PagesGhosts P) (l : ListenerGhosts L) (s : StoreSettings)
    (files : Option Files) (begin : Beginning) (upto : Option Lsn) (counted : Tally)
    (before behind : P) (ear later : L) (replayed : Replayed)
    : Type 0 where
  pub recovered : IsRecovered p s files begin upto counted before behind replayed
  pub rising : AreRising (begin_tip s.segment begin).end recovered.entries
  pub heard : IsHeard l.heard recovered.entries ear later

-- an entry can't be redone, of entries that end one behind the other
pub record HasRisingBad
    (shows : Store → Type 0) (s : StoreSettings) (files : Files)
    (begin : Beginning) (upto : Option Lsn) (place : Lsn)
    : Type 0 where
  pub bad : HasBadRedo shows s files begin upto place
  pub rising : AreRising (begin_tip s.segment begin).end bad.entries

abbrev pub rising_causes : (Store → Type 0)
    → StoreSettings → Beginning → Option Lsn → Option Files → RecoveryCauses
rising_causes shows s begin upto files = record (reading_causes s begin upto files) {
  bad = λ place. IfSome files (λ m. HasRisingBad shows s m begin upto place);
}

abbrev pub RedoesFrom : {V P L : Type 0} → Ghosts V → PagesGhosts P → ListenerGhosts L
    → StoreSettings → Beginning → Option Lsn → Tally → V → V → P → P → L → L
    → Result Replayed ReplayFault → Type 0
RedoesFrom g p l s begin upto counted old now before behind ear later (Ok replayed) =
    IsRedoneFrom p l s (g.files old) begin upto counted before behind ear later replayed
RedoesFrom g p l s begin upto counted old now before behind ear later (Err (Wal why)) =
    CauseOf (rising_causes (p.shows before) s begin upto (g.files old)) (g.faults old)
    (g.faults now) why
RedoesFrom g p l s begin upto counted old now before behind ear later (Err (Out why)) =
    why ≡ area.Failed → Rose (p.faults before) (p.faults behind)
