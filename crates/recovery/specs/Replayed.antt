-- What a replay leaves of pages, and why it comes to no end.
use Rattle.std.specs.Prelude.{◌≡◌, ℕ, List, ◌++◌, map, Option, Some, Result, Ok, Err, IfSome}
use Rattle.std.specs.FinMap.{empty, len}
use Rattle.std.specs.Option.{option_map}
use Rattle.lsn_core.specs.Causes.{Rose}
use Rattle.lsn_core.specs.Files.{Files}
use Rattle.lsn_core.specs.declared.fault.AreaFault.TheVariants.{Failed}
use Rattle.lsn_core.specs.declared.lsn.Lsn.{Lsn}
use Rattle.lsn_core.specs.declared.pages.Pages.{Ghosts as PagesGhosts}
use Rattle.lsn_core.specs.Segment.{StoreSettings}
use Rattle.lsn_core.specs.Store.{Store}
use Rattle.vault.specs.declared.area.Vault.{Ghosts}
use Rattle.wal_record.specs.declared.record.Record.{Record}
use Rattle.history.specs.Entry.{Entry}
use Rattle.history.specs.Pages.{page_count}
use Rattle.history.specs.Redo.{Redoes, redo_all}
use Rattle.history.specs.Whole.{entry_of, whole}
use Rattle.recovery.specs.declared.fault.ReplayFault.{ReplayFault}
use Rattle.recovery.specs.declared.fault.ReplayFault.TheVariants.{Wal, Out}
use Rattle.recovery.specs.declared.listener.Listener.{Ghosts as ListenerGhosts}
use Rattle.recovery.specs.declared.replaying.Replayed.{Replayed}
use Rattle.recovery.specs.Onward.{replayed_to, ending_by}
use Rattle.recovery.specs.Replay.{last_end, HasBadDelta}
use Rattle.recovery.specs.Reading.{IsReadTo}
use Rattle.recovery.specs.Causes.{RecoveryCauses, CauseOf, replay_causes}

-- pages show a store that some entries make from nothing, those that end at a place or before it,
-- and it has so many forks and pages
pub record ShowsWhole
    (shows : Store → Type 0) (entries : List Record) (place forks pages : ℕ) : Type 0 where
  pub last : Store
  pub whole : whole entries place ≡ Some last
  pub shown : shows last
  pub forks_are : forks ≡ len last
  pub pages_are : pages ≡ page_count last

-- a WAL was read up to a target, or to its end, and those of its entries that end at the target or
-- before it were redone over pages, over each store that these showed; where that is the empty one,
-- the pages show what the WAL makes from nothing
pub record IsReplayed
    {P : Type 0} (g : PagesGhosts P) (s : StoreSettings) (files : Option Files)
    (upto : Option Lsn) (old new : P) (replayed : Replayed)
    : Type 0 where
  pub entries : List Record
  pub read : IsReadTo s files upto entries replayed.tip
  pub end :
      replayed.end.0 ≡ last_end s.segment (ending_by (replayed_to upto replayed.tip) entries)
  pub redone : Redoes g.shows old new
      (λ store. redo_all store (ending_by (replayed_to upto replayed.tip) entries))
  pub fresh : g.shows old empty → ShowsWhole (g.shows new) entries
      (replayed_to upto replayed.tip) replayed.forks replayed.pages

-- what the WAL is refused for; over pages that show the empty store an entry that can't be redone
-- is the first one that can't be applied
abbrev pub into_causes : StoreSettings → Option Lsn → Option Files → Type 0 → RecoveryCauses
into_causes s upto files fresh = record (replay_causes s upto files) {
  bad = λ place. IfSome files (λ m. fresh → HasBadDelta s m upto place);
}

abbrev pub ReplaysInto : {V P : Type 0} → Ghosts V → PagesGhosts P
    → StoreSettings → Option Lsn → V → V → P → P → Result Replayed ReplayFault → Type 0
ReplaysInto g p s upto old now before behind (Ok replayed) =
    IsReplayed p s (g.files old) upto before behind replayed
ReplaysInto g p s upto old now before behind (Err (Wal why)) =
    CauseOf (into_causes s upto (g.files old) (p.shows before empty)) (g.faults old) (g.faults now)
    why
ReplaysInto g p s upto old now before behind (Err (Out why)) =
    why ≡ Failed → Rose (p.faults before) (p.faults behind)

-- a listener heard these entries in turn, behind what it heard before, where it tells
abbrev pub IsHeard : {L : Type 0} → (L → Option (List Entry)) → List Record → L → L → Type 0
IsHeard heard entries old new =
    heard new ≡ option_map (λ es. es ++ map entry_of entries) (heard old)

-- a replay that comes to an end, of which a listener heard each entry that was read, those past the
-- target too
abbrev pub HearsReplay : {V P L : Type 0} → Ghosts V → PagesGhosts P → ListenerGhosts L
    → StoreSettings → Option Lsn → V → V → P → P → L → L → Result Replayed ReplayFault → Type 0
HearsReplay g p l s upto old now before behind ear later (Ok replayed) =
    (done : IsReplayed p s (g.files old) upto before behind replayed)
    × IsHeard l.heard done.entries ear later
HearsReplay g p l s upto old now before behind ear later (Err fault) =
    ReplaysInto g p s upto old now before behind (Err fault)
