-- Entries of the WAL, from a beginning on, redone over pages that show a store.
use Rattle.std.specs.Prelude.{◌≡◌, ◌≤◌, List, [], ◌∷◌, Option, Some, None, Result, Ok, Err, IfSome, ℕ}
use Rattle.std.specs.FinMap.{len}
use Rattle.lsn_core.specs.Causes.{Rose}
use Rattle.lsn_core.specs.Files.{Files}
use Rattle.lsn_core.specs.declared.fault.AreaFault.TheVariants.{Failed}
use Rattle.lsn_core.specs.declared.lsn.Lsn.{Lsn}
use Rattle.lsn_core.specs.declared.pages.Pages.{Ghosts as PagesGhosts}
use Rattle.lsn_core.specs.Segment.{StoreSettings}
use Rattle.lsn_core.specs.Store.{Store}
use Rattle.lsn_core.specs.Tip.{Tip}
use Rattle.vault.specs.declared.area.Vault.{Ghosts}
use Rattle.wal_record.specs.declared.record.Record.{Record}
use Rattle.wal_archive.specs.Rules.{End}
use Rattle.history.specs.Pages.{page_count}
use Rattle.history.specs.Redo.{redo, redo_all}
use Rattle.recovery.specs.declared.fault.ReplayFault.{ReplayFault}
use Rattle.recovery.specs.declared.fault.ReplayFault.TheVariants.{Wal, Out}
use Rattle.recovery.specs.declared.reading.Beginning.{Beginning}
use Rattle.recovery.specs.declared.replaying.Replayed.{Replayed}
use Rattle.recovery.specs.declared.tally.Tally.{Tally}
use Rattle.recovery.specs.Tally.{IsTallyOf}
use Rattle.recovery.specs.Onward.{IsReadFrom, IsReadFromTo, replayed_to, ending_by, end_from}
use Rattle.recovery.specs.Replay.{bad_behind}
use Rattle.recovery.specs.Causes.{RecoveryCauses, CauseOf, reading_causes}

-- pages show what was made of a store; there are so many forks and pages then, where the store had
-- as many as were counted before
pub record IsRedoneOver
    (shows : Store → Type 0) (counted : Tally) (replayed : Replayed)
    (store : Store) (made : Option Store)
    : Type 0 where
  pub next : Store
  pub is : made ≡ Some next
  pub shown : shows next
  pub forks : IsTallyOf counted store → replayed.forks ≡ len next
  pub pages : IsTallyOf counted store → replayed.pages ≡ page_count next

-- a WAL was read from a beginning on, up to a target or to its end, and those of its entries that
-- end at the target or before it were redone over each store that the pages showed
pub record IsRecovered
    {P : Type 0} (g : PagesGhosts P) (s : StoreSettings) (files : Option Files)
    (begin : Beginning) (upto : Option Lsn) (counted : Tally) (old new : P) (replayed : Replayed)
    : Type 0 where
  pub entries : List Record
  pub read : IsReadFromTo s files begin upto entries replayed.tip
  pub end : replayed.end.0
      ≡ end_from s.segment begin (ending_by (replayed_to upto replayed.tip) entries)
  pub redone : (store : Store) → g.shows old store
      → IsRedoneOver (g.shows new) counted replayed store
      (redo_all store (ending_by (replayed_to upto replayed.tip) entries))

-- the start of the first entry that can't be redone over what those before it make of a store
abbrev pub first_bad_redo : Store → List Record → Option ℕ
first_bad_redo store [] = None
first_bad_redo store (r ∷ rs) =
    bad_behind r.start.0 (redo store r) (λ next. first_bad_redo next rs)

-- the archive is read up to the target, and over each store that is shown the entry at a place is
-- the first of those that end at the target or before it which can't be redone
pub record HasBadRedo
    (shows : Store → Type 0) (s : StoreSettings) (files : Files)
    (begin : Beginning) (upto : Option Lsn) (place : Lsn)
    : Type 0 where
  pub entries : List Record
  pub last : Tip
  pub read : IsReadFrom s files begin upto entries last End
  pub reached : replayed_to upto last ≤ last.end
  pub bad : (store : Store) → shows store
      → first_bad_redo store (ending_by (replayed_to upto last) entries) ≡ Some place.0

abbrev pub redo_causes : (Store → Type 0)
    → StoreSettings → Beginning → Option Lsn → Option Files → RecoveryCauses
redo_causes shows s begin upto files = record (reading_causes s begin upto files) {
  bad = λ place. IfSome files (λ m. HasBadRedo shows s m begin upto place);
}

abbrev pub RecoversInto : {V P : Type 0} → Ghosts V → PagesGhosts P
    → StoreSettings → Beginning → Option Lsn → Tally → V → V → P → P
    → Result Replayed ReplayFault → Type 0
RecoversInto g p s begin upto counted old now before behind (Ok replayed) =
    IsRecovered p s (g.files old) begin upto counted before behind replayed
RecoversInto g p s begin upto counted old now before behind (Err (Wal why)) =
    CauseOf (redo_causes (p.shows before) s begin upto (g.files old)) (g.faults old)
    (g.faults now) why
RecoversInto g p s begin upto counted old now before behind (Err (Out why)) =
    why ≡ Failed → Rose (p.faults before) (p.faults behind)
