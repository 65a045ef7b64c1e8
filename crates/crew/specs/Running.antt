-- What the crate's private functions answer that run lines: no public contract cites these.
use Rattle.std.specs.Prelude.{◌≡◌, ◌≢◌, ℕ, ◌+◌, ◌<◌, ◌≤◌, Bool, false, List, [], ◌∷◌, length, Option, Some, Result, Ok, Err, bytes_eq}
use Rattle.std.specs.List.{position}
use Rattle.lsn_core.specs.declared.lsn.Place.{Place}
use Rattle.lsn_core.specs.declared.fault.StoreArea.{StoreArea}
use Rattle.lsn_core.specs.Files.{Files}
use Rattle.lsn_core.specs.Segment.{StoreSettings}
use Rattle.vault.specs.declared.area.Vault.{Ghosts}
use Rattle.vault.specs.declared.lending.Held.{Held}
use Rattle.vault.specs.Site.{Areas, state_in}
use Rattle.vault.specs.Lending.{IsNoneOf}
use Rattle.command_base.specs.Areas.{backup_name}
use Rattle.history.specs.declared.op.Op.{Op}
use Rattle.history.specs.Entry.{Entry}
use Rattle.store_faults.specs.declared.insert_fault.InsertFault.{InsertFault}
use Rattle.store_faults.specs.declared.insert_fault.InsertFault.TheVariants as insert
use Rattle.store_locks.specs.Seen.{Seen, StaysBy, SharesStay, ShareRose}
use Rattle.incr_backup.specs.Incr.{IncrSite, incr_site}
use Rattle.crew.specs.declared.increments.Places.{Places}
use Rattle.crew.specs.declared.increments.Turn.{Turn}
use Rattle.crew.specs.declared.increments.Turn.TheVariants as place
use Rattle.scripts.specs.declared.script.Command.{Command}
use Rattle.scripts.specs.declared.script.Command.TheVariants as command
use Rattle.run_answers.specs.declared.answer.Answer.{Answer}
use Rattle.crew.specs.Backups.{area_asked}
use Rattle.crew.specs.Run.{Basis, basis_of, IsMade, IsRefusedNow, LineAnswer, TellsFault, marks_allowed, span_of}
use Rattle.run_answers.specs.Stopping.{is_not_run}

-- a worker has seen more, and its accepted commands of these entries are counted, and so many marks
-- at most; no share of its faults fell
pub record WentOn (most : ℕ) (old new : Seen) (made : List Entry) : Type 0 where
  pub stays : StaysBy old new
  pub counted : new.accepted ≡ old.accepted + length made
  pub marked : new.marks ≤ old.marks + most
  pub shares : SharesStay old.faults new.faults

-- a command's entry stands behind all that was seen, at this place; or the command is refused
-- behind all that is seen now, for an area only where the share of its faults rose
abbrev pub Inserts : Type 0 → ℕ → Op → Seen → Seen → Result Place InsertFault → Type 0
Inserts tells mib asked old new (Ok place) =
    (entry : Entry) × (number : ℕ) × (length old.list ≤ number)
    × IsMade tells mib old.worker new.list number asked entry
    × WentOn 0 old new (entry ∷ []) × (place ≡ span_of (entry ∷ []))
Inserts tells mib asked old new (Err why) =
    WentOn 0 old new [] × IsRefusedNow tells mib new.list asked why
    × ((area : StoreArea) → why ≡ insert.Failed area → ShareRose area old new)

-- a line's command was run and answered, or not run where the worker was stopped before it, and
-- this is what it left of the areas that are held
pub record LineRuns (tells : Type 0) (b : Basis) (line : Command) (stopped : Bool) (old new : Seen)
    (held mid : Areas) (answer : Answer) : Type 0 where
  pub made : List Entry
  pub went : WentOn (marks_allowed answer) old new made
  pub answered :
      LineAnswer tells b old.worker (length old.list) new.list line answer made held mid
  pub risen : (area : StoreArea) → TellsFault area answer → ShareRose area old new
  pub run : is_not_run answer ≡ stopped

-- a command was run that asks for no area
abbrev pub RunsAlone : Type 0 → Basis → Command → Seen → Seen → Answer → Type 0
RunsAlone tells b line old new answer =
    (held : Areas) → LineRuns tells b line false old new held held answer

-- a command was run that asks for none, and does nothing with summaries
abbrev pub CommandRuns : Type 0 → StoreSettings → Command → Seen → Seen → Answer → Type 0
CommandRuns tells settings line old new answer =
    (when : ℕ) (found : List Entry) (sums : Option Files) (limit : ℕ)
    → RunsAlone tells (basis_of settings when found sums limit) line old new answer

-- a full backup was taken into an area, or refused, whatever other areas are held
abbrev pub BackupRuns :
    {V : Type 0} → Ghosts V → Type 0 → Basis → List ℕ → Seen → Seen → V → V → Answer → Type 0
BackupRuns g tells b name old new area now answer =
    (held mid : Areas) → held (backup_name name) ≡ state_in g area
    → mid (backup_name name) ≡ state_in g now
    → ((n : List ℕ) → n ≢ backup_name name → mid n ≡ held n)
    → LineRuns tells b (command.Full name) false old new held mid answer

-- ---- incremental backups

-- the areas of an incremental backup are these, by their names
pub record AreIncrAreas {V : Type 0} (g : Ghosts V) (name prior : List ℕ) (areas : Areas)
    (site : IncrSite V) : Type 0 where
  pub prior_is : areas (backup_name prior) ≡ state_in g site.prior
  pub out_is : areas (backup_name name) ≡ state_in g site.out

-- an incremental backup was taken on areas, or refused, whatever other areas are held
abbrev pub IncrRuns :
    {V : Type 0} → Ghosts V → Type 0 → Basis → List ℕ → List ℕ → IncrSite V → IncrSite V
    → Answer → Type 0
IncrRuns g tells b name prior old new answer =
    (held mid : Areas) → AreIncrAreas g name prior held old → AreIncrAreas g name prior mid new
    → ((n : List ℕ) → IsNoneOf n (area_asked (command.Incr name prior)) → mid n ≡ held n)
    → LineRuns tells b (command.Incr name prior) false old.seen new.seen held mid answer

-- ---- two areas of those that are held

-- which one is that of the prior backup, and of the backup, of two in their order
abbrev pub prior_in : {A : Type 0} → Turn → A → A → A
prior_in place.PriorOut low high = low
prior_in place.OutPrior low high = high

abbrev pub out_in : {A : Type 0} → Turn → A → A → A
out_in place.PriorOut low high = high
out_in place.OutPrior low high = low

abbrev pub turned_site : {V : Type 0} → Turn → Seen → V → V → IncrSite V
turned_site turn seen low high = incr_site seen (prior_in turn low high) (out_in turn low high)

-- these are the places of the two, in their order
pub record AreIn (prior out : ℕ) (at : Places) : Type 0 where
  pub prior_is : prior_in at.turn at.low at.high ≡ prior
  pub out_is : out_in at.turn at.low at.high ≡ out
  pub order : at.low < at.high

-- these are the places where areas of these names are found
pub record AreAt {V : Type 0} (name prior : List ℕ) (held : List (Held V)) (at : Places)
    : Type 0 where
  pub prior_at : position (λ h. bytes_eq h.name (backup_name prior)) held
      ≡ Some (prior_in at.turn at.low at.high)
  pub out_at : position (λ h. bytes_eq h.name (backup_name name)) held
      ≡ Some (out_in at.turn at.low at.high)
  pub order : at.low < at.high
  pub within : at.high < length held

-- an area later, with the name that it had
pub record IsLater {V : Type 0} (g : Ghosts V) (old new : Held V) : Type 0 where
  pub named : new.name ≡ old.name
  pub later : g.faults old.area ≤ g.faults new.area
