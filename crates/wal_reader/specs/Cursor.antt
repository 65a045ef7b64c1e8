-- What a cursor over the archive answers.
use Rattle.std.specs.Prelude.{◌≡◌, ℕ, ◌<◌, Bool, true, false, Option, Some, None, Result, Ok, Err, IfSome}
use Rattle.lsn_core.specs.Files.{Files}
use Rattle.lsn_core.specs.Segment.{StoreSettings}
use Rattle.lsn_core.specs.Tip.{Tip}
use Rattle.vault.specs.declared.area.Vault.{Ghosts}
use Rattle.wal_record.specs.declared.record.Record.{Record}
use Rattle.wal_record.specs.Tips.{first_tip, tip_after, IsWithin}
use Rattle.wal_archive.specs.Rules.{Found, End, Gives, Bad}
use Rattle.wal_archive.specs.Stands.{IsEnd}
use Rattle.wal_reader.specs.declared.fault.WalFault.{WalFault}
use Rattle.wal_reader.specs.declared.fault.WalFault.TheVariants.{Failed}
use Rattle.wal_reader.specs.Causes.{WalCauses, no_causes, CauseOf}
use Rattle.wal_record.specs.Sound.{IsSound}
use Rattle.wal_reader.specs.Wal.{stands_behind, stands_at, tip_at}

-- a cursor: the settings of the WAL, whether it is set at a place and gave no entry yet, the end of
-- the WAL as far as it was read, and the fault that the cursor goes on to answer
pub record Cursor : Type 0 where
  pub settings : StoreSettings
  pub set : Bool
  pub tip : Tip
  pub fault : Option WalFault

abbrev pub at_start : StoreSettings → Cursor
at_start s = record { settings = s; set = false; tip = first_tip s.segment; fault = None }

abbrev pub at_place : StoreSettings → ℕ → Cursor
at_place s from = record { settings = s; set = true; tip = tip_at from; fault = None }

-- an end that an entry may have, within the room of the WAL
pub record IsReached (mib : ℕ) (tip : Tip) : Type 0 where
  pub within : IsWithin mib tip
  pub ends : IsEnd mib tip.end

-- a cursor stands at an end that an entry may have, or where it was set
pub record CanStep (mib : ℕ) (set : Bool) (tip : Tip) : Type 0 where
  pub reached : set ≡ false → IsReached mib tip
  pub begins : set ≡ true → tip ≡ tip_at tip.end

-- what stands where the cursor does
abbrev pub found_at : StoreSettings → Bool → Tip → Files → Found
found_at s true tip files = stands_at s files tip.end
found_at s false tip files = stands_behind s files tip

-- what an entry that the cursor gave behind a tip is, whatever the area tells
pub record IsGiven (mib : ℕ) (tip : Tip) (r : Record) : Type 0 where
  pub later : tip.end < r.end.0
  pub reached : IsReached mib (tip_after tip r)
  pub sound : IsSound r.kind

-- a step is refused where the archive is damaged there
abbrev pub step_causes : StoreSettings → Bool → Tip → Option Files → WalCauses
step_causes s set tip files = record no_causes {
  damaged = λ damage. IfSome files (λ m. found_at s set tip m ≡ Bad damage);
}

-- what stands behind a tip, or at it
abbrev pub StepAnswer :
    StoreSettings → Bool → Tip → Option Files → ℕ → ℕ → Result (Option Record) WalFault → Type 0
StepAnswer s set tip files before now (Ok None) = IfSome files (λ m. found_at s set tip m ≡ End)
StepAnswer s set tip files before now (Ok (Some r)) =
    IsGiven s.segment tip r × IfSome files (λ m. found_at s set tip m ≡ Gives r)
StepAnswer s set tip files before now (Err fault) =
    CauseOf (step_causes s set tip files) before now fault

-- how an answer leaves a cursor that had met no fault: after a failed device it stands as before,
-- any other fault it goes on to answer
abbrev pub cursor_after : Cursor → Result (Option Record) WalFault → Cursor
cursor_after c (Ok None) = c
cursor_after c (Ok (Some r)) = record c { set = false; tip = tip_after c.tip r }
cursor_after c (Err Failed) = c
cursor_after c (Err fault) = record c { fault = Some fault }

-- a step of a cursor: after a fault other than a failed device it answers that fault again
abbrev pub NextAnswer :
    Option WalFault → Cursor → Cursor → Option Files → ℕ → ℕ → Result (Option Record) WalFault
    → Type 0
NextAnswer None c new files before now result =
    (new ≡ cursor_after c result) × StepAnswer c.settings c.set c.tip files before now result
NextAnswer (Some fault) c new files before now result = (new ≡ c) × (result ≡ Err fault)

abbrev pub Steps : {V : Type 0} → Ghosts V
    → Cursor → Cursor → V → V → Result (Option Record) WalFault → Type 0
Steps g c new old now result =
    NextAnswer c.fault c new (g.files old) (g.faults old) (g.faults now) result
