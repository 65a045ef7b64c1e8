-- A piece of a WAL: the first entries from a place on, so many of them at most.
use Rattle.std.specs.Prelude.{◌≡◌, ℕ, ◌<◌, ◌≤◌, Bool, false, List, [], ◌∷◌, length, Option, Some, None, IfSome, Result, Ok, Err, nat_le}
use Rattle.std.specs.Global.{Vec}
use Rattle.lsn_core.specs.Files.{Files}
use Rattle.lsn_core.specs.Segment.{StoreSettings}
use Rattle.lsn_core.specs.Tip.{Tip}
use Rattle.lsn_core.specs.declared.lsn.Lsn.{Lsn}
use Rattle.vault.specs.declared.area.Vault.{Ghosts}
use Rattle.wal_record.specs.declared.record.Record.{Record}
use Rattle.wal_record.specs.Tips.{tip_after, tip_behind}
use Rattle.wal_archive.specs.declared.fault.Damage.{Damage}
use Rattle.wal_archive.specs.Rules.{End, Bad}
use Rattle.wal_reader.specs.declared.fault.WalFault.{WalFault}
use Rattle.wal_reader.specs.Causes.{WalCauses, no_causes, CauseOf}
use Rattle.wal_reader.specs.Cursor.{IsGiven}
use Rattle.wal_reader.specs.Wal.{tip_at, ReadsFrom, found_from}

-- ---- how far is read

-- no entry is looked for at an end: it is the target or past it, where one is given
abbrev pub is_reached : Option Lsn → ℕ → Bool
is_reached None end = false
is_reached (Some target) end = nat_le target.0 end

-- each of some entries was looked for before the target, the first of them at this end
abbrev pub AreBefore : Option Lsn → ℕ → List Record → Type 0
AreBefore upto end [] = Unit {0}
AreBefore upto end (r ∷ rs) = (is_reached upto end ≡ false) × AreBefore upto r.end.0 rs

-- ---- what is read

-- a cursor gave these entries behind a tip, one behind the other, whatever the area tells
abbrev pub AreGiven : ℕ → Tip → List Record → Type 0
AreGiven mib tip [] = Unit {0}
AreGiven mib tip (r ∷ rs) = IsGiven mib tip r × AreGiven mib (tip_after tip r) rs

-- the tip behind some entries from a place on
abbrev pub tip_from : ℕ → List Record → Tip
tip_from from rs = tip_behind (tip_at from) rs

-- these are the first entries from a place on that a cursor gives which is set there: so many, or
-- fewer where the target is reached behind them, or the archive ends there
pub record IsPiece (s : StoreSettings) (files : Option Files) (from : ℕ) (upto : Option Lsn)
    (most : ℕ) (rs : List Record) : Type 0 where
  pub few : length rs ≤ most
  pub before : AreBefore upto from rs
  pub given : AreGiven s.segment (tip_at from) rs
  pub read : IfSome files (λ m. ReadsFrom s m from rs (tip_from from rs))
  pub whole : length rs < most → is_reached upto (tip_from from rs).end ≡ false
      → IfSome files (λ m. found_from s m from rs (tip_from from rs) ≡ End)

-- behind fewer entries, and before the target, the archive is damaged so
pub record HasDamagedPiece (s : StoreSettings) (files : Files) (from : ℕ) (upto : Option Lsn)
    (most : ℕ) (damage : Damage) : Type 0 where
  pub entries : List Record
  pub few : length entries < most
  pub before : AreBefore upto from entries
  pub short : is_reached upto (tip_from from entries).end ≡ false
  pub read : ReadsFrom s files from entries (tip_from from entries)
  pub broken : found_from s files from entries (tip_from from entries) ≡ Bad damage

-- a piece is refused where the archive is damaged before its end
abbrev pub piece_causes :
    StoreSettings → Option Files → ℕ → Option Lsn → ℕ → WalCauses
piece_causes s files from upto most = record no_causes {
  damaged = λ damage. IfSome files (λ m. HasDamagedPiece s m from upto most damage);
}

abbrev pub PieceAnswer : StoreSettings → Option Files → ℕ → Option Lsn → ℕ → ℕ → ℕ
    → Result (Vec Record) WalFault → Type 0
PieceAnswer s files from upto most before now (Ok v) = IsPiece s files from upto most v.items
PieceAnswer s files from upto most before now (Err fault) =
    CauseOf (piece_causes s files from upto most) before now fault

-- of an area with these files and this count of faults
abbrev pub ReadsPiece : {V : Type 0} → Ghosts V
    → StoreSettings → ℕ → Option Lsn → ℕ → V → V → Result (Vec Record) WalFault → Type 0
ReadsPiece g s from upto most old now result =
    PieceAnswer s (g.files old) from upto most (g.faults old) (g.faults now) result
