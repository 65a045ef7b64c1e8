-- What functions inside the crate answer. No public contract cites these.
use Rattle.std.specs.Prelude.{◌≡◌, ◌⊎◌, true, false, Option, None, Result, Ok}
use Rattle.lsn_core.specs.declared.lsn.Lsn.{Lsn}
use Rattle.vault.specs.declared.area.Vault.{Ghosts}
use Rattle.wal_record.specs.declared.record.Record.{Record}
use Rattle.wal_reader.specs.declared.fault.WalFault.{WalFault}
use Rattle.wal_reader.specs.Cursor.{Cursor, Steps}
use Rattle.wal_reader.specs.wal_pieces.Piece.{is_reached}

-- a step of a cursor before the target; at it or past it the cursor stays, and nothing is looked at
abbrev pub StepsBefore : {V : Type 0} → Ghosts V → Option Lsn
    → Cursor → Cursor → V → V → Result (Option Record) WalFault → Type 0
StepsBefore g upto c new old now result =
    ((is_reached upto c.tip.end ≡ true) × ((new ≡ c) × (result ≡ Ok None)))
    ⊎ ((is_reached upto c.tip.end ≡ false) × Steps g c new old now result)
