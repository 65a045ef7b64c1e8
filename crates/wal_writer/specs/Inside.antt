-- What functions inside the crate answer. No public contract cites these.
use Rattle.std.specs.Prelude.{◌≡◌, ℕ, List, length}
use Rattle.std.specs.Option.{option_map}
use Rattle.vault.specs.declared.area.Vault.{Ghosts}
use Rattle.wal_archive.specs.Writing.{piece_written, archive_written}

module _ {V : Type 0} (g : Ghosts V) where
  -- a piece of the archive was written into an area
  abbrev pub WritesPiece : ℕ → ℕ → List ℕ → V → V → Type 0
  WritesPiece mib at piece old new =
      g.files new ≡ option_map (piece_written mib at piece) (g.files old)

  -- bytes of the archive were written into an area, piece by piece
  abbrev pub WritesArchive : ℕ → ℕ → List ℕ → V → V → Type 0
  WritesArchive mib at bytes old new =
      g.files new ≡ option_map (archive_written mib (length bytes) at bytes) (g.files old)
