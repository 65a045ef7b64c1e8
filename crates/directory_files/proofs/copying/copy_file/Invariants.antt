use Rattle.std.proofs.Common.{◌≤◌, ◌<◌, ◌-◌, length}
use Rattle.backup_files.specs.Area.{SparesManifest}
use Rattle.chain_files.specs.Told.{told_at, AllOnlyRead}
use Rattle.directory_files.proofs.Grown.{CopiedSoFar}
use Rattle.directory_files.proofs.copying.copy_file.Given as goal

-- the file holds the bytes before this place
abbrev pub invariant-loop-at : goal.invariant-loop-at
invariant-loop-at g l = record {
  within : l.at ≤ l.size;
  small : l.file.size ≤ l.at;
  place : l.place < length l.areas;
  reads : AllOnlyRead g.V.Vault l.fn.areas l.areas;
  spares : SparesManifest g.V.Vault l.fn.out l.out;
  far : CopiedSoFar (told_at g.V.Vault l.fn.areas l.place) l.path l.at (g.V.Vault.files l.fn.out) (g.V.Vault.files l.out) l.file;
}

abbrev pub decreases-loop-at : goal.decreases-loop-at
decreases-loop-at g l = l.size - l.at
