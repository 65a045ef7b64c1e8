use Rattle.std.proofs.Common.{◌≤◌, ◌*◌, ◌-◌, length}
use Rattle.backup_files.specs.Area.{SparesManifest}
use Rattle.chain_files.specs.Told.{chain_told, ArePlaces, AllOnlyRead}
use Rattle.directory_files.proofs.Grown.{RebuiltSoFar}
use Rattle.directory_files.proofs.rebuilding.rebuild_file.Given as goal

-- the file holds the pages before this number
abbrev pub invariant-loop-number : goal.invariant-loop-number
invariant-loop-number g l = record {
  within : l.number ≤ l.count;
  few : l.count ≤ 131072;
  small : l.file.size ≤ l.number * 8192;
  places : ArePlaces (length l.areas) l.places;
  reads : AllOnlyRead g.V.Vault l.fn.areas l.areas;
  spares : SparesManifest g.V.Vault l.fn.out l.out;
  far : RebuiltSoFar (chain_told g.V.Vault l.fn.areas l.places) l.source l.number l.path (g.V.Vault.files l.fn.out) (g.V.Vault.files l.out) l.file;
}

abbrev pub decreases-loop-number : goal.decreases-loop-number
decreases-loop-number g l = l.count - l.number
