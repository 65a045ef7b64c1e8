use Rattle.std.proofs.Common.{◌≤◌, ◌+◌, ◌*◌, length}
use Rattle.backup_files.specs.Area.{SparesManifest}
use Rattle.chain_files.specs.Told.{chain_told, ArePlaces, AllOnlyRead}
use Rattle.incr_merge.proofs.PartFiles.{PartSoFar}
use Rattle.incr_merge.proofs.parts.write_part.Given as goal

-- the file holds all but the blocks that are left
abbrev pub invariant-loop-block : goal.invariant-loop-block
invariant-loop-block g l = record {
  small : l.file.size + length l.left * 8192 ≤ 9223372036854775807 + 1073741824;
  places : ArePlaces (length l.areas) l.places;
  reads : AllOnlyRead g.V.Vault l.fn.areas l.areas;
  spares : SparesManifest g.V.Vault l.fn.out l.out;
  far : PartSoFar (chain_told g.V.Vault l.fn.areas l.places) l.source l.head l.left l.path (g.V.Vault.files l.fn.out) (g.V.Vault.files l.out) l.file;
}

abbrev pub decreases-loop-block : goal.decreases-loop-block
decreases-loop-block g l = length l.left
