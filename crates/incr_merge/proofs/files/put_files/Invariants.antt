use Rattle.std.proofs.Common.{length}
use Rattle.std.specs.List.{AllByRecursion}
use Rattle.backup_files.specs.Area.{SparesManifest}
use Rattle.chain_files.specs.Told.{chain_told, ArePlaces, AllOnlyRead}
use Rattle.directory_files.proofs.Puts.{PutSoFar}
use Rattle.incr_merge.specs.Inside.{IsContent, IsTarget}
use Rattle.incr_merge.proofs.files.put_files.Given as goal

-- all files but those that are left were put
abbrev pub invariant-loop-target : goal.invariant-loop-target
invariant-loop-target g l = record {
  places : ArePlaces (length l.areas) l.places;
  targets : AllByRecursion (λ t. IsTarget (chain_told g.V.Vault l.fn.areas l.places) t.from t) l.left;
  reads : AllOnlyRead g.V.Vault l.fn.areas l.areas;
  spares : SparesManifest g.V.Vault l.fn.out l.out;
  far : PutSoFar (IsContent (chain_told g.V.Vault l.fn.areas l.places)) l.targets l.left l.modified (g.V.Vault.files l.out) l.rows.items;
}

abbrev pub decreases-loop-target : goal.decreases-loop-target
decreases-loop-target g l = length l.left
