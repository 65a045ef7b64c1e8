use Rattle.std.proofs.Common.{drop, map, string_bytes}
use Rattle.vault_os.proofs.Walks.{Midway}
use Rattle.vault_os.proofs.listing.read_folder.Given as goal

abbrev pub invariant-loop-name : goal.invariant-loop-name
invariant-loop-name g l = Midway (g.S.System.files l.fn.system) (string_bytes l.fn.root.path) l.fn.folder l.fn.walk (map string_bytes (drop l.name-index l.name-items)) l.walk
