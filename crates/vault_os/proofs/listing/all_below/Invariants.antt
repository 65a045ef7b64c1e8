use Rattle.std.proofs.Common.{string_bytes}
use Rattle.vault_os.proofs.Walks.{Walking}
use Rattle.vault_os.proofs.listing.all_below.Given as goal

abbrev pub invariant-loop : goal.invariant-loop
invariant-loop g l = Walking (g.S.System.files l.fn.system) (string_bytes l.fn.root.path) l.walk
