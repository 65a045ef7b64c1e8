use Rattle.std.specs.Vec.Iter.{into_iter_items, into_iter_len}
use Rattle.std.proofs.Common.{◌≡◌, length}
use Rattle.vault.proofs.Taking.{Taking}
use Rattle.vault.proofs.lending.take_all.Given as goal

abbrev pub invariant-loop-name : goal.invariant-loop-name
invariant-loop-name g l =
    Taking g.S.Site g.S.Area.Vault l.fn.names.items l.yielded (into_iter_items l.name-iterator) l.fn.site l.site l.held.items
    × (into_iter_len l.name-iterator ≡ length (into_iter_items l.name-iterator))
