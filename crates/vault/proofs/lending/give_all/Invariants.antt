use Rattle.std.proofs.Common.{List}
use Rattle.vault.specs.declared.lending.Held.{Held}
use Rattle.vault.proofs.Giving.{Giving}
use Rattle.vault.proofs.lending.give_all.Given as goal

abbrev pub invariant-loop-one : goal.invariant-loop-one
invariant-loop-one g l =
    (gone : List (Held g.row.S-Area.Denot)) × Giving g.S.Site g.S.Area.Vault l.fn.held.items l.held.items gone l.fn.site l.site

abbrev pub decreases-loop-one : goal.decreases-loop-one
decreases-loop-one g l = goal.left-loop-one g l
