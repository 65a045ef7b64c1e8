use Rattle.std.proofs.Common.{◌≡◌, drop}
use Rattle.history.specs.Apply.{without_rels}
use Rattle.history.proofs.applying.drop_rels.Given as goal

abbrev pub invariant-loop-rel : goal.invariant-loop-rel
invariant-loop-rel l = without_rels l.store (drop l.rel-index l.rels) ≡ without_rels l.fn.store l.rels
