-- What no part of a path names, no fork has as its path.
use Rattle.std.proofs.Common.{false, refl}
use Rattle.std.proofs.lemmas.Bool.{both_ways}
use Rattle.lsn_core.proofs.byte_words.Cutting.{none_anyway}
use Rattle.lsn_core.proofs.ForkPaths.{no_name, no_relation}
use Rattle.lsn_core.proofs.paths.path_fork.Goals as goal

pub returns-in_err-incr-clause-none : goal.returns-in_err-incr-clause-none
returns-in_err-incr-clause-none c = none_anyway c.from_residual-in_err-incr.result _ (no_name c.args.path.now c.in_ok-db.name.now c.in_ok-db.db c.in_ok-db.ensures.found c.in_ok-db.ensures.small c.in_err-incr.ensures.none)

pub returns-in_err-rel-clause-none : goal.returns-in_err-rel-clause-none
returns-in_err-rel-clause-none c =
    none_anyway c.from_residual-in_err-rel.result _
    (no_relation c.args.path.now c.in_ok-db.name.now c.in_ok-db.db c.in_ok-incr.incr c.in_ok-incr.rel c.in_ok-incr.kind c.in_ok-incr.seg c.in_ok-db.ensures.found c.in_ok-db.ensures.small c.in_ok-incr.ensures.found c.in_ok-incr.ensures.small.0 c.in_ok-incr.ensures.small.1 (λ some. both_ways false refl (c.in_err-rel.ensures.some.1 some)))
