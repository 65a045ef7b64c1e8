use Rattle.std.proofs.Common.{◌≡◌, Option, Some, IsSome, sym, subst, ◌∙◌}
use Rattle.lsn_core.specs.declared.ids.ForkId.{ForkId}
use Rattle.lsn_core.specs.Blocks.{block_count}
use Rattle.rel_files.specs.Forks.{mended}
use Rattle.rel_files.specs.Inside.{known_length}
use Rattle.rel_files.proofs.RawCalls.{told_there}
use Rattle.rel_files.proofs.forks.Forks.learn.Goals as goal

one : (o : Option ForkId) (a b : ForkId) → o ≡ Some a → o ≡ Some b → a ≡ b
one o a b e f = let both : Some a ≡ Some b = sym e ∙ f in cc

pub returns-in_ok-count-clause-learned : goal.returns-in_ok-count-clause-learned
returns-in_ok-count-clause-learned g c s h fork named is there =
    let found = c.in-Some.fork in
    let same : found ≡ fork = one c.first_fork.result found fork c.in-Some.is (c.first_fork.ensures fork named is) in
    let told = told_there s fork c.in_ok-count.field-0 (subst (λ (f : ForkId). c.in_ok-count.field-0 ≡ block_count (mended s f) f) same (c.in_ok-count.ensures.whole s h)) there in
    subst (λ (f : ForkId). IsSome (known_length c.count.new.self.known f)) same (c.in_ok-count.ensures.known.here told)
