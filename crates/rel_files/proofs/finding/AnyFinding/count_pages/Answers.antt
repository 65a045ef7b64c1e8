use Rattle.std.proofs.Common.{ℕ, Option, false, subst}
use Rattle.lsn_core.specs.Files.{Files}
use Rattle.lsn_core.specs.Names.{fork_path_bytes}
use Rattle.vault.specs.Area.{IsSizeIn}
use Rattle.rel_files.specs.Inside.{FindsLast}
use Rattle.rel_files.proofs.Lengths.{pages_counted}
use Rattle.rel_files.proofs.finding.AnyFinding.count_pages.Goals as goal

pub returns-clause-count : goal.returns-clause-count
returns-clause-count g c s held =
    let fork = c.args.fork.now in
    let files = g.V.Vault.files c.args.self.now in
    let first = subst (λ (o : Option ℕ). IsSizeIn files (fork_path_bytes fork 0 false) o) c.in-Some.is c.in_ok-first.ensures.size in
    let last = subst (λ (o : Option Files). FindsLast o fork (c.in_ok-last.last, c.in_ok-last.size)) c.in_ok-first.ensures.reads.files c.in_ok-last.ensures.last in
    pages_counted c.args.relseg files s fork c.in-Some.first c.in_ok-last.last c.in_ok-last.size c.pages_up_to.result c.pages_up_to.ensures.range.least c.segment_size.ensures.named held first last c.pages_up_to.ensures.pages
