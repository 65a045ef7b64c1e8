use Rattle.std.proofs.Common.{rules, ◌≡◌, ◌≢◌, Some, None, refl}
use Rattle.incr_backup.proofs.Priors.{no_system, of_store}
use Rattle.incr_backup.proofs.prior.manifest_for.Goals as goal

pub returns-in_default-clause-answer : goal.returns-in_default-clause-answer
returns-in_default-clause-answer c =
    let none : c.in_ok-manifest.manifest.system ≡ None = search rules in
    no_system c.manifests_are_read_again.ensures.versions c.args.bytes.now c.in_ok-manifest.manifest c.in_ok-manifest.ensures.answer none

pub returns-then-have-system-clause-answer : goal.returns-then-have-system-clause-answer
returns-then-have-system-clause-answer c =
    let told : c.in_ok-manifest.manifest.system ≡ Some c.in-Some.have = search rules in
    let apart : c.in-Some.have ≢ c.args.system = search rules in
    (c.in_ok-manifest.manifest, c.in_ok-manifest.ensures.answer, of_store c.args.bytes.now c.in_ok-manifest.manifest c.in-Some.have c.in_ok-manifest.ensures.answer told, refl, apart)
