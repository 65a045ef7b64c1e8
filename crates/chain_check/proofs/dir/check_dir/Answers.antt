use Rattle.std.proofs.Common.{◌≡◌, ◌∙◌, subst, Option, IfSome, Ok}
use Rattle.lsn_core.specs.byte_words.Told.{when_both_told}
use Rattle.lsn_core.specs.Files.{Files}
use Rattle.chain_check.specs.Directory.{HasManifest, IsAsListed}
use Rattle.chain_check.specs.Inside.{ListedAnswer}
use Rattle.chain_check.proofs.Listed.{as_listed}
use Rattle.chain_check.proofs.dir.check_dir.Goals as goal

pub returns-clause-answer : goal.returns-clause-answer
returns-clause-answer g c =
    let manifest = c.in_ok-manifest.manifest in
    let label = c.in_ok-label.label in
    let listed = subst (λ (o : Option Files). IfSome o (λ m. ListedAnswer m manifest (Ok label))) c.in_ok-manifest.ensures.reads.files c.in_ok-label.ensures.answer in
    when_both_told (g.V.Vault.files c.args.area.now) (λ m. HasManifest m manifest) (λ m. ListedAnswer m manifest (Ok label))
    (λ m. (c.in_ok-name.name ≡ c.args.name.now) × IsAsListed m (record { name = c.in_ok-name.name; label = label; manifest = manifest }))
    (λ m read is. (c.in_ok-name.ensures ∙ c.as_bytes.ensures, as_listed m c.in_ok-name.name label manifest read is))
    c.in_ok-manifest.ensures.answer listed
