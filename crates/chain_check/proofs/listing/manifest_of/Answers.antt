use Rattle.std.proofs.Common.{◌∙◌, sym, ap, List, ℕ, Option, Some}
use Rattle.std.specs.Global.{Vec}
use Rattle.std.specs.Option.{option_map}
use Rattle.lsn_core.specs.byte_words.Told.{when_told}
use Rattle.backup_files.specs.Directory.{manifest_name}
use Rattle.chain_check.specs.Inside.{IsFile, ManifestAnswer}
use Rattle.chain_check.proofs.Manifests.{manifest_is}
use Rattle.chain_check.proofs.listing.manifest_of.Goals as goal

pub returns-in-Some-clause-answer : goal.returns-in-Some-clause-answer
returns-in-Some-clause-answer g c =
    when_told (g.V.Vault.files c.args.area.now) (λ m. IsFile m manifest_name c.in_ok-bytes.field-0) (λ m. ManifestAnswer m c.manifest_in.result)
    (λ m is. manifest_is m c.deref.result.now c.manifest_in.result (sym is ∙ (ap (λ (found : Option (Vec ℕ)). option_map (λ v. v.items) found) c.in-Some.is ∙ ap (λ (bytes : List ℕ). Some bytes) (sym c.deref.ensures.value))) c.manifest_in.ensures.answer)
    c.in_ok-bytes.ensures.bytes
