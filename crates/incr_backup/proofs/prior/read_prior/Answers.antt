use Rattle.std.proofs.Common.{◌∙◌, sym, ap, List, ℕ, Option, Some}
use Rattle.std.specs.Global.{Vec}
use Rattle.std.specs.Option.{option_map}
use Rattle.lsn_core.specs.byte_words.Told.{when_told}
use Rattle.backup_files.specs.Directory.{manifest_name}
use Rattle.incr_backup.specs.IncrInside.{IsFile}
use Rattle.incr_backup.specs.Prior.{PriorAnswer}
use Rattle.incr_backup.proofs.Priors.{file_answer}
use Rattle.incr_backup.proofs.prior.read_prior.Goals as goal

pub returns-in-Ok-Some-clause-answer : goal.returns-in-Ok-Some-clause-answer
returns-in-Ok-Some-clause-answer g c =
    when_told (g.V.Vault.files c.args.prior.now) (λ m. IsFile m manifest_name c.in-Ok-Some.field-0) (λ m. PriorAnswer m c.args.system c.manifest_for.result)
    (λ m is. file_answer m c.args.system c.deref.result.now c.manifest_for.result (sym is ∙ (ap (λ (found : Option (Vec ℕ)). option_map (λ v. v.items) found) c.in-Ok-Some.field-0-is ∙ ap (λ (bytes : List ℕ). Some bytes) (sym c.deref.ensures.value))) c.manifest_for.ensures.answer)
    c.in-Ok-Some.ensures.bytes
