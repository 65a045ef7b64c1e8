use Rattle.std.proofs.Common.{rules, sym, subst}
use Rattle.std.proofs.lemmas.Result.{err_from_is_err_and}
use Rattle.wal_record.specs.Outcome.{Gives, Fails, refused}
use Rattle.wal_record.specs.Content.{block_said}
use Rattle.wal_record.proofs.Parting.{block_fails}
use Rattle.wal_record.proofs.content.block_said.Goals as goal

pub returns-in_err-body : goal.returns-in_err-body
returns-in_err-body c =
    let x = err_from_is_err_and c.from_residual-in_err-body.result c.from_residual-in_err-body.ensures.1 in
    subst (λ r. Gives r (refused (block_said c.args.form c.args.name c.args.head c.args.parts.now))) (sym x.1)
    (subst (λ f. Fails f (refused (block_said c.args.form c.args.name c.args.head c.args.parts.now))) (sym x.2)
    (block_fails c.args.form c.args.name c.args.head c.args.parts.now c.front_of-image.result.now c.front_of-delta.result.now c.in_ok-at.at c.in_err-body.field-0.0 (search rules) (search rules) (search rules) c.in_err-body.ensures))
