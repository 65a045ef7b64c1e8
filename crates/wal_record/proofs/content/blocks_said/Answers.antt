use Rattle.std.proofs.Common.{rules, sym, subst, ap, Ok, ◌∙◌}
use Rattle.std.proofs.lemmas.Result.{err_from_is_err_and}
use Rattle.wal_record.specs.Outcome.{Gives, Fails, refused}
use Rattle.wal_record.specs.Content.{blocks_said, no_name}
use Rattle.wal_record.proofs.Parting.{blocks_more, blocks_fail, blocks_read}
use Rattle.wal_record.proofs.content.blocks_said.Goals as goal

pub returns-in_err-block_said : goal.returns-in_err-block_said
returns-in_err-block_said c =
    let failed = blocks_fail c.loop-head.blocks.items c.args.form c.loop-head.name c.own_name-name.result c.args.heads.now c.loop-head.head-index c.loop-head.rest.now c.in_err-block_said.field-0.0 (blocks_said c.args.form no_name c.args.heads.now c.args.parts.now)
    c.loop-head-test.true c.own_name-name.ensures c.in_err-block_said.ensures c.loop-head.invariant in
    let x = err_from_is_err_and c.from_residual.result c.from_residual.ensures.1 in
    subst (λ r. Gives r (refused (blocks_said c.args.form no_name c.args.heads.now c.args.parts.now))) (sym x.1) (subst (λ f. Fails f (refused (blocks_said c.args.form no_name c.args.heads.now c.args.parts.now))) (sym x.2) failed)

pub loop-head-preserved : goal.loop-head-preserved
loop-head-preserved c =
    blocks_more c.loop-head.blocks.items c.push.new.self.items c.args.form c.loop-head.name c.own_name-name.result c.args.heads.now c.loop-head.head-index c.loop-head.rest.now c.behind-rest.result.now c.in_ok-block_said.field-0 c.block_size.result (blocks_said c.args.form no_name c.args.heads.now c.args.parts.now)
    c.loop-head-test.true c.own_name-name.ensures c.in_ok-block_said.ensures (search rules) c.block_size.ensures.size c.behind-rest.ensures c.loop-head.invariant

pub returns : goal.returns
returns c =
    blocks_read c.loop-head.blocks.items c.args.form c.loop-head.name c.args.heads.now c.loop-head.head-index c.loop-head.rest.now (blocks_said c.args.form no_name c.args.heads.now c.args.parts.now) c.loop-head-test.false c.loop-head.invariant
    ∙ ap Ok (sym c.from_vec.ensures)
