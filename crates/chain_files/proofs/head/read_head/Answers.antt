-- The head is read of the file's beginning.
use Rattle.std.proofs.Common.{sym, subst, Result}
use Rattle.incr_file.specs.declared.head.HeadView.{HeadView}
use Rattle.incr_file.specs.declared.decode.HeadFault.{HeadFault}
use Rattle.incr_file.specs.Reading.{HeadAnswers}
use Rattle.chain_files.proofs.Shown.{answer_told}
use Rattle.chain_files.proofs.head.read_head.Goals as goal

pub returns-clause-answer : goal.returns-clause-answer
returns-clause-answer g c =
    answer_told (g.V.Vault.files c.args.area.now) c.args.path.now c.in_ok-bytes.bytes.items c.deref.result.now c.args.size c.in_ok-judged.field-0 c.deref.ensures.value c.in_ok-bytes.ensures.long c.in_ok-bytes.ensures.holds
    (subst (λ (answer : Result HeadView HeadFault). HeadAnswers c.deref.result.now c.args.size answer) (sym c.in_ok-judged.ensures.same) c.decode_head.ensures.answer) c.in_ok-bytes.ensures.shown
