use Rattle.summary_file.specs.declared.fault.SummaryFault.TheVariants.{Length, Magic, Sum}
use Rattle.summary_store.proofs.Keeping.{another_name, refused, not_both, not_memory}
use Rattle.summary_store.proofs.opening.named_summary.Goals as goal

pub returns-in-Ok-2 : goal.returns-in-Ok-2
returns-in-Ok-2 c = another_name c.args.name.now c.args.bytes.now _ c.in-Ok.ensures (λ is. not_both c.is_name_of.result c.if-is_name_of.false (c.is_name_of.ensures.1 is))

pub returns-in-Err-Length : goal.returns-in-Err-Length
returns-in-Err-Length c = refused c.args.name.now c.args.bytes.now c.in-Err-Length.field-0 (not_memory c.in-Err-Length.field-0 Length c.in-Err-Length.field-0-is (λ e. absurd cc)) c.in-Err-Length.ensures

pub returns-in-Err-Magic : goal.returns-in-Err-Magic
returns-in-Err-Magic c = refused c.args.name.now c.args.bytes.now c.in-Err-Magic.field-0 (not_memory c.in-Err-Magic.field-0 Magic c.in-Err-Magic.field-0-is (λ e. absurd cc)) c.in-Err-Magic.ensures

pub returns-in-Err-Sum : goal.returns-in-Err-Sum
returns-in-Err-Sum c = refused c.args.name.now c.args.bytes.now c.in-Err-Sum.field-0 (not_memory c.in-Err-Sum.field-0 Sum c.in-Err-Sum.field-0-is (λ e. absurd cc)) c.in-Err-Sum.ensures
