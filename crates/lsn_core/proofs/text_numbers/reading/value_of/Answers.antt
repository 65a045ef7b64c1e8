-- Digits are text, which std reads.
use Rattle.lsn_core.proofs.text_numbers.Decimal.{is_text, unread}
use Rattle.lsn_core.proofs.text_numbers.reading.value_of.Goals as goal

pub returns-in-Ok-clause-none : goal.returns-in-Ok-clause-none
returns-in-Ok-clause-none c = rw c.in-Ok.ensures.cases.0 at (unread c.in-Ok.text.now c.parse.result c.ok.result c.ok.ensures.value c.parse.ensures.value.0 (rw c.in-Ok.ensures.cases.0 c.requires))

pub returns-in-Err-clause-none : goal.returns-in-Err-clause-none
returns-in-Err-clause-none c = absurd (c.in-Err.ensures.cases.0 (is_text c.args.digits.now c.requires))
