use Rattle.std.proofs.Common.{sym, ◌∙◌}
use Rattle.lsn_core.specs.Tip.{tip_with}
use Rattle.store_locks.proofs.Behind.{form_refuses, alone_refuses}
use Rattle.store_insertion.proofs.insert.partition_for.Goals as goal

pub returns-in-Err-clause-refused : goal.returns-in-Err-clause-refused
returns-in-Err-clause-refused g c =
    λ tell. form_refuses c.args.journal.now.wal.tail (g.V.Vault.files c.args.journal.now.wal.area) c.args.journal.now.pen c.args.journal.now.pages c.args.op.now c.in-Err.fault (c.know.ensures tell) c.in-Err.ensures.judged

pub returns-in-Err-judge_alone-clause-refused : goal.returns-in-Err-judge_alone-clause-refused
returns-in-Err-judge_alone-clause-refused g c =
    λ tell. alone_refuses c.args.journal.now.wal.tail (g.V.Vault.files c.args.journal.now.wal.area) c.args.journal.now.pen c.args.journal.now.pages c.args.op.now c.in-Err-judge_alone.fault (tip_with c.tip.inside.end.0 c.tip.inside.prev.0 c.tip.inside.redo.0 c.tip.inside.count) c.fault_at.result
    (c.know.ensures tell) (sym c.in_default.ensures.judged) (sym c.in-Err-judge_alone.ensures) (c.tip.view_is ∙ c.tip-tip.ensures.tip) c.fault_at.ensures.fault
