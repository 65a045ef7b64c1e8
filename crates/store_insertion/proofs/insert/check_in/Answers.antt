use Rattle.std.proofs.Common.{sym, ◌∙◌}
use Rattle.lsn_core.specs.Tip.{tip_with}
use Rattle.store_locks.proofs.Checked.{refused_in, full_in, admitted_in, follows_in}
use Rattle.store_insertion.proofs.insert.check_in.Goals as goal

pub returns-in-Err-clause-refused : goal.returns-in-Err-clause-refused
returns-in-Err-clause-refused g c =
    λ tell. refused_in g.row.Q c.args.part.now.relseg c.args.journal.now.wal.tail (g.V.Vault.files c.args.journal.now.wal.area) c.args.journal.now.pen c.args.journal.now.pages _ c.args.part.now c.args.op.now c.in-Err.fault (tip_with c.tip.inside.end.0 c.tip.inside.prev.0 c.tip.inside.redo.0 c.tip.inside.count) c.fault_at.result
    (c.know.ensures tell) c.requires.part tell c.requires.alone c.requires.form c.in-Err.ensures.answer (c.tip.view_is ∙ c.tip-tip.ensures.tip) c.fault_at.ensures.fault

pub returns-then-is_over-clause-refused : goal.returns-then-is_over-clause-refused
returns-then-is_over-clause-refused g c =
    λ tell. full_in g.row.Q c.args.part.now.relseg c.args.journal.now.wal.tail (g.V.Vault.files c.args.journal.now.wal.area) c.args.journal.now.pen c.args.journal.now.pages _ c.args.part.now c.check_op.new.self c.args.op.now c.in-Ok.ready (tip_with c.tip.inside.end.0 c.tip.inside.prev.0 c.tip.inside.redo.0 c.tip.inside.count) c.pages.result c.added.result c.gone.result c.pages_behind-pages.result (c.know.ensures tell) c.requires.part tell c.requires.alone c.requires.form c.in-Ok.ensures.same (c.tip.view_is ∙ c.tip-tip.ensures.tip) c.in-Ok.ensures.answer c.pages.ensures c.added.ensures c.gone.ensures c.pages_behind-pages.ensures (sym c.is_over.ensures ∙ c.if-is_over.true)

pub returns-clause-next : goal.returns-clause-next
returns-clause-next g c =
    λ tell. follows_in g.row.Q c.args.part.now.relseg c.args.journal.now.wal.tail (g.V.Vault.files c.args.journal.now.wal.area) c.args.journal.now.pen c.args.journal.now.pages _ c.args.part.now c.check_op.new.self c.args.op.now c.in-Ok.ready (tip_with c.tip.inside.end.0 c.tip.inside.prev.0 c.tip.inside.redo.0 c.tip.inside.count) c.pages.result c.added.result c.gone.result c.pages_behind-pages.result (c.know.ensures tell) c.requires.part tell c.requires.alone c.know_pages.ensures c.pages.type_inv c.in-Ok.ensures.same (c.tip.view_is ∙ c.tip-tip.ensures.tip) c.in-Ok.ensures.answer c.pages.ensures c.added.ensures c.gone.ensures c.pages_behind-pages.ensures (sym c.is_over.ensures ∙ c.if-is_over.false)

pub returns-clause-admitted : goal.returns-clause-admitted
returns-clause-admitted g c =
    λ tell. admitted_in g.row.Q c.args.part.now.relseg c.args.journal.now.wal.tail (g.V.Vault.files c.args.journal.now.wal.area) c.args.journal.now.pen c.args.journal.now.pages _ c.args.part.now c.check_op.new.self c.args.op.now c.in-Ok.ready (tip_with c.tip.inside.end.0 c.tip.inside.prev.0 c.tip.inside.redo.0 c.tip.inside.count) c.pages.result c.added.result c.gone.result c.pages_behind-pages.result (c.know.ensures tell) c.requires.part tell c.requires.alone c.requires.form c.in-Ok.ensures.same (c.tip.view_is ∙ c.tip-tip.ensures.tip) c.in-Ok.ensures.answer c.pages.ensures c.added.ensures c.gone.ensures c.pages_behind-pages.ensures (sym c.is_over.ensures ∙ c.if-is_over.false)
