use Rattle.std.proofs.Common.{ap, ◌∙◌, arith, sym, subst, List}
use Rattle.lsn_core.specs.Tip.{Tip}
use Rattle.history.specs.Entry.{Entry}
use Rattle.page_pool.specs.Facts.{history_end}
use Rattle.store_locks.specs.Copied.{HasRedoPoint}
use Rattle.store_locks.proofs.RedoPoints.{latest_within, redo_by_latest}
use Rattle.store_locks.proofs.desk.Desk.latest_redo.Goals as goal

pub returns-clause-latest : goal.returns-clause-latest
returns-clause-latest g c =
    λ tell place has.
    let told = c.know.ensures tell in
    let redo = ap (λ (t : Tip). t.redo) (c.tip.view_is ∙ c.tip-tip.ensures.tip) in
    let log = c.self.inside.journal.wal.tail in
    omega (arith, redo, redo_by_latest log.mib place log.tip c.self.inside.journal.pen told.lawful told.tip (subst (λ (l : List Entry). HasRedoPoint l place) (sym c.self.view_is) has))

pub returns-clause-within : goal.returns-clause-within
returns-clause-within g c =
    λ place has.
    let redo = ap (λ (t : Tip). t.redo) (c.tip.view_is ∙ c.tip-tip.ensures.tip) in
    let log = c.self.inside.journal.wal.tail in
    omega (arith, redo, ap history_end c.self.view_is, latest_within log c.self.inside.journal.pen place c.tip-tip.ensures.known c.tip-tip.ensures.ended (subst (λ (l : List Entry). HasRedoPoint l place) (sym c.self.view_is) has))
