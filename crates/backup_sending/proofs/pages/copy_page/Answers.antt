use Rattle.std.proofs.Common.{◌≡◌, true, arith}
use Rattle.store_locks.proofs.RedoPoints.{redo_stays}
use Rattle.backup_sending.proofs.PageLists.{adds_one}
use Rattle.backup_sending.proofs.Steps.{call_looks}
use Rattle.backup_sending.proofs.pages.copy_page.Goals as goal

pub returns-in_err-copy_block-clause-looks : goal.returns-in_err-copy_block-clause-looks
returns-in_err-copy_block-clause-looks g c = call_looks c.args.pass.now c.copy_block.new.pass c.copy_block.result c.copy_block.ensures.seen c.copy_block.ensures.accepted c.copy_block.ensures.marks c.copy_block.ensures.faults

pub returns-in_err-extend_from_slice-clause-looks : goal.returns-in_err-extend_from_slice-clause-looks
returns-in_err-extend_from_slice-clause-looks g c = call_looks c.args.pass.now c.copy_block.new.pass c.copy_block.result c.copy_block.ensures.seen c.copy_block.ensures.accepted c.copy_block.ensures.marks c.copy_block.ensures.faults

pub returns-clause-looks : goal.returns-clause-looks
returns-clause-looks g c = call_looks c.args.pass.now c.copy_block.new.pass c.copy_block.result c.copy_block.ensures.seen c.copy_block.ensures.accepted c.copy_block.ensures.marks c.copy_block.ensures.faults

pub returns-clause-copied : goal.returns-clause-copied
returns-clause-copied g c =
    adds_one (g.J.OfStore.tells ≡ true) c.copy_block.new.pass.list c.args.from.0 c.args.at c.copy_block.new.into c.zero_page-page.result c.args.piece.now.items c.extend_from_slice.new.self.items c.in_ok-copy_block.field-0
    (redo_stays c.args.from.0 c.args.pass.now.list c.copy_block.new.pass.list c.requires.redo c.copy_block.ensures.seen.seen) c.zero_page-page.ensures (omega arith) (λ t. c.in_ok-copy_block.ensures.copied t) c.in_ok-extend_from_slice.ensures.items
