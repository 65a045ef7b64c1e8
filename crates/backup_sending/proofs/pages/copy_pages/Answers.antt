use Rattle.std.proofs.Common.{◌≡◌, ℕ, ◌+◌, true, refl, subst, arith}
use Rattle.backup_sending.specs.Inside.{AddsCopies}
use Rattle.backup_sending.proofs.Steps.{looks_still, looks_on, redo_on}
use Rattle.backup_sending.proofs.PageLists.{adds_none, adds_more}
use Rattle.backup_sending.proofs.pages.copy_pages.Goals as goal

pub loop-done-init : goal.loop-done-init
loop-done-init g c = record {
  within = omega arith;
  looks = looks_still c.args.pass.now;
  added = adds_none (g.J.OfStore.tells ≡ true) c.args.pass.now.list c.args.from.0 c.args.fork.now c.args.block c.args.piece.now.items;
}

pub copy_page-requires-clause-redo : goal.copy_page-requires-clause-redo
copy_page-requires-clause-redo g c = λ κs lives. redo_on c.args.pass.now c.loop-done.pass c.args.from.0 c.loop-done.invariant.looks c.requires.redo

pub loop-done-preserved : goal.loop-done-preserved
loop-done-preserved g c = record {
  within = omega arith;
  looks = looks_on c.args.pass.now c.loop-done.pass c.copy_page.new.pass c.loop-done.invariant.looks c.copy_page.ensures.looks;
  added =
      adds_more (g.J.OfStore.tells ≡ true) c.loop-done.pass.list c.copy_page.new.pass.list c.args.from.0 c.args.fork.now c.args.block (c.args.block + c.loop-done.done) c.loop-done.done 1 (c.loop-done.done + 1) c.args.piece.now.items
      c.loop-done.piece.items c.copy_page.new.piece.items refl refl c.copy_page.ensures.looks.stays.seen c.loop-done.invariant.added c.in_ok-copy_page.ensures.copied;
}

pub returns-clause-copied : goal.returns-clause-copied
returns-clause-copied g c =
    let all : c.loop-done.done ≡ c.args.count = omega arith in
    subst (λ (n : ℕ). AddsCopies (g.J.OfStore.tells ≡ true) c.loop-done.pass.list c.args.from.0 c.args.fork.now c.args.block n c.args.piece.now.items c.loop-done.piece.items) all c.loop-done.invariant.added

pub returns-in_err-copy_page-clause-looks : goal.returns-in_err-copy_page-clause-looks
returns-in_err-copy_page-clause-looks g c = looks_on c.args.pass.now c.loop-done.pass c.copy_page.new.pass c.loop-done.invariant.looks c.copy_page.ensures.looks
