use Rattle.std.proofs.Common.{◌≡◌, ◌+◌, ◌^◌, ◌<◌, ℕ, true, subst, arith}
use Rattle.std.specs.List.{AllByRecursion}
use Rattle.backup_files.proofs.Passed.{no_items}
use Rattle.backup_sending.proofs.Steps.{looks_still, looks_on, redo_on}
use Rattle.backup_sending.proofs.Blocks.{blocks_added, blocks_begun, blocks_further}
use Rattle.backup_sending.proofs.parts.copy_blocks.Goals as goal

pub loop-block-init : goal.loop-block-init
loop-block-init g c = record {
  looks = looks_still c.args.pass.now;
  within = c.requires.within;
  far = blocks_begun (g.J.OfStore.tells ≡ true) c.args.pass.now.list c.args.from.0 c.args.fork.now c.args.first c.args.blocks.now c.args.piece.now.items;
}

pub overflow_add-at : goal.overflow_add-at
overflow_add-at g c =
    let all = subst (AllByRecursion (λ (b : ℕ). c.args.first + b < 2 ^ 32)) c.in-Some.ensures.cases.0 c.loop-block.invariant.within in
    omega (arith, all.0)

pub copy_page-requires-clause-redo : goal.copy_page-requires-clause-redo
copy_page-requires-clause-redo g c = λ κs lives. redo_on c.args.pass.now c.loop-block.pass c.args.from.0 c.loop-block.invariant.looks c.requires.redo

pub loop-block-preserved : goal.loop-block-preserved
loop-block-preserved g c = record {
  looks = looks_on c.args.pass.now c.loop-block.pass c.copy_page.new.pass c.loop-block.invariant.looks c.copy_page.ensures.looks;
  within = (subst (AllByRecursion (λ (b : ℕ). c.args.first + b < 2 ^ 32)) c.in-Some.ensures.cases.0 c.loop-block.invariant.within).1;
  far = blocks_further (g.J.OfStore.tells ≡ true) c.loop-block.pass.list c.copy_page.new.pass.list c.args.from.0 c.args.fork.now c.args.first c.in-Some.block.now c.args.blocks.now c.loop-block.left.now c.in-Some.behind.now c.args.piece.now.items c.loop-block.piece.items
      c.copy_page.new.piece.items c.in-Some.ensures.cases.0 c.copy_page.ensures.looks.stays.seen c.loop-block.invariant.far c.in_ok-copy_page.ensures.copied;
}

pub returns-clause-copied : goal.returns-clause-copied
returns-clause-copied g c =
    blocks_added (g.J.OfStore.tells ≡ true) c.loop-block.pass.list c.args.from.0 c.args.fork.now c.args.first c.args.blocks.now c.loop-block.left.now c.args.piece.now.items c.loop-block.piece.items (no_items c.loop-block.left.now c.in_default.ensures.cases) c.loop-block.invariant.far

pub returns-in_err-copy_page-clause-looks : goal.returns-in_err-copy_page-clause-looks
returns-in_err-copy_page-clause-looks g c = looks_on c.args.pass.now c.loop-block.pass c.copy_page.new.pass c.loop-block.invariant.looks c.copy_page.ensures.looks
