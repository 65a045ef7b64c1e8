use Rattle.std.proofs.Common.{◌≡◌, ℕ, ◌+◌, ◌^◌, ◌<◌, length, true, refl, sym, subst, ◌∙◌, arith}
use Rattle.std.specs.List.{AllByRecursion}
use Rattle.std.proofs.lemmas.Bool.{eqb-true}
use Rattle.backup_sending.specs.Backup.{site_of}
use Rattle.backup_files.proofs.Passed.{no_items}
use Rattle.backup_sending.proofs.Copying.{area_failed, step_failed}
use Rattle.backup_files.proofs.Kept.{spares_write}
use Rattle.backup_sending.proofs.Steps.{copies_area, copies_on, looks_still, redo_on}
use Rattle.backup_sending.proofs.Blocks.{part_begun, part_further, part_written, piece_length, split_length, split_parts}
use Rattle.backup_sending.proofs.WholePages.{all_drop}
use Rattle.backup_sending.proofs.parts.copy_part.Goals as goal

pub returns-in_err-write_at-clause-copies_on : goal.returns-in_err-write_at-clause-copies_on
returns-in_err-write_at-clause-copies_on g c =
    copies_area g.V.Vault c.args.pass.now c.args.out.now c.write_at.new.self
    (spares_write g.V.Vault c.args.out.now c.write_at.new.self c.args.path.now c.args.front.now 0 c.write_at.result c.requires.other c.write_at.ensures.written c.write_at.ensures.memory c.write_at.ensures.failed c.write_at.ensures.cause)

pub returns-in_err-write_at-clause-cause : goal.returns-in_err-write_at-clause-cause
returns-in_err-write_at-clause-cause g c =
    area_failed g.V.Vault c.args.pass.now c.args.pass.now c.args.out.now c.write_at.new.self c.from_residual.result c.in_err-write_at.field-0.0 (looks_still c.args.pass.now)
    c.from_residual.ensures.1 c.in_err-write_at.ensures.cause

pub loop-left-init : goal.loop-left-init
loop-left-init g c = record {
  step = copies_area g.V.Vault c.args.pass.now c.args.out.now c.write_at.new.self
      (spares_write g.V.Vault c.args.out.now c.write_at.new.self c.args.path.now c.args.front.now 0 c.write_at.result c.requires.other c.write_at.ensures.written c.write_at.ensures.memory c.write_at.ensures.failed c.write_at.ensures.cause);
  within = c.requires.within;
  small = omega (arith, c.requires.small);
  far = part_begun (g.J.OfStore.tells ≡ true) c.args.pass.now.list c.args.from.0 c.args.fork.now c.args.first c.args.front.now c.args.blocks.now c.args.path.now _ (g.V.Vault.files c.args.out.now) (g.V.Vault.files c.write_at.new.self) c.new-hasher.result c.update.new.self
      c.requires.missing c.in_ok-write_at.ensures.written refl c.new-hasher.ensures c.update.ensures;
}

pub overflow_add-at : goal.overflow_add-at
overflow_add-at g c =
    let parts = split_parts c.min.result c.loop-left.left.now c.split_at.result.0.now c.split_at.result.1.now c.split_at.ensures.front c.split_at.ensures.back in
    let long = piece_length (g.J.OfStore.tells ≡ true) c.copy_part_piece.new.pass.list c.args.from.0 c.args.fork.now c.args.first c.split_at.result.0.now c.args.path.now c.loop-left.at c.copy_part_piece.new.piece.items (g.V.Vault.files c.loop-left.out) (g.V.Vault.files c.copy_part_piece.new.out)
    c.loop-left.hasher c.copy_part_piece.new.hasher c.in_ok-copy_part_piece.ensures.written in
    let len : c.len.result ≡ length c.copy_part_piece.new.piece.items = c.len.ensures ∙ c.copy_part_piece.new.piece.ok.0 in
    omega (arith, c.loop-left.invariant.small, long, len, split_length c.loop-left.left.now c.split_at.result.0.now c.split_at.result.1.now parts)

pub copy_part_piece-requires-clause-redo : goal.copy_part_piece-requires-clause-redo
copy_part_piece-requires-clause-redo g c = λ κs lives. redo_on c.args.pass.now c.loop-left.pass c.args.from.0 c.loop-left.invariant.step.looks c.requires.redo

pub returns-in_err-copy_part_piece-clause-copies_on : goal.returns-in_err-copy_part_piece-clause-copies_on
returns-in_err-copy_part_piece-clause-copies_on g c =
    copies_on g.V.Vault (site_of c.args.pass.now c.args.out.now) (site_of c.loop-left.pass c.loop-left.out) (site_of c.copy_part_piece.new.pass c.copy_part_piece.new.out) c.loop-left.invariant.step
    c.copy_part_piece.ensures.copies_on

pub returns-in_err-copy_part_piece-clause-cause : goal.returns-in_err-copy_part_piece-clause-cause
returns-in_err-copy_part_piece-clause-cause g c =
    step_failed g.V.Vault (site_of c.args.pass.now c.args.out.now) (site_of c.loop-left.pass c.loop-left.out) (site_of c.copy_part_piece.new.pass c.copy_part_piece.new.out) c.from_residual-in_err-copy_part_piece.result
    c.in_err-copy_part_piece.field-0.0 c.loop-left.invariant.step c.from_residual-in_err-copy_part_piece.ensures.1 c.in_err-copy_part_piece.ensures.cause

pub loop-left-preserved : goal.loop-left-preserved
loop-left-preserved g c =
    let parts = split_parts c.min.result c.loop-left.left.now c.split_at.result.0.now c.split_at.result.1.now c.split_at.ensures.front c.split_at.ensures.back in
    let long = piece_length (g.J.OfStore.tells ≡ true) c.copy_part_piece.new.pass.list c.args.from.0 c.args.fork.now c.args.first c.split_at.result.0.now c.args.path.now c.loop-left.at c.copy_part_piece.new.piece.items (g.V.Vault.files c.loop-left.out) (g.V.Vault.files c.copy_part_piece.new.out)
    c.loop-left.hasher c.copy_part_piece.new.hasher c.in_ok-copy_part_piece.ensures.written in
    let len : c.len.result ≡ length c.copy_part_piece.new.piece.items = c.len.ensures ∙ c.copy_part_piece.new.piece.ok.0 in
    record {
      step = copies_on g.V.Vault (site_of c.args.pass.now c.args.out.now) (site_of c.loop-left.pass c.loop-left.out) (site_of c.copy_part_piece.new.pass c.copy_part_piece.new.out) c.loop-left.invariant.step
          c.copy_part_piece.ensures.copies_on;
      within =
          subst (AllByRecursion (λ (b : ℕ). c.args.first + b < 2 ^ 32)) (sym c.split_at.ensures.back) (all_drop (λ (b : ℕ). c.args.first + b < 2 ^ 32) c.min.result c.loop-left.left.now c.loop-left.invariant.within);
      small = omega (arith, c.loop-left.invariant.small, long, len, split_length c.loop-left.left.now c.split_at.result.0.now c.split_at.result.1.now parts);
      far = part_further (g.J.OfStore.tells ≡ true) c.loop-left.pass.list c.copy_part_piece.new.pass.list c.args.from.0 c.args.fork.now c.args.first c.args.front.now c.args.blocks.now c.loop-left.left.now c.split_at.result.0.now c.split_at.result.1.now c.args.path.now
          c.copy_part_piece.new.piece.items c.loop-left.at (c.loop-left.at + c.len.result) c.len.result (g.V.Vault.files c.args.out.now) (g.V.Vault.files c.loop-left.out) (g.V.Vault.files c.copy_part_piece.new.out) c.loop-left.hasher c.copy_part_piece.new.hasher parts refl len
          c.copy_part_piece.ensures.copies_on.looks.stays.seen c.loop-left.invariant.far c.in_ok-copy_part_piece.ensures.written;
    }

pub returns-clause-copied : goal.returns-clause-copied
returns-clause-copied g c =
    part_written (g.J.OfStore.tells ≡ true) c.loop-left.pass.list c.args.from.0 c.args.fork.now c.args.first c.args.front.now c.args.blocks.now c.loop-left.left.now c.args.path.now c.loop-left.at (g.V.Vault.files c.args.out.now) (g.V.Vault.files c.loop-left.out) c.loop-left.hasher c.finalize.result
    (no_items c.loop-left.left.now (eqb-true (length c.loop-left.left.now) 0 (sym c.loop-left-test.ensures))) c.loop-left.invariant.far c.finalize.ensures
