use Rattle.std.proofs.Common.{◌+◌, ◌<◌, Option, sym, subst, refl, arith}
use Rattle.lsn_core.specs.Files.{Files}
use Rattle.backup_files.proofs.Kept.{spares_on}
use Rattle.chain_files.specs.Told.{told_at}
use Rattle.chain_files.proofs.Told.{reads_length, reads_told_at, reads_trans}
use Rattle.directory_files.specs.Written.{AddsPiece}
use Rattle.directory_files.proofs.Failed.{write_failed}
use Rattle.directory_files.proofs.Grown.{copy_further}
use Rattle.directory_files.proofs.copying.copy_file.Goals as goal

pub returns-in_err-copy_piece-clause-reads : goal.returns-in_err-copy_piece-clause-reads
returns-in_err-copy_piece-clause-reads g c = reads_trans g.V.Vault c.args.areas.now c.loop-at.areas c.copy_piece.new.areas c.loop-at.invariant.reads c.copy_piece.ensures.reads

pub returns-in_err-copy_piece-clause-cause : goal.returns-in_err-copy_piece-clause-cause
returns-in_err-copy_piece-clause-cause g c =
    write_failed g.V.Vault c.args.areas.now c.loop-at.areas c.copy_piece.new.areas c.args.out.now c.loop-at.out c.copy_piece.new.out c.from_residual-in_err-copy_piece.result c.in_err-copy_piece.field-0.0 c.from_residual-in_err-copy_piece.ensures.1
    c.loop-at.invariant.reads c.loop-at.invariant.spares.faults c.in_err-copy_piece.ensures.cause

pub loop-at-preserved : goal.loop-at-preserved
loop-at-preserved g c =
    let adds = c.in_ok-copy_piece.ensures.added in
    record {
      within = omega arith;
      small = omega (arith, adds.few, c.loop-at.invariant.small);
      place = subst (λ (n : _). c.args.place < n) (sym (reads_length g.V.Vault c.loop-at.areas c.copy_piece.new.areas c.copy_piece.ensures.reads)) c.loop-at.invariant.place;
      reads = reads_trans g.V.Vault c.args.areas.now c.loop-at.areas c.copy_piece.new.areas c.loop-at.invariant.reads c.copy_piece.ensures.reads;
      spares = spares_on g.V.Vault c.args.out.now c.loop-at.out c.copy_piece.new.out c.loop-at.invariant.spares c.copy_piece.ensures.spares;
      far = copy_further (told_at g.V.Vault c.args.areas.now c.args.place) c.args.path.now c.loop-at.at c.min-most.result (c.loop-at.at + c.min-most.result) (g.V.Vault.files c.args.out.now) (g.V.Vault.files c.loop-at.out) (g.V.Vault.files c.copy_piece.new.out) c.loop-at.file c.copy_piece.new.file refl c.loop-at.invariant.far
          (subst (λ (o : Option Files). AddsPiece o c.args.path.now c.loop-at.at c.min-most.result c.args.path.now (g.V.Vault.files c.loop-at.out) (g.V.Vault.files c.copy_piece.new.out) c.loop-at.file c.copy_piece.new.file) (reads_told_at g.V.Vault c.args.areas.now c.loop-at.areas c.loop-at.invariant.reads c.args.place) adds);
    }
