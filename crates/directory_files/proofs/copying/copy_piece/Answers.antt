use Rattle.std.proofs.Common.{take, arith}
use Rattle.std.proofs.lemmas.List.{length-take}
use Rattle.directory_files.proofs.copying.copy_piece.Goals as goal

pub returns-clause-added : goal.returns-clause-added
returns-clause-added g c = record {
  piece = take c.in_ok-count.field-0 c.piece_at.new.into;
  few = omega (arith, c.in_ok-add.ensures.sized, length-take c.in_ok-count.field-0 c.piece_at.new.into, c.in_ok-count.ensures.count);
  read = c.in_ok-count.ensures.read;
  holds = c.in_ok-add.ensures.holds;
  written = c.in_ok-add.ensures.written;
}
