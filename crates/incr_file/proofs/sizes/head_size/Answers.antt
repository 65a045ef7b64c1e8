use Rattle.std.proofs.Common.{arith, sym}
use Rattle.incr_file.proofs.BodyPlace.{short_file}
use Rattle.incr_file.proofs.sizes.head_size.Goals as goal

pub returns-then-file-lt12 : goal.returns-then-file-lt12
returns-then-file-lt12 c = sym (short_file c.args.first.now c.args.file (omega arith))
