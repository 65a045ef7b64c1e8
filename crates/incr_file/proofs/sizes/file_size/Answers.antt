use Rattle.std.proofs.Common.{arith}
use Rattle.incr_file.proofs.BodyPlace.{body_behind}
use Rattle.incr_file.proofs.sizes.file_size.Goals as goal

pub overflow_add-result : goal.overflow_add-result
overflow_add-result c = let b = body_behind c.args.count in omega arith
