use Rattle.std.proofs.Common.{◌∙◌}
use Rattle.rel_files.proofs.KnownLengths.{found}
use Rattle.rel_files.proofs.known.find.Goals as goal

pub returns : goal.returns
returns c = found c.args.known.now c.args.fork.now c.copied.result (c.copied.ensures ∙ c.get.ensures.value)
