use Rattle.std.proofs.Common.{Some, None}
use Rattle.memory_vault.proofs.MemoryFiles.{count_found}
use Rattle.memory_vault.proofs.memory_files.count_in.Goals as goal

pub returns-in-Some : goal.returns-in-Some
returns-in-Some c = count_found c.args.reads.now c.args.name.now (Some _) c.in-Some.ensures.value

pub returns-in-None : goal.returns-in-None
returns-in-None c = count_found c.args.reads.now c.args.name.now None c.in-None.ensures.value
