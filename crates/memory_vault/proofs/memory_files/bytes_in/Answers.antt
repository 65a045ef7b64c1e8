use Rattle.std.proofs.Common.{Some, None, ◌∙◌}
use Rattle.memory_vault.proofs.MemoryFiles.{bytes_read}
use Rattle.memory_vault.proofs.memory_files.bytes_in.Goals as goal

pub returns-in-Some : goal.returns-in-Some
returns-in-Some c = c.deref.ensures.value ∙ bytes_read c.args.files.now c.args.name.now (Some _) c.in-Some.ensures.value

pub returns-in-None : goal.returns-in-None
returns-in-None c = bytes_read c.args.files.now c.args.name.now None c.in-None.ensures.value
