use Rattle.memory_vault.proofs.MemoryFiles.{files-remove}
use Rattle.memory_vault.proofs.memory_files.remove_file.Goals as goal

pub returns : goal.returns
returns c = files-remove c.args.name.now c.args.files.now c.remove.new.self c.remove.ensures.updates
