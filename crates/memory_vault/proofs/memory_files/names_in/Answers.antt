use Rattle.std.proofs.Common.{sym, ◌∙◌}
use Rattle.memory_vault.proofs.MemoryFiles.{keys-files, all_named}
use Rattle.memory_vault.proofs.memory_files.names_in.Goals as goal

pub returns : goal.returns
returns c = all_named _ _ _ c.loop-name.invariant (rw c.in-None.is at c.next.ensures.steps).0 ∙ sym (keys-files c.args.files.now c.keys-name-items.ensures.ordered)
