use Rattle.std.proofs.Common.{take}
use Rattle.vault.specs.Record.{changes_of}
use Rattle.memory_vault.specs.Stopped.{IsRedone}
use Rattle.memory_vault.proofs.memory.MemVault.redo_all.Given as goal

abbrev pub invariant-loop-change : goal.invariant-loop-change
invariant-loop-change l = IsRedone l.pick (changes_of (take l.change-index l.changes)) l.fn.self l.self
