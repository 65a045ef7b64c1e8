use Rattle.std.proofs.Common.{◌≡◌, ◌≤◌, length, take, drop}
use Rattle.vault.specs.Record.{changes_of}
use Rattle.memory_vault.specs.Stopped.{left_since, left_by}
use Rattle.memory_vault.specs.declared.stopped.Pick.{Pick}
use Rattle.memory_vault.proofs.stopped.durable_count.Given as goal

abbrev pub invariant-loop-count : goal.invariant-loop-count
invariant-loop-count l = record {
  within : l.count ≤ length l.changes;
  splits : (pick : Pick) → left_by pick (changes_of l.changes) ≡ left_since pick (changes_of (drop l.count l.changes)) (left_by pick (changes_of (take l.count l.changes)));
}

abbrev pub decreases-loop-count : goal.decreases-loop-count
decreases-loop-count l = l.count
