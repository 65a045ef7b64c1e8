-- A script that is taken has no more workers than it may have.
use Rattle.std.proofs.Common.{ℕ, ◌≤◌, List, length}
use Rattle.scripts.specs.declared.script.Task.{Task}
use Rattle.scripts.specs.Script.{IsScript}
use Rattle.scripts.proofs.Apart.{scripts_are_apart}

pub few_workers : (workers : ℕ) (bytes : List ℕ) (script : List Task) → IsScript workers bytes script → length script ≤ workers
few_workers workers bytes script is = (scripts_are_apart workers bytes script is).1
