-- That the answers on a script shut each other out.
use Rattle.std.specs.Prelude.{◌≡◌, ℕ, List, Result, Ok, Err}
use Rattle.scripts.specs.declared.script.Task.{Task}
use Rattle.scripts.specs.declared.why.ScriptFault.{ScriptFault}
use Rattle.scripts.specs.declared.why.ScriptFault.TheVariants as fault
use Rattle.scripts.specs.Script.{ScriptAnswer}

-- an answer that the script decides, and not want of memory
abbrev pub IsDecided : Result (List Task) ScriptFault → Type 0
IsDecided (Ok script) = Unit {0}
IsDecided (Err (fault.Line n why)) = Unit {0}
IsDecided (Err fault.NoMemory) = ⊥

-- a script has one such answer
abbrev pub HasOneAnswer : Type 0
HasOneAnswer =
    (workers : ℕ) (bytes : List ℕ) (a b : Result (List Task) ScriptFault)
    → ScriptAnswer workers bytes a → ScriptAnswer workers bytes b
    → IsDecided a → IsDecided b → a ≡ b
