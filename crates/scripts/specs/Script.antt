-- The script that bytes are, or the first of its lines that is refused, where a script may have so
-- many workers.
use Rattle.std.specs.Prelude.{◌≡◌, ℕ, ◌<◌, ◌≤◌, List, [], length, Some, None, Result, Ok, Err}
use Rattle.scripts.specs.declared.script.Task.{Task}
use Rattle.scripts.specs.declared.why.Why.{Why}
use Rattle.scripts.specs.declared.why.ScriptFault.{ScriptFault}
use Rattle.scripts.specs.declared.why.ScriptFault.TheVariants as fault
use Rattle.scripts.specs.Cuts.{lines_of}
use Rattle.scripts.specs.Draft.{drafted}
use Rattle.scripts.specs.Reasons.{why_at}

-- what lines say, from the first one on
abbrev pub script_in : List (List ℕ) → List Task
script_in lines = drafted [] 1 lines

-- this line is refused for this reason, and none before it is
pub record IsRefusedAt (workers : ℕ) (bytes : List ℕ) (n : ℕ) (why : Why) : Type 0 where
  pub least : 1 ≤ n
  pub most : n ≤ length (lines_of bytes)
  pub here : why_at workers bytes n ≡ Some why
  pub first : (m : ℕ) → 1 ≤ m → m < n → why_at workers bytes m ≡ None

-- no line is refused, and the script is what the lines say
pub record IsScript (workers : ℕ) (bytes : List ℕ) (script : List Task) : Type 0 where
  pub taken : (m : ℕ) → 1 ≤ m → m ≤ length (lines_of bytes) → why_at workers bytes m ≡ None
  pub says : script ≡ script_in (lines_of bytes)

abbrev pub ScriptAnswer : ℕ → List ℕ → Result (List Task) ScriptFault → Type 0
ScriptAnswer workers bytes (Ok script) = IsScript workers bytes script
ScriptAnswer workers bytes (Err (fault.Line n why)) = IsRefusedAt workers bytes n why
ScriptAnswer workers bytes (Err fault.NoMemory) = Unit {0}
