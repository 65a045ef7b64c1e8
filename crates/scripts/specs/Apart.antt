-- No backup is named by two workers.
use Rattle.std.specs.Prelude.{◌≡◌, ℕ, ◌≤◌, true, List, [], ◌∷◌, length}
use Rattle.std.specs.List.{AllByRecursion}
use Rattle.scripts.specs.declared.script.Task.{Task}
use Rattle.scripts.specs.Named.{is_named_by}
use Rattle.scripts.specs.Script.{IsScript}

-- of two tasks none names a backup that the other names
abbrev pub ShareNone : Task → Task → Type 0
ShareNone a b =
    (name : List ℕ) → is_named_by name a ≡ true → is_named_by name b ≡ true → ⊥

-- so it is of each task and those behind it
abbrev pub AreApart : List Task → Type 0
AreApart [] = Unit {0}
AreApart (task ∷ tasks) = AllByRecursion (ShareNone task) tasks × AreApart tasks

-- a script's workers are few, and their backups apart
abbrev pub ScriptsAreApart : Type 0
ScriptsAreApart =
    (workers : ℕ) (bytes : List ℕ) (script : List Task) → IsScript workers bytes script
    → AreApart script × (length script ≤ workers)
