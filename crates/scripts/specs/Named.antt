-- The backups that commands take and name.
use Rattle.std.specs.Prelude.{◌≢◌, ℕ, Bool, bytes_eq, List, [], ◌∷◌}
use Rattle.std.specs.List.{AllByRecursion, list_any}
use Rattle.scripts.specs.declared.script.Command.{Command}
use Rattle.scripts.specs.declared.script.Command.TheVariants.{Insert, Grow, Checkpoint, Flush, Summarise, Full, Incr}
use Rattle.scripts.specs.declared.script.Line.{Line}
use Rattle.scripts.specs.declared.script.Task.{Task}

-- the name of a command's backup, empty where it takes none
abbrev pub backup_taken : Command → List ℕ
backup_taken (Insert order) = []
backup_taken (Grow at count shape) = []
backup_taken Checkpoint = []
backup_taken (Flush count) = []
backup_taken Summarise = []
backup_taken (Full name) = name
backup_taken (Incr name prior) = name

-- the name of the prior backup that it is taken on, empty where there is none
abbrev pub prior_taken : Command → List ℕ
prior_taken (Insert order) = []
prior_taken (Grow at count shape) = []
prior_taken Checkpoint = []
prior_taken (Flush count) = []
prior_taken Summarise = []
prior_taken (Full name) = []
prior_taken (Incr name prior) = prior

-- no backup is its own prior one
abbrev pub HasOtherPrior : Command → Type 0
HasOtherPrior (Insert order) = Unit {0}
HasOtherPrior (Grow at count shape) = Unit {0}
HasOtherPrior Checkpoint = Unit {0}
HasOtherPrior (Flush count) = Unit {0}
HasOtherPrior Summarise = Unit {0}
HasOtherPrior (Full name) = Unit {0}
HasOtherPrior (Incr name prior) = name ≢ prior

abbrev pub HaveOtherPriors : List Line → Type 0
HaveOtherPriors lines = AllByRecursion (λ line. HasOtherPrior line.command) lines

-- the backup that a command takes, and the prior one that it takes it on
abbrev pub backups_named : Command → List (List ℕ)
backups_named (Insert order) = []
backups_named (Grow at count shape) = []
backups_named Checkpoint = []
backups_named (Flush count) = []
backups_named Summarise = []
backups_named (Full name) = name ∷ []
backups_named (Incr name prior) = name ∷ prior ∷ []

-- a line names a backup; so does one of a worker's lines
abbrev pub names_backup : List ℕ → Line → Bool
names_backup name line = list_any (bytes_eq name) (backups_named line.command)

abbrev pub is_named_by : List ℕ → Task → Bool
is_named_by name task = list_any (names_backup name) task.lines
