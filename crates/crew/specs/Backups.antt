-- The areas of backups that commands ask for.
use Rattle.std.specs.Prelude.{List, [], ◌∷◌, ℕ}
use Rattle.std.specs.List.{flat_map}
use Rattle.vault.specs.declared.area.Vault.{Ghosts}
use Rattle.vault.specs.declared.lending.Held.{Held}
use Rattle.vault.specs.Site.{Areas, at_home}
use Rattle.vault.specs.Lending.{Names, IsOneOf, names_of, all_back}
use Rattle.std.specs.Prelude.{None}
use Rattle.command_base.specs.Areas.{backup_name}
use Rattle.scripts.specs.declared.script.Command.{Command}
use Rattle.scripts.specs.declared.script.Command.TheVariants.{Insert, Grow, Checkpoint, Flush, Summarise, Full, Incr}
use Rattle.scripts.specs.declared.script.Line.{Line}

-- the areas that a command asks for, beside those that workers share
abbrev pub area_asked : Command → Names
area_asked (Insert order) = []
area_asked (Grow at count shape) = []
area_asked Checkpoint = []
area_asked (Flush count) = []
area_asked Summarise = []
area_asked (Full name) = backup_name name ∷ []
area_asked (Incr name prior) = backup_name name ∷ backup_name prior ∷ []

-- those that lines ask for, in their order
abbrev pub areas_asked : List Line → Names
areas_asked lines = flat_map (λ line. area_asked line.command) lines

-- they are held
abbrev pub AreHeld : {V : Type 0} → Names → List (Held V) → Type 0
AreHeld names held = (n : List ℕ) → IsOneOf n names → IsOneOf n (names_of held)

-- areas that are held, by their names
abbrev pub nowhere : Areas
nowhere name = at_home None None 0

abbrev pub areas_of : {V : Type 0} → Ghosts V → List (Held V) → Areas
areas_of g held = all_back g nowhere held
