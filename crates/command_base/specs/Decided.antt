-- Which answers what is outside decides, and that a command comes to one of them.
use Rattle.std.specs.Prelude.{◌≡◌, Bool, true, false}
use Rattle.command_base.specs.declared.status.Status.{Status}
use Rattle.command_base.specs.declared.status.Status.TheVariants as status
use Rattle.command_base.specs.Outside.{Outside, AllTold}

-- what is outside decided an answer of this status, and no failed device and no want of memory
abbrev pub is_decided : Status → Bool
is_decided status.Done = true
is_decided status.Refused = true
is_decided status.Usage = true
is_decided status.Device = false
is_decided status.Memory = false

-- two runs of a command from one outside that tells its contents come to one answer, of those that
-- it decides: so each of these comes exactly where its case holds
abbrev pub HasOne : {T : Type 0} → (Outside → Outside → T → Type 0) → (T → Status) → Type 0
HasOne {T} does status_in =
    (old new other : Outside) (a b : T) → AllTold old → does old new a → does old other b
    → is_decided (status_in a) ≡ true → is_decided (status_in b) ≡ true → a ≡ b
