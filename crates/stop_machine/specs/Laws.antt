-- Laws of an area as a machine of steps.
use Rattle.std.specs.Prelude.{◌≡◌, ◌<◌, ℕ, Bool, List, [], ◌∷◌, Some}
use Rattle.lsn_core.specs.declared.ids.ForkId.{ForkId}
use Rattle.lsn_core.specs.Store.{Store}
use Rattle.vault.specs.Frame.{LeavesOnly}
use Rattle.history.specs.fuzzy_copies.Sound.{state_before}
use Rattle.stop_machine.specs.Area.{Area, Step, after, IsLeftAt, IsSafe, MayStep}

-- a stop at any moment of a step of a safe area leaves what stays, and the area is safe behind it
pub record StepIsSafe (ours : ForkId → Bool) (relseg : ℕ) (a : Area) (step : Step) : Type 0 where
  pub moments : (store : Store) → state_before a.known a.from ≡ Some store
      → LeavesOnly (IsLeftAt ours relseg a store) (Some a.past) (Some (after a step).past)
  pub safe : IsSafe ours relseg (after a step)

abbrev pub StepsAreSafe : Type 0
StepsAreSafe =
    (ours : ForkId → Bool) (relseg : ℕ) (a : Area) (step : Step) → 0 < relseg
    → IsSafe ours relseg a → MayStep ours relseg a step → StepIsSafe ours relseg a step

-- steps may be taken in turn, and the area behind them
abbrev pub MayRun : (ForkId → Bool) → ℕ → Area → List Step → Type 0
MayRun ours relseg a [] = Unit {0}
MayRun ours relseg a (step ∷ steps) =
    MayStep ours relseg a step × MayRun ours relseg (after a step) steps

abbrev pub after_all : Area → List Step → Area
after_all a [] = a
after_all a (step ∷ steps) = after_all (after a step) steps

-- so it is after every list of steps
abbrev pub RunsAreSafe : Type 0
RunsAreSafe =
    (ours : ForkId → Bool) (relseg : ℕ) (a : Area) (steps : List Step) → 0 < relseg
    → IsSafe ours relseg a → MayRun ours relseg a steps
    → IsSafe ours relseg (after_all a steps)
