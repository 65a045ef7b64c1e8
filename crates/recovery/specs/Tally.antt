-- How many forks and pages there are.
use Rattle.std.specs.Prelude.{◌≡◌, ℕ, ◌+◌, ◌-◌, Option, Some, None}
use Rattle.std.specs.FinMap.{len}
use Rattle.lsn_core.specs.Store.{Store}
use Rattle.history.specs.Pages.{page_count}
use Rattle.recovery.specs.declared.tally.Tally.{Tally}

-- what a fork of so many blocks counts, or a missing one
abbrev pub fork_tally : Option ℕ → Tally
fork_tally None = record { forks = 0; pages = 0 }
fork_tally (Some blocks) = record { forks = 1; pages = blocks }

-- a fork counts this now, in place of that before
pub record IsRecounted (before now old new : Tally) : Type 0 where
  pub forks : new.forks ≡ old.forks + now.forks - before.forks
  pub pages : new.pages ≡ old.pages + now.pages - before.pages

-- as many forks and pages as a store has
pub record IsTallyOf (tally : Tally) (store : Store) : Type 0 where
  pub forks : tally.forks ≡ len store
  pub pages : tally.pages ≡ page_count store
