-- Which calls of an object in memory fail.
use Rattle.std.specs.Prelude.{◌≡◌, ℕ, ◌+◌, ◌-◌, ◌^◌, ◌≤◌, min, Bool, IsTrue, ◌↔◌, List, Contains, if◌then◌else◌}
use Rattle.memory_vault.specs.declared.fails.FailList.{FailList}

-- one more, at most the end of a count's type
abbrev pub one_more : ℕ → ℕ
one_more n = min (n + 1) (2 ^ 64 - 1)

-- a list of these calls, none made yet
pub record IsNew (listed : List ℕ) (list : FailList) : Type 0 where
  pub calls : list.calls.items ≡ listed
  pub made : list.made ≡ 0
  pub faults : list.faults ≡ 0

-- one call was counted: it fails exactly where its number is listed, and a failure is counted too
pub record HasCounted (old new : FailList) (answer : Bool) : Type 0 where
  pub calls : new.calls ≡ old.calls
  pub made : new.made ≡ one_more old.made
  pub fails : IsTrue answer ↔ Contains old.calls.items new.made
  pub faults : new.faults ≡ (if answer then one_more old.faults else old.faults)
  pub later : old.faults ≤ new.faults
