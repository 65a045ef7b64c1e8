-- A fault that one call passes on from another.
use Rattle.std.proofs.Common.{ℕ, List}
use Rattle.wal_archive.specs.declared.fault.Damage.{Damage}
use Rattle.wal_reader.specs.Causes.{WalCauses}

-- where one call refuses, the other does
pub record Passes (inner outer : WalCauses) : Type 0 where
  pub damaged : (damage : Damage) → inner.damaged damage → outer.damaged damage
  pub settings : inner.settings → outer.settings
  pub timeline : (name : List ℕ) → inner.timeline name → outer.timeline name
  pub missing : inner.missing → outer.missing
