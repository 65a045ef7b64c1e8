-- The size of a WAL segment, and the settings of a store.
use Rattle.std.specs.Prelude.{◌≡◌, ℕ, ◌≤◌, ◌*◌, ◌%◌}
use Rattle.lsn_core.specs.Sizes.{most_relseg}

-- a segment's size in MiB: a power of two from 1 to 1024, which are just the divisors of 1024
pub record IsSegmentMib (mib : ℕ) : Type 0 where
  pub least : 1 ≤ mib
  pub most : mib ≤ 1024
  pub divides : 1024 % mib ≡ 0

abbrev pub segment_bytes : ℕ → ℕ
segment_bytes mib = mib * 1048576

-- so many blocks may stand in one file of a fork: those of 1 GiB at most
pub record IsRelseg (relseg : ℕ) : Type 0 where
  pub least : 1 ≤ relseg
  pub most : relseg ≤ most_relseg

-- what a store was made with: the segment size of its WAL in MiB, the blocks in a file of a fork,
-- and the system identifier
pub record StoreSettings : Type 0 where
  pub segment : ℕ
  pub relseg : ℕ
  pub system : ℕ

abbrev pub settings_with : ℕ → ℕ → ℕ → StoreSettings
settings_with segment relseg system = record { segment = segment; relseg = relseg; system = system }
