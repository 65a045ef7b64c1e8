-- The entries that may be applied.
use Rattle.std.specs.Prelude.{◌≡◌, ◌<◌, None}
use Rattle.std.specs.List.{All}
use Rattle.lsn_core.specs.Sizes.{most_blocks}
use Rattle.pg_page.specs.Frags.{bad_frag}
use Rattle.wal_record.specs.declared.record.Kind.{Kind}
use Rattle.wal_record.specs.declared.record.BlockRef.{BlockRef}
use Rattle.wal_record.specs.declared.record.Body.{Body}
use Rattle.wal_record.specs.declared.record.Body.TheVariants.{Image, Delta}
use Rattle.wal_record.specs.Spelling.{blocks_of}

-- a delta has no bad fragment
abbrev pub IsApplicableBody : Body → Type 0
IsApplicableBody (Image page) = Unit
IsApplicableBody (Delta frags) = bad_frag frags ≡ None

pub record IsApplicableBlock (block : BlockRef) : Type 0 where
  pub number : block.at.block < most_blocks
  pub body : IsApplicableBody block.body

-- each block number is below 32,768, and no delta has a bad fragment
abbrev pub IsApplicable : Kind → Type 0
IsApplicable kind = All IsApplicableBlock (blocks_of kind)
