-- What holds of each entry that is read, beside that it is of the grammar.
use Rattle.std.specs.Prelude.{◌≡◌, ◌≢◌, ◌-◌, ◌<◌, ◌≤◌, ◌^◌, None}
use Rattle.std.specs.List.{All}
use Rattle.lsn_core.specs.Relation.{Relation}
use Rattle.lsn_core.specs.Sizes.{most_blocks}
use Rattle.pg_page.specs.Header.{IsGood}
use Rattle.pg_page.specs.Frags.{bad_frag}
use Rattle.wal_record.specs.declared.record.BlockRef.{BlockRef}
use Rattle.wal_record.specs.declared.record.Body.{Body}
use Rattle.wal_record.specs.declared.record.Body.TheVariants.{Image, Delta}
use Rattle.wal_record.specs.declared.record.Kind.{Kind}
use Rattle.wal_record.specs.declared.record.Kind.TheVariants.{Shutdown, Online, RedoMark, NoOp, BackupEnd, Images, Generic, Create, Truncate, Commit}
use Rattle.wal_record.specs.Spelling.{IsImage}

-- a relation whose numbers aren't 0
abbrev pub HasNumbers : Relation → Type 0
HasNumbers rel = (0 < rel.db) × (0 < rel.rel)

-- a page with a good header, or good fragments
abbrev pub IsSoundBody : Body → Type 0
IsSoundBody (Image page) = IsGood page
IsSoundBody (Delta frags) = bad_frag frags ≡ None

pub record IsSoundBlock (block : BlockRef) : Type 0 where
  pub number : block.at.block < most_blocks
  pub rel : HasNumbers block.at.fork.rel
  pub body : IsSoundBody block.body

abbrev pub IsSound : Kind → Type 0
IsSound (Shutdown redo) = Unit
IsSound (Online redo) = Unit
IsSound (RedoMark n) = Unit
IsSound NoOp = Unit
IsSound (BackupEnd start) = Unit
IsSound (Images blocks) = All IsSoundBlock blocks × All (λ b. IsImage b.body) blocks
IsSound (Generic blocks) = All IsSoundBlock blocks
IsSound (Create fork) = HasNumbers fork.rel
IsSound (Truncate rel count flags) = HasNumbers rel × ((count ≢ 2 ^ 32 - 1) × (flags ≤ 7))
IsSound (Commit time rels) = All HasNumbers rels
