-- An entry of the history.
use Rattle.std.specs.Prelude.{ℕ, ℤ, List, Option, Bool}
use Rattle.std.specs.Option.{is_some}
use Rattle.lsn_core.specs.Relation.{Relation}
use Rattle.lsn_core.specs.declared.ids.ForkId.{ForkId}
use Rattle.history.specs.declared.op.Item.{Item}

-- what an entry without effect marks: a checkpoint with its redo point, the start of one, nothing,
-- the end of a backup with the place of its start, a truncation of the other forks of a relation
-- alone, with half its flags, or a commit that drops nothing, with its time
pub data Marking : Type 0 where
  Shutdown : ℕ → Marking
  Online : ℕ → Marking
  RedoMark : ℕ → Marking
  NoOp : Marking
  BackupEnd : ℕ → Marking
  IdleCut : Relation → ℕ → ℕ → Marking
  IdleCommit : ℤ → Marking

-- what an entry does: it creates a fork, it cuts the main fork of a relation to so many blocks, it
-- changes blocks in turn, it drops relations with all their forks, or it marks a place and changes
-- nothing
pub data Act : Type 0 where
  Create : ForkId → Act
  Truncate : Relation → ℕ → Act
  Change : List Item → Act
  Drop : List Relation → Act
  Mark : Marking → Act

-- an entry: its act, where it starts and ends, and, where a worker made it, that worker and the
-- number of its command
pub record Entry : Type 0 where
  pub act : Act
  pub start : ℕ
  pub end : ℕ
  pub worker : Option ℕ
  pub seq : Option ℕ

-- the entry was made by a worker of this run, and not read from an earlier WAL
abbrev pub is_of_run : Entry → Bool
is_of_run entry = is_some entry.worker
