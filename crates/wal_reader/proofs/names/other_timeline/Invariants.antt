use Rattle.std.proofs.Common.{ℕ, ◌<◌, [], get_or}
use Rattle.wal_reader.specs.Names.{IsOtherTimeline}
use Rattle.wal_reader.proofs.names.other_timeline.Given as goal

-- no name so far is of another timeline
abbrev pub invariant-loop-name : goal.invariant-loop-name
invariant-loop-name l = (i : ℕ) → i < l.name-index → IsOtherTimeline l.size (get_or l.names i []) → ⊥
