use Rattle.std.proofs.Common.{◌≡◌, ◌++◌, length}
use Rattle.chain_view.specs.Lines.{members_in}
use Rattle.chain_view.proofs.lines.members_in.Given as goal

-- the members so far, and the backups that are still to come
abbrev pub invariant-loop-backup : goal.invariant-loop-backup
invariant-loop-backup l = l.members.items ++ members_in l.backups l.left ≡ members_in l.backups l.backups

abbrev pub decreases-loop-backup : goal.decreases-loop-backup
decreases-loop-backup l = length l.left
