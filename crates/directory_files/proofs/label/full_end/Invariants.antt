use Rattle.std.proofs.Common.{◌≡◌, ◌≤◌, ◌-◌, ◌++◌, length, take, drop}
use Rattle.directory_files.specs.Labels.{first_lines, lines_behind}
use Rattle.directory_files.proofs.label.full_end.Given as goal

-- the first bytes are of these lines, and what is left of them stands behind
abbrev pub invariant-loop-left : goal.invariant-loop-left
invariant-loop-left l = record {
  within : l.at ≤ length l.text;
  front : take l.at l.text ++ first_lines l.left (drop l.at l.text) ≡ first_lines 7 l.text;
  behind : lines_behind l.left (drop l.at l.text) ≡ lines_behind 7 l.text;
}

abbrev pub decreases-loop-left : goal.decreases-loop-left
decreases-loop-left l = length l.text - l.at
