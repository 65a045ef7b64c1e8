use Rattle.std.proofs.Common.{◌≡◌, ◌++◌, length}
use Rattle.chain_view.specs.Answers.{names_text}
use Rattle.chain_view.proofs.answer.add_names.Given as goal

-- the text so far, and the names that are still to come
abbrev pub invariant-loop-name : goal.invariant-loop-name
invariant-loop-name l = l.text.items ++ names_text l.left ≡ l.fn.text.items ++ names_text l.names

abbrev pub decreases-loop-name : goal.decreases-loop-name
decreases-loop-name l = length l.left
