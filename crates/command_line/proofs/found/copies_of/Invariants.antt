use Rattle.std.proofs.Common.{◌≡◌, ◌++◌, map, drop}
use Rattle.command_line.proofs.found.copies_of.Given as goal

abbrev pub invariant-loop-word : goal.invariant-loop-word
invariant-loop-word l = l.texts.items ++ map (λ word. word.now) (drop l.word-index l.words) ≡ map (λ word. word.now) l.words
