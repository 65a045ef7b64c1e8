use Rattle.std.proofs.Common.{◌≤◌, length}
use Rattle.scripts.specs.Cuts.{words_of}
use Rattle.scripts.specs.Items.{item_in}
use Rattle.scripts.proofs.Each.{EachRead}
use Rattle.scripts.proofs.items.items_in.Given as goal

-- the words before the rest were read
abbrev pub invariant-loop-word : goal.invariant-loop-word
invariant-loop-word l = record {
  read : EachRead item_in (words_of l.text) (words_of l.rest) l.list.items;
  few : length l.list.items ≤ 16;
}

abbrev pub decreases-loop-word : goal.decreases-loop-word
decreases-loop-word l = length (words_of l.rest)
