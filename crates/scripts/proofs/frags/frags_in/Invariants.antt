use Rattle.std.proofs.Common.{length, drop}
use Rattle.std.specs.List.{slice_split}
use Rattle.scripts.specs.Items.{frag_in, is_comma}
use Rattle.scripts.proofs.Each.{EachRead}
use Rattle.scripts.proofs.frags.frags_in.Given as goal

-- the pieces before this one were read
abbrev pub invariant-loop-piece : goal.invariant-loop-piece
invariant-loop-piece l = record {
  can_next : (goal.iterator-loop-piece).can_next l.piece-iterator;
  is_finite : (goal.iterator-loop-piece).is_finite l.piece-iterator;
  read : EachRead frag_in (slice_split is_comma l.text) (drop (length l.yielded) (slice_split is_comma l.text)) l.list.items;
}
