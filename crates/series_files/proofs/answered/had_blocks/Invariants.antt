use Rattle.std.proofs.Common.{◌≡◌, ◌||◌, false, get_or}
use Rattle.std.specs.Prelude.{nat_le}
use Rattle.std.specs.List.{filter, range_with_len}
use Rattle.series_files.proofs.answered.had_blocks.Given as goal

-- the blocks up to this one were asked
abbrev pub invariant-loop-block : goal.invariant-loop-block
invariant-loop-block l = record {
  kept : l.blocks.items ≡ filter (λ b. get_or l.had b false || nat_le l.least b) (range_with_len 0 l.block);
}
