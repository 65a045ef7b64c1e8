use Rattle.std.proofs.Common.{◌≡◌, drop}
use Rattle.page_frames.specs.Sweep.{is_among}
use Rattle.page_frames.proofs.sweep.is_among.Given as goal

abbrev pub invariant-loop-block : goal.invariant-loop-block
invariant-loop-block l = is_among l.at (drop l.block-index l.blocks) ≡ is_among l.at l.blocks
