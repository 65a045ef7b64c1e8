use Rattle.std.proofs.Common.{◌≡◌, map, drop}
use Rattle.history.specs.Whole.{is_named}
use Rattle.history.proofs.applying.is_named.Given as goal

abbrev pub invariant-loop-block : goal.invariant-loop-block
invariant-loop-block l = is_named l.at (map (λ b. b.at) (drop l.block-index l.blocks)) ≡ is_named l.at (map (λ b. b.at) l.blocks)
