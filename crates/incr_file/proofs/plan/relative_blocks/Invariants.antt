use Rattle.std.proofs.Common.{◌≡◌, ◌-◌, map, take}
use Rattle.incr_file.proofs.plan.relative_blocks.Given as goal

abbrev pub invariant-loop-block : goal.invariant-loop-block
invariant-loop-block l = l.relative.items ≡ map (λ b. b - l.first) (take l.block-index l.blocks)
