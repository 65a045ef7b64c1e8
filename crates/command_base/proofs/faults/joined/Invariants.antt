use Rattle.std.proofs.Common.{◌≡◌, ◌++◌, map, drop}
use Rattle.command_base.specs.Faults.{joined}
use Rattle.command_base.proofs.faults.joined.Given as goal

abbrev pub invariant-loop-text : goal.invariant-loop-text
invariant-loop-text l = l.bytes.items ++ joined (map (λ part. part.now) (drop l.text-index l.texts)) ≡ joined (map (λ part. part.now) l.texts)
