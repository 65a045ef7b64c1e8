use Rattle.chain_files.proofs.Slots.{SettledTo}
use Rattle.chain_files.proofs.slot.settle.Given as goal

abbrev pub invariant-loop-block : goal.invariant-loop-block
invariant-loop-block l = SettledTo l.form l.member l.fn.slots l.slots l.block
