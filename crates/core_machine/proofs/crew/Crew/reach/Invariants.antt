use Rattle.std.proofs.Common.{◌≡◌, ℕ, length}
use Rattle.core_machine.specs.Inside.{worker_at, commands_at}
use Rattle.core_machine.proofs.crew.Crew.reach.Given as goal

abbrev pub invariant-loop-place : goal.invariant-loop-place
invariant-loop-place l = record {
  long : length l.self.list.items ≡ l.place;
  workers : (w : ℕ) → worker_at l.self.list.items w ≡ worker_at l.fn.self.list.items w;
  commands : (w : ℕ) → commands_at l.self.list.items w ≡ commands_at l.fn.self.list.items w;
}
