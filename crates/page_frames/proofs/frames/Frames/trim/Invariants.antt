use Rattle.std.proofs.Common.{◌≡◌, ◌≤◌}
use Rattle.std.specs.FinMap.{len}
use Rattle.page_frames.proofs.frames.Frames.trim.Given as goal

abbrev pub invariant-loop : goal.invariant-loop
invariant-loop l = record {
  shorter : len l.self.queue ≤ len l.fn.self.queue;
  lengths : l.self.lengths ≡ l.fn.self.lengths;
  slots : l.self.slots ≡ l.fn.self.slots;
  held : l.self.held ≡ l.fn.self.held;
  limit : l.self.limit ≡ l.fn.self.limit;
}
