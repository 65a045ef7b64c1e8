use Rattle.std.proofs.Common.{◌≡◌, get_or, drop}
use Rattle.page_frames.specs.Inside.{byte_over_all}
use Rattle.page_frames.proofs.patches.byte_behind.Given as goal

abbrev pub invariant-loop-frag : goal.invariant-loop-frag
invariant-loop-frag l = byte_over_all (drop l.frag-index l.frags) l.at l.byte ≡ byte_over_all l.frags l.at (get_or l.page l.at 0)
