use Rattle.std.proofs.Common.{◌≡◌, take}
use Rattle.pg_page.proofs.frags.Frags.copied.Given as goal

abbrev pub invariant-loop-frag : goal.invariant-loop-frag
invariant-loop-frag l = l.list.items ≡ take l.frag-index l.self
