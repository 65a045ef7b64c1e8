use Rattle.std.proofs.Common.{◌≡◌, ◌≤◌, drop}
use Rattle.pg_page.specs.Frags.{bad_frag_from}
use Rattle.pg_page.proofs.frags.check_frags.Given as goal

abbrev pub invariant-loop-frag : goal.invariant-loop-frag
invariant-loop-frag l = (l.number ≤ l.size) × ((l.size ≤ 65535) × (bad_frag_from l.number l.size (drop l.frag-index l.frags) ≡ bad_frag_from 0 0 l.frags))
