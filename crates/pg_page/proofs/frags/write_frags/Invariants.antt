use Rattle.std.proofs.Common.{◌≡◌, drop}
use Rattle.pg_page.specs.Frags.{written_frags}
use Rattle.pg_page.proofs.frags.write_frags.Given as goal

abbrev pub invariant-loop-frag : goal.invariant-loop-frag
invariant-loop-frag l = written_frags (drop l.frag-index l.frags) l.page ≡ written_frags l.frags l.fn.page
