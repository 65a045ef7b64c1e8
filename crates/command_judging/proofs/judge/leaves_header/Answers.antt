-- A block that isn't there has a page of zeros.
use Rattle.std.proofs.Common.{List, ℕ, ap, ◌∙◌}
use Rattle.pg_page.specs.Frags.{written_frags, is_good}
use Rattle.command_judging.proofs.judge.leaves_header.Goals as goal

pub returns-in-None : goal.returns-in-None
returns-in-None c = c.keeps_header_of_none.ensures ∙ ap (λ (p : List ℕ). is_good (written_frags c.args.frags.now p)) c.in-None.ensures
