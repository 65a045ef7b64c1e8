use Rattle.std.proofs.Common.{◌≤◌, ℕ, subst}
use Rattle.vault_os.proofs.Below.{short_cut}
use Rattle.vault_os.proofs.writing.cut_at.Goals as goal

pub returns-then-unwrap_or-size-clause-cut : goal.returns-then-unwrap_or-size-clause-cut
returns-then-unwrap_or-size-clause-cut g c = short_cut c.args.path.now c.args.size _ c.in_ok-now.now c.in_ok-now.ensures (subst (λ (n : ℕ). n ≤ c.args.size) c.unwrap_or.ensures c.if-unwrap_or-size.true)
