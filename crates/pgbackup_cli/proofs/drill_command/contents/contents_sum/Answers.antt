-- The store that the area's files hold.
use Rattle.std.proofs.lemmas.Result.{IfOk-weaker}
use Rattle.pgbackup_cli.proofs.drill_command.Hashed.{summed}
use Rattle.pgbackup_cli.proofs.drill_command.contents.contents_sum.Goals as goal

pub returns-clause-sum : goal.returns-clause-sum
returns-clause-sum g c =
    IfOk-weaker c.sum_in-sum.result _ _ (λ sum is. summed g.V.Vault c.args.relseg c.new-forks.result (g.V.Vault.files c.args.area) sum c.new-forks.ensures.held is) c.sum_in-sum.ensures.sum
