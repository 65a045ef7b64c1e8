use Rattle.std.proofs.Common.{subst, ap, ◌∙◌}
use Rattle.history.specs.fuzzy_copies.Summary.{both_summed}
use Rattle.wal_summary.specs.Summary.{IsSummary, table_of_summary}
use Rattle.wal_summary.proofs.Tables.{behind_none}
use Rattle.wal_summary.proofs.making.merge.Goals as goal

pub returns-clause-forks : goal.returns-clause-forks
returns-clause-forks c =
    let first = table_of_summary c.args.first.now in
    let next = table_of_summary c.args.next.now in
    subst (λ t. IsSummary t c.in_ok-forks.forks)
    (c.in_ok-add_summary-2.ensures ∙ ap (λ t. both_summed t next) (c.in_ok-add_summary.ensures ∙ ap (λ t. both_summed t first) c.new-marks.ensures ∙ behind_none first)) c.in_ok-forks.ensures
