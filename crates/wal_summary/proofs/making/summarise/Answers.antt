use Rattle.std.proofs.Common.{map, subst, ap, ◌∙◌}
use Rattle.history.specs.Whole.{entry_of}
use Rattle.history.specs.fuzzy_copies.Summary.{both_summed, summary_of}
use Rattle.wal_summary.specs.Summary.{IsSummary}
use Rattle.wal_summary.proofs.Tables.{behind_none}
use Rattle.wal_summary.proofs.making.summarise.Goals as goal

pub returns-clause-forks : goal.returns-clause-forks
returns-clause-forks c =
    let table = summary_of (map entry_of c.args.recs.now) c.args.start.0 c.args.end.0 in
    subst (λ t. IsSummary t c.in_ok-forks.forks) (c.in_ok-add_records.ensures ∙ ap (λ t. both_summed t table) c.new-marks.ensures ∙ behind_none table) c.in_ok-forks.ensures
