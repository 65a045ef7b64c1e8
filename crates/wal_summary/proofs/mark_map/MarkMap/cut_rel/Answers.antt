use Rattle.std.proofs.Common.{Some, ap, ◌∙◌}
use Rattle.std.proofs.lemmas.Result.{on_ok_weaker}
use Rattle.history.specs.fuzzy_copies.Summary.{both_summed}
use Rattle.wal_summary.specs.Marks.{table_of_marks}
use Rattle.wal_summary.proofs.Entries.{rel_added}
use Rattle.wal_summary.proofs.mark_map.MarkMap.cut_rel.Goals as goal

pub returns : goal.returns
returns c =
    on_ok_weaker c.cut-2.result
    (λ e. rel_added (table_of_marks c.args.self.now) (table_of_marks c.cut.new.self) (table_of_marks c.cut-2.new.self) c.args.rel c.main_fork.result c.init_fork.result c.main_fork.ensures c.init_fork.ensures c.in_ok-cut.ensures e)
    c.cut-2.ensures
