use Rattle.std.proofs.Common.{map, sym, ap, ◌∙◌}
use Rattle.std.proofs.lemmas.Result.{on_ok_weaker}
use Rattle.history.specs.fuzzy_copies.Summary.{both_summed, summed}
use Rattle.wal_summary.specs.Marks.{table_of_marks}
use Rattle.wal_summary.specs.Inside.{table_of_ref, rel_table}
use Rattle.wal_summary.proofs.Entries.{table_of_kind, refs_said, commit_said}
use Rattle.wal_summary.proofs.mark_map.MarkMap.add_record.Goals as goal

pub returns-in-Images : goal.returns-in-Images
returns-in-Images c =
    let old = table_of_marks c.args.self.now in
    on_ok_weaker c.touch_all.result
    (λ p. p ∙ ap (λ bs. both_summed old (summed (map table_of_ref bs))) c.as_slice.ensures ∙ ap (both_summed old) (refs_said c.in-Images.blocks ∙ ap table_of_kind (sym c.in-Images.is)))
    c.touch_all.ensures

pub returns-in-Generic : goal.returns-in-Generic
returns-in-Generic c =
    let old = table_of_marks c.args.self.now in
    on_ok_weaker c.touch_all-in-Generic.result
    (λ p. p ∙ ap (λ bs. both_summed old (summed (map table_of_ref bs))) c.as_slice-in-Generic.ensures ∙ ap (both_summed old) (refs_said c.in-Generic.blocks ∙ ap table_of_kind (sym c.in-Generic.is)))
    c.touch_all-in-Generic.ensures

pub returns-in-Commit : goal.returns-in-Commit
returns-in-Commit c =
    let old = table_of_marks c.args.self.now in
    on_ok_weaker c.cut_rels.result
    (λ p. p ∙ ap (λ rs. both_summed old (summed (map rel_table rs))) c.as_slice-in-Commit.ensures ∙ ap (both_summed old) (commit_said c.in-Commit.field-0 c.in-Commit.rels ∙ ap table_of_kind (sym c.in-Commit.is)))
    c.cut_rels.ensures
