use Rattle.std.proofs.Common.{◌++◌, List, ℕ, sym, ap, ◌∙◌, append_assoc}
use Rattle.manifest.specs.Text.{row_text, row_end, rows_text, IsWritableRow}
use Rattle.std.proofs.lemmas.List.Elements.{All-rest}
use Rattle.manifest.proofs.writing.add_rows.Goals as goal

pub loop-row-preserved : goal.loop-row-preserved
loop-row-preserved c =
    let cases = c.in-Some.ensures.cases in
    let row = c.in-Some.row.now in
    let behind = c.in-Some.behind.now in
    record {
      writable = All-rest IsWritableRow row behind c.loop-row.left.now cases.0 c.loop-row.invariant.writable;
      lines = ap (λ (l : List ℕ). l ++ rows_text behind) c.in_ok-add_row.ensures
          ∙ (append_assoc c.loop-row.lines.items (row_text row ++ row_end behind) (rows_text behind)
          ∙ (ap (λ (l : List ℕ). c.loop-row.lines.items ++ l) (append_assoc (row_text row) (row_end behind) (rows_text behind) ∙ sym (ap rows_text cases.0))
          ∙ c.loop-row.invariant.lines));
    }
