use Rattle.std.proofs.Common.{List, ℕ, ◌++◌, codes, ap, ◌∙◌}
use Rattle.std.specs.Fmt.{decimal}
use Rattle.lsn_core.specs.Names.{lsn_bytes}
use Rattle.backup_label.specs.Label.{Start, Checkpoint, Method, From, Time, Name, Timeline, key_of, line_text, start_text, prior_text}
use Rattle.backup_label.proofs.LineTexts.{all_added}
use Rattle.backup_label.proofs.label.write_label.Goals as goal

pub returns : goal.returns
returns c =
    let l = c.args.label.now in
    all_added c.new-text.result.items c.add_start.new.text.items c.add_place.new.text.items c.add_line.new.text.items c.add_line-2.new.text.items c.add_line-3.new.text.items c.add_line-4.new.text.items c.add_number.new.text.items c.add_prior.new.text.items
    (line_text (key_of Start) (start_text l.start.0 c.args.size)) (line_text (key_of Checkpoint) (lsn_bytes l.checkpoint.0)) (line_text (key_of Method) (codes "streamed")) (line_text (key_of From) (codes "primary")) (line_text (key_of Time) l.time) (line_text (key_of Name) l.label)
    (line_text (key_of Timeline) (decimal l.timeline)) (prior_text l.prior) c.new-text.ensures.items c.in_ok-add_start.ensures c.in_ok-add_place.ensures c.in_ok-add_line.ensures c.in_ok-add_line-2.ensures
    (c.in_ok-add_line-3.ensures ∙ ap (λ (v : List ℕ). c.add_line-2.new.text.items ++ line_text (key_of Time) v) c.as_bytes.ensures)
    (c.in_ok-add_line-4.ensures ∙ ap (λ (v : List ℕ). c.add_line-3.new.text.items ++ line_text (key_of Name) v) c.as_bytes-2.ensures) c.in_ok-add_number.ensures c.in_ok-add_prior.ensures
