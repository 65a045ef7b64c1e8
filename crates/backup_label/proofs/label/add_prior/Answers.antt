use Rattle.std.specs.Fmt.{decimal}
use Rattle.lsn_core.specs.Names.{lsn_bytes}
use Rattle.backup_label.specs.Label.{PriorStart, PriorTimeline, key_of, line_text}
use Rattle.backup_label.proofs.LineTexts.{two_added}
use Rattle.backup_label.proofs.label.add_prior.Goals as goal

pub returns : goal.returns
returns c =
    rw c.in-Some.is
    (two_added c.args.text.now.items c.add_place.new.text.items c.add_number.new.text.items (line_text (key_of PriorStart) (lsn_bytes c.in-Some.start.0)) (line_text (key_of PriorTimeline) (decimal c.in-Some.timeline)) c.in_ok-add_place.ensures c.in_ok-add_number.ensures)
