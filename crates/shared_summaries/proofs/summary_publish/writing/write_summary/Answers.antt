use Rattle.std.proofs.Common.{◌∙◌, refl, subst, sym}
use Rattle.summary_file.proofs.Decoding.{written_is_file}
use Rattle.shared_summaries.specs.summary_publish.Torn.{HasFront}
use Rattle.shared_summaries.proofs.summary_publish.Frames.{changes_none}
use Rattle.shared_summaries.proofs.summary_publish.Partly.{left_same, left_written}
use Rattle.shared_summaries.proofs.summary_publish.Torn.{file_front}
use Rattle.shared_summaries.proofs.summary_publish.writing.write_summary.Goals as goal

pub returns-in_err-name-clause-changes : goal.returns-in_err-name-clause-changes
returns-in_err-name-clause-changes g c = changes_none g.V.Vault c.args.area.now

pub returns-in_err-bytes-clause-changes : goal.returns-in_err-bytes-clause-changes
returns-in_err-bytes-clause-changes g c = changes_none g.V.Vault c.args.area.now

pub returns-in_err-name-clause-left : goal.returns-in_err-name-clause-left
returns-in_err-name-clause-left g c = left_same c.args.sum.now (g.V.Vault.files c.args.area.now) (g.V.Vault.files c.args.area.now) refl

pub returns-in_err-bytes-clause-left : goal.returns-in_err-bytes-clause-left
returns-in_err-bytes-clause-left g c = left_same c.args.sum.now (g.V.Vault.files c.args.area.now) (g.V.Vault.files c.args.area.now) refl

pub write_anew-requires-clause-named : goal.write_anew-requires-clause-named
write_anew-requires-clause-named g c = λ κs lives. (c.args.sum.now.start.0, c.args.sum.now.end.0, c.as_bytes.ensures ∙ c.in_ok-name.ensures)

pub write_anew-requires-clause-front : goal.write_anew-requires-clause-front
write_anew-requires-clause-front g c = λ κs lives. subst HasFront (sym (c.deref.ensures.value ∙ c.in_ok-bytes.ensures.bytes)) (file_front c.args.sum.now)

pub returns-clause-left : goal.returns-clause-left
returns-clause-left g c =
    left_written c.args.sum.now c.as_bytes.result.now c.deref.result.now (g.V.Vault.files c.args.area.now) (g.V.Vault.files c.write_anew.new.area)
    (written_is_file c.args.sum.now c.requires c.in_ok-bytes.ensures.room) (c.as_bytes.ensures ∙ c.in_ok-name.ensures) (c.deref.ensures.value ∙ c.in_ok-bytes.ensures.bytes) c.write_anew.ensures.left
