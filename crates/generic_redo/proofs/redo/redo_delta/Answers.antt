-- A delta of a page that was read: it is passed over, refused, or applied.
use Rattle.std.proofs.Common.{List, arith, sym, ap, ◌∙◌}
use Rattle.pg_page.specs.Frags.{Fragment, written_frags, patched, is_good}
use Rattle.generic_redo.proofs.Deltas.{is_read, delta_passed, delta_refused, delta_applied}
use Rattle.generic_redo.proofs.redo.redo_delta.Goals as goal

pub returns-then-end-lsn_of-clause-done : goal.returns-then-end-lsn_of-clause-done
returns-then-end-lsn_of-clause-done g c =
    delta_passed g.P.Pages.shows c.args.target.now c.read_block.new.self c.args.at.now c.args.frags.now c.args.end.0 c.read_block.new.into
    (is_read g.P.Pages.shows c.args.target.now c.read_block.new.self c.args.at.now c.zero_page-page.result c.read_block.new.into c.in_ok-read_block.field-0 c.zero_page-page.ensures c.in_ok-read_block.ensures.read c.in_ok-read_block.ensures.same)
    c.requires.end (omega (arith, c.lsn_of.ensures))

pub returns-then-not-patch-clause-bad : goal.returns-then-not-patch-clause-bad
returns-then-not-patch-clause-bad g c = λ bad.
    delta_refused g.P.Pages.shows c.args.target.now c.read_block.new.self c.args.at.now c.args.frags.now c.args.end.0 c.read_block.new.into
    (is_read g.P.Pages.shows c.args.target.now c.read_block.new.self c.args.at.now c.zero_page-page.result c.read_block.new.into c.in_ok-read_block.field-0 c.zero_page-page.ensures c.in_ok-read_block.ensures.read c.in_ok-read_block.ensures.same)
    (omega (arith, c.lsn_of.ensures))
    (sym (c.if-not-patch.ensures.good ∙ ap (λ (fs : List Fragment). is_good (written_frags fs c.read_block.new.into)) c.as_slice.ensures))

pub returns-clause-done : goal.returns-clause-done
returns-clause-done g c =
    delta_applied g.P.Pages.shows c.args.target.now c.read_block.new.self c.write_block.new.self c.args.at.now c.args.frags.now c.args.end.0 c.read_block.new.into c.patch.new.bytes
    (is_read g.P.Pages.shows c.args.target.now c.read_block.new.self c.args.at.now c.zero_page-page.result c.read_block.new.into c.in_ok-read_block.field-0 c.zero_page-page.ensures c.in_ok-read_block.ensures.read c.in_ok-read_block.ensures.same)
    (omega (arith, c.lsn_of.ensures))
    (sym (c.if-not-patch.ensures.good ∙ ap (λ (fs : List Fragment). is_good (written_frags fs c.read_block.new.into)) c.as_slice.ensures))
    (c.if-not-patch.ensures.bytes ∙ ap (λ (fs : List Fragment). patched fs c.args.end.0 c.read_block.new.into) c.as_slice.ensures)
    c.in_ok-write_block.ensures.written
