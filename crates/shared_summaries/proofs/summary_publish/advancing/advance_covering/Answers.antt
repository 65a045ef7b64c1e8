use Rattle.std.proofs.Common.{◌≡◌, true, Ok, Err, subst}
use Rattle.wal_summary.specs.Kept.{CoverAnswers}
use Rattle.shared_summaries.proofs.summary_publish.Adding.{covered, uncovered, now_known}
use Rattle.shared_summaries.proofs.summary_publish.advancing.advance_covering.Goals as goal

pub returns-in-Ok-clause-covers : goal.returns-in-Ok-clause-covers
returns-in-Ok-clause-covers g c =
    let a = c.in_default.ensures.published in
    covered g.V.Vault (g.J.OfStore.tells ≡ true) c.advance.new.pass.list c.args.when c.args.limit c.args.from.0 c.args.to.0 c.in_default.field-0 c.args.area.now c.advance.new.area c.args.known.now c.advance.new.known c.in-Some.kept.items c.in-Ok.sum
    a (now_known c.advance.new.known c.in-Some.kept a.now c.in-Some.is a.known_now)
    (subst (λ l. CoverAnswers l c.args.from.0 c.args.to.0 (Ok c.in-Ok.sum)) c.deref.ensures.value c.in-Ok.ensures)

pub returns-in-Err-covering-clause-covers : goal.returns-in-Err-covering-clause-covers
returns-in-Err-covering-clause-covers g c =
    let a = c.in_default.ensures.published in
    uncovered g.V.Vault (g.J.OfStore.tells ≡ true) c.advance.new.pass.list c.args.when c.args.limit c.args.from.0 c.args.to.0 c.in_default.field-0 c.args.area.now c.advance.new.area c.args.known.now c.advance.new.known c.in-Some.kept.items c.in-Err-covering.fault c.cover_fault.result
    c.cover_fault.ensures a (now_known c.advance.new.known c.in-Some.kept a.now c.in-Some.is a.known_now)
    (subst (λ l. CoverAnswers l c.args.from.0 c.args.to.0 (Err c.in-Err-covering.fault)) c.deref.ensures.value c.in-Err-covering.ensures)
