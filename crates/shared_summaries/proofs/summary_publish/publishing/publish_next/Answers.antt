use Rattle.std.proofs.Common.{◌≡◌, true, IfSome, refl, subst}
use Rattle.shared_summaries.specs.summary_publish.Published.{CanFollow}
use Rattle.shared_summaries.specs.summary_publish.Inside.{NextAnswer}
use Rattle.shared_summaries.proofs.summary_publish.Ranges.{can_go_on}
use Rattle.shared_summaries.proofs.summary_publish.Frames.{changes_none}
use Rattle.shared_summaries.proofs.summary_publish.Partly.{next_none, next_one}
use Rattle.shared_summaries.proofs.summary_publish.publishing.publish_next.Goals as goal

pub returns-in-Ok-clause-start : goal.returns-in-Ok-clause-start
returns-in-Ok-clause-start g c = λ told. can_go_on c.next_range.new.pass.list c.args.when c.args.from.0 c.in-Some.sum (subst (NextAnswer c.next_range.new.pass.list c.args.when c.args.from.0) c.in-Some.is (c.in_ok-sum.ensures.found told))

pub returns-in-Ok-clause-place : goal.returns-in-Ok-clause-place
returns-in-Ok-clause-place g c = λ told. (can_go_on c.next_range.new.pass.list c.args.when c.args.from.0 c.in-Some.sum (subst (NextAnswer c.next_range.new.pass.list c.args.when c.args.from.0) c.in-Some.is (c.in_ok-sum.ensures.found told))).place

pub returns-in-Ok-clause-left : goal.returns-in-Ok-clause-left
returns-in-Ok-clause-left g c =
    next_one (g.J.OfStore.tells ≡ true) c.next_range.new.pass.list c.args.when c.args.from.0 c.in-Some.sum (g.V.Vault.files c.args.area.now) (g.V.Vault.files c.write_summary.new.area)
    (subst (λ o. IfSome o (CanFollow c.args.from.0)) c.in-Some.is c.in_ok-sum.ensures.written) (λ told. subst (NextAnswer c.next_range.new.pass.list c.args.when c.args.from.0) c.in-Some.is (c.in_ok-sum.ensures.found told)) c.in-Ok.ensures.left

pub returns-in_err-sum-clause-left : goal.returns-in_err-sum-clause-left
returns-in_err-sum-clause-left g c = next_none (g.J.OfStore.tells ≡ true) c.next_range.new.pass.list c.args.when c.args.from.0 (g.V.Vault.files c.args.area.now) (g.V.Vault.files c.args.area.now) refl

pub returns-in_default-clause-left : goal.returns-in_default-clause-left
returns-in_default-clause-left g c = next_none (g.J.OfStore.tells ≡ true) c.next_range.new.pass.list c.args.when c.args.from.0 (g.V.Vault.files c.args.area.now) (g.V.Vault.files c.args.area.now) refl

pub returns-in_err-sum-clause-changes : goal.returns-in_err-sum-clause-changes
returns-in_err-sum-clause-changes g c = changes_none g.V.Vault c.args.area.now

pub returns-in_default-clause-changes : goal.returns-in_default-clause-changes
returns-in_default-clause-changes g c = changes_none g.V.Vault c.args.area.now
