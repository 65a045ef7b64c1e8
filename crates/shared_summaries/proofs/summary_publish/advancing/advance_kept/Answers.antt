use Rattle.std.proofs.Common.{◌≡◌, true, sym, ap, subst, ◌∙◌}
use Rattle.vault.proofs.Changed.{changes_on}
use Rattle.summary_store.specs.Kept.{end_behind}
use Rattle.summary_store.specs.Expiry.{IsSummaryName}
use Rattle.shared_summaries.specs.summary_publish.Entries.{first_start}
use Rattle.shared_summaries.specs.summary_publish.Inside.{CanStart}
use Rattle.shared_summaries.proofs.summary_publish.Later.{prefix_self, first_later}
use Rattle.shared_summaries.proofs.summary_publish.Partly.{partly_published, partly_expired, all_advanced}
use Rattle.shared_summaries.proofs.summary_publish.Ranges.{start_from}
use Rattle.shared_summaries.proofs.summary_publish.advancing.advance_kept.Goals as goal

pub publish-requires-clause-start : goal.publish-requires-clause-start
publish-requires-clause-start g c κs within told =
    let h = c.args.pass.now.list in
    let first = c.first_start-first.result in
    subst (λ n. CanStart h n c.move_back.new.known.0) (c.end_behind.ensures ∙ ap (end_behind first.0) c.deref.ensures.value)
    (start_from h h c.args.place.now c.move_back.new.known c.end_behind.result first (c.requires.orderly told) (prefix_self h) (c.requires.place told)
    (c.first_start-first.ensures.first told) (c.first_start-first.ensures.place told) c.move_back.ensures)

pub returns-in_err-count-clause-left : goal.returns-in_err-count-clause-left
returns-in_err-count-clause-left g c =
    let told = g.J.OfStore.tells ≡ true in
    let first : told → c.first_start-first.result.0 ≡ first_start c.publish.new.pass.list =
    λ t. c.first_start-first.ensures.first t ∙ sym (first_later c.first_start-first.result.0 c.args.pass.now.list c.publish.new.pass.list c.publish.ensures.looks.seen (c.first_start-first.ensures.place t)) in
    partly_published told c.publish.new.pass.list c.args.when c.args.limit c.first_start-first.result.0 (g.V.Vault.files c.args.area.now) (g.V.Vault.files c.publish.new.area) c.args.kept.now.items c.publish.new.kept.items first c.publish.ensures.left

pub returns-in_err-expire_old-clause-left : goal.returns-in_err-expire_old-clause-left
returns-in_err-expire_old-clause-left g c =
    let told = g.J.OfStore.tells ≡ true in
    let first : told → c.first_start-first.result.0 ≡ first_start c.publish.new.pass.list =
    λ t. c.first_start-first.ensures.first t ∙ sym (first_later c.first_start-first.result.0 c.args.pass.now.list c.publish.new.pass.list c.publish.ensures.looks.seen (c.first_start-first.ensures.place t)) in
    partly_expired g.V.Vault told c.publish.new.pass.list c.args.when c.args.limit c.first_start-first.result.0 c.args.area.now c.publish.new.area c.expire_old.new.area c.args.kept.now.items c.publish.new.kept.items c.expire_old.new.kept.items c.in_ok-count.count first c.in_ok-count.ensures.published c.expire_old.ensures.left

pub returns-clause-left : goal.returns-clause-left
returns-clause-left g c =
    let told = g.J.OfStore.tells ≡ true in
    let first : told → c.first_start-first.result.0 ≡ first_start c.publish.new.pass.list =
    λ t. c.first_start-first.ensures.first t ∙ sym (first_later c.first_start-first.result.0 c.args.pass.now.list c.publish.new.pass.list c.publish.ensures.looks.seen (c.first_start-first.ensures.place t)) in
    partly_expired g.V.Vault told c.publish.new.pass.list c.args.when c.args.limit c.first_start-first.result.0 c.args.area.now c.publish.new.area c.expire_old.new.area c.args.kept.now.items c.publish.new.kept.items c.expire_old.new.kept.items c.in_ok-count.count first c.in_ok-count.ensures.published c.expire_old.ensures.left

pub returns-clause-published : goal.returns-clause-published
returns-clause-published g c =
    let told = g.J.OfStore.tells ≡ true in
    let first : told → c.first_start-first.result.0 ≡ first_start c.publish.new.pass.list =
    λ t. c.first_start-first.ensures.first t ∙ sym (first_later c.first_start-first.result.0 c.args.pass.now.list c.publish.new.pass.list c.publish.ensures.looks.seen (c.first_start-first.ensures.place t)) in
    let e = c.in_ok-expire_old.ensures.expired in
    all_advanced g.V.Vault told c.publish.new.pass.list c.args.when c.args.limit c.first_start-first.result.0 c.args.area.now c.publish.new.area c.expire_old.new.area c.args.kept.now.items c.publish.new.kept.items c.expire_old.new.kept.items c.in_ok-count.count e.0 first c.requires.held c.in_ok-count.ensures.published e.1
    (c.in_ok-expire_old.ensures.durable c.in_ok-count.ensures.published.durable)

pub returns-in_err-expire_old-clause-changes : goal.returns-in_err-expire_old-clause-changes
returns-in_err-expire_old-clause-changes g c = changes_on g.V.Vault IsSummaryName c.args.area.now c.publish.new.area c.expire_old.new.area c.publish.ensures.changes c.expire_old.ensures.changes

pub returns-clause-changes : goal.returns-clause-changes
returns-clause-changes g c = changes_on g.V.Vault IsSummaryName c.args.area.now c.publish.new.area c.expire_old.new.area c.publish.ensures.changes c.expire_old.ensures.changes
