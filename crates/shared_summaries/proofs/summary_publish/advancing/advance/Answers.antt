use Rattle.std.proofs.Common.{◌≡◌, true, refl, subst}
use Rattle.vault.proofs.Changed.{changes_on}
use Rattle.summary_store.specs.Expiry.{IsSummaryName}
use Rattle.shared_summaries.specs.summary_publish.Published.{AreThose, AreKnown}
use Rattle.shared_summaries.proofs.summary_publish.Adding.{looks_still}
use Rattle.shared_summaries.proofs.summary_publish.Frames.{reads_change}
use Rattle.shared_summaries.proofs.summary_publish.Going.{partly_listed}
use Rattle.shared_summaries.proofs.summary_publish.Knowing.{all_read, known_published, known_left, left_read, listed_same}
use Rattle.shared_summaries.proofs.summary_publish.advancing.advance.Goals as goal

pub advance_kept-answer-requires-clause-held : goal.advance_kept-answer-requires-clause-held
advance_kept-answer-requires-clause-held g c κs within = (listed_same (g.V.Vault.files c.args.area.now) (g.V.Vault.files c.known_or_read.new.area) c.in_ok-kept.kept.items c.in_ok-kept.ensures.reads.files c.in_ok-kept.ensures.listed).held

pub advance_kept-answer-requires-clause-order : goal.advance_kept-answer-requires-clause-order
advance_kept-answer-requires-clause-order g c κs within = c.in_ok-kept.ensures.listed.order

pub returns-clause-published : goal.returns-clause-published
returns-clause-published g c =
    let told = g.J.OfStore.tells ≡ true in
    let those : AreKnown (g.V.Vault.files c.args.area.now) c.args.known.now c.in_ok-kept.kept.items = subst (AreThose (g.V.Vault.files c.args.area.now) c.in_ok-kept.kept.items) c.take.ensures.value c.in_ok-kept.ensures.those in
    known_published g.V.Vault told c.advance_kept-answer.new.pass.list c.args.when c.args.limit c.args.area.now c.advance_kept-answer.new.area c.args.known.now _ c.in_ok-kept.kept.items c.advance_kept-answer.new.kept.items c.advance_kept-answer.result those c.in_ok-kept.ensures.listed refl
    (all_read g.V.Vault told c.advance_kept-answer.new.pass.list c.args.when c.args.limit c.args.area.now c.known_or_read.new.area c.advance_kept-answer.new.area c.in_ok-kept.kept.items c.advance_kept-answer.new.kept.items c.advance_kept-answer.result c.in_ok-kept.ensures.reads c.advance_kept-answer.ensures.published)

pub returns-clause-left : goal.returns-clause-left
returns-clause-left g c =
    let told = g.J.OfStore.tells ≡ true in
    let those : AreKnown (g.V.Vault.files c.args.area.now) c.args.known.now c.in_ok-kept.kept.items = subst (AreThose (g.V.Vault.files c.args.area.now) c.in_ok-kept.kept.items) c.take.ensures.value c.in_ok-kept.ensures.those in
    known_left told c.advance_kept-answer.new.pass.list c.args.when c.args.limit (g.V.Vault.files c.args.area.now) (g.V.Vault.files c.advance_kept-answer.new.area) c.args.known.now _ c.in_ok-kept.kept.items c.advance_kept-answer.new.kept.items those c.in_ok-kept.ensures.listed refl
    (left_read told c.advance_kept-answer.new.pass.list c.args.when c.args.limit (g.V.Vault.files c.args.area.now) (g.V.Vault.files c.known_or_read.new.area) (g.V.Vault.files c.advance_kept-answer.new.area) c.in_ok-kept.kept.items c.advance_kept-answer.new.kept.items c.in_ok-kept.ensures.reads.files c.advance_kept-answer.ensures.left)

pub returns-clause-known : goal.returns-clause-known
returns-clause-known g c =
    let told = g.J.OfStore.tells ≡ true in
    record {
      at = c.advance_kept-answer.ensures.place;
      kept = partly_listed told c.advance_kept-answer.new.pass.list c.args.when c.args.limit (g.V.Vault.files c.known_or_read.new.area) (g.V.Vault.files c.advance_kept-answer.new.area) c.in_ok-kept.kept.items c.advance_kept-answer.new.kept.items c.advance_kept-answer.ensures.left
          (listed_same (g.V.Vault.files c.args.area.now) (g.V.Vault.files c.known_or_read.new.area) c.in_ok-kept.kept.items c.in_ok-kept.ensures.reads.files c.in_ok-kept.ensures.listed);
    }

pub returns-clause-changes : goal.returns-clause-changes
returns-clause-changes g c = changes_on g.V.Vault IsSummaryName c.args.area.now c.known_or_read.new.area c.advance_kept-answer.new.area (reads_change g.V.Vault c.args.area.now c.known_or_read.new.area c.known_or_read.ensures.reads) c.advance_kept-answer.ensures.changes

-- ---- what is kept couldn't be read

pub returns-in_err-kept-clause-looks : goal.returns-in_err-kept-clause-looks
returns-in_err-kept-clause-looks g c = looks_still c.args.pass.now

pub returns-in_err-kept-clause-changes : goal.returns-in_err-kept-clause-changes
returns-in_err-kept-clause-changes g c = reads_change g.V.Vault c.args.area.now c.known_or_read.new.area c.known_or_read.ensures.reads
