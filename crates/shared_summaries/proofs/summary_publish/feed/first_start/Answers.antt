use Rattle.std.proofs.Common.{◌*◌, ◌∙◌, ap}
use Rattle.wal_pages.specs.Places.{start_after}
use Rattle.shared_summaries.proofs.summary_publish.OfStore.{first_of}
use Rattle.shared_summaries.proofs.summary_publish.feed.first_start.Goals as goal

pub returns-clause-first : goal.returns-clause-first
returns-clause-first g c = λ told. (first_of g.J.OfCrew.settings.segment c.start_after.result.0 c.args.pass.now.list (c.know.ensures.lawful told)
    (c.start_after.ensures ∙ ap (λ s. start_after s.segment c.bytes.result) (c.new.ensures ∙ c.settings-settings.ensures)
    ∙ ap (start_after g.J.OfCrew.settings.segment) (c.bytes.ensures.bytes ∙ ap (λ n. n * 1048576) (c.segment.ensures.value ∙ ap (λ s. s.segment) c.settings-settings.ensures)))).first

pub returns-clause-place : goal.returns-clause-place
returns-clause-place g c = λ told. (first_of g.J.OfCrew.settings.segment c.start_after.result.0 c.args.pass.now.list (c.know.ensures.lawful told)
    (c.start_after.ensures ∙ ap (λ s. start_after s.segment c.bytes.result) (c.new.ensures ∙ c.settings-settings.ensures)
    ∙ ap (start_after g.J.OfCrew.settings.segment) (c.bytes.ensures.bytes ∙ ap (λ n. n * 1048576) (c.segment.ensures.value ∙ ap (λ s. s.segment) c.settings-settings.ensures)))).there
