use Rattle.std.proofs.Common.{◌≡◌, true}
use Rattle.shared_summaries.proofs.summary_publish.OfStore.{orderly_now}
use Rattle.shared_summaries.proofs.summary_publish.feed.know.Goals as goal

pub returns : goal.returns
returns g c = orderly_now (g.J.OfStore.tells ≡ true) g.J.OfCrew.settings.segment c.args.pass.now.list c.know.ensures.lawful
