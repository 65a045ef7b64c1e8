use Rattle.std.proofs.Common.{◌≡◌, true}
use Rattle.shared_store.proofs.Booked.{takes_stays}
use Rattle.shared_summaries.proofs.summary_publish.OfLog.{store_records, end_rise}
use Rattle.shared_summaries.proofs.summary_publish.OfStore.{orderly_now}
use Rattle.shared_summaries.proofs.summary_publish.Adding.{ok_on, read_takes}
use Rattle.shared_summaries.proofs.summary_publish.feed.records_from.Goals as goal

pub returns-clause-records : goal.returns-clause-records
returns-clause-records g c = λ told. ok_on c.records-answer.result _ _ (λ v has. store_records g.J.OfCrew.settings c.records-answer.new.pass.list c.args.from.0 c.args.most v.items has) (c.records-answer.ensures.records told)

pub returns-clause-rise : goal.returns-clause-rise
returns-clause-rise g c = ok_on c.records-answer.result _ _ (λ v some. end_rise g.J.OfCrew.settings.segment c.args.from.0 v.items some.1) c.records-answer.ensures.some

pub returns-clause-orderly : goal.returns-clause-orderly
returns-clause-orderly g c = orderly_now (g.J.OfStore.tells ≡ true) g.J.OfCrew.settings.segment c.records-answer.new.pass.list c.know.ensures.lawful

pub returns-clause-looks : goal.returns-clause-looks
returns-clause-looks g c = record { seen = c.records-answer.ensures.seen.seen; worker = c.records-answer.ensures.seen.worker; accepted = c.records-answer.ensures.accepted; marks = c.records-answer.ensures.marks; shares = takes_stays c.args.pass.now c.records-answer.new.pass c.records-answer.result c.records-answer.ensures.faults }

pub returns-clause-faults : goal.returns-clause-faults
returns-clause-faults g c = read_takes c.args.pass.now c.records-answer.new.pass c.records-answer.result c.records-answer.ensures.wal c.records-answer.ensures.faults
