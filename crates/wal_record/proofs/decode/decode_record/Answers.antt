use Rattle.wal_record.proofs.Sounding.{answer_sound}
use Rattle.wal_record.proofs.decode.decode_record.Goals as goal

pub returns-clause-sound : goal.returns-clause-sound
returns-clause-sound c = answer_sound c.args.place c.args.prev c.summed_front.result.now (c.in-Some.header, c.in-Some.body.now) c.record_of.result c.record_of.ensures
