-- The entry and its bytes are those that the end expects.
use Rattle.wal_writer.proofs.Ready.{added}
use Rattle.wal_writer.proofs.tail.Tail.add.Goals as goal

pub returns : goal.returns
returns c =
    added c.self.inside.layout c.self.inside.flushed c.self.inside.touched c.self.inside.tip
    c.tip_after-self-inside.result c.self.inside.pending.items
    c.extend_from_slice.new.self.items c.bytes.result.now c.args.self.now c.args.entry
    c.into_record.result c.record.result.now
    c.self.view_is c.requires c.into_record.ensures c.record.ensures c.bytes.ensures
    c.tip_after-self-inside.ensures c.in_ok-extend_from_slice.ensures.items
