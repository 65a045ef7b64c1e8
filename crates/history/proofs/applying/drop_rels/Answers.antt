use Rattle.std.proofs.Common.{rules}
use Rattle.history.proofs.Histories.{drop_more_rels}
use Rattle.history.proofs.applying.drop_rels.Goals as goal

pub loop-rel-preserved : goal.loop-rel-preserved
loop-rel-preserved c =
    drop_more_rels c.loop-rel.store c.drop_rel.new.store c.args.store.now c.args.rels.now c.loop-rel.rel-index c.rel-item.result c.loop-rel-test.true c.rel-item.is c.drop_rel.ensures c.loop-rel.invariant
