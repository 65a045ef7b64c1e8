-- Areas are synced and counted.
use Rattle.rel_files.proofs.ForkFrames.{changes_none}
use Rattle.store_restart.proofs.Settled.{counted_none, finished_all, uncounted_all}
use Rattle.store_restart.proofs.redoing.finish.Goals as goal

pub returns-in-Err-clause-changes : goal.returns-in-Err-clause-changes
returns-in-Err-clause-changes g c = record {
  data0 = changes_none g.V.Vault (λ name. ⊥) c.args.areas.data0;
  data1 = changes_none g.V.Vault (λ name. ⊥) c.args.areas.data1;
  data2 = changes_none g.V.Vault (λ name. ⊥) c.args.areas.data2;
  data3 = changes_none g.V.Vault (λ name. ⊥) c.args.areas.data3;
}

pub returns-clause-finished : goal.returns-clause-finished
returns-clause-finished g c =
    finished_all g.V.Vault c.args.relseg c.args.areas c.sync_all.new.areas c.counted.result.0 c.args.done c.in_default.ensures.synced c.in_default.ensures.changes c.counted.ensures.reads c.in-Ok.tally c.counted.result.1 c.in-Ok.is c.counted.ensures.counts

pub returns-clause-cause : goal.returns-clause-cause
returns-clause-cause g c =
    uncounted_all g.V.Vault c.args.relseg c.args.areas c.sync_all.new.areas c.counted.result.0 c.args.done c.in_default.ensures.synced c.in_default.ensures.changes c.counted.ensures.reads c.counted.result.1 c.counted.ensures.cause

pub returns-clause-changes : goal.returns-clause-changes
returns-clause-changes g c =
    counted_none g.V.Vault c.args.relseg c.args.areas c.sync_all.new.areas c.counted.result.0 c.args.done c.in_default.ensures.synced c.in_default.ensures.changes c.counted.ensures.reads
