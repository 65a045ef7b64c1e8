-- All are synced, and then the mark is removed.
use Rattle.std.proofs.Common.{inr, refl}
use Rattle.store_restart.proofs.Settled.{synced_durable, synced_hold, unmarked_hold, unmarked_change}
use Rattle.store_restart.proofs.Filled.{none_change}
use Rattle.store_restart.proofs.rebuilding.settle_marked.Goals as goal

pub returns-clause-held : goal.returns-clause-held
returns-clause-held g c relseg store holds =
    unmarked_hold g.V.Vault c.sync_all.new.areas c.unmark_rebuilding.new.area c.in_default.ensures.changes relseg store
    (synced_hold g.V.Vault c.args.areas.now c.sync_all.new.areas c.in_ok-sync_all.ensures.changes relseg store holds)

pub returns-clause-changes : goal.returns-clause-changes
returns-clause-changes g c =
    unmarked_change g.V.Vault c.args.areas.now c.sync_all.new.areas c.unmark_rebuilding.new.area c.in_ok-sync_all.ensures.changes c.in_default.ensures.changes

pub returns-in-Err-clause-changes : goal.returns-in-Err-clause-changes
returns-in-Err-clause-changes g c =
    unmarked_change g.V.Vault c.args.areas.now c.sync_all.new.areas c.unmark_rebuilding.new.area c.in_ok-sync_all.ensures.changes c.in-Err.ensures.changes

pub returns-in_err-sync_all-clause-changes : goal.returns-in_err-sync_all-clause-changes
returns-in_err-sync_all-clause-changes g c = none_change g.V.Vault c.args.areas.now c.sync_all.new.areas c.in_err-sync_all.ensures.changes

pub returns-clause-moments : goal.returns-clause-moments
returns-clause-moments g c = inr (record {
  mid = c.sync_all.new.areas;
  none = c.in_ok-sync_all.ensures.changes;
  durable = synced_durable g.V.Vault c.args.areas.now c.sync_all.new.areas c.in_ok-sync_all.ensures.synced;
  data0 = c.in_default.ensures.changes;
  data1 = refl;
  data2 = refl;
  data3 = refl;
})

pub returns-in-Err-clause-moments : goal.returns-in-Err-clause-moments
returns-in-Err-clause-moments g c = inr (record {
  mid = c.sync_all.new.areas;
  none = c.in_ok-sync_all.ensures.changes;
  durable = synced_durable g.V.Vault c.args.areas.now c.sync_all.new.areas c.in_ok-sync_all.ensures.synced;
  data0 = c.in-Err.ensures.changes;
  data1 = refl;
  data2 = refl;
  data3 = refl;
})
