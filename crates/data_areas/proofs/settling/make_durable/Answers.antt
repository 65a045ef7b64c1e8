-- Synced areas hold what they did; then the first one has no mark.
use Rattle.std.proofs.Common.{inr}
use Rattle.data_areas.proofs.Settled.{settled_of, unmarked_of, ended_of, others_rebuilt}
use Rattle.vault.specs.Frame.{IsAmong}
use Rattle.data_areas.specs.Marking.{IsMark}
use Rattle.data_areas.proofs.Moments.{goes_on, goes_further}
use Rattle.data_areas.proofs.settling.make_durable.Goals as goal

pub returns-in-Ok-clause-settled : goal.returns-in-Ok-clause-settled
returns-in-Ok-clause-settled g c =
    let v = g.V.Vault in
    let relseg = c.args.relseg in
    let old = c.args.areas.now in
    let mid = c.sync_all.new.areas in
    let synced = c.in_ok-sync_all.ensures.synced in
    let filled = c.requires.filled in
    record {
      data0 = unmarked_of v relseg old.data0 mid.data0 c.unmark_rebuilding.new.area filled.data0 synced.data0 c.in-Ok.ensures.changes c.in-Ok.ensures.gone c.in-Ok.ensures.settled;
      data1 = settled_of v relseg old.data1 mid.data1 filled.data1 synced.data1;
      data2 = settled_of v relseg old.data2 mid.data2 filled.data2 synced.data2;
      data3 = settled_of v relseg old.data3 mid.data3 filled.data3 synced.data3;
    }

pub returns-in-Ok-clause-ended : goal.returns-in-Ok-clause-ended
returns-in-Ok-clause-ended g c =
    ended_of g.V.Vault c.args.relseg c.args.areas.now.data0 c.sync_all.new.areas.data0 c.unmark_rebuilding.new.area c.requires.relseg.least c.requires.filled.data0 c.in_ok-sync_all.ensures.synced.data0 c.in-Ok.ensures.changes

pub returns-in-Err-clause-so_far : goal.returns-in-Err-clause-so_far
returns-in-Err-clause-so_far g c =
    let v = g.V.Vault in
    let relseg = c.args.relseg in
    let old = c.args.areas.now in
    let mid = c.sync_all.new.areas in
    let synced = c.in_ok-sync_all.ensures.synced in
    let filled = c.requires.filled in
    inr (
      others_rebuilt v relseg old _ c.requires.relseg.least (settled_of v relseg old.data1 mid.data1 filled.data1 synced.data1) (settled_of v relseg old.data2 mid.data2 filled.data2 synced.data2)
          (settled_of v relseg old.data3 mid.data3 filled.data3 synced.data3),
      ended_of v relseg old.data0 mid.data0 c.unmark_rebuilding.new.area c.requires.relseg.least filled.data0 synced.data0 c.in-Err.ensures.changes,
    )

pub returns-in-Ok-clause-go_on : goal.returns-in-Ok-clause-go_on
returns-in-Ok-clause-go_on g c =
    let p = g.V.Vault.past in
    let on = c.sync_all.ensures.go_on in
    record {
      data0 = goes_further (p c.args.areas.now.data0) (p c.sync_all.new.areas.data0) (p c.unmark_rebuilding.new.area) on.data0
          (goes_on (IsAmong IsMark) (p c.sync_all.new.areas.data0) (p c.unmark_rebuilding.new.area) c.unmark_rebuilding.ensures.changes.past);
      data1 = on.data1;
      data2 = on.data2;
      data3 = on.data3;
    }

pub returns-in-Err-clause-go_on : goal.returns-in-Err-clause-go_on
returns-in-Err-clause-go_on g c =
    let p = g.V.Vault.past in
    let on = c.sync_all.ensures.go_on in
    record {
      data0 = goes_further (p c.args.areas.now.data0) (p c.sync_all.new.areas.data0) (p c.unmark_rebuilding.new.area) on.data0
          (goes_on (IsAmong IsMark) (p c.sync_all.new.areas.data0) (p c.unmark_rebuilding.new.area) c.unmark_rebuilding.ensures.changes.past);
      data1 = on.data1;
      data2 = on.data2;
      data3 = on.data3;
    }
