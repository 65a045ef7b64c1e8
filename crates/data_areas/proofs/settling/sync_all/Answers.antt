-- Each area is synced as it is.
use Rattle.data_areas.proofs.Settled.{synced_of, adds_others}
use Rattle.data_areas.proofs.Moments.{sync_goes_on, stays}
use Rattle.std.proofs.Common.{refl}
use Rattle.data_areas.proofs.settling.sync_all.Goals as goal

pub returns-in-Err-sync-clause-others : goal.returns-in-Err-sync-clause-others
returns-in-Err-sync-clause-others g c = adds_others g.V.Vault c.args.areas.now.data0 c.sync.new.self c.sync.result c.sync.ensures.noted c.sync.ensures.tried

pub returns-in-Err-sync-2-clause-others : goal.returns-in-Err-sync-2-clause-others
returns-in-Err-sync-2-clause-others g c = adds_others g.V.Vault c.args.areas.now.data0 c.sync.new.self c.sync.result c.sync.ensures.noted c.sync.ensures.tried

pub returns-in-Err-sync-3-clause-others : goal.returns-in-Err-sync-3-clause-others
returns-in-Err-sync-3-clause-others g c = adds_others g.V.Vault c.args.areas.now.data0 c.sync.new.self c.sync.result c.sync.ensures.noted c.sync.ensures.tried

pub returns-clause-others : goal.returns-clause-others
returns-clause-others g c = adds_others g.V.Vault c.args.areas.now.data0 c.sync.new.self c.sync.result c.sync.ensures.noted c.sync.ensures.tried

pub returns-clause-synced : goal.returns-clause-synced
returns-clause-synced g c =
    let s0 = c.in_default.ensures in
    let s1 = c.in_default-sync.ensures in
    let s2 = c.in_default-sync-2.ensures in
    let s3 = c.in_default-sync-3.ensures in
    record {
      data0 = synced_of g.V.Vault c.args.areas.now.data0 c.sync.new.self s0.same s0.noted s0.cause.later;
      data1 = synced_of g.V.Vault c.args.areas.now.data1 c.sync-2.new.self s1.same s1.noted s1.cause.later;
      data2 = synced_of g.V.Vault c.args.areas.now.data2 c.sync-3.new.self s2.same s2.noted s2.cause.later;
      data3 = synced_of g.V.Vault c.args.areas.now.data3 c.sync-4.new.self s3.same s3.noted s3.cause.later;
    }

pub returns-in-Err-clause-go_on : goal.returns-in-Err-clause-go_on
returns-in-Err-clause-go_on g c =
    record {
      data0 = sync_goes_on (g.V.Vault.files c.args.areas.now.data0) (g.V.Vault.past c.args.areas.now.data0) (g.V.Vault.past c.sync.new.self) c.sync.result c.sync.ensures.noted c.sync.ensures.tried;
      data1 = stays (g.V.Vault.past c.args.areas.now.data1) (g.V.Vault.past c.args.areas.now.data1) refl;
      data2 = stays (g.V.Vault.past c.args.areas.now.data2) (g.V.Vault.past c.args.areas.now.data2) refl;
      data3 = stays (g.V.Vault.past c.args.areas.now.data3) (g.V.Vault.past c.args.areas.now.data3) refl;
    }

pub returns-in-Err-sync-clause-go_on : goal.returns-in-Err-sync-clause-go_on
returns-in-Err-sync-clause-go_on g c =
    record {
      data0 = sync_goes_on (g.V.Vault.files c.args.areas.now.data0) (g.V.Vault.past c.args.areas.now.data0) (g.V.Vault.past c.sync.new.self) c.sync.result c.sync.ensures.noted c.sync.ensures.tried;
      data1 = sync_goes_on (g.V.Vault.files c.args.areas.now.data1) (g.V.Vault.past c.args.areas.now.data1) (g.V.Vault.past c.sync-2.new.self) c.sync-2.result c.sync-2.ensures.noted c.sync-2.ensures.tried;
      data2 = stays (g.V.Vault.past c.args.areas.now.data2) (g.V.Vault.past c.args.areas.now.data2) refl;
      data3 = stays (g.V.Vault.past c.args.areas.now.data3) (g.V.Vault.past c.args.areas.now.data3) refl;
    }

pub returns-in-Err-sync-2-clause-go_on : goal.returns-in-Err-sync-2-clause-go_on
returns-in-Err-sync-2-clause-go_on g c =
    record {
      data0 = sync_goes_on (g.V.Vault.files c.args.areas.now.data0) (g.V.Vault.past c.args.areas.now.data0) (g.V.Vault.past c.sync.new.self) c.sync.result c.sync.ensures.noted c.sync.ensures.tried;
      data1 = sync_goes_on (g.V.Vault.files c.args.areas.now.data1) (g.V.Vault.past c.args.areas.now.data1) (g.V.Vault.past c.sync-2.new.self) c.sync-2.result c.sync-2.ensures.noted c.sync-2.ensures.tried;
      data2 = sync_goes_on (g.V.Vault.files c.args.areas.now.data2) (g.V.Vault.past c.args.areas.now.data2) (g.V.Vault.past c.sync-3.new.self) c.sync-3.result c.sync-3.ensures.noted c.sync-3.ensures.tried;
      data3 = stays (g.V.Vault.past c.args.areas.now.data3) (g.V.Vault.past c.args.areas.now.data3) refl;
    }

pub returns-in-Err-sync-3-clause-go_on : goal.returns-in-Err-sync-3-clause-go_on
returns-in-Err-sync-3-clause-go_on g c =
    record {
      data0 = sync_goes_on (g.V.Vault.files c.args.areas.now.data0) (g.V.Vault.past c.args.areas.now.data0) (g.V.Vault.past c.sync.new.self) c.sync.result c.sync.ensures.noted c.sync.ensures.tried;
      data1 = sync_goes_on (g.V.Vault.files c.args.areas.now.data1) (g.V.Vault.past c.args.areas.now.data1) (g.V.Vault.past c.sync-2.new.self) c.sync-2.result c.sync-2.ensures.noted c.sync-2.ensures.tried;
      data2 = sync_goes_on (g.V.Vault.files c.args.areas.now.data2) (g.V.Vault.past c.args.areas.now.data2) (g.V.Vault.past c.sync-3.new.self) c.sync-3.result c.sync-3.ensures.noted c.sync-3.ensures.tried;
      data3 = sync_goes_on (g.V.Vault.files c.args.areas.now.data3) (g.V.Vault.past c.args.areas.now.data3) (g.V.Vault.past c.sync-4.new.self) c.sync-4.result c.sync-4.ensures.noted c.sync-4.ensures.tried;
    }

pub returns-clause-go_on : goal.returns-clause-go_on
returns-clause-go_on g c =
    record {
      data0 = sync_goes_on (g.V.Vault.files c.args.areas.now.data0) (g.V.Vault.past c.args.areas.now.data0) (g.V.Vault.past c.sync.new.self) c.sync.result c.sync.ensures.noted c.sync.ensures.tried;
      data1 = sync_goes_on (g.V.Vault.files c.args.areas.now.data1) (g.V.Vault.past c.args.areas.now.data1) (g.V.Vault.past c.sync-2.new.self) c.sync-2.result c.sync-2.ensures.noted c.sync-2.ensures.tried;
      data2 = sync_goes_on (g.V.Vault.files c.args.areas.now.data2) (g.V.Vault.past c.args.areas.now.data2) (g.V.Vault.past c.sync-3.new.self) c.sync-3.result c.sync-3.ensures.noted c.sync-3.ensures.tried;
      data3 = sync_goes_on (g.V.Vault.files c.args.areas.now.data3) (g.V.Vault.past c.args.areas.now.data3) (g.V.Vault.past c.sync-4.new.self) c.sync-4.result c.sync-4.ensures.noted c.sync-4.ensures.tried;
    }
