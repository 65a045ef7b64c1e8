-- Each area is synced as it is.
use Rattle.rel_files.proofs.ForkFrames.{changes_none}
use Rattle.data_areas.proofs.Marks.{sync_changes}
use Rattle.data_areas.proofs.Settled.{synced_of}
use Rattle.restart_areas.proofs.calls.sync_all.Goals as goal

pub returns-in-Err-sync-clause-changes : goal.returns-in-Err-sync-clause-changes
returns-in-Err-sync-clause-changes g c =
    let v = g.V.Vault in
    let old = c.args.areas.now in
    let s0 = c.sync.ensures in
    let s1 = c.sync-2.ensures in
    record {
      data0 = sync_changes v (λ name. ⊥) old.data0 c.sync.new.self c.sync.result s0.same s0.noted s0.tried s0.cause.later;
      data1 = sync_changes v (λ name. ⊥) old.data1 c.sync-2.new.self c.sync-2.result s1.same s1.noted s1.tried s1.cause.later;
      data2 = changes_none v (λ name. ⊥) old.data2;
      data3 = changes_none v (λ name. ⊥) old.data3;
    }

pub returns-in-Err-sync-2-clause-changes : goal.returns-in-Err-sync-2-clause-changes
returns-in-Err-sync-2-clause-changes g c =
    let v = g.V.Vault in
    let old = c.args.areas.now in
    let s0 = c.sync.ensures in
    let s1 = c.sync-2.ensures in
    let s2 = c.sync-3.ensures in
    record {
      data0 = sync_changes v (λ name. ⊥) old.data0 c.sync.new.self c.sync.result s0.same s0.noted s0.tried s0.cause.later;
      data1 = sync_changes v (λ name. ⊥) old.data1 c.sync-2.new.self c.sync-2.result s1.same s1.noted s1.tried s1.cause.later;
      data2 = sync_changes v (λ name. ⊥) old.data2 c.sync-3.new.self c.sync-3.result s2.same s2.noted s2.tried s2.cause.later;
      data3 = changes_none v (λ name. ⊥) old.data3;
    }

pub returns-in-Err-sync-3-clause-changes : goal.returns-in-Err-sync-3-clause-changes
returns-in-Err-sync-3-clause-changes g c =
    let v = g.V.Vault in
    let old = c.args.areas.now in
    let s0 = c.sync.ensures in
    let s1 = c.sync-2.ensures in
    let s2 = c.sync-3.ensures in
    let s3 = c.sync-4.ensures in
    record {
      data0 = sync_changes v (λ name. ⊥) old.data0 c.sync.new.self c.sync.result s0.same s0.noted s0.tried s0.cause.later;
      data1 = sync_changes v (λ name. ⊥) old.data1 c.sync-2.new.self c.sync-2.result s1.same s1.noted s1.tried s1.cause.later;
      data2 = sync_changes v (λ name. ⊥) old.data2 c.sync-3.new.self c.sync-3.result s2.same s2.noted s2.tried s2.cause.later;
      data3 = sync_changes v (λ name. ⊥) old.data3 c.sync-4.new.self c.sync-4.result s3.same s3.noted s3.tried s3.cause.later;
    }

pub returns-clause-changes : goal.returns-clause-changes
returns-clause-changes g c =
    let v = g.V.Vault in
    let old = c.args.areas.now in
    let s0 = c.sync.ensures in
    let s1 = c.sync-2.ensures in
    let s2 = c.sync-3.ensures in
    let s3 = c.sync-4.ensures in
    record {
      data0 = sync_changes v (λ name. ⊥) old.data0 c.sync.new.self c.sync.result s0.same s0.noted s0.tried s0.cause.later;
      data1 = sync_changes v (λ name. ⊥) old.data1 c.sync-2.new.self c.sync-2.result s1.same s1.noted s1.tried s1.cause.later;
      data2 = sync_changes v (λ name. ⊥) old.data2 c.sync-3.new.self c.sync-3.result s2.same s2.noted s2.tried s2.cause.later;
      data3 = sync_changes v (λ name. ⊥) old.data3 c.sync-4.new.self c.sync-4.result s3.same s3.noted s3.tried s3.cause.later;
    }

pub returns-clause-synced : goal.returns-clause-synced
returns-clause-synced g c =
    let s0 = c.in_default.ensures in
    let s1 = c.in_default-sync.ensures in
    let s2 = c.in_default-sync-2.ensures in
    let s3 = c.in_default-sync-3.ensures in
    record {
      data0 = synced_of g.V.Vault c.args.areas.now.data0 c.sync.new.self s0.same s0.noted s0.cause.later;
      data1 = synced_of g.V.Vault c.args.areas.now.data1 c.sync-2.new.self s1.same s1.noted s1.cause.later;
      data2 = synced_of g.V.Vault c.args.areas.now.data2 c.sync-3.new.self s2.same s2.noted s2.cause.later;
      data3 = synced_of g.V.Vault c.args.areas.now.data3 c.sync-4.new.self s3.same s3.noted s3.cause.later;
    }
