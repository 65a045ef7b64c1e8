-- A store whose WAL was read, over areas whose WAL wasn't yet.
use Rattle.data_areas.proofs.Turned.{on_answer, on_fault}
use Rattle.store_areas.specs.Begin.{IsBegun, IsUnbegun, data_of, shown_of}
use Rattle.store_areas.specs.Moments.{LeavesReplay, RebuildsSafely}
use Rattle.store_areas.specs.Opened.{past_of}
use Rattle.store_finding.specs.Filling.{areas_with}
use Rattle.store_finding.proofs.Refilled.{begun_before, unbegun_before}
use Rattle.store_finding.proofs.Moments.{safely_before, tell_behind, replay_before, unread_safely}
use Rattle.std.proofs.Common.{refl, arith}
use Rattle.std.specs.Prelude.{IsSome}
use Rattle.store_finding.proofs.found.read.Goals as goal

pub returns-in-Ok-clause-begun : goal.returns-in-Ok-clause-begun
returns-in-Ok-clause-begun g c =
    let v = g.V.Vault in
    on_answer c.rebuild.result (λ b. IsBegun v (areas_with c.check.new.wal c.args.areas.pages) (shown_of v b) b.tip) (λ b. IsBegun v (areas_with c.args.areas.wal c.args.areas.pages) (shown_of v b) b.tip)
    (λ b is. begun_before v c.args.areas.wal c.check.new.wal c.args.areas.pages c.args.areas.pages (shown_of v b) b.tip c.check.ensures.same c.check.ensures.later (λ q. omega arith) is)
    c.rebuild.ensures.begun

pub returns-in-Ok-clause-refused : goal.returns-in-Ok-clause-refused
returns-in-Ok-clause-refused g c =
    let v = g.V.Vault in
    on_fault c.rebuild.result (IsUnbegun v (areas_with c.check.new.wal c.args.areas.pages)) (IsUnbegun v (areas_with c.args.areas.wal c.args.areas.pages))
    (λ f is. unbegun_before v c.args.areas.wal c.check.new.wal c.args.areas.pages f c.check.ensures.same c.check.ensures.later is)
    c.rebuild.ensures.refused

pub returns-in-Ok-clause-stops : goal.returns-in-Ok-clause-stops
returns-in-Ok-clause-stops g c told =
    let v = g.V.Vault in
    on_answer c.rebuild.result (λ b. RebuildsSafely v (areas_with c.check.new.wal c.args.areas.pages) (shown_of v b).past) (λ b. RebuildsSafely v (areas_with c.args.areas.wal c.args.areas.pages) (shown_of v b).past)
    (λ b safe. safely_before v c.args.areas.wal c.check.new.wal c.args.areas.pages (shown_of v b).past c.check.ensures.same c.check.ensures.synced safe)
    (c.rebuild.ensures.stops (tell_behind v c.args.areas.wal c.check.new.wal c.args.areas.pages c.check.ensures.same told))

pub returns-in-Ok-clause-stopped : goal.returns-in-Ok-clause-stopped
returns-in-Ok-clause-stopped g c told =
    let v = g.V.Vault in
    on_fault c.rebuild.result (λ b. RebuildsSafely v (areas_with c.check.new.wal c.args.areas.pages) (past_of v b.areas)) (λ b. RebuildsSafely v (areas_with c.args.areas.wal c.args.areas.pages) (past_of v b.areas))
    (λ b safe. safely_before v c.args.areas.wal c.check.new.wal c.args.areas.pages (past_of v b.areas) c.check.ensures.same c.check.ensures.synced safe)
    (c.rebuild.ensures.stopped (tell_behind v c.args.areas.wal c.check.new.wal c.args.areas.pages c.check.ensures.same told))

pub returns-in-Ok-clause-settled : goal.returns-in-Ok-clause-settled
returns-in-Ok-clause-settled g c told =
    let v = g.V.Vault in
    on_answer c.rebuild.result (λ b. IsSome (v.files c.check.new.wal) → LeavesReplay (v.files c.check.new.wal) (data_of (shown_of v b).past)) (λ b. LeavesReplay (v.files c.args.areas.wal) (data_of (shown_of v b).past))
    (λ b leaves. replay_before v c.args.areas.wal c.check.new.wal (data_of (shown_of v b).past) c.check.ensures.same leaves told.wal) c.rebuild.ensures.settled

pub returns-in-Err-clause-stopped : goal.returns-in-Err-clause-stopped
returns-in-Err-clause-stopped g c told =
    unread_safely g.V.Vault (areas_with c.args.areas.wal c.args.areas.pages) c.args.areas.wal c.check.new.wal c.args.areas.pages c.unboxed.result refl c.unboxed.ensures c.check.ensures.same c.check.ensures.synced
