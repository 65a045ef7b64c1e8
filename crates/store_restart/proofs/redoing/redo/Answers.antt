-- Areas are made neat, redone and finished.
use Rattle.vault.specs.Boxed.{on_heap}
use Rattle.std.proofs.Common.{ℕ, sym, subst}
use Rattle.std.specs.Prelude.{IfSome}
use Rattle.wal_archive.specs.declared.fault.Damage.{Damage}
use Rattle.lsn_core.specs.declared.lsn.Lsn.{Lsn}
use Rattle.data_areas.proofs.Turned.{on_answer}
use Rattle.restart_areas.specs.Areas.{AreNeat, KeepPages}
use Rattle.store_restart.specs.Causes.{RestartCause}
use Rattle.store_restart.specs.Restart.{AreDurable, IsForkOrMark, IsBadBehind}
use Rattle.store_restart.specs.Steps.{IsFinished}
use Rattle.store_restart.proofs.Filled.{data_why, each_on, forks_change, none_change}
use Rattle.store_restart.proofs.Settled.{bad_cause, finished_brings, finished_counts, unsettled_cause}
use Rattle.store_restart.proofs.redoing.redo.Goals as goal

pub returns-in-Err-clause-cause : goal.returns-in-Err-clause-cause
returns-in-Err-clause-cause g c =
    let v = (on_heap g.V.Vault) in
    let damaged : Damage → Type 0 = λ damage. IfSome (v.files c.args.wal.now) (λ m. ⊥) in
    let bad : Lsn → Type 0 = λ place. IfSome (v.files c.args.wal.now) (IsBadBehind v c.args.settings.now c.args.tip c.args.from c.args.areas place) in
    subst (RestartCause v damaged bad c.args.wal.now c.args.wal.now c.args.areas c.make_neat.new.areas) (sym c.of_store.ensures)
    (data_why v damaged bad c.args.wal.now c.args.wal.now c.args.areas c.make_neat.new.areas c.in-Err.why c.in-Err.ensures.cause)

pub returns-in-Err-clause-changes : goal.returns-in-Err-clause-changes
returns-in-Err-clause-changes g c = forks_change (on_heap g.V.Vault) c.args.areas c.make_neat.new.areas c.in-Err.ensures.changes

pub returns-clause-brings : goal.returns-clause-brings
returns-clause-brings g c =
    let v = (on_heap g.V.Vault) in
    let s = c.args.settings.now in
    let mid = c.make_neat.new.areas in
    let value = c.relseg-relseg.ensures.value in
    finished_brings v s c.args.tip c.args.from (v.files c.args.wal.now) c.relseg-relseg.result c.args.areas mid c.redo_neat-areas.result.0 c.finish.result.0 c.redo_neat-areas.result.1 c.finish.result.1
    (subst (λ (n : ℕ). AreNeat v n mid) value c.in_default.ensures.neat) (subst (λ (n : ℕ). KeepPages v n c.args.areas mid) value c.in_default.ensures.keeps) c.in_default.ensures.changes c.finish.ensures.changes c.finish.ensures.finished c.redo_neat-areas.ensures.redone

pub returns-clause-counts : goal.returns-clause-counts
returns-clause-counts g c =
    finished_counts (on_heap g.V.Vault) c.relseg-relseg.result c.args.settings.now.relseg c.redo_neat-areas.result.0 c.finish.result.0 c.redo_neat-areas.result.1 c.finish.result.1 c.relseg-relseg.ensures.value c.finish.ensures.finished

pub returns-clause-durable : goal.returns-clause-durable
returns-clause-durable g c =
    on_answer c.finish.result.1 (IsFinished (on_heap g.V.Vault) c.relseg-relseg.result c.redo_neat-areas.result.0 c.finish.result.0 c.redo_neat-areas.result.1) (λ tally. AreDurable (on_heap g.V.Vault) c.finish.result.0) (λ tally is. is.durable) c.finish.ensures.finished

pub returns-clause-changes : goal.returns-clause-changes
returns-clause-changes g c =
    let v = (on_heap g.V.Vault) in
    let b = c.redo_neat-areas.result.0 in
    each_on v IsForkOrMark c.args.areas b c.finish.result.0
    (each_on v IsForkOrMark c.args.areas c.make_neat.new.areas b (forks_change v c.args.areas c.make_neat.new.areas c.in_default.ensures.changes) c.redo_neat-areas.ensures.changes) (none_change v b c.finish.result.0 c.finish.ensures.changes)

pub returns-clause-cause : goal.returns-clause-cause
returns-clause-cause g c =
    let v = (on_heap g.V.Vault) in
    let s = c.args.settings.now in
    let mid = c.make_neat.new.areas in
    let b = c.redo_neat-areas.result.0 in
    let told = v.files c.args.wal.now in
    let value = c.relseg-relseg.ensures.value in
    let damaged : Damage → Type 0 = λ damage. IfSome told (λ m. ⊥) in
    unsettled_cause v damaged (λ place. IfSome told (IsBadBehind v s c.args.tip c.args.from c.args.areas place)) c.args.wal.now c.redo_neat-areas.new.wal c.args.areas mid b c.finish.result.0 c.redo_neat-areas.result.1
    (forks_change v c.args.areas mid c.in_default.ensures.changes) c.redo_neat-areas.ensures.changes (none_change v b c.finish.result.0 c.finish.ensures.changes)
    (bad_cause v s c.args.tip c.args.from told damaged c.args.wal.now c.redo_neat-areas.new.wal c.args.areas mid b c.redo_neat-areas.result.1 (subst (λ (n : ℕ). AreNeat v n mid) value c.in_default.ensures.neat)
    (subst (λ (n : ℕ). KeepPages v n c.args.areas mid) value c.in_default.ensures.keeps) c.redo_neat-areas.ensures.cause)
    c.finish.result.1 c.finish.ensures.cause
