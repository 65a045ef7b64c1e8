-- Areas are cleared under the mark, filled and settled.
use Rattle.vault.specs.Boxed.{on_heap}
use Rattle.std.proofs.Common.{sym, subst, ◌∙◌}
use Rattle.std.specs.Prelude.{IfSome, box_value}
use Rattle.wal_archive.specs.declared.fault.Damage.{Damage}
use Rattle.lsn_core.specs.declared.lsn.Lsn.{Lsn}
use Rattle.data_areas.proofs.Turned.{on_answer}
use Rattle.store_restart.specs.Causes.{RestartCause}
use Rattle.store_restart.specs.Restart.{AreDurable, IsForkOrMark, IsUnmarked, IsBadEntry}
use Rattle.store_restart.specs.Steps.{IsSettled}
use Rattle.store_restart.proofs.Filled.{data_why, each_on}
use Rattle.store_restart.proofs.Settled.{settled_whole, unsettled_cause}
use Rattle.store_restart.proofs.Remade.{cleared_safely, rebuilt_safely}
use Rattle.store_restart.proofs.rebuilding.rebuild.Goals as goal

pub returns-in-Err-clause-cause : goal.returns-in-Err-clause-cause
returns-in-Err-clause-cause g c =
    let v = (on_heap g.V.Vault) in
    let damaged : Damage → Type 0 = λ damage. IfSome (v.files c.args.wal.now) (λ m. ⊥) in
    let bad : Lsn → Type 0 = λ place. IfSome (v.files c.args.wal.now) (IsBadEntry c.args.settings.now c.args.tip place) in
    subst (RestartCause v damaged bad c.args.wal.now c.args.wal.now c.args.areas c.clear_marked.new.areas) (sym c.of_store.ensures)
    (data_why v damaged bad c.args.wal.now c.args.wal.now c.args.areas c.clear_marked.new.areas c.in-Err.why c.in-Err.ensures.cause)

pub returns-clause-whole : goal.returns-clause-whole
returns-clause-whole g c =
    settled_whole (on_heap g.V.Vault) c.args.settings.now c.args.tip ((on_heap g.V.Vault).files c.args.wal.now) c.fill-areas.result.0 c.settle.result.0 c.fill-areas.result.1 c.settle.result.1 c.settle.ensures.settled c.fill-areas.ensures.whole

pub returns-clause-durable : goal.returns-clause-durable
returns-clause-durable g c = on_answer c.settle.result.1 (IsSettled (on_heap g.V.Vault) c.fill-areas.result.0 c.settle.result.0 c.fill-areas.result.1) (λ tally. AreDurable (on_heap g.V.Vault) c.settle.result.0) (λ tally is. is.durable) c.settle.ensures.settled

pub returns-clause-unmarked : goal.returns-clause-unmarked
returns-clause-unmarked g c = on_answer c.settle.result.1 (IsSettled (on_heap g.V.Vault) c.fill-areas.result.0 c.settle.result.0 c.fill-areas.result.1) (λ tally. IsUnmarked (on_heap g.V.Vault) c.settle.result.0) (λ tally is. is.unmarked) c.settle.ensures.settled

pub returns-clause-changes : goal.returns-clause-changes
returns-clause-changes g c =
    let v = (on_heap g.V.Vault) in
    each_on v IsForkOrMark c.args.areas c.fill-areas.result.0 c.settle.result.0
    (each_on v IsForkOrMark c.args.areas c.clear_marked.new.areas c.fill-areas.result.0 c.in_default.ensures.changes c.fill-areas.ensures.changes) c.settle.ensures.changes

pub returns-clause-cause : goal.returns-clause-cause
returns-clause-cause g c =
    let v = (on_heap g.V.Vault) in
    unsettled_cause v (λ damage. IfSome (v.files c.args.wal.now) (λ m. ⊥)) (λ place. IfSome (v.files c.args.wal.now) (IsBadEntry c.args.settings.now c.args.tip place)) c.args.wal.now c.fill-areas.new.wal
    c.args.areas c.clear_marked.new.areas c.fill-areas.result.0 c.settle.result.0 c.fill-areas.result.1 c.in_default.ensures.changes c.fill-areas.ensures.changes c.settle.ensures.changes c.fill-areas.ensures.cause
    c.settle.result.1 c.settle.ensures.cause

pub returns-in-Err-clause-moments : goal.returns-in-Err-clause-moments
returns-in-Err-clause-moments g c =
    let v = (on_heap g.V.Vault) in
    let laws = g.met.V.Vault g.world.𝓛 g.world.𝓜 g.world.𝓡 ((λ s x. x), (λ x. x), (λ x. x), λ x. x) in
    cleared_safely v c.args.settings.now c.args.tip (v.files c.args.wal.now) c.args.areas c.clear_marked.new.areas (λ told. laws.tells_alike (box_value c.args.areas.data0.area) (box_value c.args.wal.now.area) ∙ told) c.in-Err.ensures.so_far c.in-Err.ensures.changes

pub returns-clause-moments : goal.returns-clause-moments
returns-clause-moments g c =
    let v = (on_heap g.V.Vault) in
    let laws = g.met.V.Vault g.world.𝓛 g.world.𝓜 g.world.𝓡 ((λ s x. x), (λ x. x), (λ x. x), λ x. x) in
    rebuilt_safely v c.args.settings.now c.args.tip c.args.areas c.clear_marked.new.areas c.fill-areas.result.0 c.settle.result.0 c.fill-areas.result.1
    c.in_default.ensures.begun c.in_default.ensures.changes c.fill-areas.ensures.forks c.settle.ensures.moments (v.files c.args.wal.now) (λ told. laws.tells_alike (box_value c.args.areas.data0.area) (box_value c.args.wal.now.area) ∙ told) c.fill-areas.ensures.whole
