-- The parts of a restart, one after the other.
use Rattle.vault.specs.Boxed.{on_heap}
use Rattle.vault.specs.declared.boxed.BoxedArea.{BoxedArea}
use Rattle.std.proofs.Common.{Err, Option, ap, sym, subst, ◌∙◌}
use Rattle.lsn_core.specs.Files.{Files}
use Rattle.std.specs.Prelude.{Result, IfOk, IfErr, IfSome}
use Rattle.lsn_core.specs.Tip.{Tip}
use Rattle.lsn_core.specs.declared.fault.AreaFault.{AreaFault}
use Rattle.recovery.specs.declared.tally.Tally.{Tally}
use Rattle.store_areas.specs.declared.areas.StoreAreas.{StoreAreas}
use Rattle.store_areas.specs.Begin.{data_of}
use Rattle.store_restart.specs.declared.fault.RestartWhy.{RestartWhy}
use Rattle.store_restart.specs.Causes.{RestartCause, why_of_wal}
use Rattle.store_restart.specs.Restart.{AreDurable, BringsBack, IsBadSurvivor}
use Rattle.store_restart.specs.Restarted.{IsBack}
use Rattle.store_restart.specs.Survivors.{AreRead}
use Rattle.store_restart.proofs.Neatened.{same_files}
use Rattle.store_restart.proofs.Ends.{refused_with, refused_first, refused_later, refused_last, back_whole}
use Rattle.store_restart.proofs.Moments.{brought_moments, trimmed_moments, unfound_moments}
use Rattle.store_restart.proofs.restarting.restart_on_heap.Goals as goal

pub returns-in-Err-clause-refused : goal.returns-in-Err-clause-refused
returns-in-Err-clause-refused g c =
    refused_with (on_heap g.V.Vault) c.args.settings.now c.args.areas c.refused.result c.find.new.wal (data_of c.args.areas) c.in-Err.why c.refused.ensures.areas c.refused.ensures.why
    (refused_first (on_heap g.V.Vault) c.args.settings.now c.args.areas c.find.new.wal c.in-Err.why c.in-Err.ensures.cause c.in-Err.ensures.same)

pub returns-in-Err-done-clause-refused : goal.returns-in-Err-done-clause-refused
returns-in-Err-done-clause-refused g c =
    let v = (on_heap g.V.Vault) in
    let s = c.args.settings.now in
    let b = c.bring_on-brought in
    refused_with v s c.args.areas c.refused-in-Err-done.result b.new.wal b.result.0 c.in-Err-done.why c.refused-in-Err-done.ensures.areas c.refused-in-Err-done.ensures.why
    (refused_later v s c.in-Ok.found c.args.areas c.find.new.wal b.new.wal b.result.0 c.in-Err-done.why c.in-Ok.ensures.found c.in-Ok.ensures.same b.ensures.reads b.ensures.changes
    (subst (λ (r : Result Tally RestartWhy). IfErr r (RestartCause v (λ damage. IfSome (v.files c.find.new.wal) (λ m. ⊥)) (λ place. IfSome (v.files c.find.new.wal) (IsBadSurvivor v s c.in-Ok.found.tip (data_of c.args.areas) place)) c.find.new.wal b.new.wal (data_of c.args.areas) b.result.0)) c.in-Err-done.is b.ensures.cause))

pub returns-in-Err-trim-clause-refused : goal.returns-in-Err-trim-clause-refused
returns-in-Err-trim-clause-refused g c =
    let v = (on_heap g.V.Vault) in
    let s = c.args.settings.now in
    let b = c.bring_on-brought in
    refused_with v s c.args.areas c.refused-in-Err-trim.result c.trim.new.wal b.result.0 (why_of_wal c.in-Err-trim.why) c.refused-in-Err-trim.ensures.areas (c.refused-in-Err-trim.ensures.why ∙ c.of_wal.ensures)
    (refused_last v s c.args.areas c.find.new.wal b.new.wal c.trim.new.wal b.result.0 c.segment.result c.in-Err-trim.why c.in-Ok.ensures.same b.ensures.reads b.ensures.changes c.segment.ensures.value c.trim.ensures.changes
    (λ e. c.trim.ensures.cause.failed (c.in-Err-trim.is ∙ ap (λ (w : AreaFault). Err w) e)))

pub returns-clause-back : goal.returns-clause-back
returns-clause-back g c =
    let v = (on_heap g.V.Vault) in
    let s = c.args.settings.now in
    let b = c.bring_on-brought in
    let found = c.in-Ok.found in
    let tally = c.in-Ok-done.tally in
    let brings = subst (λ (r : Result Tally RestartWhy). IfOk r (λ t. IfSome (v.files c.find.new.wal) (BringsBack v s found.tip (data_of c.args.areas) b.result.0 t))) c.in-Ok-done.is b.ensures.brings in
    let durable = subst (λ (r : Result Tally RestartWhy). IfOk r (λ t. AreDurable v b.result.0)) c.in-Ok-done.is b.ensures.durable in
    subst (λ (a : StoreAreas (BoxedArea g.row.V.Denot)). IsBack v s c.args.areas (record { areas = a; tip = found.tip; forks = tally.forks; pages = tally.pages })) (sym c.joined.ensures)
    (back_whole v s found c.args.areas c.find.new.wal b.new.wal c.trim.new.wal b.result.0 tally c.segment.result c.tip.inside.end.0 c.segment.ensures.range c.segment.ensures.value (ap (λ (t : Tip). t.end) c.tip.view_is)
    c.in-Ok.ensures.found c.in-Ok.ensures.same b.ensures.reads b.ensures.changes durable brings c.in_default.ensures.trimmed c.in_default.ensures.durable c.trim.ensures.changes)

pub bring_on-brought-requires-clause-read : goal.bring_on-brought-requires-clause-read
bring_on-brought-requires-clause-read g c κs within =
    subst (λ (o : Option Files). AreRead c.args.settings.now o c.in-Ok.found) (sym (same_files (on_heap g.V.Vault) c.args.areas.wal c.find.new.wal c.in-Ok.ensures.same)) c.in-Ok.ensures.found

pub returns-in-Err-clause-moments : goal.returns-in-Err-clause-moments
returns-in-Err-clause-moments g c =
    unfound_moments (on_heap g.V.Vault) c.args.settings.now c.args.areas c.find.new.wal c.in-Err.ensures.same c.refused.result.areas c.refused.ensures.areas

pub returns-in-Err-done-clause-moments : goal.returns-in-Err-done-clause-moments
returns-in-Err-done-clause-moments g c =
    let b = c.bring_on-brought in
    brought_moments (on_heap g.V.Vault) c.args.settings.now c.args.areas c.find.new.wal c.in-Ok.ensures.same c.in-Ok.found c.in-Ok.ensures.found c.in-Ok.ensures.durable b.new.wal b.ensures.reads b.result.0 b.ensures.moments
    c.refused-in-Err-done.result.areas c.refused-in-Err-done.ensures.areas

pub returns-in-Err-trim-clause-moments : goal.returns-in-Err-trim-clause-moments
returns-in-Err-trim-clause-moments g c =
    let v = (on_heap g.V.Vault) in
    let s = c.args.settings.now in
    let b = c.bring_on-brought in
    let found = c.in-Ok.found in
    let tally = c.in-Ok-done.tally in
    let brings = subst (λ (r : Result Tally RestartWhy). IfOk r (λ t. IfSome (v.files c.find.new.wal) (BringsBack v s found.tip (data_of c.args.areas) b.result.0 t))) c.in-Ok-done.is b.ensures.brings in
    let durable = subst (λ (r : Result Tally RestartWhy). IfOk r (λ t. AreDurable v b.result.0)) c.in-Ok-done.is b.ensures.durable in
    trimmed_moments v s c.args.areas c.find.new.wal c.in-Ok.ensures.same found c.in-Ok.ensures.found c.in-Ok.ensures.durable b.new.wal b.ensures.reads b.result.0 b.ensures.moments
    tally brings durable c.trim.new.wal c.segment.result c.tip.inside.end.0 c.segment.ensures.value (ap (λ (t : Tip). t.end) c.tip.view_is) c.trim.ensures.changes c.trim.ensures.keeps
    c.refused-in-Err-trim.result.areas c.refused-in-Err-trim.ensures.areas

pub returns-clause-moments : goal.returns-clause-moments
returns-clause-moments g c =
    let v = (on_heap g.V.Vault) in
    let s = c.args.settings.now in
    let b = c.bring_on-brought in
    let found = c.in-Ok.found in
    let tally = c.in-Ok-done.tally in
    let brings = subst (λ (r : Result Tally RestartWhy). IfOk r (λ t. IfSome (v.files c.find.new.wal) (BringsBack v s found.tip (data_of c.args.areas) b.result.0 t))) c.in-Ok-done.is b.ensures.brings in
    let durable = subst (λ (r : Result Tally RestartWhy). IfOk r (λ t. AreDurable v b.result.0)) c.in-Ok-done.is b.ensures.durable in
    trimmed_moments v s c.args.areas c.find.new.wal c.in-Ok.ensures.same found c.in-Ok.ensures.found c.in-Ok.ensures.durable b.new.wal b.ensures.reads b.result.0 b.ensures.moments
    tally brings durable c.trim.new.wal c.segment.result c.tip.inside.end.0 c.segment.ensures.value (ap (λ (t : Tip). t.end) c.tip.view_is) c.trim.ensures.changes c.trim.ensures.keeps
    c.joined.result c.joined.ensures
