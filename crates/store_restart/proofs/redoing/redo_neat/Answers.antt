-- The survivors from a place on are redone over pages as they are.
use Rattle.vault.specs.Boxed.{on_heap}
use Rattle.std.proofs.Common.{ℕ, sym, ap, subst}
use Rattle.std.specs.Prelude.{Result, IfOk, IfErr, IfSome}
use Rattle.lsn_core.specs.Segment.{IsSegmentMib}
use Rattle.lsn_core.specs.Store.{Store}
use Rattle.lsn_core.specs.Tip.{Tip}
use Rattle.recovery.specs.declared.tally.Tally.{Tally}
use Rattle.data_areas.specs.Stored.{AreForksOf}
use Rattle.restart_areas.specs.Pages.{HoldParts, ShowsPages, seen}
use Rattle.store_restart.specs.declared.fault.RestartWhy.{RestartWhy}
use Rattle.store_restart.specs.Causes.{RestartCause}
use Rattle.store_restart.specs.Restart.{RedoesFrom, IsBadOver}
use Rattle.store_restart.proofs.Filled.{others_stayed}
use Rattle.store_restart.proofs.Redone.{redoes, refused}
use Rattle.store_restart.proofs.redoing.redo_neat.Goals as goal

pub returns-clause-redone : goal.returns-clause-redone
returns-clause-redone g c =
    let v = (on_heap g.V.Vault) in
    let s = c.args.settings.now in
    let size = subst IsSegmentMib c.segment-size.ensures.value c.segment-size.ensures.range in
    let were = subst (λ (n : ℕ). AreForksOf n c.args.areas (seen c.new-pages.result)) c.relseg.ensures.value c.new-pages.ensures.areas in
    let shown : (store : Store) → HoldParts v s.relseg c.args.areas store → ShowsPages v c.new-pages.result store = λ store holds. c.new-pages.ensures.shown store (subst (λ (n : ℕ). HoldParts v n c.args.areas store) (sym c.relseg.ensures.value) holds) in
    subst (λ (r : Result Tally RestartWhy). IfOk r (λ tally. IfSome (v.files c.args.wal.now) (RedoesFrom v s c.args.tip c.args.from c.args.areas c.into_areas.result))) (sym c.came_to-done.ensures)
    (redoes v s c.args.wal.now c.recover-answer.new.wal c.args.from c.tip.inside.end c.args.tip c.args.areas c.into_areas.result c.new-pages.result c.recover-answer.new.target size (ap (λ (t : Tip). t.end) c.tip.view_is) c.requires.start were c.recover-answer.ensures.kept c.into_areas.ensures shown
    _ c.recover-answer.result c.recover-answer.ensures.answer)

pub returns-clause-changes : goal.returns-clause-changes
returns-clause-changes g c =
    let were = subst (λ (n : ℕ). AreForksOf n c.args.areas (seen c.new-pages.result)) c.relseg.ensures.value c.new-pages.ensures.areas in
    others_stayed (on_heap g.V.Vault) c.args.settings.now.relseg c.args.areas c.into_areas.result c.new-pages.result c.recover-answer.new.target were c.recover-answer.ensures.kept c.into_areas.ensures

pub returns-clause-cause : goal.returns-clause-cause
returns-clause-cause g c =
    let v = (on_heap g.V.Vault) in
    let s = c.args.settings.now in
    let size = subst IsSegmentMib c.segment-size.ensures.value c.segment-size.ensures.range in
    let were = subst (λ (n : ℕ). AreForksOf n c.args.areas (seen c.new-pages.result)) c.relseg.ensures.value c.new-pages.ensures.areas in
    let shown : (store : Store) → HoldParts v s.relseg c.args.areas store → ShowsPages v c.new-pages.result store = λ store holds. c.new-pages.ensures.shown store (subst (λ (n : ℕ). HoldParts v n c.args.areas store) (sym c.relseg.ensures.value) holds) in
    subst (λ (r : Result Tally RestartWhy). IfErr r (RestartCause v (λ damage. IfSome (v.files c.args.wal.now) (λ m. ⊥)) (λ place. IfSome (v.files c.args.wal.now) (IsBadOver v s c.args.tip c.args.from c.args.areas place)) c.args.wal.now c.recover-answer.new.wal c.args.areas c.into_areas.result)) (sym c.came_to-done.ensures)
    (refused v s c.args.wal.now c.recover-answer.new.wal c.args.from c.tip.inside.end c.args.tip c.args.areas c.into_areas.result c.new-pages.result c.recover-answer.new.target size (ap (λ (t : Tip). t.end) c.tip.view_is) c.requires.start were c.recover-answer.ensures.kept c.into_areas.ensures shown
    _ c.recover-answer.result c.new-pages.ensures.none c.recover-answer.ensures.answer)
