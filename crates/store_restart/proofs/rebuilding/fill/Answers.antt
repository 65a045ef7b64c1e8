-- The survivors are replayed into pages that show none.
use Rattle.vault.specs.Boxed.{on_heap}
use Rattle.std.specs.Prelude.{box_value}
use Rattle.std.proofs.Common.{ℕ, sym, ap, subst, ◌∙◌}
use Rattle.std.specs.Prelude.{Result, IfOk, IfErr, IfSome, IsSome}
use Rattle.std.specs.FinMap.{empty}
use Rattle.lsn_core.specs.Segment.{IsSegmentMib}
use Rattle.lsn_core.specs.Tip.{Tip}
use Rattle.recovery.specs.declared.tally.Tally.{Tally}
use Rattle.data_areas.specs.Areas.{area_of}
use Rattle.data_areas.specs.Stored.{AreForksOf}
use Rattle.restart_areas.specs.Pages.{ShowsPages, seen}
use Rattle.store_restart.specs.declared.fault.RestartWhy.{RestartWhy}
use Rattle.store_restart.specs.Causes.{RestartCause}
use Rattle.store_restart.specs.Restart.{HoldWhole, IsBadEntry}
use Rattle.store_restart.proofs.Filled.{clear_holds, filled, refused, forks_changed, others_stayed}
use Rattle.store_restart.proofs.rebuilding.fill.Goals as goal

pub returns-clause-whole : goal.returns-clause-whole
returns-clause-whole g c =
    let v = (on_heap g.V.Vault) in
    let s = c.args.settings.now in
    let laws = g.met.V.Vault g.world.𝓛 g.world.𝓜 g.world.𝓡 ((λ s x. x), (λ x. x), (λ x. x), λ x. x) in
    let size = subst IsSegmentMib c.segment-size.ensures.value c.segment-size.ensures.range in
    let were = subst (λ (n : ℕ). AreForksOf n c.args.areas (seen c.new-pages.result)) c.relseg.ensures.value c.new-pages.ensures.areas in
    let fresh : IsSome (v.files c.args.wal.now) → ShowsPages v c.new-pages.result empty = λ told. c.new-pages.ensures.shown empty (clear_holds v c.relseg.result c.args.areas (λ q. laws.tells_alike (box_value (area_of c.args.areas q).area) (box_value c.args.wal.now.area) ∙ told) c.requires.clear) in
    subst (λ (r : Result Tally RestartWhy). IfOk r (λ tally. IfSome (v.files c.args.wal.now) (HoldWhole v s c.args.tip c.into_areas.result tally))) (sym c.came_to-done.ensures)
    (filled v s c.args.wal.now c.replay-answer.new.wal c.tip.inside.end c.args.tip c.args.areas c.into_areas.result c.new-pages.result c.replay-answer.new.target size (ap (λ (t : Tip). t.end) c.tip.view_is) c.requires.end were c.replay-answer.ensures.kept c.into_areas.ensures
    c.replay-answer.result fresh c.replay-answer.ensures.answer)

pub returns-clause-changes : goal.returns-clause-changes
returns-clause-changes g c =
    let were = subst (λ (n : ℕ). AreForksOf n c.args.areas (seen c.new-pages.result)) c.relseg.ensures.value c.new-pages.ensures.areas in
    others_stayed (on_heap g.V.Vault) c.args.settings.now.relseg c.args.areas c.into_areas.result c.new-pages.result c.replay-answer.new.target were c.replay-answer.ensures.kept c.into_areas.ensures

pub returns-clause-cause : goal.returns-clause-cause
returns-clause-cause g c =
    let v = (on_heap g.V.Vault) in
    let s = c.args.settings.now in
    let laws = g.met.V.Vault g.world.𝓛 g.world.𝓜 g.world.𝓡 ((λ s x. x), (λ x. x), (λ x. x), λ x. x) in
    let size = subst IsSegmentMib c.segment-size.ensures.value c.segment-size.ensures.range in
    let were = subst (λ (n : ℕ). AreForksOf n c.args.areas (seen c.new-pages.result)) c.relseg.ensures.value c.new-pages.ensures.areas in
    let fresh : IsSome (v.files c.args.wal.now) → ShowsPages v c.new-pages.result empty = λ told. c.new-pages.ensures.shown empty (clear_holds v c.relseg.result c.args.areas (λ q. laws.tells_alike (box_value (area_of c.args.areas q).area) (box_value c.args.wal.now.area) ∙ told) c.requires.clear) in
    subst (λ (r : Result Tally RestartWhy). IfErr r (RestartCause v (λ damage. IfSome (v.files c.args.wal.now) (λ m. ⊥)) (λ place. IfSome (v.files c.args.wal.now) (IsBadEntry s c.args.tip place)) c.args.wal.now c.replay-answer.new.wal c.args.areas c.into_areas.result)) (sym c.came_to-done.ensures)
    (refused v s c.args.wal.now c.replay-answer.new.wal c.tip.inside.end c.args.tip c.args.areas c.into_areas.result c.new-pages.result c.replay-answer.new.target size (ap (λ (t : Tip). t.end) c.tip.view_is) c.requires.end were c.replay-answer.ensures.kept c.into_areas.ensures
    c.replay-answer.result c.new-pages.ensures.none fresh c.replay-answer.ensures.answer)

pub returns-clause-forks : goal.returns-clause-forks
returns-clause-forks g c =
    let were = subst (λ (n : ℕ). AreForksOf n c.args.areas (seen c.new-pages.result)) c.relseg.ensures.value c.new-pages.ensures.areas in
    forks_changed (on_heap g.V.Vault) c.args.settings.now.relseg c.args.areas c.into_areas.result c.new-pages.result c.replay-answer.new.target were c.replay-answer.ensures.kept c.into_areas.ensures
