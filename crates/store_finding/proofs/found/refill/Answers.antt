-- Cleared areas are filled by the WAL's entries; what comes of them comes of those that were cleared.
use Rattle.std.proofs.Common.{rules, ℕ, sym, ap, subst, ◌∙◌}
use Rattle.std.specs.Prelude.{IsSome}
use Rattle.store_areas.specs.Begin.{IsBegun, data_of, shown_of}
use Rattle.store_areas.specs.Opened.{past_of}
use Rattle.store_finding.specs.Filling.{areas_with, FillsSafely, IsUnreplayed, IsUnsettled, IsUnfilled}
use Rattle.store_finding.specs.declared.boxing.BoxedAreas.{BoxedAreas}
use Rattle.store_faults.specs.declared.begin_why.BeginWhy.{BeginWhy}
use Rattle.store_faults.specs.declared.begin_why.BeginWhy.TheVariants as why
use Rattle.lsn_core.specs.declared.fault.StoreFault.{StoreFault}
use Rattle.data_areas.specs.Stored.{AreForksOf}
use Rattle.data_areas.proofs.Turned.{on_answer, on_fault}
use Rattle.store_finding.proofs.Refilled.{all_told, unreplayed_wal, unreplayed_pages, filled_by, unopened, begun_over}
use Rattle.store_areas.specs.Moments.{LeavesReplay}
use Rattle.store_finding.proofs.Moments.{filled_safely, unfilled_safely, replay_before}
use Rattle.store_finding.proofs.found.refill.Goals.{in-Wal, in-Out}
use Rattle.store_finding.proofs.found.refill.Goals as goal

pub replay-requires-after_bounds : goal.replay-requires-after_bounds
replay-requires-after_bounds g c κs within =
    let laws = g.met.V.Vault g.world.𝓛 g.world.𝓜 g.world.𝓡 ((λ s x. x), (λ x. x), (λ x. x), λ x. x) in (
      search rules,
      (c.requires.none, (c.requires.checked, λ told. c.new-forks.ensures.shown (all_told g.V.Vault c.args.areas.wal c.args.areas.pages (λ v. laws.tells_alike v c.args.areas.wal) told))),
    )

pub open-requires-clause-filled : goal.open-requires-clause-filled
open-requires-clause-filled g c κs within =
    let laws = g.met.V.Vault g.world.𝓛 g.world.𝓜 g.world.𝓡 ((λ s x. x), (λ x. x), (λ x. x), λ x. x) in
    let were = subst (λ (n : ℕ). AreForksOf n c.args.areas.pages c.new-forks.result) c.relseg.ensures.value c.new-forks.ensures.areas in
    filled_by g.V.Vault c.args.settings c.args.areas c.replay.new.wal c.into_areas-pages.result c.new-forks.result c.replay.new.forks were c.replay.ensures.kept c.into_areas-pages.ensures c.replay.ensures.reads (λ v. laws.tells_alike v c.args.areas.wal)
    c.in-Ok.heard.opened.list c.in-Ok.heard.pages c.in-Ok.heard.tip c.in-Ok.ensures.found c.in-Ok.ensures.shown c.requires.bare

pub returns-in-Ok-clause-begun : goal.returns-in-Ok-clause-begun
returns-in-Ok-clause-begun g c =
    let were = subst (λ (n : ℕ). AreForksOf n c.args.areas.pages c.new-forks.result) c.relseg.ensures.value c.new-forks.ensures.areas in
    on_answer c.open.result (λ b. IsBegun g.V.Vault (areas_with c.replay.new.wal c.into_areas-pages.result) (shown_of g.V.Vault b) b.tip)
    (λ b. IsBegun g.V.Vault (areas_with c.args.areas.wal c.args.areas.pages) (shown_of g.V.Vault b) b.tip)
    (λ b is. begun_over g.V.Vault c.args.settings c.args.areas c.replay.new.wal c.into_areas-pages.result c.new-forks.result c.replay.new.forks were c.replay.ensures.kept c.into_areas-pages.ensures c.replay.ensures.reads (shown_of g.V.Vault b) b.tip is)
    c.open.ensures.begun

pub returns-in-Ok-clause-refused : goal.returns-in-Ok-clause-refused
returns-in-Ok-clause-refused g c =
    let laws = g.met.V.Vault g.world.𝓛 g.world.𝓜 g.world.𝓡 ((λ s x. x), (λ x. x), (λ x. x), λ x. x) in
    let were = subst (λ (n : ℕ). AreForksOf n c.args.areas.pages c.new-forks.result) c.relseg.ensures.value c.new-forks.ensures.areas in
    let mid : BoxedAreas g.row.V.Denot = record { wal = c.replay.new.wal; pages = c.into_areas-pages.result } in
    on_fault c.open.result (IsUnsettled g.V.Vault c.args.settings.relseg mid) (IsUnfilled g.V.Vault c.args.settings c.args.areas)
    (λ f is. unopened g.V.Vault c.args.settings c.args.areas c.replay.new.wal c.into_areas-pages.result c.new-forks.result c.replay.new.forks were c.replay.ensures.kept c.into_areas-pages.ensures c.replay.ensures.reads (λ v. laws.tells_alike v c.args.areas.wal)
    c.in-Ok.heard.opened.list c.in-Ok.heard.pages c.in-Ok.heard.tip c.in-Ok.ensures.found c.in-Ok.ensures.shown f is)
    c.open.ensures.refused

pub returns-after-fault-clause-refused : goal.returns-after-fault-clause-refused
returns-after-fault-clause-refused g c =
    let were = subst (λ (n : ℕ). AreForksOf n c.args.areas.pages c.new-forks.result) c.relseg.ensures.value c.new-forks.ensures.areas in
    elim c.match-fault.branch [
      | in-Wal w ↦
          let cause = subst (IsUnreplayed (g.V.Vault.files c.args.areas.wal) (g.V.Vault.faults c.args.areas.wal) (g.V.Vault.faults c.replay.new.wal) c.new-forks.result.faults.count c.replay.new.forks.faults.count) w.in-Wal.is c.in-Err.ensures.refused in
          subst (λ (x : BeginWhy). IsUnfilled g.V.Vault c.args.settings c.args.areas (record { areas = c.unboxed-areas.result; why = x })) (sym w.why-is)
          (unreplayed_wal g.V.Vault c.args.settings c.args.areas c.replay.new.wal c.into_areas.result c.new-forks.result c.replay.new.forks were c.replay.ensures.kept c.into_areas.ensures c.replay.ensures.reads c.unboxed-areas.result w.in-Wal.why c.unboxed-areas.ensures cause.0 cause.1)
      | in-Out w ↦
          let cause = subst (IsUnreplayed (g.V.Vault.files c.args.areas.wal) (g.V.Vault.faults c.args.areas.wal) (g.V.Vault.faults c.replay.new.wal) c.new-forks.result.faults.count c.replay.new.forks.faults.count) w.in-Out.is c.in-Err.ensures.refused in
          subst (λ (x : BeginWhy). IsUnfilled g.V.Vault c.args.settings c.args.areas (record { areas = c.unboxed-areas.result; why = x })) (sym (w.why-is ∙ ap (λ (f : StoreFault). why.Data f) w.fault.ensures))
          (unreplayed_pages g.V.Vault c.args.settings c.args.areas c.replay.new.wal c.into_areas.result c.new-forks.result c.replay.new.forks were c.replay.ensures.kept c.into_areas.ensures c.replay.ensures.reads c.unboxed-areas.result w.in-Out.why c.unboxed-areas.ensures c.new-forks.ensures.none cause)
    ]

pub returns-in-Ok-clause-stops : goal.returns-in-Ok-clause-stops
returns-in-Ok-clause-stops g c =
    let were = subst (λ (n : ℕ). AreForksOf n c.args.areas.pages c.new-forks.result) c.relseg.ensures.value c.new-forks.ensures.areas in
    let mid : BoxedAreas g.row.V.Denot = record { wal = c.replay.new.wal; pages = c.into_areas-pages.result } in
    on_answer c.open.result (λ b. FillsSafely g.V.Vault mid (shown_of g.V.Vault b).past) (λ b. FillsSafely g.V.Vault c.args.areas (shown_of g.V.Vault b).past)
    (λ b safe. filled_safely g.V.Vault c.args.settings c.args.areas c.replay.new.wal c.into_areas-pages.result c.new-forks.result c.replay.new.forks were c.replay.ensures.kept c.into_areas-pages.ensures c.replay.ensures.reads (shown_of g.V.Vault b).past safe) c.open.ensures.stops

pub returns-in-Ok-clause-stopped : goal.returns-in-Ok-clause-stopped
returns-in-Ok-clause-stopped g c =
    let were = subst (λ (n : ℕ). AreForksOf n c.args.areas.pages c.new-forks.result) c.relseg.ensures.value c.new-forks.ensures.areas in
    let mid : BoxedAreas g.row.V.Denot = record { wal = c.replay.new.wal; pages = c.into_areas-pages.result } in
    on_fault c.open.result (λ b. FillsSafely g.V.Vault mid (past_of g.V.Vault b.areas)) (λ b. FillsSafely g.V.Vault c.args.areas (past_of g.V.Vault b.areas))
    (λ b safe. filled_safely g.V.Vault c.args.settings c.args.areas c.replay.new.wal c.into_areas-pages.result c.new-forks.result c.replay.new.forks were c.replay.ensures.kept c.into_areas-pages.ensures c.replay.ensures.reads (past_of g.V.Vault b.areas) safe) c.open.ensures.stopped

pub returns-after-fault-clause-stopped : goal.returns-after-fault-clause-stopped
returns-after-fault-clause-stopped g c =
    let were = subst (λ (n : ℕ). AreForksOf n c.args.areas.pages c.new-forks.result) c.relseg.ensures.value c.new-forks.ensures.areas in
    unfilled_safely g.V.Vault c.args.settings c.args.areas c.replay.new.wal c.into_areas.result c.new-forks.result c.replay.new.forks were c.replay.ensures.kept c.into_areas.ensures c.replay.ensures.reads c.unboxed-areas.result c.unboxed-areas.ensures

pub returns-in-Ok-clause-settled : goal.returns-in-Ok-clause-settled
returns-in-Ok-clause-settled g c =
    let v = g.V.Vault in
    on_answer c.open.result (λ b. IsSome (v.files c.replay.new.wal) → LeavesReplay (v.files c.replay.new.wal) (data_of (shown_of g.V.Vault b).past)) (λ b. IsSome (v.files c.args.areas.wal) → LeavesReplay (v.files c.args.areas.wal) (data_of (shown_of g.V.Vault b).past))
    (λ b leaves. replay_before v c.args.areas.wal c.replay.new.wal (data_of (shown_of g.V.Vault b).past) c.replay.ensures.reads.files leaves) c.open.ensures.settled
