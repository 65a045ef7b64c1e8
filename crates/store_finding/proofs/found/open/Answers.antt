-- Partitions of areas that were filled follow the history that was found.
use Rattle.std.proofs.Common.{ℕ, ap, subst, ◌∙◌}
use Rattle.lsn_core.specs.Tip.{Tip}
use Rattle.wal_writer.specs.Log.{IsLog}
use Rattle.vault.specs.Boxed.{on_heap}
use Rattle.data_areas.specs.Rebuilt.{AreRebuilt, held_by}
use Rattle.data_areas.specs.Settling.{SettledSoFar}
use Rattle.store_areas.specs.declared.found.Found.{Found}
use Rattle.store_finding.proofs.Begun.{stands_with, begun_with}
use Rattle.store_finding.proofs.Unbegun.{unsettled_at}
use Rattle.store_finding.proofs.Moments.{opened_safely, opened_durably, unopened_safely}
use Rattle.store_finding.proofs.found.open.Goals as goal

pub returns-in-Ok-clause-stands : goal.returns-in-Ok-clause-stands
returns-in-Ok-clause-stands g c =
    let v = g.V.Vault in
    let laws = g.met.V.Vault g.world.𝓛 g.world.𝓜 g.world.𝓡 ((λ s x. x), (λ x. x), (λ x. x), λ x. x) in
    let found : Found g.row.V.Denot = record { opened = c.args.heard.opened; settings = c.args.settings; pages = c.args.heard.pages; tip = c.args.heard.tip; wal = c.detach-wal.result; parts = c.in-Ok.parts } in
    let rebuilt = subst (λ (r : ℕ). AreRebuilt (on_heap v) r c.args.heard.tip.end c.args.areas.pages c.in-Ok.parts) c.relseg.ensures.value
    (subst (λ (n : ℕ). AreRebuilt (on_heap v) c.relseg.result n c.args.areas.pages c.in-Ok.parts) (ap (λ (t : Tip). t.end) c.tip.view_is) c.in-Ok.ensures.parts) in
    let area = c.detach-wal.ensures ∙ c.attach-state.ensures.area in
    let known = subst IsLog c.attach-state.ensures.log c.tip-tip.ensures.known in
    stands_with v c.args.areas.wal c.args.areas.pages found area c.requires.found c.requires.filled.held rebuilt known (λ x. laws.tells_alike x c.args.areas.wal) c.requires.durable

pub returns-in-Ok-clause-begun : goal.returns-in-Ok-clause-begun
returns-in-Ok-clause-begun g c =
    let v = g.V.Vault in
    let laws = g.met.V.Vault g.world.𝓛 g.world.𝓜 g.world.𝓡 ((λ s x. x), (λ x. x), (λ x. x), λ x. x) in
    let found : Found g.row.V.Denot = record { opened = c.args.heard.opened; settings = c.args.settings; pages = c.args.heard.pages; tip = c.args.heard.tip; wal = c.detach-wal.result; parts = c.in-Ok.parts } in
    let rebuilt = subst (λ (r : ℕ). AreRebuilt (on_heap v) r c.args.heard.tip.end c.args.areas.pages c.in-Ok.parts) c.relseg.ensures.value
    (subst (λ (n : ℕ). AreRebuilt (on_heap v) c.relseg.result n c.args.areas.pages c.in-Ok.parts) (ap (λ (t : Tip). t.end) c.tip.view_is) c.in-Ok.ensures.parts) in
    let area = c.detach-wal.ensures ∙ c.attach-state.ensures.area in
    let known = subst IsLog c.attach-state.ensures.log c.tip-tip.ensures.known in
    begun_with v c.args.areas.wal c.args.areas.pages found area c.requires.found c.requires.filled.held rebuilt known (λ x. laws.tells_alike x c.args.areas.wal)

pub returns-in-Ok-clause-stops : goal.returns-in-Ok-clause-stops
returns-in-Ok-clause-stops g c =
    let found : Found g.row.V.Denot = record { opened = c.args.heard.opened; settings = c.args.settings; pages = c.args.heard.pages; tip = c.args.heard.tip; wal = c.detach-wal.result; parts = c.in-Ok.parts } in
    opened_safely g.V.Vault c.args.settings c.args.areas c.args.heard.opened.list c.args.heard.pages c.args.heard.tip c.requires.found c.requires.filled c.relseg.result c.relseg.ensures.least c.relseg.ensures.value
    found c.tip.inside.end.0 (c.detach-wal.ensures ∙ c.attach-state.ensures.area) c.in-Ok.ensures.parts c.in-Ok.ensures.ended c.in-Ok.ensures.go_on

pub returns-in-Ok-clause-settled : goal.returns-in-Ok-clause-settled
returns-in-Ok-clause-settled g c =
    let found : Found g.row.V.Denot = record { opened = c.args.heard.opened; settings = c.args.settings; pages = c.args.heard.pages; tip = c.args.heard.tip; wal = c.detach-wal.result; parts = c.in-Ok.parts } in
    opened_durably g.V.Vault c.args.settings c.args.areas c.args.heard.opened.list c.args.heard.pages c.args.heard.tip c.requires.found c.requires.filled c.relseg.result c.relseg.ensures.least c.relseg.ensures.value
    found c.tip.inside.end.0 c.in-Ok.ensures.parts

pub returns-in-Err-clause-refused : goal.returns-in-Err-clause-refused
returns-in-Err-clause-refused g c =
    unsettled_at g.V.Vault c.args.settings.relseg c.args.areas c.detach-wal.result c.in-Err.fault.areas c.unboxed.result c.in-Err.fault.why c.unboxed.ensures (c.detach-wal.ensures ∙ c.attach-state.ensures.area) c.in-Err.ensures.later
    (subst (λ (r : ℕ). SettledSoFar (on_heap g.V.Vault) r (held_by (on_heap g.V.Vault) r c.args.areas.pages) c.args.areas.pages c.in-Err.fault.areas) c.relseg.ensures.value c.in-Err.ensures.so_far) c.in-Err.ensures.cause

pub returns-in-Err-clause-stopped : goal.returns-in-Err-clause-stopped
returns-in-Err-clause-stopped g c =
    unopened_safely g.V.Vault c.args.settings c.args.areas c.args.heard.opened.list c.args.heard.pages c.args.heard.tip c.requires.found c.requires.filled c.relseg.result c.relseg.ensures.least c.relseg.ensures.value
    c.detach-wal.result c.in-Err.fault.areas c.unboxed.result c.unboxed.ensures (c.detach-wal.ensures ∙ c.attach-state.ensures.area) c.in-Err.ensures.so_far c.in-Err.ensures.went_on
