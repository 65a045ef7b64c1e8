use Rattle.std.proofs.Common.{refl, subst}
use Rattle.page_frames.proofs.Overlays.{pages_turned, marks_turned}
use Rattle.page_pool.specs.Part.{Part}
use Rattle.page_pool.specs.Told.{told_page}
use Rattle.page_pool.specs.Steps.{HasWritten}
use Rattle.page_pool.specs.Calls.{IsQuiet}
use Rattle.page_pool.specs.Partition.{part_in}
use Rattle.page_pool.proofs.OnDisk.{frames_alike}
use Rattle.page_pool.proofs.Roomed.{turned, turned_written, turned_quiet, untouched}
use Rattle.page_pool.proofs.partition.Partition.sweep.Goals as goal

pub invariant_of-self : goal.invariant_of-self
invariant_of-self g c =
    let p = c.self.inside in
    let h = c.sweep.new.self in
    let e = c.sweep.ensures.alike in
    turned g.V.Vault p c.self.invariant p.disk refl (untouched g.V.Vault p.disk.area) (λ s held. held) h (λ told. frames_alike (told_page p.disk.relseg (g.V.Vault.files p.disk.area)) p.frames h (λ other. pages_turned other p.frames h e)) (marks_turned p.frames h e) p.works refl

pub returns-clause-written : goal.returns-clause-written
returns-clause-written g c =
    let p = c.self.inside in
    let h = c.sweep.new.self in
    let e = c.sweep.ensures.alike in
    subst (λ (x : Part). HasWritten x (part_in {V = g.row.V.Denot} {Q = g.row.Q} g.V.Vault (record { disk = p.disk; frames = h; works = p.works; point = p.point; flushed = p.flushed }))) c.self.view_is
    (turned_written g.V.Vault p c.self.invariant p.disk refl (untouched g.V.Vault p.disk.area) (λ s held. held) h (λ told. frames_alike (told_page p.disk.relseg (g.V.Vault.files p.disk.area)) p.frames h (λ other. pages_turned other p.frames h e)) (marks_turned p.frames h e) p.works refl)

pub returns-clause-quiet : goal.returns-clause-quiet
returns-clause-quiet g c =
    let p = c.self.inside in
    let h = c.sweep.new.self in
    let e = c.sweep.ensures.alike in
    subst (λ (x : Part). IsQuiet x (part_in {V = g.row.V.Denot} {Q = g.row.Q} g.V.Vault (record { disk = p.disk; frames = h; works = p.works; point = p.point; flushed = p.flushed }))) c.self.view_is
    (turned_quiet g.V.Vault p c.self.invariant p.disk refl (untouched g.V.Vault p.disk.area) (λ s held. held) h (λ told. frames_alike (told_page p.disk.relseg (g.V.Vault.files p.disk.area)) p.frames h (λ other. pages_turned other p.frames h e)) (marks_turned p.frames h e) p.works refl)
