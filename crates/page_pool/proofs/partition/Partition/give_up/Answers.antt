use Rattle.std.proofs.Common.{refl, ap, subst, ◌∙◌}
use Rattle.page_frames.specs.Marks.{is_dirty}
use Rattle.page_pool.specs.Part.{Part}
use Rattle.page_pool.specs.Steps.{HasWritten}
use Rattle.page_pool.specs.Calls.{IsQuiet}
use Rattle.page_pool.specs.Partition.{pages_in, part_in}
use Rattle.page_pool.proofs.OnDisk.{own_shown}
use Rattle.page_pool.proofs.Roomed.{marks_without_frame, frames_without, turned, turned_written, turned_quiet, untouched}
use Rattle.page_pool.proofs.partition.Partition.give_up.Goals as goal

pub invariant_of-self : goal.invariant_of-self
invariant_of-self g c =
    let p = c.self.inside in
    let h = c.give_up.new.self in
    let e = c.give_up.ensures in
    turned g.V.Vault p c.self.invariant p.disk refl (untouched g.V.Vault p.disk.area) (λ s held. held) h (λ told. frames_without p.frames h c.args.at.now e.lengths e.held (pages_in g.V.Vault p) (own_shown g.V.Vault p told)) (marks_without_frame p.frames h c.args.at.now e.lengths e.held (ap (λ (x : Part). is_dirty x.marks c.args.at.now.fork c.args.at.now.block) c.self.view_is ∙ c.requires)) p.works refl

pub returns-clause-written : goal.returns-clause-written
returns-clause-written g c =
    let p = c.self.inside in
    let h = c.give_up.new.self in
    let e = c.give_up.ensures in
    subst (λ (x : Part). HasWritten x (part_in {V = g.row.V.Denot} {Q = g.row.Q} g.V.Vault (record { disk = p.disk; frames = h; works = p.works; point = p.point; flushed = p.flushed }))) c.self.view_is
    (turned_written g.V.Vault p c.self.invariant p.disk refl (untouched g.V.Vault p.disk.area) (λ s held. held) h (λ told. frames_without p.frames h c.args.at.now e.lengths e.held (pages_in g.V.Vault p) (own_shown g.V.Vault p told)) (marks_without_frame p.frames h c.args.at.now e.lengths e.held (ap (λ (x : Part). is_dirty x.marks c.args.at.now.fork c.args.at.now.block) c.self.view_is ∙ c.requires)) p.works refl)

pub returns-clause-quiet : goal.returns-clause-quiet
returns-clause-quiet g c =
    let p = c.self.inside in
    let h = c.give_up.new.self in
    let e = c.give_up.ensures in
    subst (λ (x : Part). IsQuiet x (part_in {V = g.row.V.Denot} {Q = g.row.Q} g.V.Vault (record { disk = p.disk; frames = h; works = p.works; point = p.point; flushed = p.flushed }))) c.self.view_is
    (turned_quiet g.V.Vault p c.self.invariant p.disk refl (untouched g.V.Vault p.disk.area) (λ s held. held) h (λ told. frames_without p.frames h c.args.at.now e.lengths e.held (pages_in g.V.Vault p) (own_shown g.V.Vault p told)) (marks_without_frame p.frames h c.args.at.now e.lengths e.held (ap (λ (x : Part). is_dirty x.marks c.args.at.now.fork c.args.at.now.block) c.self.view_is ∙ c.requires)) p.works refl)
