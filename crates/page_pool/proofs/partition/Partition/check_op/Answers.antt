-- A command is judged by the pages in frames as by all; the disk lacks what it lacked.
use Rattle.std.proofs.Common.{refl, ap, sym, subst, ◌∙◌}
use Rattle.page_frames.specs.Overlay.{own_pages}
use Rattle.page_pool.specs.Part.{Part}
use Rattle.page_pool.specs.Told.{told_page}
use Rattle.page_pool.specs.Partition.{part_in}
use Rattle.page_pool.specs.Ready.{CheckAnswer}
use Rattle.page_pool.specs.Room.{HasFrames, blocks_of}
use Rattle.page_pool.proofs.OnDisk.{frames_alike}
use Rattle.page_pool.proofs.Roomed.{turned, untouched}
use Rattle.page_pool.proofs.Lifted.{answered, blocks_alike_at}
use Rattle.page_pool.proofs.partition.Partition.check_op.Goals as goal

pub check-requires-clause-room : goal.check-requires-clause-room
check-requires-clause-room g c = subst (λ (x : Part). HasFrames x.framed (blocks_of c.args.op.now)) (sym c.self.view_is) c.requires.room

pub invariant_of-self : goal.invariant_of-self
invariant_of-self g c =
    let p = c.self.inside in
    let behind = told_page p.disk.relseg (g.V.Vault.files p.disk.area) in
    let alike = c.check.ensures.alike in
    turned g.V.Vault p c.self.invariant p.disk refl (untouched g.V.Vault p.disk.area) (λ s held. held) c.check.new.frames (λ told. frames_alike behind p.frames c.check.new.frames alike.pages) alike.marks c.check.new.works c.check.ensures.works

pub returns-clause-answer : goal.returns-clause-answer
returns-clause-answer g c =
    let p = c.self.inside in
    let behind = told_page p.disk.relseg (g.V.Vault.files p.disk.area) in
    let held = (subst (λ (x : Part). HasFrames x.framed (blocks_of c.args.op.now)) (sym c.self.view_is) c.requires.room).held in
    let new : Part = part_in {V = g.row.V.Denot} {Q = g.row.Q} g.V.Vault (record { disk = p.disk; frames = c.check.new.frames; works = c.check.new.works; point = p.point; flushed = p.flushed }) in
    subst (λ (x : Part). CheckAnswer c.args.op.now c.args.redo.0 x new c.check.result) c.self.view_is
    (answered (own_pages p.frames) (part_in g.V.Vault p) new c.args.op.now c.args.redo.0 c.check.result c.requires.items (blocks_alike_at behind p.frames (blocks_of c.args.op.now) held) (c.check.ensures.alike.pages behind) c.check.ensures.found c.check.ensures.refused)

pub returns-clause-same : goal.returns-clause-same
returns-clause-same g c =
    let p = c.self.inside in
    let behind = told_page p.disk.relseg (g.V.Vault.files p.disk.area) in
    record {
      frames = c.check.ensures.alike.pages behind ∙ ap (λ (x : Part). x.frames) c.self.view_is;
      marks = c.check.ensures.alike.marks ∙ ap (λ (x : Part). x.marks) c.self.view_is;
      works = c.check.ensures.works ∙ ap (λ (x : Part). x.works) c.self.view_is;
      point = ap (λ (x : Part). x.point) c.self.view_is;
    }
