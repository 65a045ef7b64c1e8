use Rattle.std.proofs.Common.{◌≡◌, None, IsSome, refl, sym, subst}
use Rattle.std.specs.FinMap.{get}
use Rattle.page_frames.specs.Framed.{held_page}
use Rattle.page_pool.specs.Part.{Part}
use Rattle.page_pool.specs.Told.{told_page}
use Rattle.page_pool.specs.Steps.{HasWritten}
use Rattle.page_pool.specs.Calls.{IsQuiet}
use Rattle.page_pool.specs.Partition.{pages_in, part_in}
use Rattle.page_pool.proofs.OnDisk.{own_shown, frames_alike}
use Rattle.page_pool.proofs.Roomed.{marks_with_frame, frames_with, page_read, held_same, is_held, more_with, turned, turned_written, turned_quiet}
use Rattle.page_pool.proofs.partition.Partition.fetch.Goals as goal

pub invariant_of-self : goal.invariant_of-self
invariant_of-self g c =
    let p = c.self.inside in
    let e = c.read_page.ensures in
    turned g.V.Vault p c.self.invariant c.read_page.new.disk e.relseg e.reads e.held p.frames (own_shown g.V.Vault p) refl p.works refl

pub returns-in_err-page-clause-written : goal.returns-in_err-page-clause-written
returns-in_err-page-clause-written g c =
    let p = c.self.inside in
    let e = c.read_page.ensures in
    subst (λ (x : Part). HasWritten x (part_in {V = g.row.V.Denot} {Q = g.row.Q} g.V.Vault (record { disk = c.read_page.new.disk; frames = p.frames; works = p.works; point = p.point; flushed = p.flushed }))) c.self.view_is
    (turned_written g.V.Vault p c.self.invariant c.read_page.new.disk e.relseg e.reads e.held p.frames (own_shown g.V.Vault p) refl p.works refl)

pub invariant_of-self-in_err-take_in : goal.invariant_of-self-in_err-take_in
invariant_of-self-in_err-take_in g c =
    let p = c.self.inside in
    let e = c.read_page.ensures in
    let h = c.take_in.new.self in
    let same = c.in_err-take_in.ensures in
    turned g.V.Vault p c.self.invariant c.read_page.new.disk e.relseg e.reads e.held h
    (λ told. frames_alike (told_page p.disk.relseg (g.V.Vault.files p.disk.area)) p.frames h (λ other. (held_same other p.frames h same.lengths same.same).0))
    (held_same (told_page p.disk.relseg (g.V.Vault.files p.disk.area)) p.frames h same.lengths same.same).1 p.works refl

pub returns-in_err-take_in-clause-written : goal.returns-in_err-take_in-clause-written
returns-in_err-take_in-clause-written g c =
    let p = c.self.inside in
    let e = c.read_page.ensures in
    let h = c.take_in.new.self in
    let same = c.in_err-take_in.ensures in
    subst (λ (x : Part). HasWritten x (part_in {V = g.row.V.Denot} {Q = g.row.Q} g.V.Vault (record { disk = c.read_page.new.disk; frames = h; works = p.works; point = p.point; flushed = p.flushed }))) c.self.view_is
    (turned_written g.V.Vault p c.self.invariant c.read_page.new.disk e.relseg e.reads e.held h
    (λ told. frames_alike (told_page p.disk.relseg (g.V.Vault.files p.disk.area)) p.frames h (λ other. (held_same other p.frames h same.lengths same.same).0))
    (held_same (told_page p.disk.relseg (g.V.Vault.files p.disk.area)) p.frames h same.lengths same.same).1 p.works refl)

pub returns-in_err-take_in-clause-quiet : goal.returns-in_err-take_in-clause-quiet
returns-in_err-take_in-clause-quiet g c =
    let p = c.self.inside in
    let e = c.read_page.ensures in
    let h = c.take_in.new.self in
    let same = c.in_err-take_in.ensures in
    subst (λ (x : Part). IsQuiet x (part_in {V = g.row.V.Denot} {Q = g.row.Q} g.V.Vault (record { disk = c.read_page.new.disk; frames = h; works = p.works; point = p.point; flushed = p.flushed }))) c.self.view_is
    (turned_quiet g.V.Vault p c.self.invariant c.read_page.new.disk e.relseg e.reads e.held h
    (λ told. frames_alike (told_page p.disk.relseg (g.V.Vault.files p.disk.area)) p.frames h (λ other. (held_same other p.frames h same.lengths same.same).0))
    (held_same (told_page p.disk.relseg (g.V.Vault.files p.disk.area)) p.frames h same.lengths same.same).1 p.works refl)

pub invariant_of-self-2 : goal.invariant_of-self-2
invariant_of-self-2 g c =
    let p = c.self.inside in
    let e = c.read_page.ensures in
    let h = c.take_in.new.self in
    let at = c.args.at.now in
    let same = c.in_ok-take_in.ensures in
    let none = subst (λ (x : Part). held_page x.framed.held at ≡ None) (sym c.self.view_is) c.requires.none in
    turned g.V.Vault p c.self.invariant c.read_page.new.disk e.relseg e.reads e.held h
    (λ told. frames_with p.frames h at _ same.lengths same.held none refl (pages_in g.V.Vault p) (own_shown g.V.Vault p told) (λ q there. page_read g.V.Vault p c.self.invariant at _ none c.in_ok-page.ensures.read told q there))
    (marks_with_frame p.frames h at _ same.lengths same.held none refl) p.works refl

pub returns-clause-held : goal.returns-clause-held
returns-clause-held g c = is_held c.self.inside.frames.held c.take_in.new.self.held c.args.at.now _ c.in_ok-take_in.ensures.held

pub returns-clause-more : goal.returns-clause-more
returns-clause-more g c at some =
    more_with c.self.inside.frames.held c.take_in.new.self.held c.args.at.now _ c.in_ok-take_in.ensures.held at (subst (λ (x : Part). IsSome (get x.framed.held at)) (sym c.self.view_is) some)

pub returns-clause-written : goal.returns-clause-written
returns-clause-written g c =
    let p = c.self.inside in
    let e = c.read_page.ensures in
    let h = c.take_in.new.self in
    let at = c.args.at.now in
    let same = c.in_ok-take_in.ensures in
    let none = subst (λ (x : Part). held_page x.framed.held at ≡ None) (sym c.self.view_is) c.requires.none in
    subst (λ (x : Part). HasWritten x (part_in {V = g.row.V.Denot} {Q = g.row.Q} g.V.Vault (record { disk = c.read_page.new.disk; frames = h; works = p.works; point = p.point; flushed = p.flushed }))) c.self.view_is
    (turned_written g.V.Vault p c.self.invariant c.read_page.new.disk e.relseg e.reads e.held h
    (λ told. frames_with p.frames h at _ same.lengths same.held none refl (pages_in g.V.Vault p) (own_shown g.V.Vault p told) (λ q there. page_read g.V.Vault p c.self.invariant at _ none c.in_ok-page.ensures.read told q there))
    (marks_with_frame p.frames h at _ same.lengths same.held none refl) p.works refl)

pub returns-clause-quiet : goal.returns-clause-quiet
returns-clause-quiet g c =
    let p = c.self.inside in
    let e = c.read_page.ensures in
    let h = c.take_in.new.self in
    let at = c.args.at.now in
    let same = c.in_ok-take_in.ensures in
    let none = subst (λ (x : Part). held_page x.framed.held at ≡ None) (sym c.self.view_is) c.requires.none in
    subst (λ (x : Part). IsQuiet x (part_in {V = g.row.V.Denot} {Q = g.row.Q} g.V.Vault (record { disk = c.read_page.new.disk; frames = h; works = p.works; point = p.point; flushed = p.flushed }))) c.self.view_is
    (turned_quiet g.V.Vault p c.self.invariant c.read_page.new.disk e.relseg e.reads e.held h
    (λ told. frames_with p.frames h at _ same.lengths same.held none refl (pages_in g.V.Vault p) (own_shown g.V.Vault p told) (λ q there. page_read g.V.Vault p c.self.invariant at _ none c.in_ok-page.ensures.read told q there))
    (marks_with_frame p.frames h at _ same.lengths same.held none refl) p.works refl)
