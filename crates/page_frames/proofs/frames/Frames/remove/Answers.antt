use Rattle.std.proofs.Common.{◌≡◌, ap, subst, ◌∙◌}
use Rattle.std.specs.FinMap.{remove}
use Rattle.page_frames.specs.Framed.{Framed, AreFramed}
use Rattle.page_frames.specs.Inside.{framed_in}
use Rattle.page_frames.proofs.Framing.{framed_lengths, shorter_gone, shorter_by}
use Rattle.page_frames.proofs.Changes.{remove_pages, remove_marks}
use Rattle.page_frames.proofs.frames.Frames.remove.Goals as goal

abbrev next_of : goal.After-remove_length → Framed
next_of c = framed_in c.remove_length.new.lengths c.self.inside.frames c.self.inside.queue c.self.inside.hand c.self.inside.limit

lengths_are : (c : goal.After-remove_length) → (next_of c).lengths ≡ remove c.args.self.now.lengths c.args.fork.now
lengths_are c = c.remove_length.ensures.lengths ∙ ap (λ (f : Framed). remove f.lengths c.args.fork.now) c.self.view_is

pub invariant_of-self : goal.invariant_of-self
invariant_of-self c =
    framed_lengths c.args.self.now (next_of c) (subst AreFramed c.self.view_is c.self.invariant)
    (shorter_by c.args.self.now.lengths (remove c.args.self.now.lengths c.args.fork.now) (next_of c).lengths (lengths_are c) (shorter_gone c.args.self.now.lengths c.args.fork.now))
    (ap (λ (f : Framed). f.held) c.self.view_is) (ap (λ (f : Framed). f.queue) c.self.view_is) (ap (λ (f : Framed). f.limit) c.self.view_is)

pub returns-clause-pages : goal.returns-clause-pages
returns-clause-pages c behind = remove_pages c.args.self.now (next_of c) c.args.fork.now (ap (λ (f : Framed). f.held) c.self.view_is) behind (lengths_are c)

pub returns-clause-marks : goal.returns-clause-marks
returns-clause-marks c = remove_marks c.args.self.now (next_of c) c.args.fork.now (ap (λ (f : Framed). f.held) c.self.view_is) (lengths_are c)
