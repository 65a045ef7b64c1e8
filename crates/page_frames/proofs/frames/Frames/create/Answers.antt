use Rattle.std.proofs.Common.{◌≡◌, arith, ap, subst, ◌∙◌}
use Rattle.std.specs.FinMap.{insert}
use Rattle.page_frames.specs.Framed.{Framed, AreFramed}
use Rattle.page_frames.specs.Inside.{framed_in}
use Rattle.page_frames.proofs.Framing.{framed_lengths, shorter_put, shorter_by}
use Rattle.page_frames.proofs.Changes.{make_pages, make_marks}
use Rattle.page_frames.proofs.frames.Frames.create.Goals as goal

abbrev next_of : goal.After-write_length → Framed
next_of c = framed_in c.write_length.new.lengths c.self.inside.frames c.self.inside.queue c.self.inside.hand c.self.inside.limit

lengths_are : (c : goal.After-write_length) → (next_of c).lengths ≡ insert c.args.self.now.lengths c.args.fork.now 0
lengths_are c = c.write_length.ensures.lengths ∙ ap (λ (f : Framed). insert f.lengths c.args.fork.now 0) c.self.view_is

pub invariant_of-self : goal.invariant_of-self
invariant_of-self c =
    framed_lengths c.args.self.now (next_of c) (subst AreFramed c.self.view_is c.self.invariant)
    (shorter_by c.args.self.now.lengths (insert c.args.self.now.lengths c.args.fork.now 0) (next_of c).lengths (lengths_are c) (shorter_put c.args.self.now.lengths c.args.fork.now 0 (λ some. absurd (omega (arith, some)))))
    (ap (λ (f : Framed). f.held) c.self.view_is) (ap (λ (f : Framed). f.queue) c.self.view_is) (ap (λ (f : Framed). f.limit) c.self.view_is)

pub returns-clause-pages : goal.returns-clause-pages
returns-clause-pages c behind = make_pages c.args.self.now (next_of c) c.args.fork.now (ap (λ (f : Framed). f.held) c.self.view_is) behind c.requires.missing (lengths_are c)

pub returns-clause-marks : goal.returns-clause-marks
returns-clause-marks c = make_marks c.args.self.now (next_of c) c.args.fork.now (ap (λ (f : Framed). f.held) c.self.view_is) c.requires.missing (lengths_are c)
