use Rattle.std.proofs.Common.{◌≡◌, ℕ, ◌≤◌, min, arith, Option, Some, unwrap_or, ap, subst, ◌∙◌}
use Rattle.std.specs.FinMap.{get, insert}
use Rattle.page_frames.specs.Framed.{Framed, AreFramed}
use Rattle.page_frames.specs.Inside.{framed_in}
use Rattle.page_frames.proofs.Tables.{slot_of_length}
use Rattle.page_frames.proofs.Holding.{some_is}
use Rattle.page_frames.proofs.Framing.{framed_lengths, shorter_put, shorter_by}
use Rattle.page_frames.proofs.Changes.{cut_pages, cut_marks}
use Rattle.page_frames.proofs.frames.Frames.cut.Goals as goal

pub write_length-requires : goal.write_length-requires
write_length-requires c =
    let there = some_is (get c.args.self.now.lengths c.args.fork.now) c.requires in
    slot_of_length c.self.inside.lengths c.args.fork.now there.0 (ap (λ (f : Framed). get f.lengths c.args.fork.now) c.self.view_is ∙ there.1)

abbrev next_of : goal.After-write_length → Framed
next_of c = framed_in c.write_length.new.lengths c.self.inside.frames c.self.inside.queue c.self.inside.hand c.self.inside.limit

lengths_are : (c : goal.After-write_length) (n : ℕ) → get c.args.self.now.lengths c.args.fork.now ≡ Some n → (next_of c).lengths ≡ insert c.args.self.now.lengths c.args.fork.now (min n c.args.count)
lengths_are c n long =
    let count : c.unwrap_or-found.result ≡ n = c.unwrap_or-found.ensures ∙ ap (λ (o : Option ℕ). unwrap_or o 0) (c.blocks-2.ensures.length ∙ long) in
    c.write_length.ensures.lengths ∙ ap (λ (f : Framed). insert f.lengths c.args.fork.now c.min.result) c.self.view_is
    ∙ ap (insert c.args.self.now.lengths c.args.fork.now) (c.min.ensures ∙ ap (λ (n : ℕ). min n c.args.count) count)

pub invariant_of-self : goal.invariant_of-self
invariant_of-self c =
    let there = some_is (get c.args.self.now.lengths c.args.fork.now) c.requires in
    let shorter : min there.0 c.args.count ≤ there.0 = omega arith in
    framed_lengths c.args.self.now (next_of c) (subst AreFramed c.self.view_is c.self.invariant)
    (shorter_by c.args.self.now.lengths (insert c.args.self.now.lengths c.args.fork.now (min there.0 c.args.count)) (next_of c).lengths (lengths_are c there.0 there.1)
    (shorter_put c.args.self.now.lengths c.args.fork.now (min there.0 c.args.count) (λ some. (there.0, (there.1, shorter)))))
    (ap (λ (f : Framed). f.held) c.self.view_is) (ap (λ (f : Framed). f.queue) c.self.view_is) (ap (λ (f : Framed). f.limit) c.self.view_is)

pub returns-clause-pages : goal.returns-clause-pages
returns-clause-pages c behind =
    let there = some_is (get c.args.self.now.lengths c.args.fork.now) c.requires in
    cut_pages c.args.self.now (next_of c) c.args.fork.now (ap (λ (f : Framed). f.held) c.self.view_is) behind there.0 c.args.count there.1 (lengths_are c there.0 there.1)

pub returns-clause-marks : goal.returns-clause-marks
returns-clause-marks c =
    let there = some_is (get c.args.self.now.lengths c.args.fork.now) c.requires in
    cut_marks c.args.self.now (next_of c) c.args.fork.now (ap (λ (f : Framed). f.held) c.self.view_is) there.0 c.args.count there.1 (lengths_are c there.0 there.1)
