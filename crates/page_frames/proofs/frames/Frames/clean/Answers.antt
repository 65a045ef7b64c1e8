use Rattle.std.proofs.Common.{◌≡◌, ℕ, ◌≤◌, ◌<◌, List, Option, Some, None, unwrap_or, arith, refl, sym, ap, subst, ◌∙◌}
use Rattle.std.specs.FinMap.{get, insert, remove, len}
use Rattle.page_frames.specs.Framed.{Framed, Held, HeldFrames, BlockSet, AreFramed, held_page}
use Rattle.page_frames.specs.Inside.{framed_in}
use Rattle.page_frames.proofs.Orders.{block_cmp_total, block_cmp-IsAntisymmetric}
use Rattle.page_frames.proofs.Keys.{count_same, count_less}
use Rattle.page_frames.proofs.Tables.{whole_insert}
use Rattle.page_frames.proofs.Holding.{some_is, pages_same}
use Rattle.page_frames.proofs.Framing.{whole_by, framed_frames, stays_put, queue_without}
use Rattle.page_frames.proofs.Overlays.{pages_alike}
use Rattle.page_frames.proofs.Changes.{clean_marks, same_length}
use Rattle.page_frames.proofs.frames.Frames.clean.Goals as goal

abbrev next_of : goal.After-leave_queue → Framed
next_of c = framed_in c.self.inside.lengths c.clean_frame.new.frames c.leave_queue.new.queue c.self.inside.hand c.self.inside.limit

abbrev cleaned_frame : Held → Held
cleaned_frame was = record { page = was.page; mark = None; used = was.used }

found : (c : goal.After-leave_queue) → (x : Held) × (get c.args.self.now.held c.args.at.now ≡ Some x)
found c = some_is (get c.args.self.now.held c.args.at.now) c.requires.held

held_is : (c : goal.After-leave_queue) → (next_of c).held ≡ insert c.args.self.now.held c.args.at.now (cleaned_frame (found c).0)
held_is c =
    c.clean_frame.ensures (found c).0 (ap (λ (f : Framed). get f.held c.args.at.now) c.self.view_is ∙ (found c).1)
    ∙ ap (λ (f : Framed). insert f.held c.args.at.now (cleaned_frame (found c).0)) c.self.view_is

queue_is : (c : goal.After-leave_queue) → (next_of c).queue ≡ remove c.args.self.now.queue c.args.at.now
queue_is c = c.leave_queue.ensures ∙ ap (λ (f : Framed). remove f.queue c.args.at.now) c.self.view_is

count_is : (c : goal.After-leave_queue) → len (next_of c).held ≡ len c.args.self.now.held
count_is c = ap (λ (h : HeldFrames). len h) (held_is c) ∙ count_same block_cmp_total c.args.self.now.held c.args.at.now (cleaned_frame (found c).0) c.requires.held

pub invariant_of-self : goal.invariant_of-self
invariant_of-self c =
    let f = c.args.self.now in
    let before : AreFramed f = subst AreFramed c.self.view_is c.self.invariant in
    let few = before.few in
    framed_frames f (next_of c) before (ap (λ (f : Framed). f.lengths) c.self.view_is) (ap (λ (f : Framed). f.limit) c.self.view_is)
    (whole_by (insert f.held c.args.at.now (cleaned_frame (found c).0)) (next_of c).held (held_is c) (whole_insert f.held c.args.at.now (cleaned_frame (found c).0) (before.whole c.args.at.now (found c).0 (found c).1) before.whole))
    (subst (λ (n : ℕ). n ≤ f.limit) (sym (count_is c)) few)
    (stays_put f (next_of c) c.args.at.now (cleaned_frame (found c).0) (held_is c) refl (queue_without f (next_of c) c.args.at.now (queue_is c)))

pub returns-clause-pages : goal.returns-clause-pages
returns-clause-pages c behind =
    let f = c.args.self.now in
    pages_alike behind behind f (next_of c) (ap (λ (f : Framed). f.lengths) c.self.view_is) (λ q there.
    ap (λ (o : Option (List ℕ)). unwrap_or o (behind q)) (ap (λ (h : HeldFrames). held_page h q) (held_is c) ∙ pages_same f.held c.args.at.now (found c).0 (cleaned_frame (found c).0) (found c).1 refl q))

pub returns-clause-marks : goal.returns-clause-marks
returns-clause-marks c =
    let f = c.args.self.now in
    let there = c.requires.there in
    let l = there.within in
    clean_marks f (next_of c) c.args.at.now (cleaned_frame (found c).0) there.count there.long (omega (arith, l)) (ap (λ (f : Framed). f.lengths) c.self.view_is ∙ same_length f.lengths c.args.at.now there.count there.long there.within) (held_is c) refl

pub returns-clause-count : goal.returns-clause-count
returns-clause-count c = count_is c

pub returns-clause-shorter : goal.returns-clause-shorter
returns-clause-shorter c dirty =
    let f = c.args.self.now in
    let before : AreFramed f = subst AreFramed c.self.view_is c.self.invariant in
    let queued = some_is (get f.queue c.args.at.now) (before.queued c.args.at.now c.requires.there.count c.requires.there.long c.requires.there.within dirty) in
    subst (λ (s : BlockSet). len s < len f.queue) (sym (queue_is c)) (count_less block_cmp_total block_cmp-IsAntisymmetric f.queue c.args.at.now queued.0 queued.1)
