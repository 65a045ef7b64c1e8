use Rattle.std.proofs.Common.{rules, ◌≡◌, ℕ, Option, Some, true, box_value, length, ◌+◌, max, IsSome, unwrap_or, refl, sym, ap, subst, ◌∙◌}
use Rattle.std.specs.FinMap.{get, insert}
use Rattle.page_frames.specs.Framed.{Framed, Held, AreFramed}
use Rattle.page_frames.specs.Inside.{framed_in}
use Rattle.page_frames.proofs.Tables.{slot_of_length}
use Rattle.page_frames.proofs.Orders.{block_cmp_total}
use Rattle.page_frames.proofs.Keys.{still_some}
use Rattle.page_frames.proofs.Framing.{framed_put}
use Rattle.page_frames.proofs.Changes.{put_pages, put_marks}
use Rattle.page_frames.proofs.frames.Frames.put.Goals as goal

pub write_length-requires : goal.write_length-requires
write_length-requires c =
    slot_of_length c.self.inside.lengths c.args.at.now.fork c.requires.place.count (ap (λ (f : Framed). get f.lengths c.args.at.now.fork) c.self.view_is ∙ c.requires.place.long)

abbrev frame_of : goal.After-write_length → Held
frame_of c = record { page = box_value c.args.page; mark = Some c.args.end; used = true }

abbrev next_of : goal.After-write_length → Framed
next_of c = framed_in c.write_length.new.lengths c.write_frame.new.frames c.self.inside.queue c.self.inside.hand c.self.inside.limit

lengths_are : (c : goal.After-write_length) → (next_of c).lengths ≡ insert c.args.self.now.lengths c.args.at.now.fork (max c.requires.place.count (c.args.at.now.block + 1))
lengths_are c =
    let count : c.unwrap_or-count.result ≡ c.requires.place.count = c.unwrap_or-count.ensures ∙ ap (λ (o : Option ℕ). unwrap_or o 0) (c.blocks-2.ensures.length ∙ c.requires.place.long) in
    c.write_length.ensures.lengths ∙ ap (λ (f : Framed). insert f.lengths c.args.at.now.fork c.max.result) c.self.view_is
    ∙ ap (insert c.args.self.now.lengths c.args.at.now.fork) (c.max.ensures ∙ ap (λ (n : ℕ). max n (c.args.at.now.block + 1)) count)

held_is : (c : goal.After-write_length) → (next_of c).held ≡ insert c.args.self.now.held c.args.at.now (frame_of c)
held_is c = c.write_frame.ensures ∙ ap (λ (f : Framed). insert f.held c.args.at.now (frame_of c)) c.self.view_is

pub invariant_of-self : goal.invariant_of-self
invariant_of-self c =
    let size : length (box_value c.args.page) ≡ 8192 = search rules in
    framed_put c.args.self.now (next_of c) c.args.at.now (frame_of c) c.requires.place.count (subst AreFramed c.self.view_is c.self.invariant) size c.requires.reserved c.requires.place.long c.requires.place.within c.requires.place.narrow
    (lengths_are c) (held_is c) (ap (λ (f : Framed). f.queue) c.self.view_is) (ap (λ (f : Framed). f.limit) c.self.view_is)

pub returns-clause-pages : goal.returns-clause-pages
returns-clause-pages c behind = put_pages c.args.self.now (next_of c) c.args.at.now (frame_of c) c.requires.place.count c.requires.place.long c.requires.place.within (lengths_are c) (held_is c) behind

pub returns-clause-marks : goal.returns-clause-marks
returns-clause-marks c = put_marks c.args.self.now (next_of c) c.args.at.now (frame_of c) c.requires.place.count c.requires.place.long c.requires.place.within (lengths_are c) (held_is c) c.args.end refl

pub returns-clause-kept : goal.returns-clause-kept
returns-clause-kept c = record {
  slots = λ fork there. subst (λ s. IsSome (get s fork)) (sym (c.write_length.ensures.slots ∙ ap (λ (f : Framed). f.slots) c.self.view_is)) there;
  blocks = λ q was. record {
    held = subst (λ h. IsSome (get h q)) (sym (held_is c)) (still_some block_cmp_total c.args.self.now.held c.args.at.now q (frame_of c) was.held);
    queued = subst (λ (f : Framed). IsSome (get f.queue q)) (sym c.self.view_is) was.queued;
  };
}
