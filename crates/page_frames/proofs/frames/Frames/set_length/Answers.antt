use Rattle.std.proofs.Common.{rules, ◌≡◌, ℕ, refl, ◌<◌, ◌^◌, Some, sym, ap, subst, ◌∙◌, ⊎_elim}
use Rattle.std.specs.FinMap.{get}
use Rattle.lsn_core.specs.declared.ids.ForkId.{ForkId}
use Rattle.page_frames.specs.Framed.{Framed, ForkLengths}
use Rattle.page_frames.specs.Inside.{framed_in}
use Rattle.page_frames.proofs.Tables.{either}
use Rattle.page_frames.proofs.Framing.{framed_none, narrow_put}
use Rattle.page_frames.proofs.frames.Frames.set_length.Goals as goal

pub invariant_of-self : goal.invariant_of-self
invariant_of-self c =
    let was : Framed = framed_in c.self.inside.lengths c.self.inside.frames c.self.inside.queue c.self.inside.hand c.self.inside.limit in
    let next : Framed = framed_in c.enter_length.new.lengths c.self.inside.frames c.self.inside.queue c.self.inside.hand c.self.inside.limit in
    let small : c.args.count < 2 ^ 32 = search rules in
    framed_none was next c.self.invariant (ap (λ (f : Framed). f.held) c.self.view_is ∙ c.requires) refl refl
    (⊎_elim
    (λ e. subst (λ (ls : ForkLengths). (fork : ForkId) (n : ℕ) → get ls fork ≡ Some n → n < 2 ^ 32) (sym e) (narrow_put was c.args.fork.now c.args.count c.self.invariant small))
    (λ e. subst (λ (ls : ForkLengths). (fork : ForkId) (n : ℕ) → get ls fork ≡ Some n → n < 2 ^ 32) (sym e) c.self.invariant.narrow)
    (either c.enter_length.result c.enter_length.ensures.lengths c.enter_length.ensures.same))
