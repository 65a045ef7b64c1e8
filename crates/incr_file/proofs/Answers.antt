-- What a reader of heads answers is one answer.
use Rattle.std.proofs.Common.{◌≡◌, ◌≢◌, ℕ, List, Result, Ok, Err, refl, sym, ap, ◌∙◌}
use Rattle.incr_file.specs.declared.head.IncrHead.{IncrHead}
use Rattle.incr_file.specs.declared.head.HeadView.{HeadView}
use Rattle.incr_file.specs.declared.decode.HeadFault.{HeadFault}
use Rattle.incr_file.specs.declared.decode.HeadFault.TheVariants.{Length, Magic, Range, Order, NoMemory}
use Rattle.incr_file.specs.Head.{IsHead}
use Rattle.incr_file.specs.Reading.{HeadAnswers, FitsSegmentFile}
use Rattle.std.specs.List.Sorted.{IsStrictlyIncreasing}
use Rattle.std.proofs.Common.{subst}

abbrev view_with : IncrHead → ℕ → HeadView
view_with head body = record { head = head; body = body }

same_view : (a b : HeadView) → a.head ≡ b.head → a.body ≡ b.body → a ≡ b
same_view a b e f = ap (λ (h : IncrHead). view_with h a.body) e ∙ ap (view_with b.head) f

in_range : (head : IncrHead) → IsHead head → FitsSegmentFile head
in_range head is = record { length_fits = is.length_fits; blocks_fit = is.blocks_fit }

pub one_answer : (bytes : List ℕ) (file : ℕ) (a b : Result HeadView HeadFault) → HeadAnswers bytes file a → HeadAnswers bytes file b → a ≢ Err NoMemory → b ≢ Err NoMemory → a ≡ b
one_answer bytes file (Err NoMemory) b x y m n = absurd (m refl)
one_answer bytes file a (Err NoMemory) x y m n = absurd (n refl)
one_answer bytes file (Ok v) (Ok w) x y m n = ap (λ (u : HeadView). Ok u) (same_view v w (x.2 ∙ sym y.2) (x.3 ∙ sym y.3))
one_answer bytes file (Ok v) (Err Length) x y m n = absurd (y x.0.size)
one_answer bytes file (Ok v) (Err Magic) x y m n = absurd (y.1 x.0.magic)
one_answer bytes file (Ok v) (Err Range) x y m n = absurd (y.1 (subst FitsSegmentFile x.2 (in_range v.head x.1)))
one_answer bytes file (Ok v) (Err Order) x y m n = absurd (y.2 (subst (λ (h : IncrHead). IsStrictlyIncreasing h.blocks) x.2 x.1.rising))
one_answer bytes file (Err Length) (Ok w) x y m n = absurd (x y.0.size)
one_answer bytes file (Err Length) (Err Length) x y m n = refl
one_answer bytes file (Err Length) (Err Magic) x y m n = absurd (x y.0)
one_answer bytes file (Err Length) (Err Range) x y m n = absurd (x y.0.size)
one_answer bytes file (Err Length) (Err Order) x y m n = absurd (x y.0.size)
one_answer bytes file (Err Magic) (Ok w) x y m n = absurd (x.1 y.0.magic)
one_answer bytes file (Err Magic) (Err Length) x y m n = absurd (y x.0)
one_answer bytes file (Err Magic) (Err Magic) x y m n = refl
one_answer bytes file (Err Magic) (Err Range) x y m n = absurd (x.1 y.0.magic)
one_answer bytes file (Err Magic) (Err Order) x y m n = absurd (x.1 y.0.magic)
one_answer bytes file (Err Range) (Ok w) x y m n = absurd (x.1 (subst FitsSegmentFile y.2 (in_range w.head y.1)))
one_answer bytes file (Err Range) (Err Length) x y m n = absurd (y x.0.size)
one_answer bytes file (Err Range) (Err Magic) x y m n = absurd (y.1 x.0.magic)
one_answer bytes file (Err Range) (Err Range) x y m n = refl
one_answer bytes file (Err Range) (Err Order) x y m n = absurd (x.1 y.1)
one_answer bytes file (Err Order) (Ok w) x y m n = absurd (x.2 (subst (λ (h : IncrHead). IsStrictlyIncreasing h.blocks) y.2 y.1.rising))
one_answer bytes file (Err Order) (Err Length) x y m n = absurd (y x.0.size)
one_answer bytes file (Err Order) (Err Magic) x y m n = absurd (y.1 x.0.magic)
one_answer bytes file (Err Order) (Err Range) x y m n = absurd (y.1 x.1)
one_answer bytes file (Err Order) (Err Order) x y m n = refl
