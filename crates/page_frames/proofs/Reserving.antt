-- Frames behind a reservation.
use Rattle.std.proofs.Common.{◌≡◌, ℕ, ◌+◌, ◌<◌, ◌≤◌, Bool, true, false, cond, List, length, Option, Some, None, IsSome, is_some, unwrap_or, inl, inr, ◌⊎◌, sym, ap, subst, ◌∙◌, arith}
use Rattle.std.specs.Ordering.{eq_by_cmp}
use Rattle.std.specs.FinMap.{get, insert, len, len-insert}
use Rattle.lsn_core.specs.declared.ids.BlockId.{BlockId}
use Rattle.page_frames.specs.Framed.{Framed, Held, HeldFrames, BlockSet, ForkSet, AreFramed, HoldsMore, held_page, held_mark, lacks, block_cmp}
use Rattle.page_frames.specs.Overlay.{pages_over, marks_over, IsBlockOf, IsReserved, KeepsReserved}
use Rattle.page_frames.proofs.Orders.{block_cmp_total}
use Rattle.page_frames.proofs.Keys.{put_here, still_some}
use Rattle.page_frames.proofs.Tables.{whole_insert, few_insert}
use Rattle.page_frames.proofs.Holding.{by_block, page_in, mark_in, page_put_there, mark_put_there}
use Rattle.page_frames.proofs.Overlays.{pages_alike, marks_alike}
use Rattle.page_frames.proofs.Framing.{whole_by, framed_frames, stays_put}

-- a clean frame was taken for a block that isn't there and had none
pub record IsTaken (f h : Framed) (at : BlockId) : Type 0 where
  pub frame : Held
  pub held : h.held ≡ insert f.held at frame
  pub none : get f.held at ≡ None
  pub clean : frame.mark ≡ None
  pub size : length frame.page ≡ 8192
  pub missing : IsBlockOf f.lengths at → ⊥
  pub left : len f.held < f.limit

-- a block has a place in the queue, and perhaps a new frame
pub record IsQueued (f h : Framed) (at : BlockId) : Type 0 where
  pub lengths : h.lengths ≡ f.lengths
  pub slots : h.slots ≡ f.slots
  pub limit : h.limit ≡ f.limit
  pub queue : h.queue ≡ insert f.queue at true
  pub held : (h.held ≡ f.held) ⊎ IsTaken f h at

module _ (f h : Framed) (at : BlockId) (q : IsQueued f h at) where
  -- another block than the one that has got a frame
  apart : IsTaken f h at → (b : BlockId) → IsBlockOf f.lengths b → eq_by_cmp block_cmp b at ≡ false
  apart t b there = by_block b at (λ same. absurd (t.missing (subst (λ (x : BlockId). IsBlockOf f.lengths x) same there))) (λ far. far)

  queue_more : (b : BlockId) → IsSome (get f.queue b) → IsSome (get h.queue b)
  queue_more b some = ap (λ (s : BlockSet). is_some (get s b)) q.queue ∙ still_some block_cmp_total f.queue at b true some

  pub queued_framed : AreFramed f → AreFramed h
  queued_framed before = elim q.held [
    | inl same ↦ framed_frames f h before q.lengths q.limit (whole_by f.held h.held same before.whole) (let few = before.few in omega (arith, ap (λ (m : HeldFrames). len m) same, few))
        (λ b there dirty. (ap (λ (m : HeldFrames). is_some (held_mark m b)) (sym same) ∙ dirty, queue_more b))
    | inr t ↦ framed_frames f h before q.lengths q.limit (whole_by (insert f.held at t.frame) h.held t.held (whole_insert f.held at t.frame t.size before.whole))
        (subst (λ (m : HeldFrames). len m ≤ f.limit) (sym t.held) (few_insert f.held at t.frame f.limit t.left))
        (stays_put f h at t.frame t.held t.clean (λ b some far. queue_more b some))
  ]

  pub queued_pages : (behind : BlockId → List ℕ) → pages_over behind h ≡ pages_over behind f
  queued_pages behind = pages_alike behind behind f h q.lengths (λ b there. ap (λ (o : Option (List ℕ)). unwrap_or o (behind b)) (page_same b there))
    where
      page_same : (b : BlockId) → IsBlockOf f.lengths b → held_page h.held b ≡ held_page f.held b
      page_same b there = elim q.held [
        | inl same ↦ ap (λ (m : HeldFrames). held_page m b) same
        | inr t ↦ ap (λ (m : HeldFrames). held_page m b) t.held ∙ page_put_there f.held at b t.frame (apart t b there)
      ]

  pub queued_marks : marks_over h ≡ marks_over f
  queued_marks = marks_alike f h q.lengths (λ b there. elim q.held [
    | inl same ↦ ap (λ (m : HeldFrames). held_mark m b) same
    | inr t ↦ ap (λ (m : HeldFrames). held_mark m b) t.held ∙ mark_put_there f.held at b t.frame (apart t b there)
  ])

  pub queued_held : HoldsMore f.held h.held
  queued_held b x there = elim q.held [
    | inl same ↦ (ap (λ (m : HeldFrames). held_page m b) same ∙ ap page_in there, ap (λ (m : HeldFrames). held_mark m b) same ∙ ap mark_in there)
    | inr t ↦ by_block b at
        (λ is. absurd (let nothing : None ≡ Some x = sym t.none ∙ sym (ap (get f.held) is) ∙ there in cc))
        (λ far. (
          ap (λ (m : HeldFrames). held_page m b) t.held ∙ page_put_there f.held at b t.frame far ∙ ap page_in there,
          ap (λ (m : HeldFrames). held_mark m b) t.held ∙ mark_put_there f.held at b t.frame far ∙ ap mark_in there,
        ))
  ]

  pub queued_few : len h.held ≤ len f.held + lacks f.held at
  queued_few = elim q.held [
    | inl same ↦ omega (arith, ap (λ (m : HeldFrames). len m) same)
    | inr t ↦
        let lacked : lacks f.held at ≡ 1 = ap (λ (o : Option Held). cond (is_some (page_in o)) 0 1) t.none in
        let one : len (insert f.held at t.frame) ≡ len f.held + 1 = len-insert block_cmp_total f.held at t.frame ∙ ap (λ (o : Option Held). cond (is_some o) (len f.held) (len f.held + 1)) t.none in
        omega (arith, ap (λ (m : HeldFrames). len m) t.held, one, lacked)
  ]

  pub queued_kept : KeepsReserved f h
  queued_kept = record {
    slots = λ fork some. ap (λ (s : ForkSet). is_some (get s fork)) q.slots ∙ some;
    blocks = λ b was. record {
      held = elim q.held [
        | inl same ↦ ap (λ (m : HeldFrames). is_some (get m b)) same ∙ was.held
        | inr t ↦ ap (λ (m : HeldFrames). is_some (get m b)) t.held ∙ still_some block_cmp_total f.held at b t.frame was.held
      ];
      queued = queue_more b was.queued;
    };
  }

  pub queued_reserved : IsSome (get h.held at) → IsReserved h at
  queued_reserved some = record { held = some; queued = ap (λ (s : BlockSet). is_some (get s at)) q.queue ∙ ap (λ (o : Option Bool). is_some o) (put_here block_cmp_total f.queue at true) }
