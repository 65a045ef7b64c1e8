-- What stays known of frames after a change.
use Rattle.std.proofs.Common.{◌≡◌, ℕ, ◌+◌, ◌-◌, ◌<◌, ◌≤◌, ◌^◌, max, Bool, false, List, length, Option, Some, None, IsSome, is_some, unwrap_or, inl, inr, refl, sym, ap, subst, ◌∙◌, arith, true≢false}
use Rattle.std.specs.Ordering.{eq_by_cmp}
use Rattle.std.specs.FinMap.{empty, get, insert, remove, len, get-empty}
use Rattle.std.proofs.lemmas.Bool.{cases_lt}
use Rattle.lsn_core.specs.declared.ids.ForkId.{ForkId}
use Rattle.lsn_core.specs.declared.ids.BlockId.{BlockId}
use Rattle.lsn_core.specs.Store.{fork_cmp}
use Rattle.lsn_core.proofs.ForkOrder.{fork_cmp_total, fork_cmp-IsAntisymmetric}
use Rattle.page_frames.specs.Framed.{Framed, Held, HeldFrames, ForkLengths, BlockSet, AreFramed, HoldsAlike, held_mark, block_cmp}
use Rattle.page_frames.specs.Overlay.{IsBlockOf, IsReserved}
use Rattle.page_frames.specs.Inside.{dirty_end}
use Rattle.page_frames.proofs.Orders.{block_cmp_total, block_cmp-IsAntisymmetric}
use Rattle.page_frames.proofs.Keys.{either_key, key_self, put_here, put_there, gone_here, gone_there, count_same}
use Rattle.page_frames.proofs.Tables.{whole_insert}
use Rattle.page_frames.proofs.Holding.{by_block, mark_put_here, mark_put_there, page_in, mark_in}
use Rattle.page_frames.proofs.Overlays.{block_there, end_there}

abbrev pub Whole : HeldFrames → Type 0
Whole held = (at : BlockId) (frame : Held) → get held at ≡ Some frame → length frame.page ≡ 8192

-- a block that is dirty behind a change was dirty before, and its place in the queue is kept
abbrev pub StaysQueued : Framed → Framed → Type 0
StaysQueued f h = (q : BlockId) → IsBlockOf f.lengths q → IsSome (held_mark h.held q) → IsSome (held_mark f.held q) × (IsSome (get f.queue q) → IsSome (get h.queue q))

pub framed_frames : (f h : Framed) → AreFramed f → h.lengths ≡ f.lengths → h.limit ≡ f.limit → Whole h.held → len h.held ≤ f.limit → StaysQueued f h → AreFramed h
framed_frames f h before lengths limit whole few stays = record {
  whole = whole;
  few = omega (arith, few, limit);
  narrow = λ fork n e. before.narrow fork n (sym (ap (λ (ls : ForkLengths). get ls fork) lengths) ∙ e);
  queued = λ q n e l dirty.
      let long = sym (ap (λ (ls : ForkLengths). get ls q.fork) lengths) ∙ e in
      let s = stays q (block_there f.lengths q n long l) dirty in
      s.1 (before.queued q n long l s.0);
}

-- ---- frames

pub whole_by : (held next : HeldFrames) → next ≡ held → Whole held → Whole next
whole_by held next e whole = subst Whole (sym e) whole

pub whole_alike : (held next : HeldFrames) → HoldsAlike held next → Whole held → Whole next
whole_alike held next alike whole q x e = by (get held q) refl
  where
    same : (o : Option Held) → get held q ≡ o → page_in o ≡ Some x.page
    same o is = ap page_in (sym is) ∙ sym (alike.pages q) ∙ ap page_in e

    by : (o : Option Held) → get held q ≡ o → length x.page ≡ 8192
    by None is = absurd (let nothing : None ≡ Some x.page = same None is in cc)
    by (Some y) is = (let both : Some y.page ≡ Some x.page = same (Some y) is in ap (λ (o : Option (List ℕ)). length (unwrap_or o x.page)) (sym both) ∙ whole q y is)

pub stays_alike : (f h : Framed) → HoldsAlike f.held h.held → h.queue ≡ f.queue → StaysQueued f h
stays_alike f h alike queue q there_is dirty =
    (ap (λ (o : Option ℕ). is_some o) (sym (alike.marks q)) ∙ dirty, λ there. ap (λ (s : BlockSet). is_some (get s q)) queue ∙ there)

-- a clean frame put in
pub stays_put : (f h : Framed) (at : BlockId) (frame : Held) → h.held ≡ insert f.held at frame → frame.mark ≡ None → ((q : BlockId) → IsSome (get f.queue q) → eq_by_cmp block_cmp q at ≡ false → IsSome (get h.queue q)) → StaysQueued f h
stays_put f h at frame held clean kept q there_is dirty = by_block q at
    (λ same. absurd (true≢false (sym dirty ∙ ap (λ (o : Option ℕ). is_some o) (ap (λ (m : HeldFrames). held_mark m q) held ∙ ap (λ (x : BlockId). held_mark (insert f.held at frame) x) same ∙ mark_put_here f.held at frame ∙ clean))))
    (λ apart. (ap (λ (o : Option ℕ). is_some o) (sym (ap (λ (m : HeldFrames). held_mark m q) held ∙ mark_put_there f.held at q frame apart)) ∙ dirty, λ there. kept q there apart))

-- a frame given up, with its place in the queue
pub stays_gone : (f h : Framed) (at : BlockId) → h.held ≡ remove f.held at → h.queue ≡ remove f.queue at → StaysQueued f h
stays_gone f h at held queue q there_is dirty = by_block q at
    (λ same. absurd (true≢false (sym dirty ∙ ap (λ (o : Option ℕ). is_some o) (ap (λ (m : HeldFrames). held_mark m q) held ∙ ap (λ (x : BlockId). held_mark (remove f.held at) x) same ∙ ap mark_in (gone_here block_cmp_total f.held at)))))
    (λ apart. (
      ap (λ (o : Option ℕ). is_some o) (sym (ap (λ (m : HeldFrames). held_mark m q) held ∙ ap mark_in (gone_there block_cmp_total f.held at q apart))) ∙ dirty,
      λ there. ap (λ (s : BlockSet). is_some (get s q)) queue ∙ ap (λ (o : Option Bool). is_some o) (gone_there block_cmp_total f.queue at q apart) ∙ there,
    ))

pub queue_without : (f h : Framed) (at : BlockId) → h.queue ≡ remove f.queue at → (q : BlockId) → IsSome (get f.queue q) → eq_by_cmp block_cmp q at ≡ false → IsSome (get h.queue q)
queue_without f h at queue q there apart = ap (λ (s : BlockSet). is_some (get s q)) queue ∙ ap (λ (o : Option Bool). is_some o) (gone_there block_cmp_total f.queue at q apart) ∙ there

-- ---- a frame put at a block, at most right behind the last one of its fork

module _ (f h : Framed) (at : BlockId) (frame : Held) (n : ℕ) (before : AreFramed f) (size : length frame.page ≡ 8192) (reserved : IsReserved f at) (long : get f.lengths at.fork ≡ Some n) (within : at.block ≤ n) (small : at.block < 2 ^ 32 - 1) (lengths : h.lengths ≡ insert f.lengths at.fork (max n (at.block + 1))) (held : h.held ≡ insert f.held at frame) (queue : h.queue ≡ f.queue) (limit : h.limit ≡ f.limit) where
  length_here : (fork : ForkId) (m : ℕ) → get h.lengths fork ≡ Some m → fork ≡ at.fork → m ≡ max n (at.block + 1)
  length_here fork m e same =
      let both : Some m ≡ Some (max n (at.block + 1)) = sym e ∙ ap (λ (x : ForkId). get h.lengths x) same ∙ ap (λ (ls : ForkLengths). get ls at.fork) lengths ∙ put_here fork_cmp_total f.lengths at.fork (max n (at.block + 1)) in
      ap (λ (o : Option ℕ). unwrap_or o m) both

  length_there : (fork : ForkId) (m : ℕ) → get h.lengths fork ≡ Some m → eq_by_cmp fork_cmp fork at.fork ≡ false → get f.lengths fork ≡ Some m
  length_there fork m e apart = sym (ap (λ (ls : ForkLengths). get ls fork) lengths ∙ put_there fork_cmp_total f.lengths at.fork fork (max n (at.block + 1)) apart) ∙ e

  pub framed_put : AreFramed h
  framed_put = record {
    whole = whole_by (insert f.held at frame) h.held held (whole_insert f.held at frame size before.whole);
    few = (let few = before.few in omega (arith, ap (λ (m : HeldFrames). len m) held, count_same block_cmp_total f.held at frame reserved.held, few, limit));
    narrow = λ fork m e. either_key fork_cmp_total fork_cmp-IsAntisymmetric fork at.fork
        (λ same. (let is = length_here fork m e same in let less = before.narrow at.fork n long in omega (arith, is, less, small)))
        (λ apart. before.narrow fork m (length_there fork m e apart));
    queued = λ q m e l dirty. ap (λ (s : BlockSet). is_some (get s q)) queue ∙ by_block q at
        (λ same. ap (λ (x : BlockId). is_some (get f.queue x)) same ∙ reserved.queued)
        (λ apart.
        let was : IsSome (held_mark f.held q) = ap (λ (o : Option ℕ). is_some o) (sym (ap (λ (x : HeldFrames). held_mark x q) held ∙ mark_put_there f.held at q frame apart)) ∙ dirty in
        either_key fork_cmp_total fork_cmp-IsAntisymmetric q.fork at.fork
        (λ same.
        let is = length_here q.fork m e same in
        let other : q.block ≡ at.block → ⊥ = λ b. true≢false (sym (ap (λ (x : BlockId). eq_by_cmp block_cmp x at) (one q same b) ∙ key_self block_cmp_total block_cmp-IsAntisymmetric at) ∙ apart) in
        before.queued q n (ap (λ (x : ForkId). get f.lengths x) same ∙ long) (below q other (omega (arith, is, l))) was)
        (λ away. before.queued q m (length_there q.fork m e away) l was));
  }
    where
      one : (q : BlockId) → q.fork ≡ at.fork → q.block ≡ at.block → q ≡ at
      one q fork block = λ i. record { fork = fork i; block = block i }

      below : (q : BlockId) → (q.block ≡ at.block → ⊥) → q.block < max n (at.block + 1) → q.block < n
      below q other l = elim (cases_lt q.block n) [
        | inl less ↦ less
        | inr past ↦ absurd (other (omega (arith, past, l, within)))
      ]

-- ---- lengths

-- each fork has no more blocks than before
abbrev pub AreShorter : ForkLengths → ForkLengths → Type 0
AreShorter old new = (fork : ForkId) (n : ℕ) → get new fork ≡ Some n → 0 < n → (m : ℕ) × ((get old fork ≡ Some m) × (n ≤ m))

pub framed_lengths : (f h : Framed) → AreFramed f → AreShorter f.lengths h.lengths → h.held ≡ f.held → h.queue ≡ f.queue → h.limit ≡ f.limit → AreFramed h
framed_lengths f h before shorter held queue limit = record {
  whole = whole_by f.held h.held held before.whole;
  few = (let few = before.few in omega (arith, ap (λ (m : HeldFrames). len m) held, few, limit));
  narrow = λ fork n e. elim (cases_lt 0 n) [
    | inl some ↦ (let s = shorter fork n e some in let less = before.narrow fork s.0 s.1.0 in omega (arith, less, s.1.1))
    | inr none ↦ omega (arith, none)
  ];
  queued = λ q n e l dirty.
      let s = shorter q.fork n e (omega (arith, l)) in
      ap (λ (x : BlockSet). is_some (get x q)) queue ∙ before.queued q s.0 s.1.0 (omega (arith, l, s.1.1)) (ap (λ (m : HeldFrames). is_some (held_mark m q)) (sym held) ∙ dirty);
}

module _ (lengths : ForkLengths) (fork : ForkId) where
  pub shorter_put : (k : ℕ) → (0 < k → (m : ℕ) × ((get lengths fork ≡ Some m) × (k ≤ m))) → AreShorter lengths (insert lengths fork k)
  shorter_put k less q n e some = either_key fork_cmp_total fork_cmp-IsAntisymmetric q fork
      (λ same.
      let both : Some n ≡ Some k = sym e ∙ ap (λ (x : ForkId). get (insert lengths fork k) x) same ∙ put_here fork_cmp_total lengths fork k in
      let is : n ≡ k = ap (λ (o : Option ℕ). unwrap_or o n) both in
      let s = less (omega (arith, is, some)) in
      (s.0, (ap (λ (x : ForkId). get lengths x) same ∙ s.1.0, omega (arith, is, s.1.1))))
      (λ apart. (n, (sym (put_there fork_cmp_total lengths fork q k apart) ∙ e, omega arith)))

  pub shorter_gone : AreShorter lengths (remove lengths fork)
  shorter_gone q n e some = either_key fork_cmp_total fork_cmp-IsAntisymmetric q fork
      (λ same. absurd (let nothing : Some n ≡ None = sym e ∙ ap (λ (x : ForkId). get (remove lengths fork) x) same ∙ gone_here fork_cmp_total lengths fork in cc))
      (λ apart. (n, (sym (gone_there fork_cmp_total lengths fork q apart) ∙ e, omega arith)))

pub shorter_by : (old new next : ForkLengths) → next ≡ new → AreShorter old new → AreShorter old next
shorter_by old new next e shorter = subst (λ (ls : ForkLengths). AreShorter old ls) (sym e) shorter

-- lengths where no block has a frame
pub framed_none : (f h : Framed) → AreFramed f → f.held ≡ empty → h.held ≡ f.held → h.limit ≡ f.limit → ((fork : ForkId) (n : ℕ) → get h.lengths fork ≡ Some n → n < 2 ^ 32) → AreFramed h
framed_none f h before none held limit narrow = record {
  whole = whole_by f.held h.held held before.whole;
  few = (let few = before.few in omega (arith, ap (λ (m : HeldFrames). len m) held, few, limit));
  narrow = narrow;
  queued = λ q n e l dirty. absurd (true≢false (sym dirty ∙ ap (λ (m : HeldFrames). is_some (held_mark m q)) (held ∙ none) ∙ ap (λ (o : Option Held). is_some (mark_in o)) (get-empty block_cmp q)));
}

pub narrow_put : (f : Framed) (fork : ForkId) (k : ℕ) → AreFramed f → k < 2 ^ 32 → (q : ForkId) (n : ℕ) → get (insert f.lengths fork k) q ≡ Some n → n < 2 ^ 32
narrow_put f fork k before less q n e = either_key fork_cmp_total fork_cmp-IsAntisymmetric q fork
    (λ same.
    let both : Some n ≡ Some k = sym e ∙ ap (λ (x : ForkId). get (insert f.lengths fork k) x) same ∙ put_here fork_cmp_total f.lengths fork k in
    let is : n ≡ k = ap (λ (o : Option ℕ). unwrap_or o n) both in
    omega (arith, is, less))
    (λ apart. before.narrow q n (sym (put_there fork_cmp_total f.lengths fork q k apart) ∙ e))

-- the clock is turned
pub framed_turned : (f h : Framed) → AreFramed f → h.lengths ≡ f.lengths → h.limit ≡ f.limit → h.queue ≡ f.queue → HoldsAlike f.held h.held → AreFramed h
framed_turned f h before lengths limit queue alike =
    framed_frames f h before lengths limit (whole_alike f.held h.held alike before.whole) (let few = before.few in omega (arith, alike.count, few)) (stays_alike f h alike queue)

-- a clean block is taken out of the queue
pub framed_trimmed : (f h : Framed) (at : BlockId) → AreFramed f → h.lengths ≡ f.lengths → h.limit ≡ f.limit → h.held ≡ f.held → h.queue ≡ remove f.queue at → dirty_end f.lengths f.held at ≡ None → AreFramed h
framed_trimmed f h at before lengths limit held queue clean =
    framed_frames f h before lengths limit (whole_by f.held h.held held before.whole) (let few = before.few in omega (arith, ap (λ (m : HeldFrames). len m) held, few))
    (λ q there dirty.
    let was : IsSome (held_mark f.held q) = ap (λ (m : HeldFrames). is_some (held_mark m q)) (sym held) ∙ dirty in (
      was,
      λ queued. by_block q at
          (λ same. absurd (true≢false (sym was ∙ ap (λ (o : Option ℕ). is_some o) (sym (end_there f.lengths f.held q there) ∙ ap (dirty_end f.lengths f.held) same ∙ clean))))
          (λ apart. queue_without f h at queue q queued apart),
    ))
