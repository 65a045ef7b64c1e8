-- The pages and marks of frames after a change.
use Rattle.std.proofs.Common.{◌≡◌, ℕ, ◌+◌, ◌<◌, ◌≤◌, max, min, cond, List, [], take, Option, Some, None, is_some, option_map, unwrap_or, sym, ap, ◌∙◌, arith}
use Rattle.std.specs.FinMap.{get, insert, remove}
use Rattle.lsn_core.specs.byte_words.Pieces.{zero_page}
use Rattle.lsn_core.specs.declared.ids.ForkId.{ForkId}
use Rattle.lsn_core.specs.declared.ids.BlockId.{BlockId}
use Rattle.lsn_core.specs.Store.{ForkPages}
use Rattle.lsn_core.specs.Blocks.{page_put, with_fork, with_cut, with_cut_pages, without_fork}
use Rattle.lsn_core.proofs.ForkOrder.{fork_cmp_total, fork_cmp-IsAntisymmetric}
use Rattle.page_frames.specs.Marks.{fork_marks, with_mark, touched, cleaned}
use Rattle.page_frames.specs.Framed.{Framed, Held, HeldFrames, ForkLengths, held_mark}
use Rattle.page_frames.specs.Overlay.{each_block, each_fork, page_over, pages_over, marks_over}
use Rattle.page_frames.proofs.Seen.{with_same}
use Rattle.page_frames.proofs.Holding.{page_put_here, page_put_there, mark_put_here, mark_put_there}
use Rattle.page_frames.proofs.EachFork.{each_at, each_put, each_cut, each_made, each_removed}

-- ---- a frame put at a block, at most right behind the last one of its fork

module _ (f h : Framed) (at : BlockId) (frame : Held) (n : ℕ) (long : get f.lengths at.fork ≡ Some n) (within : at.block ≤ n) (lengths : h.lengths ≡ insert f.lengths at.fork (max n (at.block + 1))) (held : h.held ≡ insert f.held at frame) where
  pub put_pages : (behind : BlockId → List ℕ) → pages_over behind h ≡ page_put at frame.page (pages_over behind f)
  put_pages behind =
      ap (each_fork (page_over behind h.held)) lengths
      ∙ each_put (page_over behind f.held) (page_over behind h.held) f.lengths at n zero_page frame.page long within
      (ap (λ (m : HeldFrames). page_over behind m at) held ∙ ap (λ (o : Option (List ℕ)). unwrap_or o (behind at)) (page_put_here f.held at frame))
      (λ q apart. ap (λ (m : HeldFrames). page_over behind m q) held ∙ ap (λ (o : Option (List ℕ)). unwrap_or o (behind q)) (page_put_there f.held at q frame apart))

  marks_put : (mark : Option ℕ) → frame.mark ≡ mark → marks_over h ≡ insert (marks_over f) at.fork (with_mark (fork_marks (marks_over f) at.fork) at.block mark)
  marks_put mark is =
      ap (each_fork (held_mark h.held)) lengths
      ∙ each_put (held_mark f.held) (held_mark h.held) f.lengths at n None mark long within
      (ap (λ (m : HeldFrames). held_mark m at) held ∙ mark_put_here f.held at frame ∙ is)
      (λ q apart. ap (λ (m : HeldFrames). held_mark m q) held ∙ mark_put_there f.held at q frame apart)

  pub put_marks : (end : ℕ) → frame.mark ≡ Some end → marks_over h ≡ touched end (marks_over f) at
  put_marks end is = marks_put (Some end) is

  pub clean_marks : frame.mark ≡ None → marks_over h ≡ cleaned (marks_over f) at
  clean_marks is = marks_put None is

-- the length of a fork that has the block
pub same_length : (lengths : ForkLengths) (at : BlockId) (n : ℕ) → get lengths at.fork ≡ Some n → at.block < n → lengths ≡ insert lengths at.fork (max n (at.block + 1))
same_length lengths at n e l =
    let greatest : max n (at.block + 1) ≡ n = omega (arith, l) in
    sym (ap (insert lengths at.fork) greatest ∙ with_same fork_cmp_total fork_cmp-IsAntisymmetric lengths at.fork (Some n) e)

-- ---- a fork made, cut and taken away

module _ (f h : Framed) (fork : ForkId) (held : h.held ≡ f.held) where
  pages_by : (behind : BlockId → List ℕ) (lengths : ForkLengths) → h.lengths ≡ lengths → pages_over behind h ≡ each_fork (page_over behind f.held) lengths
  pages_by behind lengths e = (λ i. each_fork (page_over behind (held i)) (e i))

  marks_by : (lengths : ForkLengths) → h.lengths ≡ lengths → marks_over h ≡ each_fork (held_mark f.held) lengths
  marks_by lengths e = (λ i. each_fork (held_mark (held i)) (e i))

  pub make_pages : (behind : BlockId → List ℕ) → get f.lengths fork ≡ None → h.lengths ≡ insert f.lengths fork 0 → pages_over behind h ≡ with_fork (pages_over behind f) fork
  make_pages behind none lengths =
      let pages = pages_over behind f in
      let missing : get pages fork ≡ None = each_at (page_over behind f.held) f.lengths fork ∙ ap (λ (o : Option ℕ). option_map (each_block (page_over behind f.held) fork) o) none in
      pages_by behind (insert f.lengths fork 0) lengths ∙ each_made (page_over behind f.held) f.lengths fork
      ∙ sym (ap (λ (o : Option ForkPages). cond (is_some o) pages (insert pages fork [])) missing)

  pub make_marks : get f.lengths fork ≡ None → h.lengths ≡ insert f.lengths fork 0 → marks_over h ≡ insert (marks_over f) fork (fork_marks (marks_over f) fork)
  make_marks none lengths =
      let marks = marks_over f in
      let missing : get marks fork ≡ None = each_at (held_mark f.held) f.lengths fork ∙ ap (λ (o : Option ℕ). option_map (each_block (held_mark f.held) fork) o) none in
      marks_by (insert f.lengths fork 0) lengths ∙ each_made (held_mark f.held) f.lengths fork
      ∙ sym (ap (λ (o : Option (List (Option ℕ))). insert marks fork (unwrap_or o [])) missing)

  pub cut_pages : (behind : BlockId → List ℕ) (n c : ℕ) → get f.lengths fork ≡ Some n → h.lengths ≡ insert f.lengths fork (min n c) → pages_over behind h ≡ with_cut (pages_over behind f) fork c
  cut_pages behind n c long lengths =
      let pages = pages_over behind f in
      let there : get pages fork ≡ Some (each_block (page_over behind f.held) fork n) = each_at (page_over behind f.held) f.lengths fork ∙ ap (λ (o : Option ℕ). option_map (each_block (page_over behind f.held) fork) o) long in
      pages_by behind (insert f.lengths fork (min n c)) lengths ∙ each_cut (page_over behind f.held) f.lengths fork n c long
      ∙ ap (λ (o : Option ForkPages). insert pages fork (take c (unwrap_or o []))) there
      ∙ sym (ap (with_cut_pages pages fork c) there)

  pub cut_marks : (n c : ℕ) → get f.lengths fork ≡ Some n → h.lengths ≡ insert f.lengths fork (min n c) → marks_over h ≡ insert (marks_over f) fork (take c (fork_marks (marks_over f) fork))
  cut_marks n c long lengths = marks_by (insert f.lengths fork (min n c)) lengths ∙ each_cut (held_mark f.held) f.lengths fork n c long

  pub remove_pages : (behind : BlockId → List ℕ) → h.lengths ≡ remove f.lengths fork → pages_over behind h ≡ without_fork (pages_over behind f) fork
  remove_pages behind lengths = pages_by behind (remove f.lengths fork) lengths ∙ each_removed (page_over behind f.held) f.lengths fork

  pub remove_marks : h.lengths ≡ remove f.lengths fork → marks_over h ≡ remove (marks_over f) fork
  remove_marks lengths = marks_by (remove f.lengths fork) lengths ∙ each_removed (held_mark f.held) f.lengths fork
