use Rattle.std.proofs.Common.{◌≡◌, ℕ, List, Option, None, Some, arith, sym, ap, ◌∙◌}
use Rattle.std.specs.FinMap.{get, len, get-empty, len-empty}
use Rattle.lsn_core.specs.declared.ids.ForkId.{ForkId}
use Rattle.lsn_core.specs.declared.ids.BlockId.{BlockId}
use Rattle.lsn_core.specs.Store.{fork_cmp}
use Rattle.page_frames.specs.declared.frames.Frame.{Frame}
use Rattle.page_frames.specs.Framed.{Held, block_cmp}
use Rattle.page_frames.specs.Inside.{seen_in, held_of, held_in, lengths_in}
use Rattle.page_frames.proofs.frames.Frames.new.Goals as goal

pub invariant_of-result : goal.invariant_of-result
invariant_of-result c = record {
  whole = λ at frame e.
      let none : get (held_in c.new-frames.result) at ≡ None = ap (λ (es : List (BlockId × Frame)). get (seen_in {R = block_cmp} held_of es) at) c.new-frames.ensures.empty ∙ get-empty block_cmp at in
      absurd (let nothing : None ≡ Some frame = sym none ∙ e in cc);
  few =
      let none = ap (λ (es : List (BlockId × Frame)). len (seen_in {R = block_cmp} held_of es)) c.new-frames.ensures.empty in
      omega (arith, none, len-empty block_cmp Held);
  narrow = λ fork n e.
      let none : get (lengths_in c.new-lengths.result) fork ≡ None = ap (λ (es : List (ForkId × Option ℕ)). get (seen_in {R = fork_cmp} (λ n. n) es) fork) c.new-lengths.ensures.empty ∙ get-empty fork_cmp fork in
      absurd (let nothing : None ≡ Some n = sym none ∙ e in cc);
  queued = λ at n e l dirty.
      let none : get (lengths_in c.new-lengths.result) at.fork ≡ None = ap (λ (es : List (ForkId × Option ℕ)). get (seen_in {R = fork_cmp} (λ n. n) es) at.fork) c.new-lengths.ensures.empty ∙ get-empty fork_cmp at.fork in
      absurd (let nothing : None ≡ Some n = sym none ∙ e in cc);
}
