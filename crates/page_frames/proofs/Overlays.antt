-- The pages and marks of frames, block by block, and where two of them are the same.
use Rattle.std.proofs.Common.{◌≡◌, ℕ, ◌<◌, ◌≤◌, true, false, cond, List, [], length, get_or, Option, Some, None, IsSome, is_some, option_map, unwrap_or, inl, inr, refl, sym, ap, ◌∙◌, arith, true≢false}
use Rattle.std.specs.Prelude.{nat_lt}
use Rattle.std.specs.FinMap.{get}
use Rattle.std.proofs.lemmas.Bool.{cases_lt, ltb-true, lt-ltb}
use Rattle.std.proofs.lemmas.List.{get_or_past}
use Rattle.std.proofs.lemmas.List.FromFn.{get_or-map-range_with_len, length-map-range_with_len}
use Rattle.lsn_core.specs.byte_words.Pieces.{zero_page}
use Rattle.lsn_core.specs.declared.ids.ForkId.{ForkId}
use Rattle.lsn_core.specs.declared.ids.BlockId.{BlockId}
use Rattle.lsn_core.specs.Store.{ForkPages}
use Rattle.lsn_core.specs.Blocks.{block_of, block_count}
use Rattle.history.specs.Apply.{page_at}
use Rattle.history.proofs.Stores.{by_test, page_found, page_missing}
use Rattle.page_frames.specs.Marks.{touch_end, is_dirty}
use Rattle.page_frames.specs.Framed.{Framed, HeldFrames, ForkLengths, IsAlike, held_mark}
use Rattle.page_frames.specs.Overlay.{each_block, each_fork, page_over, pages_over, marks_over, IsBlockOf}
use Rattle.page_frames.specs.Inside.{has_block, dirty_end}
use Rattle.page_frames.proofs.EachFork.{each_at, each_alike, each_block_at, each_block_past}

-- ---- which blocks are there

pub block_there : (lengths : ForkLengths) (at : BlockId) (n : ℕ) → get lengths at.fork ≡ Some n → at.block < n → IsBlockOf lengths at
block_there lengths at n e l = record { count = n; long = e; within = l }

pub counted_once : (lengths : ForkLengths) (fork : ForkId) (a b : ℕ) → get lengths fork ≡ Some a → get lengths fork ≡ Some b → a ≡ b
counted_once lengths fork a b e h = ap (λ (o : Option ℕ). unwrap_or o a) (sym e ∙ h)

-- a block that isn't there stands behind the last one of its fork
pub behind_last : (lengths : ForkLengths) (at : BlockId) → (IsBlockOf lengths at → ⊥) → (n : ℕ) → get lengths at.fork ≡ Some n → n ≤ at.block
behind_last lengths at missing n e = elim (cases_lt at.block n) [
  | inl l ↦ absurd (missing (block_there lengths at n e l))
  | inr past ↦ past
]

pub either_block : (lengths : ForkLengths) (at : BlockId) {P : Type 0} → (IsBlockOf lengths at → P) → ((IsBlockOf lengths at → ⊥) → P) → P
either_block lengths at {P} there missing = by (get lengths at.fork) refl
  where
    by : (o : Option ℕ) → get lengths at.fork ≡ o → P
    by None e = missing (λ b. absurd (let no_count : None ≡ Some b.count = sym e ∙ b.long in cc))
    by (Some n) e = elim (cases_lt at.block n) [
      | inl l ↦ there (block_there lengths at n e l)
      | inr past ↦ missing (λ b. (let same = counted_once lengths at.fork n b.count e b.long in let l = b.within in omega (arith, past, same, l)))
    ]

pub has_block_true : (lengths : ForkLengths) (at : BlockId) → has_block lengths at ≡ true → IsBlockOf lengths at
has_block_true lengths at has = by (get lengths at.fork) refl
  where
    by : (o : Option ℕ) → get lengths at.fork ≡ o → IsBlockOf lengths at
    by None e = absurd (let l = ltb-true at.block 0 (sym (ap (λ (o : Option ℕ). nat_lt at.block (unwrap_or o 0)) e) ∙ has) in omega (arith, l))
    by (Some n) e = block_there lengths at n e (ltb-true at.block n (sym (ap (λ (o : Option ℕ). nat_lt at.block (unwrap_or o 0)) e) ∙ has))

pub block_has : (lengths : ForkLengths) (at : BlockId) → IsBlockOf lengths at → has_block lengths at ≡ true
block_has lengths at b = ap (λ (o : Option ℕ). nat_lt at.block (unwrap_or o 0)) b.long ∙ lt-ltb at.block b.count b.within

pub has_block_false : (lengths : ForkLengths) (at : BlockId) → has_block lengths at ≡ false → IsBlockOf lengths at → ⊥
has_block_false lengths at missing b = true≢false (sym (block_has lengths at b) ∙ missing)

-- where a block that is there is dirty
pub end_there : (lengths : ForkLengths) (held : HeldFrames) (at : BlockId) → IsBlockOf lengths at → dirty_end lengths held at ≡ held_mark held at
end_there lengths held at there = ap (λ b. cond b (held_mark held at) None) (block_has lengths at there)

-- ---- pages

module _ (behind : BlockId → List ℕ) (f : Framed) where
  pub count_over : (fork : ForkId) → block_count (pages_over behind f) fork ≡ get f.lengths fork
  count_over fork = ap (λ (o : Option ForkPages). option_map length o) (each_at (page_over behind f.held) f.lengths fork) ∙ by (get f.lengths fork)
    where
      by : (o : Option ℕ) → option_map length (option_map (each_block (page_over behind f.held) fork) o) ≡ o
      by None = refl
      by (Some n) = ap (λ (k : ℕ). Some k) (length-map-range_with_len (λ (b : ℕ). page_over behind f.held (record { fork = fork; block = b })) 0 n)

  pub block_over : (at : BlockId) → IsBlockOf f.lengths at → block_of (pages_over behind f) at.fork at.block ≡ Some (page_over behind f.held at)
  block_over at there = each_block_at (page_over behind f.held) f.lengths at there.count there.long there.within

  pub block_past : (at : BlockId) → (IsBlockOf f.lengths at → ⊥) → block_of (pages_over behind f) at.fork at.block ≡ None
  block_past at missing = each_block_past (page_over behind f.held) f.lengths at (behind_last f.lengths at missing)

  pub page_there : (at : BlockId) → IsBlockOf f.lengths at → page_at (pages_over behind f) at ≡ page_over behind f.held at
  page_there at there = page_found (pages_over behind f) at (page_over behind f.held at) (block_over at there)

  pub page_past : (at : BlockId) → (IsBlockOf f.lengths at → ⊥) → page_at (pages_over behind f) at ≡ zero_page
  page_past at missing = page_missing (pages_over behind f) at (block_past at missing)

  -- a block that is found is there
  pub found_there : (at : BlockId) (page : List ℕ) → block_of (pages_over behind f) at.fork at.block ≡ Some page → IsBlockOf f.lengths at × (page_over behind f.held at ≡ page)
  found_there at page found = either_block f.lengths at
      (λ there. (there, (let both : Some (page_over behind f.held at) ≡ Some page = sym (block_over at there) ∙ found in cc)))
      (λ missing. absurd (let nothing : None ≡ Some page = sym (block_past at missing) ∙ found in cc))

-- two pages of the same lengths, with the same page at each block
pub pages_alike : (behind other : BlockId → List ℕ) (f h : Framed) → h.lengths ≡ f.lengths → ((at : BlockId) → IsBlockOf f.lengths at → page_over other h.held at ≡ page_over behind f.held at) → pages_over other h ≡ pages_over behind f
pages_alike behind other f h lengths alike =
    ap (each_fork (page_over other h.held)) lengths
    ∙ each_alike (page_over behind f.held) (page_over other h.held) f.lengths (λ q n e l. alike q (block_there f.lengths q n e l))

-- ---- marks

module _ (f : Framed) where
  pub mark_over : (at : BlockId) → IsBlockOf f.lengths at → touch_end (marks_over f) at.fork at.block ≡ held_mark f.held at
  mark_over at there =
      ap (λ (o : Option (List (Option ℕ))). get_or (unwrap_or o []) at.block None) (each_at (held_mark f.held) f.lengths at.fork ∙ ap (λ (o : Option ℕ). option_map (each_block (held_mark f.held) at.fork) o) there.long)
      ∙ get_or-map-range_with_len (λ (b : ℕ). held_mark f.held (record { fork = at.fork; block = b })) 0 there.count at.block at.block None there.within (omega arith)

  pub mark_past : (at : BlockId) → (IsBlockOf f.lengths at → ⊥) → touch_end (marks_over f) at.fork at.block ≡ None
  mark_past at missing =
      ap (λ (o : Option (List (Option ℕ))). get_or (unwrap_or o []) at.block None) (each_at (held_mark f.held) f.lengths at.fork) ∙ by (get f.lengths at.fork) refl
    where
      by : (o : Option ℕ) → get f.lengths at.fork ≡ o → get_or (unwrap_or (option_map (each_block (held_mark f.held) at.fork) o) []) at.block None ≡ None
      by None e = refl
      by (Some n) e =
          get_or_past (each_block (held_mark f.held) at.fork n) at.block None
          (let l = behind_last f.lengths at missing n e in omega (arith, l, length-map-range_with_len (λ (b : ℕ). held_mark f.held (record { fork = at.fork; block = b })) 0 n))

  -- the mark of any block
  pub touch_over : (at : BlockId) → touch_end (marks_over f) at.fork at.block ≡ dirty_end f.lengths f.held at
  touch_over at = by_test (has_block f.lengths at)
      (λ has. mark_over at (has_block_true f.lengths at has) ∙ sym (ap (λ b. cond b (held_mark f.held at) None) has))
      (λ missing. mark_past at (has_block_false f.lengths at missing) ∙ sym (ap (λ b. cond b (held_mark f.held at) None) missing))

  -- a dirty block is there, and its frame has its mark
  pub dirty_there : (at : BlockId) → is_dirty (marks_over f) at.fork at.block ≡ true → IsBlockOf f.lengths at × IsSome (held_mark f.held at)
  dirty_there at dirty = either_block f.lengths at
      (λ there. (there, sym (ap (λ (m : Option ℕ). is_some m) (mark_over at there)) ∙ dirty))
      (λ missing. absurd (true≢false (sym dirty ∙ ap (λ (m : Option ℕ). is_some m) (mark_past at missing))))

pub marks_alike : (f h : Framed) → h.lengths ≡ f.lengths → ((at : BlockId) → IsBlockOf f.lengths at → held_mark h.held at ≡ held_mark f.held at) → marks_over h ≡ marks_over f
marks_alike f h lengths alike =
    ap (each_fork (held_mark h.held)) lengths
    ∙ each_alike (held_mark f.held) (held_mark h.held) f.lengths (λ q n e l. alike q (block_there f.lengths q n e l))

-- ---- frames that differ in where the clock stands

pub pages_turned : (behind : BlockId → List ℕ) (f h : Framed) → IsAlike f h → pages_over behind h ≡ pages_over behind f
pages_turned behind f h alike = pages_alike behind behind f h alike.lengths (λ at there. ap (λ (o : Option (List ℕ)). unwrap_or o (behind at)) (alike.held.pages at))

pub marks_turned : (f h : Framed) → IsAlike f h → marks_over h ≡ marks_over f
marks_turned f h alike = marks_alike f h alike.lengths (λ at there. alike.held.marks at)
