-- The pages in frames over an area that lacks only what is dirty or pending.
use Rattle.std.proofs.Common.{◌≡◌, ℕ, ◌<◌, Bool, true, false, List, [], length, Option, Some, None, is_some, option_map, inl, inr, unwrap_or, get_or, refl, sym, ap, ◌∙◌}
use Rattle.std.specs.Prelude.{slice_get}
use Rattle.std.proofs.lemmas.Bool.{cases_lt}
use Rattle.std.proofs.lemmas.Option.{slice_get-get_or}
use Rattle.std.specs.FinMap.{get}
use Rattle.lsn_core.specs.byte_words.Numbers.{◌>>=◌}
use Rattle.lsn_core.specs.declared.ids.ForkId.{ForkId}
use Rattle.lsn_core.specs.declared.ids.BlockId.{BlockId}
use Rattle.lsn_core.specs.Files.{Files}
use Rattle.lsn_core.specs.Store.{Store, ForkPages}
use Rattle.lsn_core.specs.Blocks.{block_of}
use Rattle.rel_files.specs.Forks.{Holds, whole_pages}
use Rattle.rel_files.proofs.SegmentFiles.{block_is_read}
use Rattle.page_frames.specs.Marks.{DirtyMarks, is_dirty}
use Rattle.page_frames.specs.Framed.{Framed, Held, held_page}
use Rattle.page_frames.specs.Overlay.{page_over, marks_over}
use Rattle.page_frames.proofs.EachFork.{each_is}
use Rattle.page_frames.proofs.Overlays.{either_block, mark_over, mark_past}
use Rattle.page_pool.specs.declared.work.Pending.{Pending}
use Rattle.page_pool.specs.Part.{LacksUnwritten, is_to_cut}
use Rattle.page_pool.specs.Told.{told_page}
use Rattle.page_pool.specs.Laws.{PagesAreShown}
use Rattle.page_pool.proofs.Torn.{past_whole}

-- a whole page that files hold is what they give
pub page_given : (relseg : ℕ) (files : Files) (raw : Store) (at : BlockId) (page : List ℕ) → 0 < relseg → Holds relseg files raw → block_of raw at.fork at.block ≡ Some page → length page ≡ 8192 → told_page relseg (Some files) at ≡ page
page_given relseg files raw at page some holds there size = by (get raw at.fork) refl
  where
    found : (pages : ForkPages) → get raw at.fork ≡ Some pages → slice_get pages at.block ≡ Some page
    found pages e = sym (ap (λ (o : Option ForkPages). o >>= λ ps. slice_get ps at.block) e) ∙ there

    by : (o : Option ForkPages) → get raw at.fork ≡ o → told_page relseg (Some files) at ≡ page
    by None e = absurd (let none : None ≡ Some page = sym (ap (λ (o : Option ForkPages). o >>= λ ps. slice_get ps at.block) e) ∙ there in cc)
    by (Some pages) e = elim (cases_lt at.block (length (whole_pages pages))) [
      | inl whole ↦
          let is = (block_is_read relseg files raw at.fork pages at.block some holds e whole).block in
          let both : Some (told_page relseg (Some files) at) ≡ Some page = sym is ∙ there in cc
      | inr past ↦ absurd (past_whole pages at.block page (holds.held at.fork pages e) past (found pages e) size)
    ]

-- a clean block that is there is cut by no pending work
pub uncut : (raw pages : Store) (marks : DirtyMarks) (works : List Pending) (fork : ForkId) (b : ℕ) (page : List ℕ) → LacksUnwritten raw pages marks works → is_dirty marks fork b ≡ false → block_of pages fork b ≡ Some page → is_to_cut works fork b ≡ false
uncut raw pages marks works fork b page lacks clean there = by (is_to_cut works fork b) refl
  where
    by : (c : Bool) → is_to_cut works fork b ≡ c → c ≡ false
    by true e = absurd (let none : None ≡ Some page = sym (lacks.gone fork b clean e) ∙ there in cc)
    by false e = refl

-- what an area gives for a clean block is its page
pub clean_given : (relseg : ℕ) (files : Files) (raw pages : Store) (marks : DirtyMarks) (works : List Pending) (at : BlockId) (page : List ℕ)
    → 0 < relseg → Holds relseg files raw → LacksUnwritten raw pages marks works → is_dirty marks at.fork at.block ≡ false → block_of pages at.fork at.block ≡ Some page → length page ≡ 8192 → told_page relseg (Some files) at ≡ page
clean_given relseg files raw pages marks works at page some holds lacks clean there size =
    page_given relseg files raw at page some holds (lacks.same at.fork at.block clean (uncut raw pages marks works at.fork at.block page lacks clean there) ∙ there) size

-- a block without a frame is clean
pub unheld_clean : (f : Framed) (at : BlockId) → held_page f.held at ≡ None → is_dirty (marks_over f) at.fork at.block ≡ false
unheld_clean f at none = ap (λ (m : Option ℕ). is_some m) (either_block f.lengths at (λ there. mark_over f at there ∙ unmarked (get f.held at) none) (λ missing. mark_past f at missing))
  where
    unmarked : (o : Option Held) → option_map (λ h. h.page) o ≡ None → (o >>= λ h. h.mark) ≡ None
    unmarked None e = refl
    unmarked (Some h) e = absurd cc

pub pages_shown : PagesAreShown
pages_shown relseg files raw pages works f some holds lacks whole framed =
    each_is (page_over (told_page relseg (Some files)) f.held) f.lengths pages framed.lengths (λ q xs b e l. at q xs b e (slice_get xs b) refl l)
  where
    shown : (q : ForkId) (b : ℕ) (page : List ℕ) → block_of pages q b ≡ Some page → (o : Option (List ℕ)) → held_page f.held (record { fork = q; block = b }) ≡ o → unwrap_or o (told_page relseg (Some files) (record { fork = q; block = b })) ≡ page
    shown q b page there (Some held) is = framed.blocks (record { fork = q; block = b }) page held there is
    shown q b page there None is =
        clean_given relseg files raw pages (marks_over f) works (record { fork = q; block = b }) page some holds lacks (unheld_clean f (record { fork = q; block = b }) is) there (whole q b page there)

    at : (q : ForkId) (xs : ForkPages) (b : ℕ) → get pages q ≡ Some xs → (o : Option (List ℕ)) → slice_get xs b ≡ o → b < length xs → o ≡ Some (page_over (told_page relseg (Some files)) f.held (record { fork = q; block = b }))
    at q xs b e None is l = absurd (let k : slice_get xs b ≡ Some (get_or xs b []) = slice_get-get_or xs b [] l in let none : None ≡ Some (get_or xs b []) = sym is ∙ k in cc)
    at q xs b e (Some page) is l =
        let there : block_of pages q b ≡ Some page = ap (λ (o : Option ForkPages). o >>= λ ps. slice_get ps b) e ∙ is in
        ap (λ (p : List ℕ). Some p) (sym (shown q b page there (held_page f.held (record { fork = q; block = b })) refl))
