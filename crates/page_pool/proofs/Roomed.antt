-- Frames given up and pages read into frames: the pages stay.
use Rattle.std.proofs.Common.{◌≡◌, ℕ, true, false, List, length, Option, Some, None, IsSome, is_some, option_map, unwrap_or, inl, inr, refl, ap, sym, subst, ◌∙◌, arith, true≢false}
use Rattle.std.specs.Prelude.{slice_get}
use Rattle.std.specs.FinMap.{get, insert, remove}
use Rattle.std.specs.Global.{Vec}
use Rattle.std.proofs.lemmas.Bool.{cases_lt}
use Rattle.lsn_core.specs.byte_words.Numbers.{◌>>=◌}
use Rattle.lsn_core.specs.declared.ids.BlockId.{BlockId}
use Rattle.lsn_core.specs.Files.{Files}
use Rattle.lsn_core.specs.Store.{Store, ForkPages}
use Rattle.lsn_core.specs.Blocks.{block_of}
use Rattle.lsn_core.specs.Shown.{Turns, BlockAnswer}
use Rattle.vault.specs.declared.area.Vault.{Ghosts}
use Rattle.vault.specs.Frame.{OnlyReads, IsAmong}
use Rattle.vault.proofs.Through.{adds_none}
use Rattle.rel_files.specs.Forks.{HasHeldPages, IsForkPath, whole_pages, mended}
use Rattle.rel_files.specs.Shown.{HoldsStore, KeepsOthers}
use Rattle.rel_files.specs.declared.forks.Forks.{Forks}
use Rattle.rel_files.proofs.ForkStores.{mended_block}
use Rattle.page_frames.specs.Marks.{DirtyMarks, touch_end, is_dirty}
use Rattle.page_frames.specs.Framed.{Framed, Held, HeldFrames, held_page, held_mark}
use Rattle.page_frames.specs.Overlay.{page_over, pages_over, marks_over, IsBlockOf}
use Rattle.page_frames.proofs.Orders.{block_cmp_total}
use Rattle.page_frames.proofs.Keys.{put_here, put_there, gone_here, gone_there}
use Rattle.page_frames.proofs.Holding.{by_block, page_put_here, page_put_there, mark_put_there, mark_put_here}
use Rattle.page_frames.proofs.Overlays.{block_over, mark_over, pages_alike, marks_alike}
use Rattle.page_pool.specs.declared.work.Pending.{Pending}
use Rattle.page_pool.specs.declared.partition.Partition.TheInside.{Inside}
use Rattle.page_pool.specs.Part.{LacksUnwritten}
use Rattle.page_pool.specs.Steps.{HasWritten}
use Rattle.page_pool.specs.Calls.{ReadsDisk, IsQuiet}
use Rattle.page_pool.specs.Laws.{AreFramesOf}
use Rattle.page_pool.specs.Partition.{pages_in, part_in, IsPartition}
use Rattle.page_pool.specs.Writing.{IsPageRead}
use Rattle.page_pool.proofs.Torn.{past_whole}
use Rattle.page_pool.proofs.Shown.{uncut, unheld_clean}
use Rattle.page_pool.proofs.InTurn.{none_changed}
use Rattle.page_pool.proofs.OnDisk.{Lacking, holds_again, shown_told}

-- ---- a page that is dirty, or is there

-- a marked frame has a page
pub marked_frame : (held : HeldFrames) (at : BlockId) → IsSome (held_mark held at) → IsSome (get held at)
marked_frame held at = by (get held at)
  where
    by : (o : Option Held) → IsSome (o >>= λ h. h.mark) → IsSome o
    by None some = some
    by (Some h) some = refl

pub marked_held : (held : HeldFrames) (at : BlockId) → IsSome (held_mark held at) → IsSome (held_page held at)
marked_held held at = by (get held at)
  where
    by : (o : Option Held) → IsSome (o >>= λ h. h.mark) → IsSome (option_map (λ h. h.page) o)
    by None some = some
    by (Some h) some = refl

-- the page in the frame of a block that is there is the block's
pub held_shown : (behind : BlockId → List ℕ) (f : Framed) (at : BlockId) (page : List ℕ) → IsBlockOf f.lengths at → held_page f.held at ≡ Some page → block_of (pages_over behind f) at.fork at.block ≡ Some page
held_shown behind f at page there is = block_over behind f at there ∙ ap (λ (o : Option (List ℕ)). Some (unwrap_or o (behind at))) is

-- ---- a frame that is given up

module _ (f h : Framed) (at : BlockId) (lengths : h.lengths ≡ f.lengths) (held : h.held ≡ remove f.held at) where
  page_gone : (q : BlockId) (page : List ℕ) → held_page h.held q ≡ Some page → held_page f.held q ≡ Some page
  page_gone q page is = by_block q at
      (λ same. absurd (let no : None ≡ Some page = sym (ap (λ (m : HeldFrames). held_page m q) held ∙ ap (λ (x : BlockId). held_page (remove f.held at) x) same ∙ ap (option_map (λ (y : Held). y.page)) (gone_here block_cmp_total f.held at)) ∙ is in cc))
      (λ apart. sym (ap (λ (m : HeldFrames). held_page m q) held ∙ ap (option_map (λ (y : Held). y.page)) (gone_there block_cmp_total f.held at q apart)) ∙ is)

  pub frames_without : (pages : Store) → AreFramesOf pages f → AreFramesOf pages h
  frames_without pages own = record {
    lengths = λ fork. ap (λ ls. get ls fork) lengths ∙ own.lengths fork;
    blocks = λ q page there_page there is. own.blocks q page there_page there (page_gone q there_page is);
  }

  pub marks_without_frame : is_dirty (marks_over f) at.fork at.block ≡ false → marks_over h ≡ marks_over f
  marks_without_frame clean = marks_alike f h lengths (λ q there. by_block q at
      (λ same.
      ap (λ (m : HeldFrames). held_mark m q) held ∙ ap (λ (x : BlockId). held_mark (remove f.held at) x) same ∙ ap (λ (o : Option Held). o >>= λ y. y.mark) (gone_here block_cmp_total f.held at)
      ∙ sym (ap (λ (x : BlockId). held_mark f.held x) same ∙ unmarked (held_mark f.held at) (ap (λ (m : Option ℕ). is_some m) (sym (mark_over f at (subst (λ (x : BlockId). IsBlockOf f.lengths x) same there))) ∙ clean)))
      (λ apart. ap (λ (m : HeldFrames). held_mark m q) held ∙ ap (λ (o : Option Held). o >>= λ y. y.mark) (gone_there block_cmp_total f.held at q apart)))
    where
      unmarked : (m : Option ℕ) → is_some m ≡ false → m ≡ None
      unmarked None e = refl
      unmarked (Some end) e = absurd (true≢false e)

-- ---- a page that is read into a frame

-- a whole page that a store has is what is read of it
whole_read : (raw : Store) (at : BlockId) (page : List ℕ) → HasHeldPages raw → block_of raw at.fork at.block ≡ Some page → length page ≡ 8192 → block_of (mended raw at.fork) at.fork at.block ≡ Some page
whole_read raw at page held there size = by (get raw at.fork) refl
  where
    by : (o : Option ForkPages) → get raw at.fork ≡ o → block_of (mended raw at.fork) at.fork at.block ≡ Some page
    by None e = absurd (let none : None ≡ Some page = sym (ap (λ (o : Option ForkPages). o >>= λ ps. slice_get ps at.block) e) ∙ there in cc)
    by (Some pages) e = elim (cases_lt at.block (length (whole_pages pages))) [
      | inl whole ↦ mended_block raw at.fork pages at.block (held at.fork pages e) e whole ∙ there
      | inr past ↦ absurd (past_whole pages at.block page (held at.fork pages e) past (sym (ap (λ (o : Option ForkPages). o >>= λ ps. slice_get ps at.block) e) ∙ there) size)
    ]

module _ (f h : Framed) (at : BlockId) (x : Held) (lengths : h.lengths ≡ f.lengths) (held : h.held ≡ insert f.held at x) (none : held_page f.held at ≡ None) (clean : x.mark ≡ None) where
  no_mark : held_mark f.held at ≡ None
  no_mark = by (get f.held at) none
    where
      by : (o : Option Held) → option_map (λ y. y.page) o ≡ None → (o >>= λ y. y.mark) ≡ None
      by None e = refl
      by (Some y) e = absurd cc

  pub marks_with_frame : marks_over h ≡ marks_over f
  marks_with_frame = marks_alike f h lengths (λ q there. by_block q at
      (λ same. ap (λ (m : HeldFrames). held_mark m q) held ∙ ap (λ (y : BlockId). held_mark (insert f.held at x) y) same ∙ mark_put_here f.held at x ∙ clean ∙ sym (ap (λ (y : BlockId). held_mark f.held y) same ∙ no_mark))
      (λ apart. ap (λ (m : HeldFrames). held_mark m q) held ∙ mark_put_there f.held at q x apart))

  pub frames_with : (pages : Store) → AreFramesOf pages f → ((page : List ℕ) → block_of pages at.fork at.block ≡ Some page → x.page ≡ page) → AreFramesOf pages h
  frames_with pages own read = record {
    lengths = λ fork. ap (λ ls. get ls fork) lengths ∙ own.lengths fork;
    blocks = λ q page there_page there is. by_block q at
        (λ same.
        let here : Some x.page ≡ Some there_page = sym (ap (λ (m : HeldFrames). held_page m q) held ∙ ap (λ (y : BlockId). held_page (insert f.held at x) y) same ∙ page_put_here f.held at x) ∙ is in
        let one : there_page ≡ x.page = cc in
        one ∙ read page (subst (λ (y : BlockId). block_of pages y.fork y.block ≡ Some page) same there))
        (λ apart. own.blocks q page there_page there (sym (ap (λ (m : HeldFrames). held_page m q) held ∙ page_put_there f.held at q x apart) ∙ is));
  }

-- what had a frame has one still, and the block has one
pub is_held : (old new : HeldFrames) (at : BlockId) (x : Held) → new ≡ insert old at x → IsSome (get new at)
is_held old new at x is = ap (λ (m : HeldFrames). is_some (get m at)) is ∙ ap (λ (o : Option Held). is_some o) (put_here block_cmp_total old at x)

pub more_with : (old new : HeldFrames) (at : BlockId) (x : Held) → new ≡ insert old at x → (q : BlockId) → IsSome (get old q) → IsSome (get new q)
more_with old new at x is q some = by_block q at
    (λ same. subst (λ (b : BlockId). IsSome (get new b)) (sym same) (is_held old new at x is))
    (λ apart. ap (λ (m : HeldFrames). is_some (get m q)) is ∙ ap (λ (o : Option Held). is_some o) (put_there block_cmp_total old at q x apart) ∙ some)

-- ---- of a partition

-- the disk lacks what it lacked
lacks_same : (raw pages : Store) (m n : DirtyMarks) (v w : List Pending) → n ≡ m → w ≡ v → LacksUnwritten raw pages m v → LacksUnwritten raw pages n w
lacks_same raw pages m n v w mn vw lacks = subst (λ (x : DirtyMarks). LacksUnwritten raw pages x w) (sym mn) (subst (λ (x : List Pending). LacksUnwritten raw pages m x) (sym vw) lacks)

-- a page that was read of a block that has no frame is its page
pub page_read : {V : Type 0} {Q : ℕ} (g : Ghosts V) (p : Inside V Q) → IsPartition g p → (at : BlockId) (page : List ℕ) → held_page p.frames.held at ≡ None → IsPageRead (HoldsStore g p.disk) at page → IsSome (g.files p.disk.area)
    → (q : List ℕ) → block_of (pages_in g p) at.fork at.block ≡ Some q → page ≡ q
page_read g p inv at page none read told q there =
    let l = inv.holds told in
    let raw_there = l.lacks.same at.fork at.block (unheld_clean p.frames at none) (uncut l.raw (pages_in g p) (marks_over p.frames) p.works.items at.fork at.block q l.lacks (unheld_clean p.frames at none) there) ∙ there in
    let whole = whole_read l.raw at q l.held.files.hold.held raw_there (l.whole at.fork at.block q there) in
    elim read.there as (λ t. BlockAnswer (mended l.raw at.fork) at read.before page t → page ≡ q) [
      | true ↦ λ answer. let both : Some page ≡ Some q = sym answer ∙ whole in cc
      | false ↦ λ answer. absurd (let no : None ≡ Some q = sym answer.0 ∙ whole in cc)
    ] (read.answer l.raw l.held)

-- the area was at most read, and the frames changed
module _ {V : Type 0} {Q : ℕ} (g : Ghosts V) (p : Inside V Q) (inv : IsPartition g p) (new : Forks V) (relseg : new.relseg ≡ p.disk.relseg) (reads : OnlyReads g p.disk.area new.area) (turns : Turns (HoldsStore g) p.disk new (λ s. s))
    (h : Framed) (framed : IsSome (g.files p.disk.area) → AreFramesOf (pages_in g p) h) (marks : marks_over h ≡ marks_over p.frames) (works : Vec Pending) (same : works.items ≡ p.works.items) where
  kept : KeepsOthers g p.disk new
  kept = record {
    relseg = relseg;
    area = record { files = none_changed (g.files p.disk.area) (g.files new.area) reads.files; past = adds_none (IsAmong IsForkPath) (g.past p.disk.area) (g.past new.area) reads.past; faults = reads.faults };
  }

  told_before : IsSome (g.files new.area) → IsSome (g.files p.disk.area)
  told_before told = subst (λ (o : Option Files). IsSome o) reads.files told

  lacking : IsSome (g.files new.area) → Lacking g new (pages_in g p) (marks_over h) works.items
  lacking told =
      let l = inv.holds (told_before told) in
      record { raw = l.raw; held = turns l.raw l.held; lacks = lacks_same l.raw (pages_in g p) (marks_over p.frames) (marks_over h) p.works.items works.items marks same l.lacks }

  pub turned : IsPartition {V = V} {Q = Q} g (record { disk = new; frames = h; works = works; point = p.point; flushed = p.flushed })
  turned = holds_again g p inv new kept h works p.point p.flushed (λ told. framed (told_before told)) lacking

  pub turned_written : HasWritten (part_in g p) (part_in {V = V} {Q = Q} g (record { disk = new; frames = h; works = works; point = p.point; flushed = p.flushed }))
  turned_written = record {
    frames = λ some. (let told : IsSome (g.files new.area) = subst (λ (o : Option Files). IsSome o) (sym reads.files) some in shown_told g p inv new kept h works.items told (framed some) (lacking told));
    marks = λ fork block end e. ap (λ (ms : DirtyMarks). touch_end ms fork block) (sym marks) ∙ e;
    done = 0;
    works = same;
    point = refl;
    told = ap (λ (o : Option Files). is_some o) reads.files;
  }

  pub turned_quiet : IsQuiet (part_in g p) (part_in {V = V} {Q = Q} g (record { disk = new; frames = h; works = works; point = p.point; flushed = p.flushed }))
  turned_quiet = record { files = reads.files; past = reads.past; marks = marks; works = same }

  pub turned_reads : ReadsDisk (part_in g p) (part_in {V = V} {Q = Q} g (record { disk = new; frames = h; works = works; point = p.point; flushed = p.flushed }))
  turned_reads = record { flushed = refl; relseg = relseg; files = reads.files; past = reads.past; faults = reads.faults }

-- an area that isn't touched
pub untouched : {V : Type 0} (g : Ghosts V) (area : V) → OnlyReads g area area
untouched g area = record { files = refl; past = refl; faults = omega arith }

-- frames with the same pages and marks
pub held_same : (behind : BlockId → List ℕ) (f h : Framed) → h.lengths ≡ f.lengths → h.held ≡ f.held → (pages_over behind h ≡ pages_over behind f) × (marks_over h ≡ marks_over f)
held_same behind f h lengths held =
    (pages_alike behind behind f h lengths (λ at there. ap (λ (m : HeldFrames). page_over behind m at) held), marks_alike f h lengths (λ at there. ap (λ (m : HeldFrames). held_mark m at) held))
