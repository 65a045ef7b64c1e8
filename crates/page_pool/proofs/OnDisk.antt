-- What a partition holds after its disk was written, or a write of it failed.
use Rattle.std.proofs.Common.{◌≡◌, ℕ, ◌<◌, true, false, unwrap_or, List, [], ◌∷◌, Option, Some, None, IsSome, IfSome, is_some, option_map, refl, ap, sym, subst, ◌∙◌, true≢false}
use Rattle.std.specs.List.{remove}
use Rattle.std.specs.Global.{Vec}
use Rattle.lsn_core.specs.declared.lsn.Lsn.{Lsn}
use Rattle.lsn_core.specs.declared.ids.ForkId.{ForkId}
use Rattle.lsn_core.specs.declared.ids.BlockId.{BlockId}
use Rattle.lsn_core.specs.Files.{Files}
use Rattle.lsn_core.specs.Store.{Store}
use Rattle.lsn_core.specs.Blocks.{block_of, with_fork, with_cut, without_fork}
use Rattle.lsn_core.specs.Shown.{Turns}
use Rattle.vault.specs.declared.area.Vault.{Ghosts}
use Rattle.vault.specs.Area.{Related}
use Rattle.vault.specs.Stops.{Event, synced, noted}
use Rattle.vault.specs.Frame.{AgreeBut, LeavesNow}
use Rattle.rel_files.specs.Forks.{Holds, IsForkPath, mended, page_over, IsTornPut, IsTornCut, IsTornRemoval}
use Rattle.rel_files.specs.Shown.{HoldsStore, KeepsOthers, Leaves, IsTornMake}
use Rattle.rel_files.specs.declared.forks.Forks.{Forks}
use Rattle.page_frames.specs.Marks.{DirtyMarks, is_dirty, cleaned}
use Rattle.page_frames.specs.Framed.{Framed}
use Rattle.page_frames.specs.Overlay.{pages_over, marks_over}
use Rattle.page_frames.proofs.Overlays.{count_over, found_there}
use Rattle.page_pool.specs.declared.work.Work.{Work}
use Rattle.page_pool.specs.declared.work.Work.TheVariants.{Make, Cut, Remove}
use Rattle.page_pool.specs.declared.work.Pending.{Pending}
use Rattle.page_pool.specs.declared.partition.Partition.TheInside.{Inside}
use Rattle.page_pool.specs.Part.{Part, LacksUnwritten}
use Rattle.page_pool.specs.Steps.{IsClean}
use Rattle.page_pool.specs.Told.{told_page}
use Rattle.page_pool.specs.Calls.{AreWholePages, HoldsFrames, HasDone, SameUnwritten}
use Rattle.page_pool.specs.Laws.{AreFramesOf}
use Rattle.page_pool.specs.Partition.{pages_in, part_in, HoldsLacking, IsPartition}
use Rattle.page_pool.specs.Writing.{IsFirstWork, IsNextPage}
use Rattle.page_pool.proofs.Behind.{clean_disks}
use Rattle.page_pool.proofs.Shown.{pages_shown}
use Rattle.page_pool.proofs.Torn.{made_lacks, cut_lacks, removed_lacks, put_lacks, torn_make_lacks, torn_cut_lacks, torn_removal_lacks, torn_put_lacks}

-- ---- the pages that are shown

-- frames are of the pages that they show, whatever stands behind them
own_frames : (behind : BlockId → List ℕ) (f : Framed) → AreFramesOf (pages_over behind f) f
own_frames behind f = record {
  lengths = λ fork. sym (count_over behind f fork);
  blocks = λ at page held there is. sym (ap (λ (o : Option (List ℕ)). unwrap_or o (behind at)) is) ∙ (found_there behind f at page there).1;
}

-- and of pages that they show alike
pub frames_alike : (behind : BlockId → List ℕ) (f h : Framed) → ((other : BlockId → List ℕ) → pages_over other h ≡ pages_over other f) → AreFramesOf (pages_over behind f) h
frames_alike behind f h alike = subst (λ (s : Store). AreFramesOf s h) (alike behind) (own_frames behind h)

pub own_shown : {V : Type 0} {Q : ℕ} (g : Ghosts V) (p : Inside V Q) {A : Type 0} → A → AreFramesOf (pages_in g p) p.frames
own_shown g p any = own_frames (told_page p.disk.relseg (g.files p.disk.area)) p.frames

-- ---- the disk was written

tells_back : (R : Files → Files → Type 0) (x y : Option Files) → Related R x y → IsSome y → IsSome x
tells_back R None None r told = told
tells_back R None (Some n) r told = absurd r
tells_back R (Some m) y r told = refl

-- the area's files hold a store that lacks of some pages what is dirty or pending
pub record Lacking {V : Type 0} (g : Ghosts V) (new : Forks V) (pages : Store) (marks : DirtyMarks) (works : List Pending) : Type 0 where
  pub raw : Store
  pub held : HoldsStore g new raw
  pub lacks : LacksUnwritten raw pages marks works

module _ {V : Type 0} {Q : ℕ} (g : Ghosts V) (p : Inside V Q) (inv : IsPartition g p) (new : Forks V) (kept : KeepsOthers g p.disk new) where
  abbrev pages : Store
  pages = pages_in g p

  abbrev marks : DirtyMarks
  marks = marks_over p.frames

  abbrev behind : BlockId → List ℕ
  behind = told_page p.disk.relseg (g.files p.disk.area)

  pub before : IsSome (g.files new.area) → HoldsLacking g p
  before told = inv.holds (tells_back _ (g.files p.disk.area) (g.files new.area) kept.area.files told)

  -- frames of the same pages show them over the new disk
  pub shown_told : (frames : Framed) (works : List Pending) → IsSome (g.files new.area) → AreFramesOf (pages_in g p) frames → Lacking g new (pages_in g p) (marks_over frames) works → pages_over (told_page new.relseg (g.files new.area)) frames ≡ pages_in g p
  shown_told frames works told framed l =
      let files = l.held.files in
      let some : 0 < new.relseg = subst (λ (n : ℕ). 0 < n) (sym kept.relseg) inv.some in
      ap (λ (o : Option Files). pages_over (told_page new.relseg o) frames) files.are_told
      ∙ pages_shown new.relseg files.files l.raw pages works frames some files.hold l.lacks (before told).whole framed

  pub holds_again : (frames : Framed) (works : Vec Pending) (point flushed : Lsn) → (IsSome (g.files new.area) → AreFramesOf (pages_in g p) frames) → (IsSome (g.files new.area) → Lacking g new (pages_in g p) (marks_over frames) works.items)
      → IsPartition {V = V} {Q = Q} g (record { disk = new; frames = frames; works = works; point = point; flushed = flushed })
  holds_again frames works point flushed framed lacks = record {
    some = subst (λ (n : ℕ). 0 < n) (sym kept.relseg) inv.some;
    holds = λ told.
        let l = lacks told in
        let shown = shown_told frames works.items told (framed told) l in
        record {
          raw = l.raw;
          held = l.held;
          lacks = subst (λ (s : Store). LacksUnwritten l.raw s (marks_over frames) works.items) (sym shown) l.lacks;
          whole = subst AreWholePages (sym shown) (before told).whole;
        };
  }

  -- over an area that doesn't tell its files they are zeros
  pub shown_again : (frames : Framed) (works : List Pending) → ((other : BlockId → List ℕ) → pages_over other frames ≡ pages_over other p.frames) → (IsSome (g.files new.area) → Lacking g new (pages_in g p) (marks_over frames) works)
      → pages_over (told_page new.relseg (g.files new.area)) frames ≡ pages_in g p
  shown_again frames works alike lacks = by (g.files p.disk.area) refl (g.files new.area) refl kept.area.files
    where
      by : (o : Option Files) → g.files p.disk.area ≡ o → (n : Option Files) → g.files new.area ≡ n → Related (AgreeBut IsForkPath) o n → pages_over (told_page new.relseg (g.files new.area)) frames ≡ pages_in g p
      by None old None now r =
          ap (λ (x : Option Files). pages_over (told_page new.relseg x) frames) now ∙ alike (told_page new.relseg None) ∙ sym (ap (λ (x : Option Files). pages_over (told_page p.disk.relseg x) p.frames) old)
      by None old (Some f) now r = absurd r
      by (Some m) old None now r = absurd r
      by (Some m) old (Some f) now r =
          let told : IsSome (g.files new.area) = ap (λ (x : Option Files). is_some x) now in
          shown_told frames works told (frames_alike behind p.frames frames alike) (lacks told)

  module _ (now : Part) (is : part_in g p ≡ now) where
    works_are : (work : Work) (f : IsFirstWork work now) → p.works.items ≡ f.first ∷ f.rest
    works_are work f = ap (λ (x : Part). x.works) is ∙ f.works

    lacks_first : (work : Work) (f : IsFirstWork work now) (raw : Store) → LacksUnwritten raw pages marks p.works.items → LacksUnwritten raw pages marks (f.first ∷ f.rest)
    lacks_first work f raw lacks = subst (λ (ws : List Pending). LacksUnwritten raw pages marks ws) (works_are work f) lacks

    first_lacks : (work : Work) (f : IsFirstWork work now) (raw : Store) → LacksUnwritten raw pages marks (f.first ∷ f.rest) → LacksUnwritten raw pages marks p.works.items
    first_lacks work f raw lacks = subst (λ (ws : List Pending). LacksUnwritten raw pages marks ws) (sym (works_are work f)) lacks

    rest_lacks : (work : Work) (f : IsFirstWork work now) (raw : Store) (left : List Pending) → left ≡ remove p.works.items 0 → LacksUnwritten raw pages marks f.rest → LacksUnwritten raw pages marks left
    rest_lacks work f raw left e lacks = subst (λ (ws : List Pending). LacksUnwritten raw pages marks ws) (sym (e ∙ ap (λ (ws : List Pending). remove ws 0) (works_are work f))) lacks

    pub make_failed : (fork : ForkId) → IsFirstWork (Make fork) now → Leaves (HoldsStore g) p.disk new (IsTornMake fork) → IsSome (g.files new.area) → Lacking g new (pages_in g p) (marks_over p.frames) p.works.items
    make_failed fork f left told =
        let h = before told in
        let t = left h.raw h.held in
        record { raw = t.0; held = t.1.0; lacks = first_lacks (Make fork) f t.0 (torn_make_lacks h.raw t.0 pages marks f.first f.rest fork f.is t.1.1 (lacks_first (Make fork) f h.raw h.lacks)) }

    pub make_done : (fork : ForkId) → IsFirstWork (Make fork) now → Turns (HoldsStore g) p.disk new (λ s. with_fork s fork) → (left : List Pending) → left ≡ remove p.works.items 0
        → IsSome (g.files new.area) → Lacking g new (pages_in g p) (marks_over p.frames) left
    make_done fork f turns left e told =
        let h = before told in
        record { raw = with_fork h.raw fork; held = turns h.raw h.held; lacks = rest_lacks (Make fork) f (with_fork h.raw fork) left e (made_lacks h.raw pages marks f.first f.rest fork f.is (lacks_first (Make fork) f h.raw h.lacks)) }

    pub cut_failed : (fork : ForkId) (to : ℕ) → IsFirstWork (Cut fork to) now → Leaves (HoldsStore g) p.disk new (IsTornCut fork to) → IsSome (g.files new.area) → Lacking g new (pages_in g p) (marks_over p.frames) p.works.items
    cut_failed fork to f left told =
        let h = before told in
        let t = left h.raw h.held in
        record {
          raw = t.0;
          held = t.1.0;
          lacks = first_lacks (Cut fork to) f t.0 (torn_cut_lacks h.raw t.0 pages marks f.first f.rest fork to f.is h.held.files.hold.held h.whole t.1.1 (lacks_first (Cut fork to) f h.raw h.lacks));
        }

    pub cut_done : (fork : ForkId) (to : ℕ) → IsFirstWork (Cut fork to) now → Turns (HoldsStore g) p.disk new (λ s. with_cut (mended s fork) fork to) → (left : List Pending) → left ≡ remove p.works.items 0
        → IsSome (g.files new.area) → Lacking g new (pages_in g p) (marks_over p.frames) left
    cut_done fork to f turns left e told =
        let h = before told in
        let raw = with_cut (mended h.raw fork) fork to in
        record {
          raw = raw;
          held = turns h.raw h.held;
          lacks = rest_lacks (Cut fork to) f raw left e (cut_lacks h.raw pages marks f.first f.rest fork to f.is h.held.files.hold.held h.whole (lacks_first (Cut fork to) f h.raw h.lacks));
        }

    pub removal_failed : (fork : ForkId) → IsFirstWork (Remove fork) now → Leaves (HoldsStore g) p.disk new (IsTornRemoval fork) → IsSome (g.files new.area) → Lacking g new (pages_in g p) (marks_over p.frames) p.works.items
    removal_failed fork f left told =
        let h = before told in
        let t = left h.raw h.held in
        record { raw = t.0; held = t.1.0; lacks = first_lacks (Remove fork) f t.0 (torn_removal_lacks h.raw t.0 pages marks f.first f.rest fork f.is t.1.1 (lacks_first (Remove fork) f h.raw h.lacks)) }

    pub removal_done : (fork : ForkId) → IsFirstWork (Remove fork) now → Turns (HoldsStore g) p.disk new (λ s. without_fork s fork) → (left : List Pending) → left ≡ remove p.works.items 0
        → IsSome (g.files new.area) → Lacking g new (pages_in g p) (marks_over p.frames) left
    removal_done fork f turns left e told =
        let h = before told in
        record { raw = without_fork h.raw fork; held = turns h.raw h.held; lacks = rest_lacks (Remove fork) f (without_fork h.raw fork) left e (removed_lacks h.raw pages marks f.first f.rest fork f.is (lacks_first (Remove fork) f h.raw h.lacks)) }

    no_works : (at : BlockId) → IsNextPage at now → p.works.items ≡ []
    no_works at next = ap (λ (x : Part). x.works) is ∙ next.none

    lacks_none : (at : BlockId) → IsNextPage at now → (raw : Store) → LacksUnwritten raw pages marks p.works.items → LacksUnwritten raw pages marks []
    lacks_none at next raw lacks = subst (λ (ws : List Pending). LacksUnwritten raw pages marks ws) (no_works at next) lacks

    dirty_here : (at : BlockId) → IsNextPage at now → is_dirty marks at.fork at.block ≡ true
    dirty_here at next = ap (λ (x : Part). is_dirty x.marks at.fork at.block) is ∙ next.dirty

    pub put_failed : (at : BlockId) (page : List ℕ) → IsNextPage at now → block_of (pages_in g p) at.fork at.block ≡ Some page → Leaves (HoldsStore g) p.disk new (IsTornPut at)
        → IsSome (g.files new.area) → Lacking g new (pages_in g p) (marks_over p.frames) p.works.items
    put_failed at page next there left told =
        let h = before told in
        let t = left h.raw h.held in
        record {
          raw = t.0;
          held = t.1.0;
          lacks = subst (λ (ws : List Pending). LacksUnwritten t.0 pages marks ws) (sym (no_works at next))
              (torn_put_lacks h.raw t.0 pages marks at page h.held.files.hold.held h.whole (dirty_here at next) there t.1.1 (lacks_none at next h.raw h.lacks));
        }

    pub put_done : (at : BlockId) (page : List ℕ) → IsNextPage at now → block_of (pages_in g p) at.fork at.block ≡ Some page → Turns (HoldsStore g) p.disk new (page_over at page) → (after : DirtyMarks) → after ≡ cleaned (marks_over p.frames) at
        → IsSome (g.files new.area) → Lacking g new (pages_in g p) after p.works.items
    put_done at page next there turns after marks_are told =
        let h = before told in
        let raw = page_over at page h.raw in
        let lacks : LacksUnwritten raw pages (cleaned marks at) [] = put_lacks h.raw pages marks at page h.held.files.hold.held h.whole (lacks_none at next h.raw h.lacks) there in
        record {
          raw = raw;
          held = turns h.raw h.held;
          lacks = subst (λ (ms : DirtyMarks). LacksUnwritten raw pages ms p.works.items) (sym marks_are) (subst (λ (ws : List Pending). LacksUnwritten raw pages (cleaned marks at) ws) (sym (no_works at next)) lacks);
        }

  pub same_done : Turns (HoldsStore g) p.disk new (λ s. s) → IsSome (g.files new.area) → Lacking g new (pages_in g p) (marks_over p.frames) p.works.items
  same_done turns told = let h = before told in record { raw = h.raw; held = turns h.raw h.held; lacks = h.lacks }

  -- where nothing is dirty or pending the files hold the pages
  pub frames_held : (now : Part) → part_in g p ≡ now → Turns (HoldsStore g) p.disk new (λ s. s) → IsClean now → (point flushed : Lsn) → HoldsFrames (part_in {V = V} {Q = Q} g (record { disk = new; frames = p.frames; works = p.works; point = point; flushed = flushed }))
  frames_held now is turns clean point flushed = by (g.files new.area) refl
    where
      by : (o : Option Files) → g.files new.area ≡ o → IfSome o (λ files. Holds new.relseg files (pages_over (told_page new.relseg (g.files new.area)) p.frames))
      by None e = tt
      by (Some files) e =
          let h = before (ap (λ (o : Option Files). is_some o) e) in
          let none : p.works.items ≡ [] = ap (λ (x : Part). x.works) is ∙ clean.works in
          let lacks = subst (λ (ws : List Pending). LacksUnwritten h.raw pages marks ws) none h.lacks in
          let same = clean_disks h.raw pages marks lacks (λ fork b. ap (λ (x : Part). is_dirty x.marks fork b) is ∙ clean.marks fork b) in
          let held = (turns h.raw h.held).files in
          let told : held.files ≡ files = let both : Some held.files ≡ Some files = sym held.are_told ∙ e in cc in
          let shown = shown_again p.frames p.works.items (λ other. refl) (same_done turns) in
          subst (λ (s : Store). Holds new.relseg files s) (same ∙ sym shown) (subst (λ (f : Files). Holds new.relseg f h.raw) told held.hold)

-- a work was done: pages and point stay
pub record WorkDone (work : Work) (old new : Part) : Type 0 where
  pub frames : new.frames ≡ old.frames
  pub point : new.point ≡ old.point
  pub next : HasDone work old new

pub work_done : {V : Type 0} {Q : ℕ} (g : Ghosts V) (p : Inside V Q) (now : Part) → part_in g p ≡ now → (new : Forks V) (work : Work) (f : IsFirstWork work now) (left : Vec Pending) → left.items ≡ remove p.works.items 0
    → pages_over (told_page new.relseg (g.files new.area)) p.frames ≡ pages_in g p → WorkDone work now (part_in {V = V} {Q = Q} g (record { disk = new; frames = p.frames; works = left; point = p.point; flushed = p.flushed }))
work_done g p now is new work f left rest shown = record {
  frames = shown ∙ ap (λ (x : Part). x.frames) is;
  point = ap (λ (x : Part). x.point) is;
  next = record {
    first = f.first;
    is = f.is;
    works = f.works ∙ ap (λ (ws : List Pending). f.first ∷ ws) (sym (rest ∙ ap (λ (ws : List Pending). remove ws 0) (ap (λ (x : Part). x.works) is ∙ f.works)));
    marks = ap (λ (x : Part). x.marks) is;
  };
}

-- what isn't written stays
pub same_unwritten : {V : Type 0} {Q : ℕ} (g : Ghosts V) (p : Inside V Q) (now : Part) → part_in g p ≡ now → (new : Forks V) → pages_over (told_page new.relseg (g.files new.area)) p.frames ≡ pages_in g p → SameUnwritten now (part_in {V = V} {Q = Q} g (record { disk = new; frames = p.frames; works = p.works; point = p.point; flushed = p.flushed }))
same_unwritten g p now is new shown = record {
  frames = shown ∙ ap (λ (x : Part). x.frames) is;
  marks = ap (λ (x : Part). x.marks) is;
  works = ap (λ (x : Part). x.works) is;
  point = ap (λ (x : Part). x.point) is;
}

-- after a sync a stop leaves the files as they are
pub settled_now : (x : Option Files) (past new : Option (List Event)) → new ≡ noted (synced x) past → IfSome x (λ files. LeavesNow (λ left. left ≡ files) new)
settled_now None past new e = tt
settled_now (Some files) past new e = subst (λ (o : Option (List Event)). LeavesNow (λ left. left ≡ files) o) (sym e) (by past)
  where
    by : (o : Option (List Event)) → LeavesNow (λ left. left ≡ files) (noted (synced (Some files)) o)
    by None = tt
    by (Some events) = λ c left. left.2.1

-- a block that is there was found
pub no_block : {X : Type 0} (page : X → List ℕ) (r : Option X) (o : Option (List ℕ)) → option_map page r ≡ o → IsSome o → ((x : X) → r ≡ Some x → ⊥) → ⊥
no_block page None o e there none = let no : is_some o ≡ false = ap (λ (x : Option (List ℕ)). is_some x) (sym e) in true≢false (sym there ∙ no)
no_block page (Some x) o e there none = none x refl
