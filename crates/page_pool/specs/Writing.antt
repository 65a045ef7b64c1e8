-- What the crate's private functions that write a partition answer and leave: no public contract
-- cites these.
use Rattle.std.specs.Prelude.{◌≡◌, ℕ, max, Bool, true, false, IsSome, List, [], ◌∷◌, Option, Some, None}
use Rattle.std.specs.List.{All}
use Rattle.std.specs.FinMap.{get}
use Rattle.lsn_core.specs.declared.ids.BlockId.{BlockId}
use Rattle.lsn_core.specs.Store.{Store}
use Rattle.rel_files.specs.Shown.{ReadsWhole}
use Rattle.page_frames.specs.Marks.{is_dirty, cleaned, IsFirstDirty}
use Rattle.page_pool.specs.declared.work.Work.{Work}
use Rattle.page_pool.specs.declared.work.Pending.{Pending}
use Rattle.page_pool.specs.Part.{Part}

-- this work is the first one that is pending
pub record IsFirstWork (work : Work) (part : Part) : Type 0 where
  pub first : Pending
  pub rest : List Pending
  pub works : part.works ≡ first ∷ rest
  pub is : first.work ≡ work

-- this block is the first dirty one of all
pub record IsFirstPage (at : BlockId) (part : Part) : Type 0 where
  pub end : ℕ
  pub first : IsFirstDirty part.marks at end

-- no work is pending, and the block is dirty
pub record IsNextPage (at : BlockId) (part : Part) : Type 0 where
  pub none : part.works ≡ []
  pub dirty : is_dirty part.marks at.fork at.block ≡ true

-- its page was written
pub record HasCleaned (at : BlockId) (old new : Part) : Type 0 where
  pub frames : new.frames ≡ old.frames
  pub works : new.works ≡ []
  pub marks : new.marks ≡ cleaned old.marks at
  pub point : new.point ≡ old.point

-- what had a frame has one still
abbrev pub KeepsFrames : Part → Part → Type 0
KeepsFrames old new = (at : BlockId) → IsSome (get old.framed.held at)
    → IsSome (get new.framed.held at)

-- none of these blocks is dirty
abbrev pub AreClean : Part → List BlockId → Type 0
AreClean part blocks = All (λ at. is_dirty part.marks at.fork at.block ≡ false) blocks

-- a page was read of a block of each store that is held, or none was there
pub record IsPageRead (held : Store → Type 0) (at : BlockId) (page : List ℕ) : Type 0 where
  pub before : List ℕ
  pub there : Bool
  pub answer : ReadsWhole held at before page there

-- ---- of two ends

-- the greater one
abbrev pub later_end : Option ℕ → Option ℕ → Option ℕ
later_end (Some a) (Some b) = Some (max a b)
later_end (Some a) None = Some a
later_end None second = second
