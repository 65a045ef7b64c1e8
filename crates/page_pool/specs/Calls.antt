-- What the calls on a partition answer, and what they leave of it.
use Rattle.std.specs.Prelude.{◌≡◌, ℕ, ◌≤◌, max, List, [], ◌∷◌, length, Option, Some, None, IfSome}
use Rattle.lsn_core.specs.declared.ids.ForkId.{ForkId}
use Rattle.lsn_core.specs.declared.ids.BlockId.{BlockId}
use Rattle.lsn_core.specs.Blocks.{block_of}
use Rattle.lsn_core.specs.Files.{Files}
use Rattle.lsn_core.specs.Store.{Store}
use Rattle.vault.specs.Area.{Related}
use Rattle.vault.specs.Frame.{AgreeBut, IsAmong, Adds, LeavesNow}
use Rattle.rel_files.specs.Forks.{Holds, IsForkPath}
use Rattle.page_frames.specs.Marks.{cleaned, IsFirstDirty}
use Rattle.page_pool.specs.declared.work.Work.{Work}
use Rattle.page_pool.specs.declared.work.Work.TheVariants as work
use Rattle.page_pool.specs.declared.work.Pending.{Pending}
use Rattle.page_pool.specs.declared.turn.Wrote.{Wrote}
use Rattle.page_pool.specs.declared.turn.Wrote.TheVariants as wrote
use Rattle.page_pool.specs.Part.{Part, LacksUnwritten, next_end, newest_end}
use Rattle.page_pool.specs.Steps.{IsClean}

-- ---- what a partition is known to be

-- its area's files hold a store, which may have short pages; it lacks of the frames what is dirty
-- or pending, and nothing else
pub record HoldsPart (part : Part) (files : Files) : Type 0 where
  pub raw : Store
  pub held : Holds part.relseg files raw
  pub lacks : LacksUnwritten raw part.frames part.marks part.works

abbrev pub IsHeld : Part → Type 0
IsHeld part = IfSome part.disk (HoldsPart part)

-- each page of a store has 8192 bytes
abbrev pub AreWholePages : Store → Type 0
AreWholePages store = (fork : ForkId) (block : ℕ) (page : List ℕ)
    → block_of store fork block ≡ Some page → length page ≡ 8192

-- and where nothing is dirty or pending, the files hold just the frames
abbrev pub HoldsFrames : Part → Type 0
HoldsFrames part = IfSome part.disk (λ files. Holds part.relseg files part.frames)

-- ---- what stays

-- frames and all that isn't written are as they were
pub record SameUnwritten (old new : Part) : Type 0 where
  pub frames : new.frames ≡ old.frames
  pub marks : new.marks ≡ old.marks
  pub works : new.works ≡ old.works
  pub point : new.point ≡ old.point

-- of the area only segment files of forks were changed, and the count of faults never falls
pub record ChangesForks (old new : Part) : Type 0 where
  pub relseg : new.relseg ≡ old.relseg
  pub files : Related (AgreeBut IsForkPath) old.disk new.disk
  pub past : Adds (IsAmong IsForkPath) old.past new.past
  pub faults : old.faults ≤ new.faults

-- the area was only read, and no mark was taken
pub record ReadsDisk (old new : Part) : Type 0 where
  pub flushed : new.flushed ≡ old.flushed
  pub relseg : new.relseg ≡ old.relseg
  pub files : new.disk ≡ old.disk
  pub past : new.past ≡ old.past
  pub faults : old.faults ≤ new.faults

-- the area wasn't touched, and no mark was taken
pub record SameDisk (old new : Part) : Type 0 where
  pub flushed : new.flushed ≡ old.flushed
  pub relseg : new.relseg ≡ old.relseg
  pub files : new.disk ≡ old.disk
  pub past : new.past ≡ old.past
  pub faults : new.faults ≡ old.faults

-- nothing was written: the area, and what is dirty or pending, are as they were
pub record IsQuiet (old new : Part) : Type 0 where
  pub files : new.disk ≡ old.disk
  pub past : new.past ≡ old.past
  pub marks : new.marks ≡ old.marks
  pub works : new.works ≡ old.works

-- the forks are as long as they were, and there may be as many frames
pub record SameBounds (old new : Part) : Type 0 where
  pub lengths : new.framed.lengths ≡ old.framed.lengths
  pub limit : new.framed.limit ≡ old.framed.limit

-- ---- what was written

-- the first pending work was done
pub record HasDone (done : Work) (old new : Part) : Type 0 where
  pub first : Pending
  pub is : first.work ≡ done
  pub works : old.works ≡ first ∷ new.works
  pub marks : new.marks ≡ old.marks

-- no work was pending, and of the dirty pages the first one was written
pub record HasWrittenPage (at : BlockId) (old new : Part) : Type 0 where
  pub end : ℕ
  pub first : IsFirstDirty old.marks at end
  pub none : old.works ≡ []
  pub works : new.works ≡ []
  pub marks : new.marks ≡ cleaned old.marks at

-- what was written is what comes first: a pending work, or the first dirty page; nothing exactly
-- where there is neither
abbrev pub HasWrittenNext : Option Wrote → Part → Part → Type 0
HasWrittenNext None old new =
    (next_end old ≡ None) × (new.marks ≡ old.marks) × (new.works ≡ old.works)
HasWrittenNext (Some (wrote.Made fork)) old new = HasDone (work.Make fork) old new
HasWrittenNext (Some (wrote.Cut fork count)) old new = HasDone (work.Cut fork count) old new
HasWrittenNext (Some (wrote.Removed fork)) old new = HasDone (work.Remove fork) old new
HasWrittenNext (Some (wrote.Wrote at)) old new = HasWrittenPage at old new

-- the frames and the point stay
pub record IsOneWritten (what : Option Wrote) (old new : Part) : Type 0 where
  pub frames : new.frames ≡ old.frames
  pub point : new.point ≡ old.point
  pub next : HasWrittenNext what old new

-- all was written, the area was synced, and the point is raised
pub record IsAllWritten (redo : ℕ) (old new : Part) : Type 0 where
  pub frames : new.frames ≡ old.frames
  pub clean : IsClean new
  pub point : new.point ≡ max old.point redo
  pub held : HoldsFrames new
  pub settled : IfSome new.disk (λ files. LeavesNow (λ left. left ≡ files) new.past)

-- the WAL is flushed up to the entry of what is written next, and of all that is written
abbrev pub MayWriteNext : Part → ℕ → Type 0
MayWriteNext part flushed = IfSome (next_end part) (λ end. end ≤ flushed)

abbrev pub MayWriteAll : Part → ℕ → Type 0
MayWriteAll part flushed = IfSome (newest_end part) (λ end. end ≤ flushed)
