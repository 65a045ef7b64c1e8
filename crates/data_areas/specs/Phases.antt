-- What becomes of the mark and of the other files of the first data area, phase by phase.
use Rattle.std.specs.Prelude.{◌≡◌, ◌⊎◌, ℕ, List, Option, IfSome, IsSome}
use Rattle.std.specs.Option.{is_some}
use Rattle.lsn_core.specs.Store.{Store, files_of}
use Rattle.vault.specs.Stops.{Event}
use Rattle.vault.specs.Frame.{IsAmong, Adds, AgreeBut, ChangesOnly, LeavesNow, Has}
use Rattle.vault.specs.declared.area.Vault.{Ghosts}
use Rattle.data_areas.specs.declared.areas.DataAreas.{DataAreas}
use Rattle.data_areas.specs.Areas.{area_of}
use Rattle.data_areas.specs.Marking.{rebuilding_name, IsMark, IsOther, IsMarking}

-- an area has its mark still: it was marked before anything else of it changed, durably, and since
-- then other files alone changed. Meanwhile each stop leaves the mark (Marking.MarksStay). What a
-- stop leaves is said of an area that tells its files, and only where its past is told too
pub record HasMarkSince (tells : Type 0) (old new : Option (List Event)) : Type 0 where
  pub marked : Option (List Event)  -- its past once it was marked
  pub first : Adds IsMarking old marked
  pub there : tells → LeavesNow (Has rebuilding_name) marked
  pub others : Adds (IsAmong IsOther) marked new

-- other files than the mark changed, until a stop leaves just those of these pages, but for the
-- mark; and at last the mark alone
pub record HasEnded (relseg : ℕ) (pages : Store → Type 0) (old new : Option (List Event))
    : Type 0 where
  pub filled : Option (List Event)  -- its past once the others had changed
  pub others : Adds (IsAmong IsOther) old filled
  pub kept : (held : Store) → pages held
      → LeavesNow (AgreeBut IsMark (files_of relseg held)) filled
  pub last : Adds (IsAmong IsMark) filled new

-- both in turn: an area was marked before anything else of it changed; then other files alone
-- changed, until a stop leaves just those of these pages, but for the mark; and at last the mark
pub record WasMarked (tells : Type 0) (relseg : ℕ) (pages : Store → Type 0)
    (old new : Option (List Event)) : Type 0 where
  pub filled : Option (List Event)
  pub begun : HasMarkSince tells old filled
  pub ended : HasEnded relseg pages filled new

-- what happened to the first data area so far
abbrev pub first_past : {V : Type 0} → Ghosts V → DataAreas V → Option (List Event)
first_past g areas = g.past (area_of areas 0)

-- so it is with the first data area
abbrev pub HaveMarkSince : {V : Type 0} → Ghosts V → DataAreas V → DataAreas V → Type 0
HaveMarkSince g old new =
    HasMarkSince (IsSome (g.files (area_of old 0))) (first_past g old) (first_past g new)

-- so it was with the first data area, to which this happened so far, and its part of the pages
abbrev pub WereMarked : {V : Type 0} → Ghosts V → ℕ → (ℕ → Store → Type 0)
    → DataAreas V → Option (List Event) → Type 0
WereMarked g relseg pages old past =
    WasMarked (IsSome (g.files (area_of old 0))) relseg (pages 0) (first_past g old) past

-- of an area only the mark was touched, and it was written alone
pub record IsMarkedAtMost {V : Type 0} (g : Ghosts V) (old new : V) : Type 0 where
  pub changes : ChangesOnly g IsMark old new
  pub marking : Adds IsMarking (g.past old) (g.past new)

-- only the mark of the first area was touched, and the three others are as they were
pub record TouchesMark {V : Type 0} (g : Ghosts V) (old new : DataAreas V) : Type 0 where
  pub data0 : IsMarkedAtMost g old.data0 new.data0
  pub data1 : new.data1 ≡ old.data1
  pub data2 : new.data2 ≡ old.data2
  pub data3 : new.data3 ≡ old.data3

-- an area has just the files of these pages, and a stop leaves them; it tells its files where it
-- did before
pub record HasFilesOf {V : Type 0} (g : Ghosts V) (relseg : ℕ) (pages : Store → Type 0)
    (old new : V) : Type 0 where
  pub tells : is_some (g.files new) ≡ is_some (g.files old)
  pub files : (held : Store) → pages held
      → IfSome (g.files new) (λ files. files ≡ files_of relseg held)
  pub settled : IfSome (g.files new) (λ files. LeavesNow (λ left. left ≡ files) (g.past new))

-- so have the three areas behind the first one
pub record AreOthersRebuilt {V : Type 0} (g : Ghosts V) (relseg : ℕ)
    (pages : ℕ → Store → Type 0) (old new : DataAreas V) : Type 0 where
  pub data1 : HasFilesOf g relseg (pages 1) old.data1 new.data1
  pub data2 : HasFilesOf g relseg (pages 2) old.data2 new.data2
  pub data3 : HasFilesOf g relseg (pages 3) old.data3 new.data3

-- how far a rebuilding came that failed: nothing but the mark was touched; or the first area has
-- its mark still, since it was marked before anything else of it changed; or the three others have
-- just their files, and the mark of the first one, which was filled before, may be gone
abbrev pub CameSoFar : {V : Type 0} → Ghosts V → ℕ → (ℕ → Store → Type 0)
    → DataAreas V → DataAreas V → Type 0
CameSoFar g relseg pages old new =
    TouchesMark g old new ⊎ (HaveMarkSince g old new ⊎
    (AreOthersRebuilt g relseg pages old new × WereMarked g relseg pages old (first_past g new)))
