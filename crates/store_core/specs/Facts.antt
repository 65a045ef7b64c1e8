-- What each partition keeps, whatever steps come.
use Rattle.std.specs.Prelude.{◌≡◌, ℕ, ◌<◌, ◌==◌, ◌&&◌, ◌||◌, Bool, true, false, not, List, [], ◌∷◌, Some, None, nat_le}
use Rattle.std.specs.List.{All, list_any}
use Rattle.std.specs.Option.{is_some}
use Rattle.std.specs.FinMap.{empty, contains_key}
use Rattle.lsn_core.specs.declared.ids.ForkId.{ForkId}
use Rattle.lsn_core.specs.declared.ids.BlockId.{BlockId}
use Rattle.lsn_core.specs.Store.{Store}
use Rattle.lsn_core.specs.Blocks.{block_of}
use Rattle.history.specs.Entry.{Act, Create, Truncate, Change, Drop, Mark, Entry}
use Rattle.history.specs.Apply.{main_fork, is_same_fork, is_of_any, apply_all}
use Rattle.history.specs.Whole.{is_named}
use Rattle.history.specs.partitions.Parts.{is_of, IsPart}
use Rattle.history.specs.fuzzy_copies.Touches.{touches}
use Rattle.history.specs.fuzzy_copies.Sound.{Agree}
use Rattle.history.specs.fuzzy_copies.Taken.{since}
use Rattle.history.specs.fuzzy_copies.Covers.{Covers}
use Rattle.store_core.specs.declared.step.Work.{Work}
use Rattle.store_core.specs.declared.step.Work.TheVariants.{Make, Cut, Remove}
use Rattle.store_core.specs.State.{Part, State}

abbrev pub is_dirty : List BlockId → ForkId → ℕ → Bool
is_dirty dirty fork block = is_named (record { fork = fork; block = block }) dirty

-- a work settles whether the fork is there, since it makes or removes it; it cuts the block off
abbrev pub work_settles : ForkId → Work → Bool
work_settles fork (Make made) = is_same_fork fork made
work_settles fork (Cut cut count) = false
work_settles fork (Remove gone) = is_same_fork fork gone

abbrev pub work_cuts : ForkId → ℕ → Work → Bool
work_cuts fork block (Make made) = false
work_cuts fork block (Cut cut count) = is_same_fork fork cut && nat_le count block
work_cuts fork block (Remove gone) = is_same_fork fork gone

-- the fork that a work is of
abbrev pub work_fork : Work → ForkId
work_fork (Make made) = made
work_fork (Cut cut count) = cut
work_fork (Remove gone) = gone

-- one of the pending works makes the fork or removes it; one cuts the block off
abbrev pub is_to_settle : List Work → ForkId → Bool
is_to_settle works fork = list_any (work_settles fork) works

abbrev pub is_to_cut : List Work → ForkId → ℕ → Bool
is_to_cut works fork block = list_any (work_cuts fork block) works

-- whether a fork is there once a work is done, by whether it was before, and once all are
abbrev pub there_after : ForkId → Bool → Work → Bool
there_after fork there (Make made) = there || is_same_fork fork made
there_after fork there (Cut cut count) = there
there_after fork there (Remove gone) = there && not (is_same_fork fork gone)

abbrev pub there_behind : List Work → ForkId → Bool → Bool
there_behind [] fork there = there
there_behind (w ∷ works) fork there = there_behind works fork (there_after fork there w)

-- a disk lacks of the frames what is dirty or pending, and nothing else
pub record LacksUnwritten (disk frames : Store) (dirty : List BlockId) (works : List Work)
    : Type 0 where
  -- it has a clean block as it is, unless a pending work cuts it
  pub same : (fork : ForkId) (block : ℕ) → is_dirty dirty fork block ≡ false
      → is_to_cut works fork block ≡ false → Agree disk frames fork block
  -- a clean block that a pending work cuts isn't there any more
  pub gone : (fork : ForkId) (block : ℕ) → is_dirty dirty fork block ≡ false
      → is_to_cut works fork block ≡ true → block_of frames fork block ≡ None
  -- once the pending works are done it has the forks that there are
  pub forks : (fork : ForkId)
      → there_behind works fork (contains_key disk fork) ≡ contains_key frames fork
  -- a dirty block is there
  pub there : (fork : ForkId) (block : ℕ) → is_dirty dirty fork block ≡ true
      → is_some (block_of frames fork block) ≡ true

-- an act enters a work: a creation the making of its fork, a truncation the cut of its main fork, a
-- drop the removal of a fork of its relations
abbrev pub enters : Work → Act → Bool
enters (Make made) (Create fork) = is_same_fork made fork
enters (Make made) (Truncate rel count) = false
enters (Make made) (Change items) = false
enters (Make made) (Drop rels) = false
enters (Make made) (Mark marking) = false
enters (Cut cut blocks) (Create fork) = false
enters (Cut cut blocks) (Truncate rel count) =
    is_same_fork cut (main_fork rel) && (blocks == count)
enters (Cut cut blocks) (Change items) = false
enters (Cut cut blocks) (Drop rels) = false
enters (Cut cut blocks) (Mark marking) = false
enters (Remove gone) (Create fork) = false
enters (Remove gone) (Truncate rel count) = false
enters (Remove gone) (Change items) = false
enters (Remove gone) (Drop rels) = is_of_any gone rels
enters (Remove gone) (Mark marking) = false

-- one of some entries entered a work
abbrev pub is_entered : List Entry → Work → Bool
is_entered entries work = list_any (λ e. enters work e.act) entries

-- all that is dirty or pending comes from these entries
pub record ComesFrom (entries : List Entry) (dirty : List BlockId) (works : List Work)
    : Type 0 where
  -- one of them touched each dirty block
  pub touched : (fork : ForkId) (block : ℕ) → is_dirty dirty fork block ≡ true
      → list_any (touches fork block) entries ≡ true
  -- and one of them entered each pending work
  pub entered : All (λ work. is_entered entries work ≡ true) works

-- what a partition of this number keeps, where the history makes this store
pub record KeepsFacts (q : ℕ) (history : List Entry) (store : Store) (part : Part)
    : Type 0 where
  -- its frames are its part of what the history makes
  pub frames : IsPart q store part.frames
  -- its disk differs from them only where something is dirty or pending
  pub unwritten : LacksUnwritten part.disk part.frames part.dirty part.works
  -- what is pending is of its own forks
  pub own : All (λ work. is_of q (work_fork work) ≡ true) part.works
  -- entries that start at its point or past it caused what is dirty or pending
  pub caused : ComesFrom (since part.point history) part.dirty part.works
  -- so the disk covers the history from that point on
  pub covers : Covers (is_of q) part.disk history part.point

-- all four partitions keep that
pub record AllKeepFacts (s : State) : Type 0 where
  pub store : Store
  pub made : apply_all empty s.history ≡ Some store
  pub parts : (q : ℕ) → q < 4 → KeepsFacts q s.history store (s.parts q)
